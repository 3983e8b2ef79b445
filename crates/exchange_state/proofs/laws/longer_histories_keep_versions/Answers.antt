use Rattle.exchange_state.proofs.Later.{calls_on, edits_later, front_later, matches_later, version_later}
use Rattle.exchange_state.proofs.laws.longer_histories_keep_versions.Goals as goal

pub returns : goal.returns
returns c = record {
  calls = calls_on;
  version = λ o h more v. version_later o more h v;
  matches = λ o h more edit r. matches_later o more h edit r;
  edits = λ o h more. edits_later o more h;
  effects = λ o h more n. front_later o more h n;
}
