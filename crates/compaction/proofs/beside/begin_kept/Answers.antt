use Rattle.std.proofs.Common.{refl, subst}
use Rattle.compaction.specs.Gathering.{Holds}
use Rattle.compaction.proofs.Begun.{kept_refused}
use Rattle.compaction.proofs.Users.{writable}
use Rattle.plain_exchange.specs.Effects.{kept_effects}
use Rattle.plain_exchange.specs.State.{State, forget}
use Rattle.compaction.proofs.beside.begin_kept.Goals as goal

pub begin_file-requires : goal.begin_file-requires
begin_file-requires g c = record { users = (writable c.args.core c.forget.new.self c.args.keep c.requires.led c.forget.ensures.state).users }

pub returns-in-Ok-clause-begins : goal.returns-in-Ok-clause-begins
returns-in-Ok-clause-begins g c = record {
  state = c.forget.ensures.state;
  place = refl;
  holds = λ told. let b = c.in-Ok.ensures.begins told in (subst (λ (s : State). Holds (kept_effects s) c.in-Ok.file) c.forget.ensures.state b.1, (b.0, b.2));
}

pub returns-in-Err-clause-begins : goal.returns-in-Err-clause-begins
returns-in-Err-clause-begins g c =
    kept_refused g.D.Disk (forget c.args.keep c.args.core.state) c.args.gate (kept_effects c.forget.new.self.state) c.args.into c.in-Err.refused c.in-Err.ensures.read c.in-Err.ensures.begins
