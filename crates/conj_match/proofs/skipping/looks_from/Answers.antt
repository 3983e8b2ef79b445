use Rattle.std.proofs.Common.{rules}
use Rattle.conj_match.proofs.skipping.looks_from.Goals as goal

pub returns : goal.returns
returns c = search rules
