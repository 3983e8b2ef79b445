use Rattle.std.proofs.Common.{rules}
use Rattle.conj_match.proofs.leaping.is_short.Goals as goal

pub returns-in-Some : goal.returns-in-Some
returns-in-Some c = search rules
