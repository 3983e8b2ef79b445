use Rattle.std.proofs.Common.{rules}
use Rattle.effects.proofs.decoder.is_late.Goals as goal

pub returns-then-is_kept : goal.returns-then-is_kept
returns-then-is_kept c = search rules
