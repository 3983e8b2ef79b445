use Rattle.std.proofs.Common.{◌∙◌, sym}
use Rattle.compaction.proofs.Users.{can_be_written}
use Rattle.compaction.proofs.blocks.put_next.Goals as goal

pub put_effect-done-requires-clause-lengths : goal.put_effect-done-requires-clause-lengths
put_effect-done-requires-clause-lengths g c = (can_be_written c.args.core.now.state c.args.place c.in-Some.effect c.requires.users (sym c.in_ok-effect.ensures ∙ c.in-Some.is)).0

pub put_effect-done-requires-clause-kept : goal.put_effect-done-requires-clause-kept
put_effect-done-requires-clause-kept g c = λ kept. (can_be_written c.args.core.now.state c.args.place c.in-Some.effect c.requires.users (sym c.in_ok-effect.ensures ∙ c.in-Some.is)).1
