use Rattle.std.proofs.Common.{◌∙◌, []}
use Rattle.compaction.proofs.Gathered.{begun_stays, gathers_none}
use Rattle.compaction.proofs.blocks.put_effects.Goals as goal

pub returns-clause-holds : goal.returns-clause-holds
returns-clause-holds g c = λ adds. c.put_all.ensures.holds (gathers_none c.args.file.now c.reserve.new.self adds (c.reserve.ensures ∙ c.new-block.ensures))

pub returns-clause-any_moment : goal.returns-clause-any_moment
returns-clause-any_moment g c = λ adds. c.put_all.ensures.any_moment (gathers_none c.args.file.now c.reserve.new.self adds (c.reserve.ensures ∙ c.new-block.ensures))

pub returns-in_err-reserve-clause-any_moment : goal.returns-in_err-reserve-clause-any_moment
returns-in_err-reserve-clause-any_moment g c = λ adds. begun_stays c.args.file.now [] adds
