use Rattle.run_commands.proofs.Following.{doors_beside, keys_beside, where_false, where_true}
use Rattle.run_commands.proofs.compact_command.compact.Goals as goal

pub returns-then-options-clause-compacts : goal.returns-then-options-clause-compacts
returns-then-options-clause-compacts g c = where_true _ _ c.args.options.now.beside c.if-options.true c.compact_beside.ensures.compacts

pub returns-then-options-clause-others : goal.returns-then-options-clause-others
returns-then-options-clause-others g c = doors_beside g.W.World g.W.Disk.Disk c.args.options.now c.args.world.now c.compact_beside.new.world _ _ _ _ _ _ c.compact_beside.ensures.compacts

pub returns-then-options-clause-keys : goal.returns-then-options-clause-keys
returns-then-options-clause-keys g c = keys_beside g.W.World g.W.Disk.Disk c.args.options.now c.args.world.now c.compact_beside.new.world _ _ _ _ _ _ c.compact_beside.ensures.compacts

pub returns-clause-compacts : goal.returns-clause-compacts
returns-clause-compacts g c = where_false _ _ c.args.options.now.beside c.if-options.false (c.compact_alone.ensures.compacts, c.compact_alone.ensures.last)
