use Rattle.std.proofs.Common.{◌≡◌, ℕ, false}
use Rattle.compaction.specs.Beside.{is_stuck}
use Rattle.run_commands.specs.Beside.{Waits}
use Rattle.run_commands.specs.Turns.{IsStarted}
use Rattle.run_commands.proofs.beside_command.follow.Given as goal

abbrev pub invariant-loop : goal.invariant-loop
invariant-loop g l = record {
  started : (keep : ℕ) (first into : g.row.W-Disk.Denot) → IsStarted keep first l.fn.from into l.fn.beside → Waits g.W.World l.fn.world l.world × IsStarted keep first l.from into l.beside;
  whole : is_stuck l.beside ≡ false;
}
