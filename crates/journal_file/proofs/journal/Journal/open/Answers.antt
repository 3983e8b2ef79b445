use Rattle.std.proofs.Common.{◌∙◌}
use Rattle.rtb_disk.proofs.Moments.{always_map}
use Rattle.journal_file.specs.Blocks.{HasBehind}
use Rattle.journal_file.specs.Standing.{Broken, IsBeforeOrAfter}
use Rattle.journal_file.proofs.Stopping.{on_err, at_gate, stays_at_gate}
use Rattle.journal_file.proofs.Writing.{either}
use Rattle.journal_file.proofs.journal.Journal.open.Goals as goal

pub returns-in_err-open_gate-clause-stopped : goal.returns-in_err-open_gate-clause-stopped
returns-in_err-open_gate-clause-stopped g c = λ names payloads block b.
    let run = c.in_err-open_gate.ensures.kept b.told names payloads block b.end (at_gate names payloads block _ _ c.requires.stage b.images) in
    on_err c.from_residual.result (Broken {D = g.row.D.Denot} {G = g.D.Disk} names _ payloads block) (record {
      told = c.in_err-open_gate.ensures.told ∙ b.told;
      end = b.end;
      next = b.next;
      images = stays_at_gate names payloads block _ _ c.requires.stage run.last;
    })

pub returns-in_err-open_gate-clause-any_moment : goal.returns-in_err-open_gate-clause-any_moment
returns-in_err-open_gate-clause-any_moment g c = λ names payloads block b.
    let run = c.in_err-open_gate.ensures.kept b.told names payloads block b.end (at_gate names payloads block _ _ c.requires.stage b.images) in
    always_map (HasBehind names payloads block) (IsBeforeOrAfter names payloads block) (either names payloads block) _ _ run

pub returns-clause-any_moment : goal.returns-clause-any_moment
returns-clause-any_moment g c = λ names payloads block b.
    let run = c.in_ok-open_gate.ensures.kept b.told names payloads block b.end (at_gate names payloads block _ _ c.requires.stage b.images) in
    always_map (HasBehind names payloads block) (IsBeforeOrAfter names payloads block) (either names payloads block) _ _ run
