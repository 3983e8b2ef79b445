use Rattle.rtb_disk.proofs.Moments.{always_then}
use Rattle.journal_file.specs.Standing.{IsBeforeOrAfter}
use Rattle.disk_cases.proofs.errands.hand_out.Goals as goal

pub returns-clause-back : goal.returns-clause-back
returns-clause-back g c = λ names payloads kept. c.repair_out.ensures.back names payloads (c.if-write_out.ensures.back names payloads kept)

pub returns-clause-any_moment : goal.returns-clause-any_moment
returns-clause-any_moment g c = λ names payloads kept.
    always_then (IsBeforeOrAfter names payloads c.args.block.now) _ _ _ (c.write_out.ensures.any_moment names payloads kept)
    (c.repair_out.ensures.any_moment names payloads (c.if-write_out.ensures.back names payloads kept))
