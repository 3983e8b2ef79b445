use Rattle.std.proofs.Common.{ap, refl}
use Rattle.auction_core.specs.Core.{CoreState}
use Rattle.compaction.proofs.Begun.{begun_beside, kept_read_cause, not_read, not_read_cause}
use Rattle.plain_exchange.specs.State.{forget}
use Rattle.recovery.proofs.Joining.{led_empty}
use Rattle.recovery.proofs.Walking.{stays}
use Rattle.compaction.proofs.beside.begin_beside.Goals as goal

pub begin_kept-requires : goal.begin_kept-requires
begin_kept-requires g c = record { led = c.in-Ok.ensures.led (led_empty c.new-core.result (ap (λ (k : CoreState). k.state) c.new-core.ensures) (ap (λ (k : CoreState). k.edits) c.new-core.ensures)) }

pub returns-in-Ok-clause-begins : goal.returns-in-Ok-clause-begins
returns-in-Ok-clause-begins g c =
    let j = c.in-Ok.ensures.read in
    begun_beside c.args.keep c.args.from.now c.read_journal.new.from c.args.into j.0 c.read_journal.new.core.state c.read_journal.new.gate c.begin_kept.result j.1 c.in-Ok.ensures.same c.begin_kept.ensures.begins

pub returns-in-Ok-clause-read_cause : goal.returns-in-Ok-clause-read_cause
returns-in-Ok-clause-read_cause g c =
    kept_read_cause (forget c.args.keep c.read_journal.new.core.state) c.read_journal.new.gate c.args.into (g.D.Disk.faults c.args.from.now) (g.D.Disk.faults c.read_journal.new.from) c.begin_kept.result c.begin_kept.ensures.begins (c.in-Ok.ensures.cause.2 (λ e. absurd (cc e)))

pub returns-in-Err-clause-begins : goal.returns-in-Err-clause-begins
returns-in-Err-clause-begins g c =
    not_read g.D.Disk c.args.keep c.args.from.now c.read_journal.new.from c.args.into c.read_journal.new.core.state c.read_journal.new.gate c.in-Err.fault c.in-Err.ensures.read

pub returns-in-Err-clause-read_cause : goal.returns-in-Err-clause-read_cause
returns-in-Err-clause-read_cause g c = not_read_cause c.in-Err.fault (g.D.Disk.faults c.args.from.now) (g.D.Disk.faults c.read_journal.new.from) c.in-Err.ensures.cause

pub returns-in-Err-clause-write_cause : goal.returns-in-Err-clause-write_cause
returns-in-Err-clause-write_cause g c = stays _ (g.D.Disk.faults c.args.into) (g.D.Disk.faults c.args.into) (λ e. absurd (cc e)) refl
