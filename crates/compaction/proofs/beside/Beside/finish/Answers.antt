use Rattle.std.proofs.Common.{◌≡◌, ap, subst, sym}
use Rattle.std.specs.Prelude.{Err, Result}
use Rattle.compaction.specs.Beside.{EndsBeside, faults_beside}
use Rattle.compaction.specs.declared.fault.CompactionFault.{CompactionFault}
use Rattle.compaction.specs.declared.fault.CompactionFault.TheVariants.{WriteFailed}
use Rattle.compaction.proofs.Begun.{ends_beside, ends_stopped}
use Rattle.rtb_base.specs.Faults.{RisesOnlyWhere}
use Rattle.rtb_disk.specs.Stores.{Store}
use Rattle.compaction.proofs.beside.Beside.finish.Goals as goal

pub returns-in-Ok-clause-ends : goal.returns-in-Ok-clause-ends
returns-in-Ok-clause-ends g c = λ keep passed written into stands.
    ends_beside keep passed written into c.args.last.now c.pass_all.new.from c.pass_all.new.self (g.D.Disk.store c.close.result.0) c.args.line.now c.close.new.line c.close.result.1 (c.in-Ok.ensures.passes keep passed written into stands) c.close.ensures.closes c.close.ensures.line

pub returns-in-Ok-clause-write_cause : goal.returns-in-Ok-clause-write_cause
returns-in-Ok-clause-write_cause g c =
    subst (λ n. RisesOnlyWhere (c.close.result.1 ≡ Err WriteFailed) n (g.D.Disk.faults c.close.result.0)) (c.in-Ok.ensures.write_cause.2 (λ e. absurd (cc e))) c.close.ensures.cause

pub returns-in-Err-clause-ends : goal.returns-in-Err-clause-ends
returns-in-Err-clause-ends g c = λ keep passed written into stands.
    subst (λ (store : Store). EndsBeside g.D.Disk keep passed written c.args.last.now c.pass_all.new.from into store c.args.line.now c.args.line.now (Err c.in-Err.fault)) (sym (ap g.D.Disk.store c.into_disk.ensures))
    (ends_stopped keep passed written into c.args.last.now c.pass_all.new.from c.pass_all.new.self c.args.line.now c.args.line.now c.in-Err.fault (c.in-Err.ensures.passes keep passed written into stands))

pub returns-in-Err-clause-write_cause : goal.returns-in-Err-clause-write_cause
returns-in-Err-clause-write_cause g c =
    subst (λ n. RisesOnlyWhere (◌≡◌ {A = Result Unit CompactionFault} (Err c.in-Err.fault) (Err WriteFailed)) (faults_beside c.args.self) n) (sym (ap g.D.Disk.faults c.into_disk.ensures)) c.in-Err.ensures.write_cause
