use Rattle.std.proofs.Common.{◌≡◌, ℕ, List, ◌++◌, Result, Ok, Err, refl, sym, ◌∙◌, ap, subst}
use Rattle.std.specs.Result.{OnErr}
use Rattle.std.proofs.lemmas.Result.{err_from_is_err_and}
use Rattle.auction_core.specs.Core.{CoreState}
use Rattle.journal_file.specs.Readings.{faults_read, reads_of}
use Rattle.journal_file.specs.declared.faults.JournalFault.{JournalFault}
use Rattle.journal_file.specs.declared.faults.JournalFault.TheVariants as fault
use Rattle.recovery.proofs.Walking.{no_fault, stays}
use Rattle.plain_exchange.proofs.Keeping.{made_consistent}
use Rattle.recovery.specs.Counts.{counts_text}
use Rattle.recovery.specs.Openings.{Opens, Recovers}
use Rattle.rtb_base.specs.Faults.{RisesOnlyWhere}
use Rattle.recovery.proofs.report.tell_counts.Goals as goal

-- where the journal gives no exchange, nothing is told
recovers_not : (image before out : List ℕ) (e : JournalFault) → Opens image (Err e) → Recovers image before out (Err e)
recovers_not image before out (fault.Damaged at) h = h
recovers_not image before out fault.DiskFailed h = tt
recovers_not image before out fault.Memory h = tt

always_err : (P : Type 0) (r : Result Unit JournalFault) → P → OnErr r P
always_err P (Ok _) p = tt
always_err P (Err e) p = p

-- the fault is handed on
rises_with : (r : Result Unit JournalFault) (e : JournalFault) (first now : ℕ) → r ≡ Err e → RisesOnlyWhere (◌≡◌ {A = Result CoreState JournalFault} (Err e) (Err fault.DiskFailed)) first now → RisesOnlyWhere (r ≡ Err fault.DiskFailed) first now
rises_with r e first now is rise =
    let there : r ≡ Err fault.DiskFailed → ◌≡◌ {A = Result CoreState JournalFault} (Err e) (Err fault.DiskFailed) = λ f. let k : e ≡ fault.DiskFailed = cc (is, f) in ap Err k in
    let back : ◌≡◌ {A = Result CoreState JournalFault} (Err e) (Err fault.DiskFailed) → r ≡ Err fault.DiskFailed = λ f. let k : e ≡ fault.DiskFailed = cc f in is ∙ ap Err k in
    (rise.0, (λ f. rise.1 (there f)), (λ not_so. rise.2 (λ f. not_so (back f))))

pub returns-clause-recovers : goal.returns-clause-recovers
returns-clause-recovers g c = λ start.
    let made = c.in_ok-core.ensures.made start in
    let consistent = made_consistent made.effects c.in_ok-core.core.state made.leads in
    (c.in_ok-core.core.state, c.in_ok-core.ensures.opened start, c.in_ok-put.ensures.ok ∙ ap (λ n. c.args.out.now ++ counts_text n) (c.of-counts.ensures consistent))

pub returns-clause-cause : goal.returns-clause-cause
returns-clause-cause g c = λ well.
    stays _ (faults_read c.args.reading.now) (faults_read c.replay.new.reading) (λ e. absurd (cc e)) ((c.in_ok-core.ensures.cause well).2 (λ e. absurd (cc e)))

pub returns-in_err-put-clause-cause : goal.returns-in_err-put-clause-cause
returns-in_err-put-clause-cause g c = λ well.
    let p = err_from_is_err_and c.from_residual-in_err-put.result c.from_residual-in_err-put.ensures.1 in
    stays _ (faults_read c.args.reading.now) (faults_read c.replay.new.reading) (λ e. no_fault c.from_residual-in_err-put.result p.0 p.1 p.2 e) ((c.in_ok-core.ensures.cause well).2 (λ e. absurd (cc e)))

pub returns-in_err-put-clause-recovers : goal.returns-in_err-put-clause-recovers
returns-in_err-put-clause-recovers g c = λ start.
    let p = err_from_is_err_and c.from_residual-in_err-put.result c.from_residual-in_err-put.ensures.1 in
    let same : c.from_residual-in_err-put.result ≡ Err fault.Memory = p.1 ∙ ap Err p.2 in
    subst (λ (r : Result Unit JournalFault). Recovers (reads_of c.args.reading.now) c.args.out.now c.put.new.out r) (sym same) tt

pub returns-in_err-put-clause-kept : goal.returns-in_err-put-clause-kept
returns-in_err-put-clause-kept g c = always_err _ c.from_residual-in_err-put.result c.in_err-put.ensures.err

pub returns-in_err-core-clause-recovers : goal.returns-in_err-core-clause-recovers
returns-in_err-core-clause-recovers g c = λ start.
    let p = err_from_is_err_and c.from_residual.result c.from_residual.ensures.1 in
    let same : c.from_residual.result ≡ Err c.in_err-core.field-0.0 = cc (p.1, p.2) in
    subst (λ (r : Result Unit JournalFault). Recovers (reads_of c.args.reading.now) c.args.out.now c.args.out.now r) (sym same)
    (recovers_not (reads_of c.args.reading.now) c.args.out.now c.args.out.now c.in_err-core.field-0.0 (c.in_err-core.ensures.opened start))

pub returns-in_err-core-clause-kept : goal.returns-in_err-core-clause-kept
returns-in_err-core-clause-kept g c = always_err _ c.from_residual.result refl

pub returns-in_err-core-clause-cause : goal.returns-in_err-core-clause-cause
returns-in_err-core-clause-cause g c = λ well.
    let p = err_from_is_err_and c.from_residual.result c.from_residual.ensures.1 in
    let same : c.from_residual.result ≡ Err c.in_err-core.field-0.0 = cc (p.1, p.2) in
    rises_with c.from_residual.result c.in_err-core.field-0.0 (faults_read c.args.reading.now) (faults_read c.replay.new.reading) same (c.in_err-core.ensures.cause well)
