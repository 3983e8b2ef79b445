use Rattle.std.proofs.Common.{◌≡◌, refl, ap, subst, sym, ◌∙◌, Err}
use Rattle.std.specs.Prelude.{MatchResult, Ok, Result}
use Rattle.std.proofs.lemmas.Result.{err_from_is_err_and}
use Rattle.journal_file.specs.Readings.{faults_read, reads_of}
use Rattle.journal_file.specs.declared.faults.JournalFault.{JournalFault}
use Rattle.recovery.specs.Openings.{Opens}
use Rattle.recovery.specs.Texts.{GivesState}
use Rattle.rtb_disk.specs.Stores.{Store}
use Rattle.recovery.proofs.Walking.{end_is, gives, more_is, opens_not, rises_as, stays}
use Rattle.recovery.proofs.opening.apply_blocks.Goals as goal

pub loop-init : goal.loop-init
loop-init g c = record { made = λ made. made; led = λ led. led; same = refl; settings = refl; well = λ well. (well, refl) }

pub returns-in_err-more-clause-opened : goal.returns-in_err-more-clause-opened
returns-in_err-more-clause-opened g c = λ start.
    let p = err_from_is_err_and c.from_residual.result c.from_residual.ensures.1 in
    let same : c.from_residual.result ≡ Err c.in_err-more.field-0.0 = cc (p.1, p.2) in
    let reads = ap (λ (s : Store). s.reads) c.loop.invariant.same in
    let image = reads_of c.args.reading.now in
    subst (λ (r : Result Unit JournalFault). MatchResult r (λ _. Opens image (Ok c.apply_next.new.core)) (λ e. Opens image (Err e))) (sym same)
    (opens_not c.loop.reading c.apply_next.new.reading c.apply_next.new.core image c.in_err-more.field-0.0 reads (c.in_err-more.ensures.turns (c.loop.invariant.made start)))

pub returns-in_err-more-clause-cause : goal.returns-in_err-more-clause-cause
returns-in_err-more-clause-cause g c = λ well.
    let p = err_from_is_err_and c.from_residual.result c.from_residual.ensures.1 in
    let same : c.from_residual.result ≡ Err c.in_err-more.field-0.0 = cc (p.1, p.2) in
    let before = c.loop.invariant.well well in
    rises_as c.from_residual.result (Err c.in_err-more.field-0.0) c.in_err-more.field-0.0 (faults_read c.args.reading.now) (faults_read c.loop.reading) (faults_read c.apply_next.new.reading) same refl before.1 (c.in_err-more.ensures.cause before.0)

pub returns-then-not-more-clause-opened : goal.returns-then-not-more-clause-opened
returns-then-not-more-clause-opened g c = λ start.
    let m = end_is c.loop.reading c.apply_next.new.reading c.apply_next.new.core c.in_ok-more.more c.if-not-more.true (c.in_ok-more.ensures.turns (c.loop.invariant.made start)) in
    subst (λ (s : Store). GivesState s.reads c.apply_next.new.core.state) (c.in_ok-more.ensures.same ∙ c.loop.invariant.same) (gives c.apply_next.new.reading c.apply_next.new.core m)

pub returns-then-not-more-clause-made : goal.returns-then-not-more-clause-made
returns-then-not-more-clause-made g c = λ start.
    end_is c.loop.reading c.apply_next.new.reading c.apply_next.new.core c.in_ok-more.more c.if-not-more.true (c.in_ok-more.ensures.turns (c.loop.invariant.made start))

pub returns-then-not-more-clause-cause : goal.returns-then-not-more-clause-cause
returns-then-not-more-clause-cause g c = λ well.
    let before = c.loop.invariant.well well in
    stays _ (faults_read c.args.reading.now) (faults_read c.apply_next.new.reading) (λ e. absurd (cc e)) ((c.in_ok-more.ensures.cause before.0).2 (λ e. absurd (cc e)) ∙ before.1)

pub loop-preserved : goal.loop-preserved
loop-preserved g c = record {
  made = λ start. more_is c.loop.reading c.apply_next.new.reading c.apply_next.new.core c.in_ok-more.more c.if-not-more.false (c.in_ok-more.ensures.turns (c.loop.invariant.made start));
  led = λ led. c.in_ok-more.ensures.led (c.loop.invariant.led led);
  same = c.in_ok-more.ensures.same ∙ c.loop.invariant.same;
  settings = c.in_ok-more.ensures.settings ∙ c.loop.invariant.settings;
  well = λ well. let before = c.loop.invariant.well well in (c.in_ok-more.ensures.intact before.0, (c.in_ok-more.ensures.cause before.0).2 (λ e. absurd (cc e)) ∙ before.1);
}
