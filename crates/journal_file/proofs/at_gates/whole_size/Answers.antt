use Rattle.std.proofs.Common.{[], ◌∷◌, ◌+◌, sym, ◌∙◌, ap, subst, List, ℕ, length, drop, arith}
use Rattle.std.specs.Prelude.{Option, Some}
use Rattle.std.proofs.Common.{length-drop}
use Rattle.rtb_disk.specs.Stores.{Store}
use Rattle.journal_file.specs.Sizes.{IsSizeAt}
use Rattle.journal_file.proofs.GateLemmas.{behind_open, too_few, too_long, unsized}
use Rattle.journal_file.specs.Shows.{ShowsShort}
use Rattle.rtb_disk.specs.Showing.{Shown, length_was}
use Rattle.journal_file.specs.Showing.{IsNumberShown}
use Rattle.journal_file.proofs.Shown.{length_not_short, length_shown, none_short, shown_behind, shown_none, shown_one, size_failed, size_is, size_lacks, size_too_long}
use Rattle.journal_file.proofs.at_gates.whole_size.Goals as goal

pub returns-then-behind-lt10-clause-whole : goal.returns-then-behind-lt10-clause-whole
returns-then-behind-lt10-clause-whole g c = λ told rest e.
    let image = (g.D.Disk.store c.args.disk.now).reads in
    too_few rest (omega (arith, c.in_ok-end.ensures.value told, ap length e, length-drop c.args.gate image))

pub returns-in-None-clause-whole : goal.returns-in-None-clause-whole
returns-in-None-clause-whole g c = λ told rest e.
    let image = (g.D.Disk.store c.args.disk.now).reads in
    let same = c.in_ok-end.ensures.same in
    let there = ap (λ (s : Store). drop (c.args.gate + 1) s.reads) same ∙ behind_open image rest c.args.gate e in
    let found : IsSizeAt rest c.in_ok-size_at.field-0 = subst (λ (b : List ℕ). IsSizeAt b c.in_ok-size_at.field-0) there (c.in_ok-size_at.ensures.size (ap (λ (s : Store). s.told) same ∙ told)) in
    unsized rest (omega (arith, c.in_ok-end.ensures.value told, c.in_ok-end.ensures.bound, ap length e, length-drop c.args.gate image)) (subst (λ (o : Option ℕ). IsSizeAt rest o) c.in-None.is found)

pub returns-in-Some-clause-whole : goal.returns-in-Some-clause-whole
returns-in-Some-clause-whole g c = λ told rest e.
    let image = (g.D.Disk.store c.args.disk.now).reads in
    let n = c.in-Some.size in
    let same = c.in_ok-end.ensures.same in
    let there = ap (λ (s : Store). drop (c.args.gate + 1) s.reads) same ∙ behind_open image rest c.args.gate e in
    let found : IsSizeAt rest c.in_ok-size_at.field-0 = subst (λ (b : List ℕ). IsSizeAt b c.in_ok-size_at.field-0) there (c.in_ok-size_at.ensures.size (ap (λ (s : Store). s.told) same ∙ told)) in
    let long = c.in_ok-end.ensures.value told in
    too_long rest n (omega (arith, long, c.in_ok-end.ensures.bound, ap length e, length-drop c.args.gate image)) (omega (arith, long, ap length e, length-drop c.args.gate image, c.if-size-behind.true, c.if-behind-lt10.false))
    (subst (λ (o : Option ℕ). IsSizeAt rest o) c.in-Some.is found)

pub returns-in-Some-2-clause-whole : goal.returns-in-Some-2-clause-whole
returns-in-Some-2-clause-whole g c = λ told rest e.
    let image = (g.D.Disk.store c.args.disk.now).reads in
    let same = c.in_ok-end.ensures.same in
    let there = ap (λ (s : Store). drop (c.args.gate + 1) s.reads) same ∙ behind_open image rest c.args.gate e in
    let found : IsSizeAt rest c.in_ok-size_at.field-0 = subst (λ (b : List ℕ). IsSizeAt b c.in_ok-size_at.field-0) there (c.in_ok-size_at.ensures.size (ap (λ (s : Store). s.told) same ∙ told)) in
    let sized : IsSizeAt rest (Some c.in-Some.size) = subst (λ (o : Option ℕ). IsSizeAt rest o) c.in-Some.is found in
    (sized.0, sized.2)

pub returns-in_err-end-clause-shows : goal.returns-in_err-end-clause-shows
returns-in_err-end-clause-shows g c = shown_none _ _ c.in_err-end.ensures.silent (size_failed c.args.gate [] c.from_residual.result c.from_residual.ensures.0 (none_short c.args.gate))

pub returns-then-behind-lt10-clause-shows : goal.returns-then-behind-lt10-clause-shows
returns-then-behind-lt10-clause-shows g c = shown_one _ _ _ c.in_ok-end.ensures.shows (length_shown c.args.gate c.in_ok-end.end [] (omega (arith, c.if-behind-lt10.true)))

pub returns-in_err-size_at-clause-shows : goal.returns-in_err-size_at-clause-shows
returns-in_err-size_at-clause-shows g c =
    let whole = length_not_short c.args.gate c.in_ok-end.end (omega (arith, c.if-behind-lt10.false)) in
    shown_behind _ _ _ _ c.in_ok-end.ensures.shows c.in_err-size_at.ensures.shows (λ back none.
    size_failed c.args.gate (length_was c.in_ok-end.end ∷ back) c.from_residual-in_err-size_at.result c.from_residual-in_err-size_at.ensures.0 (subst (λ (l : List Shown). ShowsShort c.args.gate (length_was c.in_ok-end.end ∷ l) → ⊥) (sym none) whole))

pub returns-in-None-clause-shows : goal.returns-in-None-clause-shows
returns-in-None-clause-shows g c =
    shown_behind _ _ _ _ c.in_ok-end.ensures.shows c.in_ok-size_at.ensures.shows (λ back found.
    size_lacks c.args.gate c.in_ok-end.end back (subst (λ (o : Option ℕ). IsNumberShown (c.args.gate + 1) back o) c.in-None.is found))

pub returns-in-Some-clause-shows : goal.returns-in-Some-clause-shows
returns-in-Some-clause-shows g c =
    shown_behind _ _ _ _ c.in_ok-end.ensures.shows c.in_ok-size_at.ensures.shows (λ back found.
    size_too_long c.args.gate c.in_ok-end.end back c.in-Some.size (omega (arith, c.if-size-behind.true, c.if-behind-lt10.false)) (subst (λ (o : Option ℕ). IsNumberShown (c.args.gate + 1) back o) c.in-Some.is found))

pub returns-in-Some-2-clause-shows : goal.returns-in-Some-2-clause-shows
returns-in-Some-2-clause-shows g c =
    shown_behind _ _ _ _ c.in_ok-end.ensures.shows c.in_ok-size_at.ensures.shows (λ back found.
    size_is c.args.gate c.in_ok-end.end back c.in-Some.size (omega (arith, c.if-size-behind.false, c.if-behind-lt10.false)) (subst (λ (o : Option ℕ). IsNumberShown (c.args.gate + 1) back o) c.in-Some.is found))
