use Rattle.std.proofs.Common.{◌≡◌, arith, subst}
use Rattle.follower.specs.Headers.{BeginsAs}
use Rattle.follower.proofs.Standing.{creation_says, journal_begins}
use Rattle.std.proofs.Common.{◌∙◌, Err, ap, inl, inr, refl, sym}
use Rattle.std.specs.Prelude.{Bool, Result}
use Rattle.std.proofs.lemmas.Result.{err_from_is_err_and}
use Rattle.follower.specs.Moving.{IsBegun, spot}
use Rattle.follower.specs.Seen.{SeesHead}
use Rattle.follower.specs.declared.header.Header.{Header}
use Rattle.journal_file.proofs.Shown.{shown_none, shown_so}
use Rattle.journal_file.specs.declared.faults.JournalFault.{JournalFault}
use Rattle.follower.proofs.follower.Follower.begin.Goals as goal

pub returns-in-Creation-clause-turns : goal.returns-in-Creation-clause-turns
returns-in-Creation-clause-turns g c = λ told within.
    let zero : c.args.self.now.gate ≡ 0 = omega (arith, c.if-self-gt0.false) in
    let begins = subst (BeginsAs (g.D.Disk.store c.args.self.now.disk).reads) c.in-Creation.is (c.in_ok-read_header.ensures.begins told) in
    (within, creation_says _ _ _ _ _ begins zero within)

pub returns-in-Journal-clause-turns : goal.returns-in-Journal-clause-turns
returns-in-Journal-clause-turns g c = λ told within.
    let zero : c.args.self.now.gate ≡ 0 = omega (arith, c.if-self-gt0.false) in
    let begins = subst (BeginsAs (g.D.Disk.store c.args.self.now.disk).reads) c.in-Journal.is (c.in_ok-read_header.ensures.begins told) in
    journal_begins _ _ _ _ _ begins.0 begins.1 zero within

pub returns-then-self-gt0-clause-shows : goal.returns-then-self-gt0-clause-shows
returns-then-self-gt0-clause-shows g c = shown_none _ _ refl (inl (c.if-self-gt0.true, refl))

pub returns-in_err-read_header-clause-shows : goal.returns-in_err-read_header-clause-shows
returns-in_err-read_header-clause-shows g c =
    let f = spot c.args.self.now in
    let p = err_from_is_err_and c.from_residual.result c.from_residual.ensures.1 in
    let is = p.1 ∙ ap Err p.2 in
    shown_so _ _ c.in_err-read_header.ensures.shows (λ s _. subst (λ (r : Result Bool JournalFault). IsBegun s f f r) (sym is) refl)

pub returns-in-Creation-clause-shows : goal.returns-in-Creation-clause-shows
returns-in-Creation-clause-shows g c =
    let zero : c.args.self.now.gate ≡ 0 = omega (arith, c.if-self-gt0.false) in
    shown_so _ _ c.in_ok-read_header.ensures.shows (λ s head. (zero, refl, subst (λ (h : Header). SeesHead (λ l. BeginsAs l h) s) c.in-Creation.is head))

pub returns-in-Journal-clause-shows : goal.returns-in-Journal-clause-shows
returns-in-Journal-clause-shows g c =
    let zero : c.args.self.now.gate ≡ 0 = omega (arith, c.if-self-gt0.false) in
    shown_so _ _ c.in_ok-read_header.ensures.shows (λ s head.
    let begins = subst (λ (h : Header). SeesHead (λ l. BeginsAs l h) s) c.in-Journal.is head in
    inr (zero, refl, (begins.0, begins.1, begins.2.0)))

pub returns-in-Foreign-clause-shows : goal.returns-in-Foreign-clause-shows
returns-in-Foreign-clause-shows g c =
    let zero : c.args.self.now.gate ≡ 0 = omega (arith, c.if-self-gt0.false) in
    shown_so _ _ c.in_ok-read_header.ensures.shows (λ s head. (zero, refl, refl, subst (λ (h : Header). SeesHead (λ l. BeginsAs l h) s) c.in-Foreign.is head))
