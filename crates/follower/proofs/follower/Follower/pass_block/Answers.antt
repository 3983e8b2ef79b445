use Rattle.std.proofs.Common.{◌∙◌, ap, drop, subst, sym, Err}
use Rattle.std.specs.Prelude.{Bool, Result}
use Rattle.std.proofs.lemmas.Result.{err_from_is_err_and}
use Rattle.follower.specs.Passing.{TurnsIn}
use Rattle.follower.proofs.Standing.{all_is_said, found_block, found_shut, not_found}
use Rattle.journal_file.specs.Damage.{HasBlock}
use Rattle.journal_file.specs.declared.faults.JournalFault.{JournalFault}
use Rattle.std.proofs.Common.{ℕ, Ok, arith}
use Rattle.std.specs.Prelude.{Option}
use Rattle.follower.specs.Moving.{IsBlockAlone, IsTurn, spot}
use Rattle.follower.specs.Seen.{Since}
use Rattle.follower.proofs.Seen.{found_shown, not_found_shown, passes_none, shown_both}
use Rattle.journal_file.proofs.Shown.{shown_so, shown_still}
use Rattle.journal_file.specs.Shows.{IsBlockShown, TellsCut}
use Rattle.follower.proofs.follower.Follower.pass_block.Goals as goal

pub returns-in_err-found-clause-turns : goal.returns-in_err-found-clause-turns
returns-in_err-found-clause-turns g c = λ told small within.
    let old = c.args.self.now in
    let image = (g.D.Disk.store old.disk).reads in
    let p = err_from_is_err_and c.from_residual.result c.from_residual.ensures.1 in
    let is = p.1 ∙ ap Err p.2 in
    subst (λ (r : Result Bool JournalFault). TurnsIn image old.core.state old.count old.gate old.done r) (sym is)
    (not_found image old.core.state old.count old.gate old.done c.requires.begun within _ _ _ (c.in_err-found.ensures.block told))

pub returns-in_err-pass_payload-in-Some-clause-turns : goal.returns-in_err-pass_payload-in-Some-clause-turns
returns-in_err-pass_payload-in-Some-clause-turns g c = λ told small within.
    let old = c.args.self.now in
    let new = c.pass_payload.new.self in
    let image = (g.D.Disk.store old.disk).reads in
    let p = err_from_is_err_and c.from_residual-in_err-pass_payload-in-Some.result c.from_residual-in_err-pass_payload-in-Some.ensures.1 in
    let is = p.1 ∙ ap Err p.2 in
    let found = rw c.in-Some.is at (c.in_ok-found.ensures.block told) in
    let has = found_block _ _ _ _ _ c.new-payload.ensures found in
    subst (λ (r : Result Bool JournalFault). TurnsIn image new.core.state new.count new.gate new.done r) (sym is)
    (c.in_err-pass_payload-in-Some.ensures.turns image small (subst (λ l. HasBlock l (drop old.gate image)) (sym c.as_bytes.ensures.value) has.0) within)

pub returns-in-Some-clause-turns : goal.returns-in-Some-clause-turns
returns-in-Some-clause-turns g c = λ told small within.
    let old = c.args.self.now in
    let image = (g.D.Disk.store old.disk).reads in
    let found = rw c.in-Some.is at (c.in_ok-found.ensures.block told) in
    let has = found_block _ _ _ _ _ c.new-payload.ensures found in
    c.in_ok-pass_payload-in-Some.ensures.turns image small (subst (λ l. HasBlock l (drop old.gate image)) (sym c.as_bytes.ensures.value) has.0) within

pub returns-clause-turns : goal.returns-clause-turns
returns-clause-turns g c = λ told small within.
    let old = c.args.self.now in
    let image = (g.D.Disk.store old.disk).reads in
    let found = rw c.in-None.is at (c.in_ok-found.ensures.block told) in
    (within, all_is_said image old.core.state old.count old.gate old.done c.requires.begun within (found_shut old.gate _ _ _ found))

pub returns-in_err-found-clause-shows : goal.returns-in_err-found-clause-shows
returns-in_err-found-clause-shows g c =
    let f = spot c.args.self.now in
    let p = err_from_is_err_and c.from_residual.result c.from_residual.ensures.1 in
    let is = p.1 ∙ ap Err p.2 in
    shown_so _ _ (shown_both _ _ c.in_err-found.ensures.shows c.in_err-found.ensures.cut) (λ s found.
    subst (λ (r : Result Bool JournalFault). IsTurn s f f r) (sym is) (not_found_shown f s _ _ _ found.0 found.1))

pub returns-in_err-pass_payload-in-Some-clause-shows : goal.returns-in_err-pass_payload-in-Some-clause-shows
returns-in_err-pass_payload-in-Some-clause-shows g c =
    let old = c.args.self.now in
    let new = c.pass_payload.new.self in
    let p = err_from_is_err_and c.from_residual-in_err-pass_payload-in-Some.result c.from_residual-in_err-pass_payload-in-Some.ensures.1 in
    let is = p.1 ∙ ap Err p.2 in
    shown_still _ _ _ (shown_both _ _ c.in_ok-found.ensures.shows c.in_ok-found.ensures.cut) (ap (λ d. g.D.Disk.shown d) c.pass_payload.ensures.disk) (λ s found.
    let there = found_shown old.gate c.in-Some.next s c.new-payload.result c.block_at.new.out c.new-payload.ensures (subst (λ (o : Option ℕ). IsBlockShown old.gate s c.new-payload.result c.block_at.new.out (Ok o)) c.in-Some.is found.0) (subst (λ (o : Option ℕ). TellsCut old.gate s (Ok o)) c.in-Some.is found.1) in
    subst (λ (r : Result Bool JournalFault). IsTurn s (spot old) (spot new) r) (sym is)
    (c.in_err-pass_payload-in-Some.ensures.shows s (subst (λ l. Since (IsBlockAlone old.gate l) s) (sym c.as_bytes.ensures.value) there)))

pub returns-in-Some-clause-shows : goal.returns-in-Some-clause-shows
returns-in-Some-clause-shows g c =
    let old = c.args.self.now in
    shown_still _ _ _ (shown_both _ _ c.in_ok-found.ensures.shows c.in_ok-found.ensures.cut) (ap (λ d. g.D.Disk.shown d) c.pass_payload.ensures.disk) (λ s found.
    let there = found_shown old.gate c.in-Some.next s c.new-payload.result c.block_at.new.out c.new-payload.ensures (subst (λ (o : Option ℕ). IsBlockShown old.gate s c.new-payload.result c.block_at.new.out (Ok o)) c.in-Some.is found.0) (subst (λ (o : Option ℕ). TellsCut old.gate s (Ok o)) c.in-Some.is found.1) in
    c.in_ok-pass_payload-in-Some.ensures.shows s (subst (λ l. Since (IsBlockAlone old.gate l) s) (sym c.as_bytes.ensures.value) there))

pub returns-clause-shows : goal.returns-clause-shows
returns-clause-shows g c =
    let old = c.args.self.now in
    shown_so _ _ c.in_ok-found.ensures.shows (λ s found.
    let shut = subst (λ (o : Option ℕ). IsBlockShown old.gate s c.new-payload.result c.block_at.new.out (Ok o)) c.in-None.is found in
    (passes_none s (spot old), shut.0))

pub returns-in-Some-clause-on : goal.returns-in-Some-clause-on
returns-in-Some-clause-on g c = λ _.
    let there = rw c.in-Some.is at c.in_ok-found.ensures.appended in
    omega (arith, c.in_ok-pass_payload-in-Some.ensures.place, there.2)
