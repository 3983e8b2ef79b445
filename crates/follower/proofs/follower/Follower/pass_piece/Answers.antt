use Rattle.follower.proofs.Standing.{goes_then}
use Rattle.std.proofs.Common.{◌∙◌, Err, Ok, ap, arith, subst, sym}
use Rattle.std.specs.Prelude.{Bool, Result}
use Rattle.std.proofs.lemmas.Result.{err_from_is_err_and}
use Rattle.follower.specs.Moving.{IsTurn, spot}
use Rattle.follower.proofs.Seen.{turn_then}
use Rattle.journal_file.proofs.Shown.{shown_so, shown_then}
use Rattle.journal_file.specs.declared.faults.JournalFault.{JournalFault}
use Rattle.follower.proofs.follower.Follower.pass_piece.Goals as goal

pub returns-then-self-gate-clause-goes : goal.returns-then-self-gate-clause-goes
returns-then-self-gate-clause-goes g c = goes_then c.args.self.now c.pass_into.new.self c.pass_block.new.self c.pass_into.ensures.goes c.pass_block.ensures.goes

pub returns-in_err-more-clause-shows : goal.returns-in_err-more-clause-shows
returns-in_err-more-clause-shows g c =
    let p = err_from_is_err_and c.from_residual.result c.from_residual.ensures.1 in
    let is = p.1 ∙ ap Err p.2 in
    shown_so _ _ c.in_err-more.ensures.shows (λ s a. subst (λ (r : Result Bool JournalFault). IsTurn s (spot c.args.self.now) (spot c.pass_into.new.self) r) (sym is) a)

pub returns-then-self-gate-clause-shows : goal.returns-then-self-gate-clause-shows
returns-then-self-gate-clause-shows g c =
    let old = spot c.args.self.now in
    let mid = spot c.pass_into.new.self in
    shown_then _ _ _ c.in_ok-more.ensures.shows c.pass_block.ensures.shows (λ s t a b.
    turn_then s t old mid (spot c.pass_block.new.self) c.pass_block.result (subst (λ (m : Bool). IsTurn s old mid (Ok m)) c.if-more.true a) b)

pub returns-then-self-gate-clause-on : goal.returns-then-self-gate-clause-on
returns-then-self-gate-clause-on g c = λ e. omega (arith, c.pass_block.ensures.on e)
