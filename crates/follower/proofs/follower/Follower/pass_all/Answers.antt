use Rattle.std.proofs.Common.{◌∙◌, ◌<◌, ℕ, [], ◌∷◌, ◌++◌, Err, Ok, ap, refl, subst, sym}
use Rattle.std.specs.Prelude.{Bool, Result}
use Rattle.std.proofs.lemmas.Result.{err_from_is_err_and}
use Rattle.follower.specs.Following.{IsShownBy}
use Rattle.follower.specs.Moving.{IsBegun, spot}
use Rattle.follower.specs.declared.follower.Follower.{Follower}
use Rattle.follower.proofs.Seen.{begun_refused, begun_short, failed_at_once, passed_to_end, passed_to_refusal}
use Rattle.journal_file.proofs.Shown.{shown_behind, shown_none, shown_then}
use Rattle.journal_file.specs.Shows.{ShowsMore}
use Rattle.journal_file.specs.declared.faults.JournalFault.{JournalFault}
use Rattle.rtb_disk.specs.Showing.{length_was}
use Rattle.follower.proofs.follower.Follower.pass_all.Goals.{then-begun+in_ok-pass_blocks, else-begun}
use Rattle.follower.proofs.follower.Follower.pass_all.Goals as goal

pub returns-in_err-size-clause-shows : goal.returns-in_err-size-clause-shows
returns-in_err-size-clause-shows g c =
    let p = err_from_is_err_and c.from_residual.result c.from_residual.ensures.1 in
    let is = p.1 ∙ ap Err p.2 in
    let old = c.args.self.now in
    let new = record old { disk = c.length.new.self } in
    shown_none _ _ c.in_err-size.ensures.silent (subst (λ (r : Result ℕ JournalFault). IsShownBy [] old new r) (sym is) (failed_at_once old new refl))

pub returns-in_err-begun-clause-shows : goal.returns-in_err-begun-clause-shows
returns-in_err-begun-clause-shows g c =
    let p = err_from_is_err_and c.from_residual-in_err-begun.result c.from_residual-in_err-begun.ensures.1 in
    let is = p.1 ∙ ap Err p.2 in
    let old = c.args.self.now in
    let mid = c.begin.new.self in
    let size = c.in_ok-size.size in
    shown_behind _ _ _ _ c.in_ok-size.ensures.shows c.in_err-begun.ensures.shows (λ s b.
    subst (λ (r : Result ℕ JournalFault). IsShownBy (length_was size ∷ s) old mid r) (sym is) (begun_refused size s old mid c.begin.ensures.same_state c.begin.ensures.same_count c.begin.ensures.done _ b))

pub returns-in_err-pass_blocks-clause-shows : goal.returns-in_err-pass_blocks-clause-shows
returns-in_err-pass_blocks-clause-shows g c =
    let p = err_from_is_err_and c.from_residual-in_err-pass_blocks.result c.from_residual-in_err-pass_blocks.ensures.1 in
    let is = p.1 ∙ ap Err p.2 in
    let old = c.args.self.now in
    let mid = c.begin.new.self in
    let last = c.pass_blocks.new.self in
    let size = c.in_ok-size.size in
    let low : 0 < mid.gate = c.in_ok-begun.ensures.begun (ap Ok c.if-begun.true) in
    shown_behind _ _ _ _ c.in_ok-size.ensures.shows
    (shown_then {R = λ l. IsShownBy (length_was size ∷ l) old last c.from_residual-in_err-pass_blocks.result} _ _ _ c.in_ok-begun.ensures.shows c.in_err-pass_blocks.ensures.shows (λ s t b q.
    let starts = subst (λ (x : Bool). IsBegun s (spot old) (spot mid) (Ok x)) c.if-begun.true b in
    subst (λ (r : Result ℕ JournalFault). IsShownBy (length_was size ∷ s ++ t) old last r) (sym is) (passed_to_refusal size s old mid c.begin.ensures.same_state c.begin.ensures.same_count c.begin.ensures.done t last starts low _ q)))
    (λ l q. q)

pub returns-clause-shows : goal.returns-clause-shows
returns-clause-shows g c =
    let old = c.args.self.now in
    let mid = c.begin.new.self in
    let size = c.in_ok-size.size in
    elim c.if-begun.branch [
      | then-begun+in_ok-pass_blocks w ↦
          let last = w.pass_blocks.new.self in
          let low : 0 < mid.gate = c.in_ok-begun.ensures.begun (ap Ok w.if-begun.true) in
          subst (λ (f : Follower _). ShowsMore (g.D.Disk.shown old.disk) (g.D.Disk.shown f.disk) (λ x. IsShownBy x old f (Ok f.count))) (sym w.self-is)
          (shown_behind _ _ _ _ c.in_ok-size.ensures.shows
          (shown_then {R = λ l. IsShownBy (length_was size ∷ l) old last (Ok last.count)} _ _ _ c.in_ok-begun.ensures.shows w.in_ok-pass_blocks.ensures.shows (λ s t b q.
          let starts = subst (λ (x : Bool). IsBegun s (spot old) (spot mid) (Ok x)) w.if-begun.true b in
          passed_to_end size s old mid c.begin.ensures.same_state c.begin.ensures.same_count c.begin.ensures.done t last starts low last.count q))
          (λ l q. q))
      | else-begun w ↦
          subst (λ (f : Follower _). ShowsMore (g.D.Disk.shown old.disk) (g.D.Disk.shown f.disk) (λ x. IsShownBy x old f (Ok f.count))) (sym w.self-is)
          (shown_behind _ _ _ _ c.in_ok-size.ensures.shows c.in_ok-begun.ensures.shows (λ s b.
          begun_short size s old mid c.begin.ensures.same_state c.begin.ensures.same_count c.begin.ensures.done mid.count (subst (λ (x : Bool). IsBegun s (spot old) (spot mid) (Ok x)) w.if-begun.false b)))
    ]
