use Rattle.std.proofs.Common.{[], ◌∙◌, Err, ap, length, subst, sym}
use Rattle.std.specs.Prelude.{Bool, Result}
use Rattle.std.proofs.lemmas.Result.{err_from_is_err_and}
use Rattle.follower.specs.Moving.{IsTurn, spot}
use Rattle.follower.proofs.Seen.{moves_none}
use Rattle.journal_file.proofs.Shown.{shown_none, shown_one}
use Rattle.journal_file.specs.declared.faults.JournalFault.{JournalFault}
use Rattle.follower.proofs.follower.Follower.pass_into.Goals as goal

pub returns-in_err-n-clause-shows : goal.returns-in_err-n-clause-shows
returns-in_err-n-clause-shows g c =
    let p = err_from_is_err_and c.from_residual.result c.from_residual.ensures.1 in
    let is = p.1 ∙ ap Err p.2 in
    let f = spot c.args.self.now in
    shown_none _ _ c.in_err-n.ensures.silent (subst (λ (r : Result Bool JournalFault). IsTurn [] f f r) (sym is) (moves_none [] f))

pub returns-clause-shows : goal.returns-clause-shows
returns-clause-shows g c = shown_one _ _ _ (ap (λ d. g.D.Disk.shown d) c.pass_read.ensures.disk ∙ c.in_ok-n.ensures.shows) (c.pass_read.ensures.shows (length c.args.room.now))
