use Rattle.std.proofs.Common.{◌∙◌, ap, refl, subst, sym, Err}
use Rattle.std.specs.Prelude.{MatchResult, Result}
use Rattle.std.proofs.lemmas.Result.{err_from_is_err_and}
use Rattle.follower.specs.Following.{StandsIn}
use Rattle.follower.specs.Passing.{TurnsIn}
use Rattle.follower.proofs.Standing.{not_passed, passed}
use Rattle.journal_file.specs.declared.faults.JournalFault.{JournalFault}
use Rattle.follower.specs.Moving.{IsRefused, Passes, spot}
use Rattle.follower.proofs.Seen.{payload_passed, payload_refused}
use Rattle.follower.proofs.follower.Follower.pass_payload.Goals as goal

pub returns-in_err-carry_block-clause-turns : goal.returns-in_err-carry_block-clause-turns
returns-in_err-carry_block-clause-turns g c = λ reads small has within.
    let old = c.args.self.now in
    let new = c.carry_block.new.self in
    let p = err_from_is_err_and c.from_residual.result c.from_residual.ensures.1 in
    let is = p.1 ∙ ap Err p.2 in
    let carried = c.in_err-carry_block.ensures.carried in
    subst (λ (r : Result Unit JournalFault). MatchResult r (λ _. StandsIn reads new.core.state new.count new.gate new.done) (λ e. TurnsIn reads new.core.state new.count new.gate new.done (Err e))) (sym is)
    (not_passed reads old.core.state old.count old.gate old.done c.requires.begun within small _ has _ _ _ _ _ carried.0 carried.1 carried.2 c.carry_block.ensures.gate)

pub returns-clause-turns : goal.returns-clause-turns
returns-clause-turns g c = λ reads small has within.
    let old = c.args.self.now in
    let carried = c.in_ok-carry_block.ensures.carried in
    passed reads old.core.state old.count old.gate old.done c.requires.begun within small _ has _ _ _ _ _ carried.0 c.requires.place carried.1 carried.2

pub returns-in_err-carry_block-clause-shows : goal.returns-in_err-carry_block-clause-shows
returns-in_err-carry_block-clause-shows g c = λ shown b.
    let old = c.args.self.now in
    let new = c.carry_block.new.self in
    let p = err_from_is_err_and c.from_residual.result c.from_residual.ensures.1 in
    let is = p.1 ∙ ap Err p.2 in
    let carried = c.in_err-carry_block.ensures.carried in
    subst (λ (r : Result Unit JournalFault). MatchResult r (λ _. Passes shown (spot old) (spot new)) (IsRefused shown (spot old) (spot new))) (sym is)
    (payload_refused shown (spot old) (spot new) c.args.payload.now b carried.0 _ carried.1 carried.2 c.carry_block.ensures.gate)

pub returns-clause-shows : goal.returns-clause-shows
returns-clause-shows g c = λ shown b.
    let carried = c.in_ok-carry_block.ensures.carried in
    payload_passed shown (spot c.args.self.now) _ c.args.payload.now b _ carried.0 carried.1 carried.2 c.requires.place refl
