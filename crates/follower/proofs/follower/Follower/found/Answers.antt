use Rattle.std.proofs.Common.{◌≡◌, subst, sym}
use Rattle.std.specs.Prelude.{IfOk}
use Rattle.follower.specs.Following.{state_in}
use Rattle.follower.proofs.Reports.{found_is}
use Rattle.http_wire.specs.declared.answer.Answer.{Answer}
use Rattle.follower.proofs.follower.Follower.found.Goals as goal

pub returns-in-Some : goal.returns-in-Some
returns-in-Some g c =
    subst (λ (x : Answer). IfOk c.report_answer.result (λ a. a ≡ x)) (found_is (state_in c.args.self.now) c.args.n _ c.args.effects _ (sym c.in-Some.ensures) c.report_at-report.ensures) c.report_answer.ensures
