use Rattle.std.proofs.Common.{sym}
use Rattle.follower.specs.Following.{state_in}
use Rattle.follower.proofs.Reports.{reported}
use Rattle.follower.proofs.follower.Follower.report.Goals as goal

pub returns-in-Some : goal.returns-in-Some
returns-in-Some g c = reported (state_in c.args.self.now) c.args.n _ _ (sym c.in-Some.ensures) c.report_at.ensures
