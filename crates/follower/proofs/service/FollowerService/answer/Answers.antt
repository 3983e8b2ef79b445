use Rattle.follower.proofs.Following.{reported_or_starved}
use Rattle.follower.proofs.service.FollowerService.answer.Goals as goal

pub returns-in-Ok-Some-clause-meaning : goal.returns-in-Ok-Some-clause-meaning
returns-in-Ok-Some-clause-meaning g c =
    let asks = rw c.in-Ok-Some.field-0-is at c.in-Ok-Some.ensures in
    reported_or_starved g.D.Disk _ c.args.message.now _ c.args.self.now _ asks c.report_to.ensures.reports
