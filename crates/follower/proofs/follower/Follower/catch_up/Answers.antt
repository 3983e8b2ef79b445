use Rattle.follower.proofs.follower.Follower.catch_up.Goals as goal

pub returns : goal.returns
returns g c =
    let e = c.pass_all.ensures in
    record { goes = e.goes; count = e.count; within = e.within; all = e.all; damaged = e.damaged; shows = e.shows; same = e.same; cause = e.cause }
