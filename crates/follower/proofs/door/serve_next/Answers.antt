use Rattle.follower.proofs.Holding.{failed_served, none_served, one_served}
use Rattle.follower.proofs.door.serve_next.Goals as goal

pub returns-in_err-next-clause-served : goal.returns-in_err-next-clause-served
returns-in_err-next-clause-served g c = failed_served g.D.Disk g.G.Link.Link c.args.follower.now _ _ _ c.in_err-next.ensures.gives

pub returns-in-Some-clause-served : goal.returns-in-Some-clause-served
returns-in-Some-clause-served g c =
    let gives = rw c.in-Some.is at c.in_ok-next.ensures.gives in
    let talk = c.serve_one-link.ensures in
    one_served g.D.Disk g.G.Link.Link _ talk.0 c.args.follower.now c.serve_one-link.new.follower _ _ _ c.in-Some.link c.serve_one-link.result gives talk.1 c.done.ensures.takes

pub returns-in-None-clause-served : goal.returns-in-None-clause-served
returns-in-None-clause-served g c =
    let gives = rw c.in-None.is at c.in_ok-next.ensures.gives in
    none_served g.D.Disk g.G.Link.Link _ c.args.follower.now _ _ gives
