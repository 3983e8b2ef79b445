use Rattle.std.proofs.Common.{◌∙◌, refl}
use Rattle.follower.proofs.Holding.{serves_none, serves_then}
use Rattle.follower.proofs.door.serve_reports.Goals as goal

pub loop-init : goal.loop-init
loop-init g c = record { served = serves_none g.D.Disk g.G.Link.Link c.args.follower.now _; faults = refl }

pub returns-in_err-more-clause-served : goal.returns-in_err-more-clause-served
returns-in_err-more-clause-served g c = serves_then g.D.Disk g.G.Link.Link c.args.follower.now c.loop.follower c.serve_next.new.follower _ _ _ c.loop.invariant.served c.serve_next.ensures.served

pub returns-then-not-more-clause-served : goal.returns-then-not-more-clause-served
returns-then-not-more-clause-served g c = serves_then g.D.Disk g.G.Link.Link c.args.follower.now c.loop.follower c.serve_next.new.follower _ _ _ c.loop.invariant.served c.serve_next.ensures.served

pub loop-preserved : goal.loop-preserved
loop-preserved g c = record {
  served = serves_then g.D.Disk g.G.Link.Link c.args.follower.now c.loop.follower c.serve_next.new.follower _ _ _ c.loop.invariant.served c.serve_next.ensures.served;
  faults = c.in_ok-more.ensures.cause ∙ c.loop.invariant.faults;
}
