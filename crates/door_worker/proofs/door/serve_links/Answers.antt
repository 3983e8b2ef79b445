use Rattle.std.proofs.Common.{ap, refl, Some, ◌∙◌}
use Rattle.door_worker.proofs.Holding.{at_now, leaves_at, rises_some, serves_none, serves_then}
use Rattle.door_worker.proofs.door.serve_links.Goals as goal

pub loop-init : goal.loop-init
loop-init g c = record { here = refl; served = serves_none g.G.Link.Link _ _ _ c.requires.seat; faults = refl }

pub serve_next-requires : goal.serve_next-requires
serve_next-requires g c = (c.type_bounds.send-G-Link, at_now g.G.Link.Link _ _ _ _ _ c.loop.invariant.served)

pub loop-preserved : goal.loop-preserved
loop-preserved g c = record {
  here = c.serve_next.ensures.here ∙ c.loop.invariant.here;
  served = serves_then g.G.Link.Link _ _ c.loop.worker _ _ _ _ c.loop.invariant.served c.serve_next.ensures.served;
  faults = c.serve_next.ensures.cause.2 (λ e. absurd (cc e)) ∙ c.loop.invariant.faults;
}

pub returns-in-Some-serve_next-clause-served : goal.returns-in-Some-serve_next-clause-served
returns-in-Some-serve_next-clause-served g c = serves_then g.G.Link.Link _ _ c.loop.worker _ _ _ _ c.loop.invariant.served c.serve_next.ensures.served

pub returns-in-Some-serve_next-clause-all : goal.returns-in-Some-serve_next-clause-all
returns-in-Some-serve_next-clause-all g c = λ e. leaves_at g.G.Link.Link _ _ c.loop.worker _ _ _ c.loop.invariant.served (c.in-Some-serve_next.ensures.all (ap (λ x. Some x) e))

pub returns-in-Some-serve_next-clause-cause : goal.returns-in-Some-serve_next-clause-cause
returns-in-Some-serve_next-clause-cause g c = rises_some c.in-Some-serve_next.end _ _ _ _ c.loop.invariant.faults c.in-Some-serve_next.ensures.cause
