use Rattle.std.proofs.Common.{inl, refl}
use Rattle.door_worker.proofs.Holding.{failed_served, none_served, one_served}
use Rattle.door_worker.proofs.door.serve_next.Goals as goal

pub returns-in-Ok-Some-clause-served : goal.returns-in-Ok-Some-clause-served
returns-in-Ok-Some-clause-served g c =
    let gives = rw c.in-Ok-Some.field-0-is at c.in-Ok-Some.ensures.gives in
    let t = c.serve_one-link.ensures.talked in
    record {
      seat = t.seat;
      has = t.has;
      now = t.talked.now;
      has_now = t.talked.seat_is;
      served = one_served g.G.Link.Link _ _ t.turns t.seat t.talked.now _ _ _ _ _ c.in-Ok-Some.link c.serve_one-link.result gives t.talked t.talked.seat_is t.talk c.done.ensures.takes;
      known = t.talked.known;
    }

pub returns-in-Ok-None-clause-served : goal.returns-in-Ok-None-clause-served
returns-in-Ok-None-clause-served g c =
    let r = c.requires.seat in
    let gives = rw c.in-Ok-None.field-0-is at c.in-Ok-None.ensures.gives in
    record { seat = r.seat; has = r.has; now = r.seat; has_now = r.has; served = none_served g.G.Link.Link _ _ r.seat _ _ r.free gives; known = inl refl }

pub returns-in-Err-clause-served : goal.returns-in-Err-clause-served
returns-in-Err-clause-served g c =
    let r = c.requires.seat in
    record { seat = r.seat; has = r.has; now = r.seat; has_now = r.has; served = failed_served g.G.Link.Link _ r.seat _ _ c.in-Err.field-0 r.free c.in-Err.ensures.gives; known = inl refl }
