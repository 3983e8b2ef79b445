use Rattle.std.proofs.Common.{List, ℕ, ap₂}
use Rattle.address_keys.specs.declared.keys.Keys.{Keys}
use Rattle.door_worker.proofs.Talking.{Spoken, has_talk, keeps, talked_by}
use Rattle.door_worker.proofs.desk.converse.Goals as goal

abbrev both : List ℕ → Keys → Spoken
both public keys = (public, keys)

pub returns-clause-same_worker : goal.returns-clause-same_worker
returns-clause-same_worker g c = keeps c.serve_link_in-end.ensures.served (λ w. w.worker.ghost_name) (λ s m v t a. a.5)

pub returns-clause-same_door : goal.returns-clause-same_door
returns-clause-same_door g c = keeps c.serve_link_in-end.ensures.served (λ w. w.door.ghost_name) (λ s m v t a. a.6)

pub returns-clause-here : goal.returns-clause-here
returns-clause-here g c = keeps c.serve_link_in-end.ensures.served (λ w. w.worker.now.here) (λ s m v t a. a.3)

pub returns-clause-faults : goal.returns-clause-faults
returns-clause-faults g c = keeps c.serve_link_in-end.ensures.served (λ w. g.G.Door.faults w.door.now) (λ s m v t a. a.4)

pub returns-clause-talked : goal.returns-clause-talked
returns-clause-talked g c =
    let i = c.serve_link_in-end.ensures.served in
    record {
      seat = c.requires.seat.seat;
      has = c.requires.seat.has;
      turns = i.turns;
      talk = has_talk g.G.Link.Link (c.args.desk.now.tools.now.public.now, c.args.desk.now.tools.now.keys.now) c.args.link.now c.serve_link_in-end.new.link _ c.serve_link_in-end.result i c.serve_link_in-end.ensures.cause;
      talked = talked_by i (λ w. (w.tools.now.public.now, w.tools.now.keys.now)) (λ w. w.worker.now.seat) (λ w. g.G.Door.held w.door.now) (λ s m v t a. a.0) (λ s m v t a. ap₂ both a.1 a.2) c.requires.seat.seat c.requires.seat.has c.requires.seat.free;
    }
