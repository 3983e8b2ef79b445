use Rattle.std.proofs.Common.{◌∙◌, ◌++◌, ap, List, map, reverse, refl, rules, subst, sym}
use Rattle.std.specs.Option.{option_to_list}
use Rattle.exchange_shared.specs.Seats.{lock_of}
use Rattle.worker_pool.proofs.Seating.{hiring_one, next_door}
use Rattle.worker_pool.specs.Hiring.{AreHiring, Job}
use Rattle.worker_pool.proofs.hiring.put_jobs.Goals as goal

pub loop-door-preserved : goal.loop-door-preserved
loop-door-preserved g c =
    let pushed = c.push_reserved-in-Some-pop.ensures.items in
    let left = c.pop-in-loop-door.ensures.items ∙ ap (λ o. c.pop-in-loop-door.new.self.items ++ option_to_list o) c.in-Some-pop.is in
    let more = c.push_reserved-in-Some-pop.ensures.len in
    let less = c.in-Some-pop.ensures.cases in
    let many = c.loop-door.invariant.many in
    record {
      hiring =
          subst (λ (l : List (Job g.row.G.Denot)). AreHiring (lock_of c.args.exchange.now) c.args.seat.origin l c.split-first.result.0) (sym pushed)
          (hiring_one (lock_of c.args.exchange.now) c.args.seat.origin c.loop-door.jobs.items _ c.loop-door.seat c.split-first.result.0 c.split-first.result.1 c.loop-door.invariant.hiring c.split-first.ensures.split c.split-first.ensures.seats refl);
      doors =
          ap (λ (l : List (Job g.row.G.Denot)). map (λ (j : Job g.row.G.Denot). j.1) l ++ reverse c.pop-in-loop-door.new.self.items) pushed
          ∙ next_door (λ (j : Job g.row.G.Denot). j.1) c.loop-door.jobs.items _ c.loop-door.doors.items c.pop-in-loop-door.new.self.items (reverse c.args.doors.now.items) c.loop-door.invariant.doors left;
      many = search rules;
      jobs_room = search rules;
      doors_room = search rules;
    }
