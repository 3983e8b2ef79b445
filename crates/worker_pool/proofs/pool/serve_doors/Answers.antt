use Rattle.std.proofs.Common.{◌∙◌, ap, List, map, subst, sym}
use Rattle.door_worker.specs.Languages.{rtb}
use Rattle.exchange_shared.specs.Seats.{Seat, lock_of}
use Rattle.worker_pool.proofs.Finishing.{idle}
use Rattle.worker_pool.proofs.Serving.{comes, lent_back}
use Rattle.worker_pool.specs.Hiring.{AreHired, Job}
use Rattle.worker_pool.specs.Pools.{AreServed}
use Rattle.worker_pool.proofs.pool.serve_doors.Goals as goal

pub returns-in-Ok-clause-origin : goal.returns-in-Ok-clause-origin
returns-in-Ok-clause-origin g c =
    let jobs : List (Job g.row.G.Denot) = c.as_mut_slice.result.now in
    let hired = subst (AreHired (lock_of c.args.exchange) c.args.seat.origin) (sym c.as_mut_slice.ensures.value) c.in-Ok.ensures.hired in
    let was = ap (map (λ (j : Job g.row.G.Denot). j.1)) c.as_mut_slice.ensures.value ∙ c.in-Ok.ensures.doors in
    let back = lent_back _ c.serve_jobs-seat.new.jobs _ (c.serve_jobs-seat.ensures.many ∙ c.as_mut_slice.ensures.len) in
    let is = c.write_last.ensures.doors ∙ c.doors_of-doors.ensures ∙ ap (map (λ (j : Job g.row.G.Denot). j.1)) back in
    (comes _ _ _ _ _ _ jobs _ _ _ _ _ _ _ hired c.serve_jobs-seat.ensures c.write_last.ensures.written c.write_last.ensures.complete was is).origin

pub returns-in-Ok-clause-served : goal.returns-in-Ok-clause-served
returns-in-Ok-clause-served g c =
    let jobs : List (Job g.row.G.Denot) = c.as_mut_slice.result.now in
    let hired = subst (AreHired (lock_of c.args.exchange) c.args.seat.origin) (sym c.as_mut_slice.ensures.value) c.in-Ok.ensures.hired in
    let was = ap (map (λ (j : Job g.row.G.Denot). j.1)) c.as_mut_slice.ensures.value ∙ c.in-Ok.ensures.doors in
    let back = lent_back _ c.serve_jobs-seat.new.jobs _ (c.serve_jobs-seat.ensures.many ∙ c.as_mut_slice.ensures.len) in
    let is = c.write_last.ensures.doors ∙ c.doors_of-doors.ensures ∙ ap (map (λ (j : Job g.row.G.Denot). j.1)) back in
    (comes _ _ _ _ _ _ jobs _ _ _ _ _ _ _ hired c.serve_jobs-seat.ensures c.write_last.ensures.written c.write_last.ensures.complete was is).served

pub returns-in-Ok-clause-left : goal.returns-in-Ok-clause-left
returns-in-Ok-clause-left g c =
    let jobs : List (Job g.row.G.Denot) = c.as_mut_slice.result.now in
    let hired = subst (AreHired (lock_of c.args.exchange) c.args.seat.origin) (sym c.as_mut_slice.ensures.value) c.in-Ok.ensures.hired in
    let was = ap (map (λ (j : Job g.row.G.Denot). j.1)) c.as_mut_slice.ensures.value ∙ c.in-Ok.ensures.doors in
    let back = lent_back _ c.serve_jobs-seat.new.jobs _ (c.serve_jobs-seat.ensures.many ∙ c.as_mut_slice.ensures.len) in
    let is = c.write_last.ensures.doors ∙ c.doors_of-doors.ensures ∙ ap (map (λ (j : Job g.row.G.Denot). j.1)) back in
    (comes _ _ _ _ _ _ jobs _ _ _ _ _ _ _ hired c.serve_jobs-seat.ensures c.write_last.ensures.written c.write_last.ensures.complete was is).left

pub returns-in-Ok-clause-end : goal.returns-in-Ok-clause-end
returns-in-Ok-clause-end g c =
    let jobs : List (Job g.row.G.Denot) = c.as_mut_slice.result.now in
    let hired = subst (AreHired (lock_of c.args.exchange) c.args.seat.origin) (sym c.as_mut_slice.ensures.value) c.in-Ok.ensures.hired in
    let was = ap (map (λ (j : Job g.row.G.Denot). j.1)) c.as_mut_slice.ensures.value ∙ c.in-Ok.ensures.doors in
    let back = lent_back _ c.serve_jobs-seat.new.jobs _ (c.serve_jobs-seat.ensures.many ∙ c.as_mut_slice.ensures.len) in
    let is = c.write_last.ensures.doors ∙ c.doors_of-doors.ensures ∙ ap (map (λ (j : Job g.row.G.Denot). j.1)) back in
    (comes _ _ _ _ _ _ jobs _ _ _ _ _ _ _ hired c.serve_jobs-seat.ensures c.write_last.ensures.written c.write_last.ensures.complete was is).ends

pub returns-in-Err-clause-served : goal.returns-in-Err-clause-served
returns-in-Err-clause-served g c =
    let none = c.close.ensures.past.1 ∙ ap (λ (s : Seat). s.seen) c.in-Err.ensures.refused.0 ∙ ap (λ (s : Seat). s.seen) c.requires.first in
    let is = c.close.ensures.doors ∙ c.in-Err.ensures.refused.1 in
    subst (λ (l : List g.row.G.Denot). AreServed g.G.Link.Link (rtb c.args.public.now c.args.keys.now) c.close.result.past (map g.G.Door.held c.args.doors) (map g.G.Door.held l)) (sym is) (idle g.G.Link.Link (rtb c.args.public.now c.args.keys.now) c.close.result.past none (map g.G.Door.held c.args.doors))
