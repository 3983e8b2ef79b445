-- What workers have stays true while they go on.
use Rattle.std.proofs.Common.{◌≡◌, ℕ, suc, Bool, false, ◌+◌, List, [], ◌∷◌, ◌++◌, Option, None, Result, Ok, Err, IfOk, IfSome, OnErr, sym, ◌∙◌, ap, subst, arith, append_assoc}
use Rattle.atomic_table.specs.Seated.{TableId}
use Rattle.hist_lock.specs.Views.{IsSameSeat, SplitsOff, TakesIn, first_seat, seat_with}
use Rattle.exchange_shared.specs.Seats.{Calls, Fails, Gains, Lands, MayCall, Publishes, Seat, Waits, Writes, effects_in, worker_of}
use Rattle.exchange_shared.proofs.Histories.{effects_wait}
use Rattle.exchange_state.specs.declared.entries.Entry.{Entry}
use Rattle.exchange_state.specs.declared.entries.Origin.{Origin}
use Rattle.exchange_state.specs.declared.state.Published.{Published}
use Rattle.exchange_state.specs.declared.state.Published.TheVariants as answer
use Rattle.exchange_state.specs.declared.state.Settled.{Settled}
use Rattle.exchange_state.specs.Views.{put, published_at}
use Rattle.plain_exchange.specs.declared.commands.Command.{Command}
use Rattle.rtb_disk.specs.declared.disk.Disk.{Ghosts}
use Rattle.seat_cases.specs.declared.seats.Hand.{Hand}
use Rattle.seat_cases.specs.declared.seats.Sought.{Sought}
use Rattle.seat_cases.specs.declared.session.Two.{Two}
use Rattle.seat_cases.specs.Hands.{AreTwo, GoesOn, IsFirst, IsHand, WasSought}
use Rattle.std.specs.declared.alloc.AllocError.{AllocError}

pub same_of : (s t : Seat) (l : List Entry) → t ≡ seat_with s l false → IsSameSeat s t
same_of s t l is = is ∙ ap (λ k. seat_with s k false) (sym (ap (λ (y : Seat). y.seen) is))

pub same_then : (s t u : Seat) → IsSameSeat s t → IsSameSeat t u → IsSameSeat s u
same_then s t u a b = b ∙ ap (λ (y : Seat). seat_with y u.seen false) a

module _ {D : Type 0} {G : Ghosts D} where
  goes : (here : TableId) (h : Hand D G) (t : Seat) (more : List Entry) → MayCall here t → IsHand here h → t ≡ seat_with h.seat (h.seat.seen ++ more) false → GoesOn here h (record { seat = t; upto = h.upto })
  goes here h t more may is same = record {
    hand = record { calls = may; placed = effects_wait h.seat t h.upto more same is.placed };
    same = same_of h.seat t (h.seat.seen ++ more) same;
  }

  pub goes_waiting : (here : TableId) (h : Hand D G) (t : Seat) → MayCall here t → IsHand here h → Waits h.seat t → GoesOn here h (record { seat = t; upto = h.upto })
  goes_waiting here h t may is w = goes here h t w.more may is w.same

  pub goes_writing : (here : TableId) (h : Hand D G) (t : Seat) → MayCall here t → IsHand here h → Writes h.seat t → GoesOn here h (record { seat = t; upto = h.upto })
  goes_writing here h t may is w = goes here h t w.more may is w.same

  goes_gaining : (here : TableId) (h : Hand D G) (t : Seat) (e : Entry) → MayCall here t → IsHand here h → Gains e h.seat t → GoesOn here h (record { seat = t; upto = h.upto })
  goes_gaining here h t e may is w = goes here h t (w.more ++ e ∷ []) may is (w.same ∙ ap (λ l. seat_with h.seat l false) (append_assoc h.seat.seen w.more (e ∷ [])))

  pub goes_failing : (here : TableId) (h : Hand D G) (t : Seat) → MayCall here t → IsHand here h → Fails h.seat t → GoesOn here h (record { seat = t; upto = h.upto })
  goes_failing here h t may is w =
      let mark : Entry = put h.seat.worker false w.durable w.faults in
      goes here h t (w.more ++ mark ∷ []) may is (w.same ∙ ap (λ l. seat_with h.seat l false) (append_assoc h.seat.seen w.more (mark ∷ [])))

  pub goes_publishing : (after : ℕ) (here : TableId) (h : Hand D G) (t : Seat) (p : Published) → MayCall here t → IsHand here h → Publishes after h.seat t p → GoesOn here h (record { seat = t; upto = h.upto })
  goes_publishing after here h t (answer.New edit) may is w = goes_gaining here h t (published_at h.seat.worker edit) may is w.0
  goes_publishing after here h t (answer.Kept edit) may is w = goes_waiting here h t may is w.0

  pub goes_calling : (here : TableId) (h : Hand D G) (t : Seat) (command : Command) (m : ℕ) (s : Settled) → MayCall here t → Calls command m h.seat t s → GoesOn here h (record { seat = t; upto = s.upto })
  goes_calling here h t command m s may c = record {
    hand = record { calls = may; placed = (let u = c.upto in omega (arith, u)) };
    same = (let g = c.gains in same_of h.seat t _ g.same);
  }

  -- a change that was written first was carried out, and so many effects stood with it
  pub goes_landing : (here : TableId) (h : Hand D G) (t : Seat) (command : Command) (m : ℕ) (s : Settled) (written : Bool) → MayCall here t → Lands command m h.seat t s written → GoesOn here h (record { seat = t; upto = s.upto })
  goes_landing here h t command m s written may l =
      let mark : Entry = put h.seat.worker written l.durable l.count in
      let back = l.put_is in
      let took = l.taken_is in
      let call = l.called_is in
      let upto : s.upto ≡ effects_in l.calling.origin l.calling.seen = l.upto in
      record {
        hand = record {
          calls = may;
          placed = effects_wait l.calling t s.upto (back.more ++ mark ∷ [])
              (back.same ∙ ap (λ k. seat_with l.calling k false) (append_assoc l.calling.seen back.more (mark ∷ []))) (omega (arith, upto));
        };
        same = same_then h.seat l.calling t (same_then h.seat l.taking l.calling (same_of h.seat l.taking _ took.same) (same_of l.taking l.calling _ call.same)) (same_of l.calling t _ back.same);
      }

  pub goes_then : (here : TableId) (a b c : Hand D G) → GoesOn here a b → GoesOn here b c → GoesOn here a c
  goes_then here a b c x y = record { hand = y.hand; same = same_then a.seat b.seat c.seat x.same y.same }

  pub stays : (here : TableId) (a : Hand D G) → IsHand here a → GoesOn here a a
  stays here a is = record { hand = is; same = (let may = is.calls in ap (λ b. seat_with a.seat a.seat.seen b) may.free) }

-- ---- two workers

module _ {D : Type 0} {G : Ghosts D} where
  pub goes_published : (after : ℕ) (here : TableId) (h : Hand D G) (t : Seat) (r : Result Published AllocError) → MayCall here t → IsHand here h → IfOk r (Publishes after h.seat t) → OnErr r (Waits h.seat t) → GoesOn here h (record { seat = t; upto = h.upto })
  goes_published after here h t (Ok p) may is ok err = goes_publishing after here h t p may is ok
  goes_published after here h t (Err e) may is ok err = goes_waiting here h t may is err

  -- B's seat is split off
  pub two_of : (here : TableId) (o : Origin) (s t u : Seat) → s ≡ first_seat here o → SplitsOff worker_of s t u → MayCall here t → MayCall here u
      → AreTwo {D = D} {G = G} here (record { first = record { seat = t; upto = 0 }; second = record { seat = u; upto = 0 }; sought = None })
  two_of here o s t u is p may other = record {
    first = record { calls = may; placed = omega arith };
    second = record { calls = other; placed = omega arith };
    worker = ap (λ (y : Seat). y.worker) p.0 ∙ ap (λ (y : Seat). y.worker) is;
    out = ap (λ (y : Seat). y.out) p.0 ∙ ap (λ (y : Seat). suc y.out) is;
    sought = tt;
  }

  pub first_goes : (here : TableId) (two : Two D G) (a : Hand D G) → AreTwo here two → GoesOn here two.first a → AreTwo here (record { first = a; second = two.second; sought = two.sought })
  first_goes here two a t on = record {
    first = on.hand;
    second = t.second;
    worker = ap (λ (y : Seat). y.worker) on.same ∙ t.worker;
    out = ap (λ (y : Seat). y.out) on.same ∙ t.out;
    sought = t.sought;
  }

  pub second_goes : (here : TableId) (two : Two D G) (b : Hand D G) (q : Option Sought) → AreTwo here two → GoesOn here two.second b → IfSome q (WasSought b.seat) → AreTwo here (record { first = two.first; second = b; sought = q })
  second_goes here two b q t on sought = record { first = t.first; second = on.hand; worker = t.worker; out = t.out; sought = sought }

  -- worker 0's seat went on, and may be closed
  pub closes : (here : TableId) (s : Seat) (h : Hand D G) → IsFirst here 0 s → GoesOn here (record { seat = s; upto = 0 }) h → (h.seat.worker ≡ 0) × (h.seat.out ≡ 0)
  closes here s h f on = (ap (λ (y : Seat). y.worker) on.same ∙ f.worker, ap (λ (y : Seat). y.out) on.same ∙ f.out)

  pub fresh_hand : (here : TableId) (s : Seat) → MayCall here s → IsHand {D = D} {G = G} here (record { seat = s; upto = 0 })
  fresh_hand here s may = record { calls = may; placed = omega arith }

pub joined : (here : TableId) (s b t : Seat) → s.worker ≡ 0 → s.out ≡ 1 → TakesIn worker_of s b t → MayCall here t → IsFirst here 0 t
joined here s b t worker out j may = record {
  calls = may;
  worker = j.number ∙ worker;
  out = (let p = j.out in omega (arith, out, p));
}
