use Rattle.std.proofs.Common.{◌≡◌, ◌∙◌, ◌<◌, ◌≤◌, ℕ, length, length-set, get_or, get_or-set_other, le_refl, refl, sym, subst, arith, Some}
use Rattle.exchange_shared.specs.Seats.{lock_of}
use Rattle.worker_pool.proofs.Joining.{is_back, joins_first, joins_one, taken_is}
use Rattle.worker_pool.proofs.Places.{map_set}
use Rattle.worker_pool.specs.Hiring.{IsJoined, Job}
use Rattle.worker_pool.proofs.jobs.gather.Goals as goal

pub loop-k-init : goal.loop-k-init
loop-k-init g c =
    let d : Job g.row.G.Denot = c.index-jobs-0.result in
    let some : 0 < length c.args.jobs.now = c.requires.back.some in
    let has : (get_or c.args.jobs.now 0 d).0 ≡ Some c.in-Some.seat = sym c.take.ensures.value ∙ c.in-Some.is in
    record {
      joined = joins_first (lock_of c.args.exchange.now) c.args.jobs.now c.in-Some.seat d c.requires.back has;
      some = omega arith;
      most = omega (arith, some);
      many = length-set c.args.jobs.now 0 _;
      same = λ i e le. get_or-set_other c.args.jobs.now 0 i _ e (λ z. omega (arith, le, z));
      doors = map_set (λ (j : Job g.row.G.Denot). j.1) c.args.jobs.now 0 _ d some refl;
    }

pub unreachable-requires-in_default-take : goal.unreachable-requires-in_default-take
unreachable-requires-in_default-take g c =
    let d : Job g.row.G.Denot = c.index-jobs-k.result in
    let i = c.loop-k.invariant in
    let kept : length c.loop-k.jobs ≡ length c.args.jobs.now = c.loop-k.invariant.many in
    let lt : c.loop-k.k < length c.args.jobs.now = omega (arith, c.loop-k-test.true, c.loop-k.auto.jobs, kept) in
    let back = c.requires.back.each c.loop-k.k d lt in
    let stay : get_or c.loop-k.jobs c.loop-k.k d ≡ get_or c.args.jobs.now c.loop-k.k d = i.same c.loop-k.k d (le_refl c.loop-k.k) in
    cc (c.in_default-take.is, c.take-in-loop-k.ensures.value, stay, back.has)

pub join-seat-requires-clause-seats : goal.join-seat-requires-clause-seats
join-seat-requires-clause-seats g c =
    let d : Job g.row.G.Denot = c.index-jobs-k.result in
    let i = c.loop-k.invariant in
    let kept : length c.loop-k.jobs ≡ length c.args.jobs.now = c.loop-k.invariant.many in
    let lt : c.loop-k.k < length c.args.jobs.now = omega (arith, c.loop-k-test.true, c.loop-k.auto.jobs, kept) in
    let has = taken_is c.args.jobs.now c.loop-k.jobs c.loop-k.k d _ c.in-Some-take.other (i.same c.loop-k.k d (le_refl c.loop-k.k)) c.take-in-loop-k.ensures.value c.in-Some-take.is in
    (i.joined.may, (is_back (lock_of c.args.exchange.now) c.args.jobs.now c.loop-k.k d c.in-Some-take.other c.requires.back lt has).0)

pub loop-k-preserved : goal.loop-k-preserved
loop-k-preserved g c =
    let d : Job g.row.G.Denot = c.index-jobs-k.result in
    let i = c.loop-k.invariant in
    let k : ℕ = c.loop-k.k in
    let kept : length c.loop-k.jobs ≡ length c.args.jobs.now = c.loop-k.invariant.many in
    let lt : k < length c.args.jobs.now = omega (arith, c.loop-k-test.true, c.loop-k.auto.jobs, kept) in
    let has = taken_is c.args.jobs.now c.loop-k.jobs k d _ c.in-Some-take.other (i.same k d (le_refl k)) c.take-in-loop-k.ensures.value c.in-Some-take.is in
    let back = is_back (lock_of c.args.exchange.now) c.args.jobs.now k d c.in-Some-take.other c.requires.back lt has in
    record {
      joined = joins_one (lock_of c.args.exchange.now) c.args.jobs.now k c.loop-k.seat c.in-Some-take.other c.join-seat.result d i.joined i.some lt has back.1 c.join-seat.ensures.join c.join-seat.ensures.seat;
      some = omega arith;
      most = omega (arith, lt);
      many = length-set c.loop-k.jobs k _ ∙ kept;
      same = λ n e le. get_or-set_other c.loop-k.jobs k n _ e (λ z. omega (arith, le, z)) ∙ i.same n e (omega (arith, le));
      doors = map_set (λ (j : Job g.row.G.Denot). j.1) c.loop-k.jobs k _ d (omega (arith, lt, kept)) refl ∙ i.doors;
    }

pub returns-clause-joined : goal.returns-clause-joined
returns-clause-joined g c =
    let i = c.loop-k.invariant in
    let kept : length c.loop-k.jobs ≡ length c.args.jobs.now = c.loop-k.invariant.many in
    let most : c.loop-k.k ≤ length c.args.jobs.now = i.most in
    let all : c.loop-k.k ≡ length c.args.jobs.now = omega (arith, c.loop-k-test.false, c.loop-k.auto.jobs, kept, most) in
    subst (λ (n : ℕ). IsJoined (lock_of c.args.exchange.now) c.args.jobs.now n c.loop-k.seat) all i.joined
