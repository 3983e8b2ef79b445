use Rattle.std.proofs.Common.{◌≡◌, ◌+◌, ◌-◌, ◌/◌, arith}
use Rattle.conj_match.proofs.Digits.{halved_width}
use Rattle.conj_match.proofs.Skips.{halved, narrower}
use Rattle.conj_match.proofs.leaping.halve.Goals as goal

pub overflow_add-origin : goal.overflow_add-origin
overflow_add-origin g c =
    let h = c.loop-reach.invariant.reach in
    let fits = h.fits in
    let ordered = h.ordered in
    record { fits = omega arith }

pub loop-reach-preserved : goal.loop-reach-preserved
loop-reach-preserved g c =
    let h = c.loop-reach.invariant in
    let es = c.args.list.now in
    let r = c.loop-reach.reach in
    let new = c.nearer-reach.result in
    let next = c.entry_at-next.result in
    let middle = r.low + (r.high - r.low) / 2 in
    let same : middle ≡ middle = omega arith in
    let less = narrower c.args.id r new middle next h.reach.ordered (omega arith) same c.nearer-reach.ensures.short c.nearer-reach.ensures.far in
    record {
      reach = halved es c.args.origin c.args.id r new middle next h.reach (omega arith) same c.entry_at-next.ensures.value c.nearer-reach.ensures.short c.nearer-reach.ensures.far;
      from = omega (arith, less.1, h.from);
      cost = λ m within.
          let (x, small, spent) = h.cost m within in
          let (y, is, half) = halved_width (r.high - r.low) (new.high - new.low) x (omega arith) less.0 small in
          (y, half, omega (arith, c.entry_at-next.ensures.cost, spent, is));
    }
