use Rattle.std.proofs.Common.{◌≡◌, ◌<◌, ◌^◌, ℕ, arith}
use Rattle.std.proofs.Math.Nat.{mod-lt}
use Rattle.rtb_num.proofs.Numbers.{pow_ten_pos}
use Rattle.rtb_num.proofs.write_amounts.push_amount.Goals as goal

unit_pos : (k u : ℕ) → u ≡ 10 ^ k → 0 < u
unit_pos k u e = rw e (pow_ten_pos k)

pub nonzero_div-n : goal.nonzero_div-n
nonzero_div-n c = unit_pos _ _ c.pow-unit.ensures

pub nonzero_rem-rest : goal.nonzero_rem-rest
nonzero_rem-rest c = unit_pos _ _ c.pow-unit.ensures

pub push_fraction-requires-clause-below : goal.push_fraction-requires-clause-below
push_fraction-requires-clause-below c = omega (arith, mod-lt c.args.n (unit_pos _ _ c.pow-unit.ensures), c.pow-unit.ensures)
