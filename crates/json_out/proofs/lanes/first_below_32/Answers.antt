use Rattle.std.proofs.Common.{nat_lt, sym, ap, ◌∙◌, w8, arith}
use lib.Count.{count_trailing_zeros}
use Rattle.std.proofs.lemmas.Simd.{bitmask_splat, leading_from_mask_l, trailing_mask_l}
use Rattle.json_out.proofs.lanes.first_below_32.Goals as goal

pub returns-then-mask-eq0 : goal.returns-then-mask-eq0
returns-then-mask-eq0 c =
    let v = c.args.v in
    let mask = bitmask_splat w8 nat_lt v 16 32 c.fits-v.0 (omega arith) in
    sym (leading_from_mask_l (λ x. nat_lt x 32) v (sym mask ∙ c.if-mask-eq0.true) ∙ c.fits-v.0)

pub returns-else-mask-eq0 : goal.returns-else-mask-eq0
returns-else-mask-eq0 c =
    let v = c.args.v in
    let mask = bitmask_splat w8 nat_lt v 16 32 c.fits-v.0 (omega arith) in
    ap (count_trailing_zeros 64) mask ∙ trailing_mask_l (λ x. nat_lt x 32) 64 v (omega (arith, c.fits-v.0)) (omega (arith, mask, c.if-mask-eq0.false))
