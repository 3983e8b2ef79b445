use Rattle.std.proofs.Common.{◌≡◌, ◌<◌, ◌+◌, ◌-◌, ◌^◌, ◌∙◌, false, cond, length, map, nat_lt, ap, slice_index, subst, arith, w8, w64}
use lib.Lanes.{chunk, mask_l}
use Rattle.std.specs.Int.{bit_at, bit_not}
use Rattle.std.proofs.lemmas.List.{get_or-map, length-map}
use Rattle.std.proofs.lemmas.Nat.Bits.{bit_at_not}
use Rattle.std.proofs.lemmas.Simd.{bit_mask_l, bitmask_splat, get_or-chunk, length-chunk, mask_l-lt}
use Rattle.conj_match.proofs.Words.{turned}
use Rattle.conj_match.proofs.taking.hits_in.Goals as goal

pub returns : goal.returns
returns c = λ i h.
    let marks = c.args.marks.now in
    let y = 128 + c.args.k in
    let xs = chunk 0 64 marks in
    let ms = map (λ x. nat_lt x y) xs in
    let long : length xs ≡ 64 = length-chunk 0 64 marks c.requires.len in
    let wide : length ms ≡ 64 = length-map xs (λ x. nat_lt x y) ∙ long in
    let fits : mask_l ms < 2 ^ 64 = subst (λ n. mask_l ms < 2 ^ n) wide (mask_l-lt ms) in
    let zeroth : 0 + i ≡ i = omega arith in
    ap (λ m. bit_at (bit_not w64 m) i) (bitmask_splat w8 nat_lt xs 64 y long (omega arith))
    ∙ bit_at_not w64 (mask_l ms) i fits h
    ∙ ap (λ n. 1 - n) (bit_mask_l ms i ∙ ap (λ b. cond b 1 0) (get_or-map (λ x. nat_lt x y) xs i 0 false (omega (arith, long, h)) ∙ ap (λ x. nat_lt x y) (get_or-chunk 0 64 marks i 0 h ∙ ap (λ n. slice_index marks n) zeroth)))
    ∙ turned (slice_index marks i) y
