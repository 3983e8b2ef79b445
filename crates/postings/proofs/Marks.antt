-- One bit of the words that a posting list keeps.
use Rattle.std.proofs.Common.{◌≡◌, ◌≢◌, ℕ, suc, zero, ◌*◌, ◌/◌, ◌%◌, ◌^◌, ◌<◌, ◌==◌, inl, inr, List, true, false, refl, sym, ◌∙◌, ap, arith, length, set, slice_index, replicate, nat_eq, bit_and, bit_or, w64}
use Rattle.std.specs.Int.{bit_at}
use Rattle.std.proofs.lemmas.Bool.{cases_eq}
use Rattle.std.proofs.lemmas.Nat.Bits.{bit_at_set_same, bit_at_set_other, bit_at-zero, shr_and_one}
use Rattle.std.proofs.lemmas.List.{get_or-set_same, get_or-set_other}
use Rattle.postings.specs.Packed.{is_marked}

-- the bit that the code looks at
pub bit_is : (marks : List ℕ) (i : ℕ) → nat_eq (bit_and (slice_index marks (i / 64) / 2 ^ (i % 64)) 1) 1 ≡ is_marked marks i
unfolding is_marked
bit_is marks i = ap (λ n. n == 1) (shr_and_one (slice_index marks (i / 64)) (i % 64))

pub set_here : (marks : List ℕ) (i : ℕ) → i < 64 * length marks → is_marked (set marks (i / 64) (bit_or (slice_index marks (i / 64)) (1 * 2 ^ (i % 64) % 18446744073709551616))) i ≡ true
unfolding is_marked
set_here marks i within =
    let word = bit_or (slice_index marks (i / 64)) (1 * 2 ^ (i % 64) % 18446744073709551616) in
    let here : i / 64 < length marks = omega arith in
    let low : i % 64 < 64 = omega arith in
    ap (λ n. bit_at n (i % 64) == 1) (get_or-set_same marks (i / 64) word 0 here)
    ∙ ap (λ n. n == 1) (bit_at_set_same w64 (slice_index marks (i / 64)) (i % 64) low)

pub set_other : (marks : List ℕ) (i j : ℕ) → i < 64 * length marks → j ≢ i → is_marked (set marks (i / 64) (bit_or (slice_index marks (i / 64)) (1 * 2 ^ (i % 64) % 18446744073709551616))) j ≡ is_marked marks j
unfolding is_marked
set_other marks i j within other =
    let word = bit_or (slice_index marks (i / 64)) (1 * 2 ^ (i % 64) % 18446744073709551616) in
    let here : i / 64 < length marks = omega arith in
    let low : i % 64 < 64 = omega arith in
    elim (cases_eq (j / 64) (i / 64)) [
      | inl same ↦
          let apart : j % 64 ≢ i % 64 = λ e. other (omega arith) in
          ap (λ n. bit_at (slice_index (set marks (i / 64) word) n) (j % 64) == 1) same
          ∙ ap (λ n. bit_at n (j % 64) == 1) (get_or-set_same marks (i / 64) word 0 here)
          ∙ ap (λ n. n == 1) (bit_at_set_other w64 (slice_index marks (i / 64)) (i % 64) low (j % 64) apart)
          ∙ ap (λ n. bit_at (slice_index marks n) (j % 64) == 1) (sym same)
      | inr apart ↦ ap (λ n. bit_at n (j % 64) == 1) (get_or-set_other marks (i / 64) (j / 64) word 0 apart)
    ]

none_at : (n k : ℕ) → slice_index (replicate n 0) k ≡ 0
none_at zero k = refl
none_at (suc n) zero = refl
none_at (suc n) (suc k) = none_at n k

pub none_marked : (n i : ℕ) → is_marked (replicate n 0) i ≡ false
unfolding is_marked
none_marked n i = ap (λ w. bit_at w (i % 64) == 1) (none_at n (i / 64)) ∙ ap (λ w. w == 1) (bit_at-zero (i % 64))
