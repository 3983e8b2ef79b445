-- Two texts whose differences are gathered byte by byte.
use Rattle.std.proofs.Common.{◌≡◌, ℕ, ◌+◌, ◌<◌, List, length, take, get_or, bit_or, bit_xor, nat_eq, sym, ◌∙◌, ap, arith}
use Rattle.std.specs.Bool.{one_answer}
use Rattle.std.specs.Cmp.{unsigned_Decides}
use Rattle.std.specs.Int.Bits.{xor_add_and, xor_self}
use Rattle.std.specs.Str.{bytes_eq}
use Rattle.std.proofs.lemmas.List.{get_or-take, take-take, take_all, take_more_same}
use Rattle.std.proofs.lemmas.Nat.{and_le_l, and_le_r, le_or_l, le_or_r}
use Rattle.std.proofs.lemmas.Slice.Eq.{bytes_eq-Decides}

same_byte : (a b : ℕ) → bit_xor a b ≡ 0 → a ≡ b
same_byte a b e = omega (arith, e, xor_add_and a b, and_le_l a b, and_le_r a b)

nothing_differs : (a b : ℕ) → a ≡ b → bit_xor a b ≡ 0
nothing_differs a b e = ap (λ x. bit_xor x b) e ∙ xor_self b

-- nothing differs so far
abbrev pub Tells : ℕ → ℕ → List ℕ → List ℕ → Type 0
Tells differing i xs ys = (differing ≡ 0 → take i xs ≡ take i ys) × (take i xs ≡ take i ys → differing ≡ 0)

pub one_more : (differing i : ℕ) (xs ys : List ℕ) → i < length xs → i < length ys → Tells differing i xs ys → Tells (bit_or differing (bit_xor (get_or xs i 0) (get_or ys i 0))) (i + 1) xs ys
one_more differing i xs ys x y so_far =
    let a = get_or xs i 0 in
    let b = get_or ys i 0 in (
      λ e. take_more_same xs ys i 0 x y (so_far.0 (omega (arith, e, le_or_l differing (bit_xor a b)))) (same_byte a b (omega (arith, e, le_or_r differing (bit_xor a b)))),
      λ e.
          let front : take i xs ≡ take i ys = sym (take-take i (i + 1) xs (omega arith)) ∙ ap (take i) e ∙ take-take i (i + 1) ys (omega arith) in
          let last : a ≡ b = sym (get_or-take (i + 1) xs i 0 (omega arith)) ∙ ap (λ l. get_or l i 0) e ∙ get_or-take (i + 1) ys i 0 (omega arith) in
          rw (so_far.1 front) (nothing_differs a b last),
    )

pub all_told : (differing i : ℕ) (xs ys : List ℕ) → length xs ≡ i → length ys ≡ i → Tells differing i xs ys → nat_eq differing 0 ≡ bytes_eq xs ys
all_told differing i xs ys x y tells =
    let all : (l : List ℕ) → length l ≡ i → take i l ≡ l = λ l e. take_all i l (omega (arith, e)) in
    one_answer (nat_eq differing 0) (bytes_eq xs ys) (
      λ e. sym (all xs x) ∙ tells.0 ((unsigned_Decides differing 0).0 e) ∙ all ys y,
      λ e. (unsigned_Decides differing 0).1 (tells.1 (ap (take i) e)),
    ) (bytes_eq-Decides xs ys)
