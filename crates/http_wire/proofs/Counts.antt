-- How many lines a head has at most, by how many bytes it has.
use Rattle.std.proofs.Common.{◌≡◌, ℕ, ◌+◌, ◌≤◌, ◌==◌, ◌&&◌, inl, inr, nat_lt, Bool, true, false, cond, List, [], ◌∷◌, length, Some, refl, sym, ap, ◌∙◌, arith}
use Rattle.std.proofs.lemmas.Bool.{cases_Bool}
use Rattle.std.proofs.lemmas.Bool.Decides.{nat_tests}
use Rattle.std.proofs.lemmas.List.Sums.{count_by-le-length, sum_by-cons}
use Rattle.http_wire.specs.Heads.{begins_lf, empty_line, head_end, lines_in}
use Rattle.http_wire.proofs.Cuts.{split_end}

line_two : (s : List ℕ) → empty_line s ≤ 2
unfolding empty_line
line_two [] = omega arith
line_two (b ∷ s) = two (b == 10) ((b == 13) && begins_lf s)
  where
    two : (t u : Bool) → cond t 1 (cond u 2 0) ≤ 2
    two true u = omega arith
    two false true = omega arith
    two false false = omega arith

with_lf : (b : ℕ) (s : List ℕ) → (b == 10) ≡ true → lines_in (b ∷ s) ≡ 1 + lines_in s
with_lf b s e = sum_by-cons (λ c. cond (c == 10) 1 0) b s ∙ ap (λ t. cond t 1 0 + lines_in s) e

without_lf : (b : ℕ) (s : List ℕ) → (b == 10) ≡ false → lines_in (b ∷ s) ≡ lines_in s
without_lf b s e =
    let all : lines_in (b ∷ s) ≡ 0 + lines_in s = sum_by-cons (λ c. cond (c == 10) 1 0) b s ∙ ap (λ t. cond t 1 0 + lines_in s) e in
    omega (arith, all)

no_lf : (b : ℕ) (s : List ℕ) → empty_line (b ∷ s) ≡ 0 → (b == 10) ≡ true → ⊥
unfolding empty_line
no_lf b s none e = let one : cond true 1 (cond ((b == 13) && begins_lf s) 2 0) ≡ 0 = rw e at none in omega (arith, one)

no_line : (b : ℕ) (n : ℕ) → (b == 10) ≡ true → ((b == 10) && nat_lt 0 n) ≡ false → n ≡ 0
no_line b n e h = let less : nat_lt 0 n ≡ false = rw e at h in grind (arith, nat_tests)

-- The last line may have one byte, and so may one that is cut; each of the others has two at least.
two_each : (s : List ℕ) → head_end s ≡ Some (length s)
    → (lines_in s + lines_in s ≤ length s + 3) × (empty_line s ≡ 0 → lines_in s + lines_in s ≤ length s + 2)
unfolding head_end
two_each [] e = cc
two_each (b ∷ s) e =
    elim (split_end b s (length (b ∷ s)) e) [
      | inl here ↦ (
          let few = count_by-le-length (λ c. c == 10) (b ∷ s) in
          (omega (arith, few, here.1, line_two s), λ none. absurd (no_lf b s none (first (b == 10) _ here.0))))
      | inr later ↦ (
          let (k, ends, next) = later.1 in
          let same : k ≡ length s = omega (arith, next) in
          let more = two_each s (ends ∙ ap Some same) in
          elim (cases_Bool (b == 10)) [
            | inl lf ↦ (omega (arith, with_lf b s lf, more.1 (no_line b (empty_line s) lf later.0)), λ none. absurd (no_lf b s none lf))
            | inr other ↦ (omega (arith, without_lf b s other, more.0), λ none. omega (arith, without_lf b s other, more.0))
          ])
    ]
  where
    first : (t u : Bool) → (t && u) ≡ true → t ≡ true
    first true u h = refl
    first false u h = h

pub few_lines : (s : List ℕ) (n : ℕ) → head_end s ≡ Some (length s) → length s + 3 ≤ n + n + 1 → lines_in s ≤ n
few_lines s n e short = let more = two_each s e in omega (arith, more.0, short)

pub not_many : (s : List ℕ) → head_end s ≡ Some (length s) → length s ≤ 130 → nat_lt 130 (length s) ≡ nat_lt 66 (lines_in s)
not_many s e short =
    let few : lines_in s ≤ 66 = few_lines s 66 e (omega (arith, short)) in
    let left : nat_lt 130 (length s) ≡ false = grind (arith, nat_tests) in
    let right : nat_lt 66 (lines_in s) ≡ false = grind (arith, nat_tests) in
    left ∙ sym right
