-- The first place of a byte, and what stands before and behind it.
use Rattle.std.proofs.Common.{◌≡◌, ℕ, suc, ◌+◌, ◌-◌, ◌≤◌, List, [], ◌∷◌, length, take, Bool, true, false, not, ◌||◌, cond, nat_lt, None, Some, refl, sym, ap, ◌∙◌, arith, length-drop}
use Rattle.std.specs.List.{list_any, position, position_or_len, before_first, after_first}
use Rattle.std.proofs.lemmas.Bool.Decides.{nat_tests}
use Rattle.std.proofs.lemmas.List.{take_all}
use Rattle.std.proofs.lemmas.List.Sums.{prefix_len-le-length}

step : (b r : Bool) (k n : ℕ) → r ≡ nat_lt k n → (b || r) ≡ nat_lt (cond (not b) (1 + k) 0) (suc n)
step true r k n e = grind (arith, nat_tests)
step false r k n e = e ∙ grind (arith, nat_tests)

any_place : (p : ℕ → Bool) (xs : List ℕ) → list_any p xs ≡ nat_lt (position_or_len p xs) (length xs)
any_place p [] = refl
any_place p (x ∷ xs) = step (p x) (list_any p xs) (position_or_len p xs) (length xs) (any_place p xs)

found_by : (b : Bool) (k i : ℕ) → Some i ≡ cond b (Some k) None → (k ≡ i) × (b ≡ true)
found_by true k i e = (cc, refl)
found_by false k i e = cc

missed_by : (b : Bool) (k : ℕ) → None ≡ cond b (Some k) None → b ≡ false
missed_by true k e = cc
missed_by false k e = refl

pub place : (p : ℕ → Bool) (xs : List ℕ) (i : ℕ) → Some i ≡ position p xs → position_or_len p xs ≡ i
place p xs i e = (found_by (nat_lt (position_or_len p xs) (length xs)) (position_or_len p xs) i e).0

pub there : (p : ℕ → Bool) (xs : List ℕ) (i : ℕ) → Some i ≡ position p xs → list_any p xs ≡ true
there p xs i e = any_place p xs ∙ (found_by (nat_lt (position_or_len p xs) (length xs)) (position_or_len p xs) i e).1

pub nowhere : (p : ℕ → Bool) (xs : List ℕ) → None ≡ position p xs → list_any p xs ≡ false
nowhere p xs e = any_place p xs ∙ missed_by (nat_lt (position_or_len p xs) (length xs)) (position_or_len p xs) e

no_place : (k n : ℕ) → nat_lt k n ≡ false → k ≤ n → k ≡ n
no_place k n e h = grind (arith, nat_tests)

past : (p : ℕ → Bool) (xs : List ℕ) → None ≡ position p xs → position_or_len p xs ≡ length xs
past p xs e = no_place (position_or_len p xs) (length xs) (missed_by (nat_lt (position_or_len p xs) (length xs)) (position_or_len p xs) e) (prefix_len-le-length (λ x. not (p x)) xs)

pub before_none : (p : ℕ → Bool) (xs : List ℕ) → None ≡ position p xs → xs ≡ before_first p xs
before_none p xs e = sym (ap (λ n. take n xs) (past p xs e) ∙ take_all (length xs) xs (omega arith))

pub behind_none : (p : ℕ → Bool) (xs : List ℕ) → None ≡ position p xs → 0 ≡ length (after_first p xs)
behind_none p xs e = omega (arith, length-drop (position_or_len p xs + 1) xs, past p xs e)

pub behind_some : (p : ℕ → Bool) (xs : List ℕ) (i : ℕ) → Some i ≡ position p xs → length xs - i - 1 ≡ length (after_first p xs)
behind_some p xs i e = omega (arith, length-drop (position_or_len p xs + 1) xs, place p xs i e)
