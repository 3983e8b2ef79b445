-- The digits behind the point, one by one.
use Rattle.std.proofs.Common.{◌≡◌, ℕ, zero, suc, ◌+◌, ◌-◌, ◌/◌, ◌%◌, ◌^◌, ◌<◌, List, [], ◌∷◌, ◌++◌, cond, arith, sym, ◌∙◌, ap, refl, append_assoc}
use Rattle.std.proofs.lemmas.Bool.{ne_eqb}
use Rattle.std.proofs.Math.Nat.{pow-suc, div-lt_iff_lt-mul}
use Rattle.rtb_num.proofs.Numbers.{pow_ten_pos}
use Rattle.rtb_num.specs.Amounts.{fraction_digits}

pub no_more : (k : ℕ) → fraction_digits k 0 ≡ []
unfolding fraction_digits
no_more zero = refl
no_more (suc k) = refl

pub more_at : (k r : ℕ) → 0 < r → fraction_digits (suc k) r ≡ (48 + r / 10 ^ k) ∷ fraction_digits k (r % 10 ^ k)
unfolding fraction_digits
more_at k r h = ap (λ b. cond b [] ((48 + r / 10 ^ k) ∷ fraction_digits k (r % 10 ^ k))) (ne_eqb r 0 (λ z. omega (arith, z)))

pub one_more : (k r : ℕ) → 0 < r → r < 10 ^ k → fraction_digits k r ≡ (48 + r / 10 ^ (k - 1)) ∷ fraction_digits (k - 1) (r % 10 ^ (k - 1))
one_more zero r h g = absurd (omega arith)
one_more (suc k) r h g = let e : suc k - 1 ≡ k = omega arith in rw e (more_at k r h)

-- it is a digit
pub digit_at : (k r : ℕ) → r < 10 ^ suc k → r / 10 ^ k < 10
digit_at k r g = (div-lt_iff_lt-mul (pow_ten_pos k)).1 (omega (arith, g, pow-suc 10 k))

pub digit_lt : (k r : ℕ) → 0 < r → r < 10 ^ k → r / 10 ^ (k - 1) < 10
digit_lt zero r h g = absurd (omega arith)
digit_lt (suc k) r h g = let e : suc k - 1 ≡ k = omega arith in rw e (digit_at k r g)

-- the loop's step
pub digit_moved : (out new all : List ℕ) (k r u : ℕ) → 0 < r → r < 10 ^ k → u ≡ 10 ^ (k - 1) → new ≡ out ++ (48 + r / u) ∷ [] → out ++ fraction_digits k r ≡ all → new ++ fraction_digits (k - 1) (r % u) ≡ all
digit_moved out new all k r u h g e moved before =
    let rest : ℕ → List ℕ = λ v. fraction_digits (k - 1) (r % v) in
    ap (λ s. s ++ rest u) moved
    ∙ append_assoc out ((48 + r / u) ∷ []) (rest u)
    ∙ ap (λ v. out ++ (48 + r / v) ∷ rest v) e
    ∙ ap (λ s. out ++ s) (sym (one_more k r h g))
    ∙ before
