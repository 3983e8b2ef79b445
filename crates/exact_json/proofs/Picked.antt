-- A lane that is picked by a test, and the lanes before the first that is special.
use Rattle.std.proofs.Common.{◌≡◌, ℕ, zero, suc, ◌+◌, ◌==◌, List, [], ◌∷◌, Bool, cond, not, nat_lt, length, map, replicate, refl, ap, ◌∙◌, arith}
use Rattle.std.specs.List.{prefix_len}
use Rattle.std.specs.Simd.Lanes.{sel_l}
use Rattle.std.proofs.lemmas.Bool.Decides.{nat_tests}
use Rattle.exact_json.specs.Strings.{is_plain}

pub sel_left : (q : ℕ → Bool) (d : ℕ) (xs : List ℕ) (n : ℕ) → length xs ≡ n → sel_l (map q xs) (replicate n d) xs ≡ map (λ x. cond (q x) d x) xs
sel_left q d [] n e = refl
sel_left q d (x ∷ xs) zero e = absurd (omega (arith, e))
sel_left q d (x ∷ xs) (suc n) e = ap (λ l. cond (q x) d x ∷ l) (sel_left q d xs n (omega (arith, e)))

pub sel_right : (q : ℕ → Bool) (d : ℕ) (xs : List ℕ) (n : ℕ) → length xs ≡ n → sel_l (map q xs) xs (replicate n d) ≡ map (λ x. cond (q x) x d) xs
sel_right q d [] n e = refl
sel_right q d (x ∷ xs) zero e = absurd (omega (arith, e))
sel_right q d (x ∷ xs) (suc n) e = ap (λ l. cond (q x) x d ∷ l) (sel_right q d xs n (omega (arith, e)))

abbrev pub without : ℕ → ℕ → ℕ
without byte x = cond (x == byte) 0 x

abbrev pub ascii : ℕ → ℕ
ascii x = cond (nat_lt x 128) x 0

special : (x : ℕ) → not (nat_lt (ascii (without 92 (without 34 x))) 32) ≡ is_plain x
special x = grind (arith, nat_tests)

pub plain_lanes : (xs : List ℕ) → prefix_len (λ x. not (nat_lt x 32)) (map ascii (map (without 92) (map (without 34) xs))) ≡ prefix_len is_plain xs
plain_lanes [] = refl
plain_lanes (x ∷ xs) =
    ap (λ n. cond (not (nat_lt (ascii (without 92 (without 34 x))) 32)) (1 + n) 0) (plain_lanes xs) ∙ ap (λ b. cond b (1 + prefix_len is_plain xs) 0) (special x)
