-- A lane that is picked by a test, and the lanes before the first that does not stand as it is.
use Rattle.std.proofs.Common.{◌≡◌, ℕ, zero, suc, ◌+◌, ◌==◌, ◌≤◌, List, [], ◌∷◌, ◌++◌, Bool, true, false, cond, not, nat_lt, length, map, replicate, take, drop, refl, subst, sym, ap, ◌∙◌, arith}
use Rattle.std.specs.List.{flat_map, prefix_len}
use Rattle.std.specs.Simd.Lanes.{sel_l}
use Rattle.std.proofs.lemmas.Bool.Decides.{nat_tests}
use Rattle.std.proofs.lemmas.List.{length-map, length-take-le, take-take, take_all}
use Rattle.std.proofs.lemmas.List.Concat.{flat_map-append}
use Rattle.std.proofs.lemmas.List.Sums.{prefix_len-le-length}
use Rattle.std.proofs.Math.Seq.{take-add}
use Rattle.json_out.specs.Strings.{escape}

pub sel_left : (q : ℕ → Bool) (d : ℕ) (xs : List ℕ) (n : ℕ) → length xs ≡ n → sel_l (map q xs) (replicate n d) xs ≡ map (λ x. cond (q x) d x) xs
sel_left q d [] n e = refl
sel_left q d (x ∷ xs) zero e = absurd (omega (arith, e))
sel_left q d (x ∷ xs) (suc n) e = ap (λ l. cond (q x) d x ∷ l) (sel_left q d xs n (omega (arith, e)))

abbrev pub without : ℕ → ℕ → ℕ
without byte x = cond (x == byte) 0 x

-- a lane that is not below 32
abbrev pub stays : ℕ → Bool
stays x = not (nat_lt x 32)

lane_as_it_is : (x : ℕ) → stays (without 92 (without 34 x)) ≡ true → escape x ≡ x ∷ []
lane_as_it_is x e = grind (arith, nat_tests)

one_more : (n : ℕ) → 1 + n ≡ suc n
one_more n = omega arith

by_first : (x : ℕ) (xs : List ℕ) (b : Bool) (n : ℕ) → stays (without 92 (without 34 x)) ≡ b → flat_map escape (take n xs) ≡ take n xs → flat_map escape (take (cond b (1 + n) 0) (x ∷ xs)) ≡ take (cond b (1 + n) 0) (x ∷ xs)
by_first x xs true n e before =
    let more : take (1 + n) (x ∷ xs) ≡ x ∷ take n xs = ap (λ k. take k (x ∷ xs)) (one_more n) in
    ap (flat_map escape) more ∙ ap (λ l. l ++ flat_map escape (take n xs)) (lane_as_it_is x e) ∙ ap (λ l. x ∷ l) before ∙ sym more
by_first x xs false n e before = refl

-- those before the first lane below 32 stand as they are
pub plain_lanes : (xs : List ℕ) → let n = prefix_len stays (map (without 92) (map (without 34) xs)) in flat_map escape (take n xs) ≡ take n xs
plain_lanes [] = refl
plain_lanes (x ∷ xs) = by_first x xs (stays (without 92 (without 34 x))) (prefix_len stays (map (without 92) (map (without 34) xs))) refl (plain_lanes xs)

-- of the first 16 bytes of more
pub plain_of_16 : (xs : List ℕ) (n : ℕ) → n ≤ 16 → n ≡ prefix_len stays (map (without 92) (map (without 34) (take 16 xs))) → flat_map escape (take n xs) ≡ take n xs
plain_of_16 xs n h e =
    let same = take-take n 16 xs h in
    let counted = plain_lanes (take 16 xs) in
    ap (flat_map escape) (sym same) ∙ ap (λ k. flat_map escape (take k (take 16 xs))) e ∙ counted ∙ ap (λ k. take k (take 16 xs)) (sym e) ∙ same

pub at_most_16 : (xs : List ℕ) → 16 ≤ length xs → prefix_len stays (map (without 92) (map (without 34) (take 16 xs))) ≤ 16
at_most_16 xs h =
    let lanes = map (without 34) (take 16 xs) in
    omega (arith, prefix_len-le-length stays (map (without 92) lanes), length-map lanes (without 92), length-map (take 16 xs) (without 34), length-take-le 16 xs h)

-- a run behind a run
pub plain_then : (s r : List ℕ) (n m : ℕ) → r ≡ drop n s → flat_map escape (take n s) ≡ take n s → flat_map escape (take m r) ≡ take m r → flat_map escape (take (n + m) s) ≡ take (n + m) s
plain_then s r n m behind first second =
    let split : take (n + m) s ≡ take n s ++ take m (drop n s) = take-add n m s in
    let next : flat_map escape (take m (drop n s)) ≡ take m (drop n s) = subst (λ l. flat_map escape (take m l) ≡ take m l) behind second in
    ap (flat_map escape) split ∙ flat_map-append escape (take n s) (take m (drop n s)) ∙ ap (λ l. l ++ flat_map escape (take m (drop n s))) first ∙ ap (λ l. take n s ++ l) next ∙ sym split

-- a run that is all
pub all_plain : (s : List ℕ) (n : ℕ) → n ≡ length s → flat_map escape (take n s) ≡ take n s → flat_map escape s ≡ s
all_plain s n e run =
    let all : take n s ≡ s = take_all n s (omega (arith, e)) in
    ap (flat_map escape) (sym all) ∙ run ∙ all
