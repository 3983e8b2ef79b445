-- Campaigns, one more at a time.
use Rattle.std.proofs.Common.{◌≡◌, ℕ, zero, suc, ◌+◌, ◌*◌, ◌≤◌, ◌<◌, List, [], ◌∷◌, ◌++◌, length, take, drop, get_or, All, refl, sym, ◌∙◌, ap, subst, arith}
use Rattle.std.specs.List.{AllPairs}
use Rattle.std.proofs.lemmas.List.Kept.{AllPairs-from_increasing}
use Rattle.std.proofs.lemmas.List.{take_more, take-append-drop, length-append, append-nil, map-append}
use Rattle.std.proofs.lemmas.List.Concat.{flat_map-append}
use Rattle.target_expr.specs.declared.pred.Pred.{Pred}
use Rattle.conj_index.specs.Campaigns.{Campaigns, DoRise, conjunctions_in, expression_of, numbers_of}

-- ---- campaigns that are added in turn

pub fewer : (xs : Campaigns) (i : ℕ) (d : ℕ × List (List Pred)) → i < length xs → conjunctions_in xs ≤ 1000000 → d ≡ get_or xs i d → conjunctions_in (take i xs ++ d ∷ []) ≤ 1000000
fewer xs i d h few at =
    let cut = ap length (sym (ap expression_of (take-append-drop (i + 1) xs)) ∙ flat_map-append (λ (p : ℕ × List (List Pred)). p.1) (take (i + 1) xs) (drop (i + 1) xs))
    ∙ length-append (expression_of (take (i + 1) xs)) (expression_of (drop (i + 1) xs)) in
    let same : take (i + 1) xs ≡ take i xs ++ d ∷ [] = take_more xs i d h ∙ ap (λ p. take i xs ++ p ∷ []) (sym at) in
    let le : conjunctions_in (take (i + 1) xs) ≤ 1000000 = omega (arith, cut, few) in
    subst (λ (l : Campaigns). conjunctions_in l ≤ 1000000) same le

number_at : (xs : Campaigns) (k e : ℕ) (d : ℕ × List (List Pred)) → k < length xs → get_or (numbers_of xs) k e ≡ (get_or xs k d).0
number_at [] k e d h = absurd (omega (arith, h))
number_at (x ∷ xs) zero e d h = refl
number_at (x ∷ xs) (suc k) e d h = number_at xs k e d (omega (arith, h))

get_or-cut : (xs : Campaigns) (i k : ℕ) (e : ℕ × List (List Pred)) → k < i → get_or (take i xs) k e ≡ get_or xs k e
get_or-cut [] zero k e h = refl
get_or-cut [] (suc i) k e h = refl
get_or-cut (x ∷ xs) zero k e h = absurd (omega (arith, h))
get_or-cut (x ∷ xs) (suc i) zero e h = refl
get_or-cut (x ∷ xs) (suc i) (suc k) e h = get_or-cut xs i k e (omega (arith, h))

short : (xs : Campaigns) (i : ℕ) → length (take i xs) ≤ i
short [] zero = omega arith
short [] (suc i) = omega arith
short (x ∷ xs) zero = omega arith
short (x ∷ xs) (suc i) = omega (arith, short xs i)

numbers_length : (xs : Campaigns) → length (numbers_of xs) ≡ length xs
numbers_length [] = refl
numbers_length (x ∷ xs) = omega (arith, numbers_length xs)

pub above : (xs : Campaigns) (i : ℕ) (d : ℕ × List (List Pred)) → i < length xs → DoRise xs → d ≡ get_or xs i d → All (λ (p : ℕ × List (List Pred)). p.0 < d.0) (take i xs)
above xs i d h rising at = λ k e lt.
    let before : k < i = omega (arith, lt, short xs i) in
    let pairs : AllPairs (λ (m n : ℕ). m < n) (numbers_of xs) = AllPairs-from_increasing (numbers_of xs) rising in
    let ordered : get_or (numbers_of xs) k 0 < get_or (numbers_of xs) i 0 = pairs k i 0 before (omega (arith, h, numbers_length xs)) in
    let first : get_or (numbers_of xs) k 0 ≡ (get_or xs k e).0 = number_at xs k 0 e (omega (arith, before, h)) in
    let later : get_or (numbers_of xs) i 0 ≡ (get_or xs i d).0 = number_at xs i 0 d h in
    let cut : (get_or (take i xs) k e).0 ≡ (get_or xs k e).0 = ap (λ (p : ℕ × List (List Pred)). p.0) (get_or-cut xs i k e before) in
    let own : d.0 ≡ (get_or xs i d).0 = ap (λ (p : ℕ × List (List Pred)). p.0) at in
    omega (arith, ordered, first, later, cut, own)

-- ---- campaigns that are numbered from 1 on

abbrev pub CountUp : ℕ → List ℕ → Type 0
CountUp m [] = Unit {0}
CountUp m (x ∷ xs) = (x ≡ m) × CountUp (m + 1) xs

count_push : (m n : ℕ) (xs : List ℕ) → CountUp m xs → n ≡ m + length xs → CountUp m (xs ++ n ∷ [])
count_push m n [] h e = (omega (arith, e), tt)
count_push m n (x ∷ xs) h e = (h.0, count_push (m + 1) n xs h.1 (omega (arith, e)))

count_at : (m : ℕ) (xs : List ℕ) (k : ℕ) → CountUp m xs → k < length xs → get_or xs k 0 ≡ m + k
count_at m [] k h lt = absurd (omega (arith, lt))
count_at m (x ∷ xs) zero h lt = omega (arith, h.0)
count_at m (x ∷ xs) (suc k) h lt = omega (arith, count_at (m + 1) xs k h.1 (omega (arith, lt)))

pub number_more : (xs : Campaigns) (n : ℕ) (e : List (List Pred)) → CountUp 1 (numbers_of xs) → n ≡ length xs + 1 → CountUp 1 (numbers_of (xs ++ (n, e) ∷ []))
number_more xs n e h is =
    let same : numbers_of (xs ++ (n, e) ∷ []) ≡ numbers_of xs ++ n ∷ [] = map-append (λ (p : ℕ × List (List Pred)). p.0) xs ((n, e) ∷ []) in
    subst (CountUp 1) (sym same) (count_push 1 n (numbers_of xs) h (omega (arith, is, numbers_length xs)))

pub numbers_rise : (xs : Campaigns) → CountUp 1 (numbers_of xs) → DoRise xs
numbers_rise xs h k lt = omega (arith, count_at 1 (numbers_of xs) k h (omega (arith, lt)), count_at 1 (numbers_of xs) (k + 1) h lt)

pub few_more : (xs : Campaigns) (n i : ℕ) (e : List (List Pred)) → conjunctions_in xs ≤ 3 * i → length e ≤ 3 → conjunctions_in (xs ++ (n, e) ∷ []) ≤ 3 * (i + 1)
few_more xs n i e h few =
    let same = ap length (flat_map-append (λ (p : ℕ × List (List Pred)). p.1) xs ((n, e) ∷ []) ∙ ap (λ l. expression_of xs ++ l) (append-nil e)) ∙ length-append (expression_of xs) e in
    omega (arith, same, h, few)
