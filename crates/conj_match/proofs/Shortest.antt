-- The lengths of lists, and which of the two bounds of a match is the smaller.
use Rattle.std.proofs.Common.{◌≡◌, ℕ, zero, suc, ◌+◌, ◌*◌, ◌^◌, ◌<◌, ◌≤◌, ◌==◌, max, min, inl, inr, List, [], ◌∷◌, ◌++◌, cond, Contains, get_or, length, refl, sym, ◌∙◌, ap, subst, arith, sum_by}
use Rattle.std.proofs.lemmas.Nat.{mul-le}
use Rattle.std.proofs.lemmas.Bool.{cases_eq, cases_lt, lt-leb}
use Rattle.std.proofs.lemmas.List.{get_or-map}
use Rattle.postings.specs.declared.entry.Entry.{Entry}
use Rattle.conj_match.specs.Matching.{cost_of, digits, lists_at, longest, reading_cost, shortest, skipping_cost}
use Rattle.conj_match.proofs.Marks.{other_is, same_is}

pub longest_more : (lists more : List (List Entry)) (es : List Entry) → more ≡ lists ++ es ∷ [] → longest more ≡ max (longest lists) (length es)
longest_more lists more es is = ap longest is ∙ pushed lists es
  where
    pushed : (ls : List (List Entry)) (es : List Entry) → longest (ls ++ es ∷ []) ≡ max (longest ls) (length es)
    pushed [] es = omega arith
    pushed (l ∷ ls) es = omega (arith, pushed ls es)

-- no list is longer than the longest
pub longest_at : (lists : List (List Entry)) (j : ℕ) → j < length lists → length (get_or lists j []) ≤ longest lists
longest_at [] j h = absurd (omega arith)
longest_at (es ∷ lists) zero h = omega arith
longest_at (es ∷ lists) (suc j) h =
    let rest = longest_at lists j (omega arith) in
    omega arith

shortest_at : (es : List Entry) (lists : List (List Entry)) (j : ℕ) → j < length (es ∷ lists) → shortest (es ∷ lists) ≤ length (get_or (es ∷ lists) j [])
shortest_at es [] zero h = omega arith
shortest_at es [] (suc j) h = absurd (omega arith)
shortest_at es (other ∷ lists) zero h = omega arith
shortest_at es (other ∷ lists) (suc j) h =
    let rest = shortest_at other lists j (omega arith) in
    omega arith

shortest_has : (n : ℕ) (es : List Entry) (lists : List (List Entry)) → ((j : ℕ) → j < length (es ∷ lists) → n ≤ length (get_or (es ∷ lists) j [])) → n ≤ shortest (es ∷ lists)
shortest_has n es [] all = all 0 (omega arith)
shortest_has n es (other ∷ lists) all =
    let here = all 0 (omega arith) in
    let rest = shortest_has n other lists (λ j h. all (suc j) (omega arith)) in
    omega arith

-- a list that is no longer than any is a shortest
pub shortest_is : (lists : List (List Entry)) (es : List Entry) → Contains lists es → ((j : ℕ) → j < length lists → length es ≤ length (get_or lists j [])) → length es ≡ shortest lists
shortest_is [] es (i, within, is) all = absurd (omega arith)
shortest_is (l ∷ lists) es (i, within, is) all =
    let low : shortest (l ∷ lists) ≤ length (get_or (l ∷ lists) i []) = shortest_at l lists i within in
    let same : length (get_or (l ∷ lists) i []) ≡ length es = ap (length {A = Entry}) (default (l ∷ lists) i within ∙ is) in
    let high = shortest_has (length es) l lists all in
    omega arith
  where
    default : (ls : List (List Entry)) (i : ℕ) → i < length ls → get_or ls i [] ≡ get_or ls i es
    default [] i h = absurd (omega arith)
    default (x ∷ ls) zero h = refl
    default (x ∷ ls) (suc i) h = default ls i (omega arith)

-- the list at a chosen place is one of the chosen lists
pub chosen_at : (lists : List (List Entry)) (chosen : List ℕ) (j : ℕ) → j < length chosen → get_or (lists_at lists chosen) j [] ≡ get_or lists (get_or chosen j 0) []
chosen_at lists chosen j h = get_or-map (λ n. get_or lists n []) chosen j 0 [] h

pub chosen_has : (lists : List (List Entry)) (chosen : List ℕ) (j n : ℕ) → j < length chosen → get_or chosen j 0 ≡ n → Contains (lists_at lists chosen) (get_or lists n [])
chosen_has lists [] j n h is = absurd (omega arith)
chosen_has lists (m ∷ chosen) zero n h is = (0, omega arith, ap (λ x. get_or lists x []) is)
chosen_has lists (m ∷ chosen) (suc j) n h is =
    let (i, within, same) = chosen_has lists chosen j n (omega arith) is in
    (suc i, omega arith, same)

-- what a loop over the chosen places knows of the shortest so far, `best`, with one place more
pub best_kept : (lists : List (List Entry)) (chosen : List ℕ) (i best place : ℕ) → i < length chosen → place ≡ get_or chosen i 0 → length (get_or lists best []) ≤ length (get_or lists place [])
    → ((j : ℕ) → j < i → length (get_or lists best []) ≤ length (get_or (lists_at lists chosen) j [])) → (j : ℕ) → j < i + 1 → length (get_or lists best []) ≤ length (get_or (lists_at lists chosen) j [])
best_kept lists chosen i best place within is less before j h =
    elim (cases_lt j i) [
      | inl lt ↦ before j lt
      | inr ge ↦
          let same : j ≡ i = omega arith in
          let at : length (get_or (lists_at lists chosen) j []) ≡ length (get_or lists place []) = ap (λ k. length (get_or (lists_at lists chosen) k [])) same ∙ ap (length {A = Entry}) (chosen_at lists chosen i within) ∙ ap (λ k. length (get_or lists k [])) (sym is) in
          omega arith
    ]

pub best_new : (lists : List (List Entry)) (chosen : List ℕ) (i best place : ℕ) → i < length chosen → place ≡ get_or chosen i 0 → length (get_or lists place []) < length (get_or lists best [])
    → ((j : ℕ) → j < i → length (get_or lists best []) ≤ length (get_or (lists_at lists chosen) j [])) → (j : ℕ) → j < i + 1 → length (get_or lists place []) ≤ length (get_or (lists_at lists chosen) j [])
best_new lists chosen i best place within is less before =
    best_kept lists chosen i place place within is (omega arith) (λ j h. let old = before j h in omega arith)

-- the bounds
lesser : (a b : ℕ) → a ≤ b → min a b ≡ a
lesser a b h = omega arith

greater : (a b : ℕ) → b ≤ a → min a b ≡ b
greater a b h = omega arith

pub cost_reading : (lists : List (List Entry)) (k : ℕ) → k ≤ length lists → (length lists ≡ k → reading_cost lists ≤ skipping_cost lists k) → cost_of lists k ≡ reading_cost lists
cost_reading lists k enough smaller =
    ap (λ b. cond b 0 (cond (length lists == k) (min (reading_cost lists) (skipping_cost lists k)) (reading_cost lists))) (lt-leb (suc (length lists)) k (omega arith))
    ∙ elim (cases_eq (length lists) k) [
      | inl same ↦
          ap (λ b. cond b (min (reading_cost lists) (skipping_cost lists k)) (reading_cost lists)) (same_is (length lists) k same)
          ∙ lesser (reading_cost lists) (skipping_cost lists k) (smaller same)
      | inr other ↦ ap (λ b. cond b (min (reading_cost lists) (skipping_cost lists k)) (reading_cost lists)) (other_is (length lists) k other)
    ]

pub cost_skipping : (lists : List (List Entry)) (k : ℕ) → length lists ≡ k → skipping_cost lists k ≤ reading_cost lists → cost_of lists k ≡ skipping_cost lists k
cost_skipping lists k many smaller =
    ap (λ b. cond b 0 (cond (length lists == k) (min (reading_cost lists) (skipping_cost lists k)) (reading_cost lists))) (lt-leb (suc (length lists)) k (omega arith))
    ∙ ap (λ b. cond b (min (reading_cost lists) (skipping_cost lists k)) (reading_cost lists)) (same_is (length lists) k many)
    ∙ greater (reading_cost lists) (skipping_cost lists k) smaller

-- the smaller bound by half of it, as the code computes it
pub skips_less : (lists : List (List Entry)) (k s : ℕ) → s ≡ shortest lists → k * (s + 1) * (2 * digits (longest lists) + 2) < sum_by length lists → skipping_cost lists k ≤ reading_cost lists
skips_less lists k s is less = subst (λ n. length lists + 2 * k * (n + 1) * (2 * digits (longest lists) + 2) ≤ reading_cost lists) is (half k (s + 1) (2 * digits (longest lists) + 2) (sum_by length lists) (length lists) less)
  where
    half : (k n x e l : ℕ) → k * n * x < e → l + 2 * k * n * x ≤ 2 * e + l
    half k n x e l h = omega arith

pub reads_less : (lists : List (List Entry)) (k s : ℕ) → s ≡ shortest lists → sum_by length lists ≤ k * (s + 1) * (2 * digits (longest lists) + 2) → reading_cost lists ≤ skipping_cost lists k
reads_less lists k s is less = subst (λ n. reading_cost lists ≤ length lists + 2 * k * (n + 1) * (2 * digits (longest lists) + 2)) is (half k (s + 1) (2 * digits (longest lists) + 2) (sum_by length lists) (length lists) less)
  where
    half : (k n x e l : ℕ) → e ≤ k * n * x → 2 * e + l ≤ l + 2 * k * n * x
    half k n x e l h = omega arith

-- it fits 128 bits
pub looks_fit_once : (k s : ℕ) → k < 2 ^ 32 → s < 2 ^ 64 → k * (s + 1) ≤ 79228162514264337593543950336
looks_fit_once k s hk hs = mul-le k (s + 1) 4294967296 18446744073709551616 (omega arith) (omega arith)

pub looks_fit : (k s b : ℕ) → k < 2 ^ 32 → s < 2 ^ 64 → b ≤ 64 → k * (s + 1) * (2 * b + 2) ≤ 10299661126854363887160713543680
looks_fit k s b hk hs hb = mul-le (k * (s + 1)) (2 * b + 2) 79228162514264337593543950336 130 (looks_fit_once k s hk hs) (omega arith)

-- what skips from the shortest list cost
pub skips_cost : (lists : List (List Entry)) (k s n : ℕ) → 1 ≤ k → n ≤ s → s ≡ shortest lists → n * (k * (2 * digits (longest lists) + 3) + 1) ≤ skipping_cost lists k
skips_cost lists k s n some le is = subst (λ m. n * (k * (2 * digits (longest lists) + 3) + 1) ≤ length lists + 2 * k * (m + 1) * (2 * digits (longest lists) + 2)) is (bound n s k (digits (longest lists)) (length lists) some le)
  where
    bound : (n s k b l : ℕ) → 1 ≤ k → n ≤ s → n * (k * (2 * b + 3) + 1) ≤ l + 2 * k * (s + 1) * (2 * b + 2)
    bound n s k b l some le =
        let more : n * (k * (2 * b + 3) + 1) ≤ s * (k * (2 * b + 3) + 1) = mul-le n (k * (2 * b + 3) + 1) s (k * (2 * b + 3) + 1) le (omega arith) in
        let one : s * 1 ≤ s * k = mul-le s 1 s k (omega arith) some in
        omega (arith, more, one)

-- the same, of the bound that the match has
pub skips_price : (lists : List (List Entry)) (k s n start steps : ℕ) → 1 ≤ k → n ≤ s → s ≡ shortest lists → length lists ≡ k → skipping_cost lists k ≤ reading_cost lists
    → steps ≤ start + n * (k * (2 * digits (longest lists) + 3) + 1) → steps ≤ start + cost_of lists k
skips_price lists k s n start steps some le is many smaller h =
    subst (λ m. steps ≤ start + m) (sym (cost_skipping lists k many smaller)) (within steps start (n * (k * (2 * digits (longest lists) + 3) + 1)) (skipping_cost lists k) h (skips_cost lists k s n some le is))
  where
    within : (a b x y : ℕ) → a ≤ b + x → x ≤ y → a ≤ b + y
    within a b x y h k = omega arith
