-- Lists that rise: the campaigns' numbers, and the entries of posting lists.
use Rattle.std.proofs.Common.{◌≡◌, ℕ, zero, suc, ◌+◌, ◌*◌, ◌≤◌, ◌<◌, ◌==◌, List, [], ◌∷◌, ◌++◌, Bool, true, false, cond, Option, Some, None, All, length, get_or, map, find, sym, ◌∙◌, ap, subst, arith, inl, inr}
use Rattle.std.specs.Prelude.{option_map}
use Rattle.std.specs.List.{cons_option, enumerate_from, filter_map}
use Rattle.std.specs.List.Sorted.{IsStrictlyIncreasing}
use Rattle.std.proofs.lemmas.Bool.{cases_lt}
use Rattle.std.proofs.lemmas.List.{get_or_append_left, get_or_push, length_push, map_push, length-map, get_or-map}
use Rattle.postings.specs.declared.entry.Entry.{Entry}
use Rattle.postings.specs.Order.{IsRising, entry_at, rank_of}
use Rattle.target_expr.specs.declared.pred.Pred.{Pred}
use Rattle.target_expr.specs.Pairs.{size_of}
use Rattle.conj_index.specs.declared.key.Key.{Key}
use Rattle.conj_index.specs.Campaigns.{Campaigns, DoRise, conjunctions_in, numbers_of}
use Rattle.conj_index.specs.Content.{Listed, entries_of, entry_under, names, of_size, zero_entries}
use Rattle.conj_index.proofs.Entries.{numbered, zeros}

increasing_push : (xs : List ℕ) (n : ℕ) → IsStrictlyIncreasing xs → ((k : ℕ) → k < length xs → get_or xs k 0 < n) → IsStrictlyIncreasing (xs ++ n ∷ [])
increasing_push xs n up below k h =
    let long : length (xs ++ n ∷ []) ≡ length xs + 1 = length_push xs n in
    let within : k < length xs = omega arith in
    let here : get_or (xs ++ n ∷ []) k 0 ≡ get_or xs k 0 = get_or_append_left xs (n ∷ []) 0 k within in
    elim (cases_lt (k + 1) (length xs)) [
      | inl lt ↦ let next : get_or (xs ++ n ∷ []) (k + 1) 0 ≡ get_or xs (k + 1) 0 = get_or_append_left xs (n ∷ []) 0 (k + 1) lt in omega (arith, here, next, up k lt)
      | inr le ↦
          let last : length xs ≡ k + 1 = omega arith in
          let next : get_or (xs ++ n ∷ []) (k + 1) 0 ≡ n = get_or_push xs n 0 (k + 1) last in
          omega (arith, here, next, below k within)
    ]

rise_push : (added : Campaigns) (p : ℕ × List (List Pred)) → DoRise added → All (λ (q : ℕ × List (List Pred)). q.0 < p.0) added → DoRise (added ++ p ∷ [])
rise_push added p up below =
    subst IsStrictlyIncreasing (sym (map_push (λ (q : ℕ × List (List Pred)). q.0) added p)) (increasing_push (numbers_of added) p.0 up each)
  where
    each : (k : ℕ) → k < length (numbers_of added) → get_or (numbers_of added) k 0 < p.0
    each k h =
        let within : k < length added = omega (arith, length-map added (λ (q : ℕ × List (List Pred)). q.0)) in
        let is : get_or (numbers_of added) k 0 ≡ (get_or added k p).0 = get_or-map (λ (q : ℕ × List (List Pred)). q.0) added k p 0 within in
        omega (arith, is, below k p within)

-- what is kept of the campaigns after one more
pub added_rises : (old inside new : Campaigns) (n : ℕ) (e f : List (List Pred)) → inside ≡ old → e ≡ f → new ≡ inside ++ (n, e) ∷ []
    → DoRise inside → All (λ (q : ℕ × List (List Pred)). q.0 < n) old → conjunctions_in (old ++ (n, f) ∷ []) ≤ 1000000 → DoRise new × (conjunctions_in new ≤ 1000000)
added_rises old inside new n e f same copied pushed up above room =
    let whole : new ≡ old ++ (n, f) ∷ [] = pushed ∙ ap (λ (l : Campaigns). l ++ (n, e) ∷ []) same ∙ ap (λ (d : List (List Pred)). old ++ (n, d) ∷ []) copied in
    let P : Campaigns → Type 0 = λ l. DoRise l × (conjunctions_in l ≤ 1000000) in
    subst P (sym whole) (rise_push old (n, f) (subst DoRise same up) above, room)

-- ---- entries

-- the numbers of conjunctions rise, and none is below n
abbrev pub Above : ℕ → List Entry → Type 0
Above n [] = Unit {0}
Above n (e ∷ es) = (n ≤ e.id) × Above (e.id + 1) es

above_lower : (m n : ℕ) (es : List Entry) → m ≤ n → Above n es → Above m es
above_lower m n [] le above = tt
above_lower m n (e ∷ es) le above = (omega arith, above.1)

rising_ranks : (e f : Entry) → e.id + 1 ≤ f.id → rank_of e < rank_of f
rising_ranks e f h = by (e.negated) (f.negated)
  where
    by : (b d : Bool) → 2 * e.id + cond b 0 1 < 2 * f.id + cond d 0 1
    by true true = omega arith
    by true false = omega arith
    by false true = omega arith
    by false false = omega arith

pub rising_from_above : (n : ℕ) (es : List Entry) → Above n es → IsRising es
rising_from_above n [] above i h = absurd (omega arith)
rising_from_above n (e ∷ []) above i h = absurd (omega arith)
rising_from_above n (e ∷ f ∷ es) above zero h = rising_ranks e f above.1.0
rising_from_above n (e ∷ f ∷ es) above (suc i) h =
    let next : suc (i + 1) ≡ suc i + 1 = omega arith in
    let P : ℕ → Type 0 = λ m. rank_of (entry_at (f ∷ es) i) < rank_of (entry_at (e ∷ f ∷ es) m) in
    subst P next (rising_from_above (e.id + 1) (f ∷ es) above.1 i (omega arith))

above_numbered : (n k : ℕ) (key : Key) (cs : List Listed) → Above n (numbered n k key cs)
above_numbered n k key [] = tt
above_numbered n k key (c ∷ cs) = by (size_of c.preds == k) (above_numbered (n + 1) k key cs)
  where
    rest : List (ℕ × Listed)
    rest = of_size k (enumerate_from (n + 1) cs)

    one : (o : Option Pred) → Above (n + 1) (filter_map (entry_under key) rest)
        → Above n (cons_option (option_map (λ (p : Pred). record { id = n; negated = p.negated }) o) (filter_map (entry_under key) rest))
    one (Some p) above = (omega arith, above)
    one None above = above_lower n (n + 1) (filter_map (entry_under key) rest) (omega arith) above

    by : (b : Bool) → Above (n + 1) (filter_map (entry_under key) rest) → Above n (filter_map (entry_under key) (cond b ((n, c) ∷ rest) rest))
    by true above = one (find (names key) c.preds) above
    by false above = above_lower n (n + 1) (filter_map (entry_under key) rest) (omega arith) above

above_zeros : (n : ℕ) (cs : List Listed) → Above n (zeros n cs)
above_zeros n [] = tt
above_zeros n (c ∷ cs) = by (size_of c.preds == 0) (above_zeros (n + 1) cs)
  where
    rest : List (ℕ × Listed)
    rest = of_size 0 (enumerate_from (n + 1) cs)

    by : (b : Bool) → Above (n + 1) (map (λ (q : ℕ × Listed). record { id = q.0; negated = false }) rest)
        → Above n (map (λ (q : ℕ × Listed). record { id = q.0; negated = false }) (cond b ((n, c) ∷ rest) rest))
    by true above = (omega arith, above)
    by false above = above_lower n (n + 1) (map (λ (q : ℕ × Listed). record { id = q.0; negated = false }) rest) (omega arith) above

pub entries_rise : (k : ℕ) (cs : List Listed) (key : Key) → IsRising (entries_of k cs key)
unfolding entries_of
entries_rise k cs key = rising_from_above 0 (numbered 0 k key cs) (above_numbered 0 k key cs)

pub zeros_rise : (cs : List Listed) → IsRising (zero_entries cs)
unfolding zero_entries
zeros_rise cs = rising_from_above 0 (zeros 0 cs) (above_zeros 0 cs)

-- each list of the kind rises
pub rising_lists : {V : Type 0} (f : V → List Entry) (ls : List V) → All IsRising (map f ls) → All (λ (l : V). IsRising (f l)) ls
rising_lists f ls all = λ k d h.
    let within : k < length (map f ls) = omega (arith, length-map ls f) in
    subst IsRising (get_or-map f ls k d (f d) h) (all k (f d) within)
