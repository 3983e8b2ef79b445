-- A conjunction stands at most once in a posting list, since conjunctions are numbered in order.
use Rattle.std.proofs.Common.{ℕ, zero, suc, ◌+◌, ◌≤◌, ◌<◌, ◌==◌, List, [], ◌∷◌, Bool, true, false, cond, Option, Some, None, find, length, arith}
use Rattle.std.specs.Prelude.{option_map}
use Rattle.std.specs.List.{cons_option, enumerate_from, filter_map}
use Rattle.postings.specs.declared.entry.Entry.{Entry}
use Rattle.postings.specs.Order.{entry_at}
use Rattle.target_expr.specs.declared.pred.Pred.{Pred}
use Rattle.target_expr.specs.Pairs.{size_of}
use Rattle.conj_index.specs.declared.key.Key.{Key}
use Rattle.conj_index.specs.Content.{Listed, entries_of, entry_under, names, of_size}
use Rattle.conj_index.specs.Standing.{StandOnce}
use Rattle.conj_index.proofs.Entries.{numbered}

-- the numbers are at least n, and each is above the one before it
abbrev pub Climbs : ℕ → List Entry → Type 0
Climbs n [] = Unit {0}
Climbs n (e ∷ es) = (n ≤ e.id) × Climbs (e.id + 1) es

lower : (m n : ℕ) (es : List Entry) → m ≤ n → Climbs n es → Climbs m es
lower m n [] le h = tt
lower m n (e ∷ es) le h = (omega (arith, le, h.0), h.1)

one_here : (n : ℕ) (o : Option Pred) (rest : List Entry) → Climbs (n + 1) rest → Climbs n (cons_option (option_map (λ (p : Pred). record { id = n; negated = p.negated }) o) rest)
one_here n (Some p) rest h = (omega arith, h)
one_here n None rest h = lower n (n + 1) rest (omega arith) h

list_climbs : (n k : ℕ) (key : Key) (cs : List Listed) → Climbs n (numbered n k key cs)
list_climbs n k key [] = tt
list_climbs n k key (c ∷ cs) = by_size (size_of c.preds == k) (list_climbs (n + 1) k key cs)
  where
    by_size : (b : Bool) → Climbs (n + 1) (numbered (n + 1) k key cs) → Climbs n (filter_map (entry_under key) (cond b ((n, c) ∷ of_size k (enumerate_from (n + 1) cs)) (of_size k (enumerate_from (n + 1) cs))))
    by_size true later = one_here n (find (names key) c.preds) (numbered (n + 1) k key cs) later
    by_size false later = lower n (n + 1) (numbered (n + 1) k key cs) (omega arith) later

-- ---- what climbs is in order

least_at : (n : ℕ) (es : List Entry) → Climbs n es → (j : ℕ) → j < length es → n ≤ (entry_at es j).id
least_at n [] h j lt = absurd (omega (arith, lt))
least_at n (e ∷ es) h zero lt = h.0
least_at n (e ∷ es) h (suc j) lt =
    let later : e.id + 1 ≤ (entry_at es j).id = least_at (e.id + 1) es h.1 j (omega (arith, lt)) in
    omega (arith, later, h.0)

pub once_in : (n : ℕ) (es : List Entry) → Climbs n es → StandOnce es
once_in n [] h i j lt within = absurd (omega (arith, within))
once_in n (e ∷ es) h zero zero lt within = absurd (omega (arith, lt))
once_in n (e ∷ es) h zero (suc j) lt within =
    let later : e.id + 1 ≤ (entry_at es j).id = least_at (e.id + 1) es h.1 j (omega (arith, within)) in
    omega (arith, later)
once_in n (e ∷ es) h (suc i) zero lt within = absurd (omega (arith, lt))
once_in n (e ∷ es) h (suc i) (suc j) lt within = once_in (e.id + 1) es h.1 i j (omega (arith, lt)) (omega (arith, within))

pub lists_once : (k : ℕ) (cs : List Listed) (key : Key) → StandOnce (entries_of k cs key)
unfolding entries_of
lists_once k cs key = once_in 0 (numbered 0 k key cs) (list_climbs 0 k key cs)
