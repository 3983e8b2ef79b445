-- What is left at a place behind entries: more than nothing where one of them is plain, or fewer are negated than were
-- counted.
use Rattle.std.proofs.Common.{◌≡◌, ℕ, ◌+◌, ◌-◌, ◌<◌, ◌≤◌, ◌==◌, ◌&&◌, ◌||◌, not, nat_lt, List, [], ◌∷◌, ◌++◌, Bool, true, false, cond, count_by, length, get_or, refl, sym, ◌∙◌, ap, arith, inl, inr}
use Rattle.std.specs.List.{fold}
use Rattle.std.proofs.lemmas.Bool.{cases_Bool, eqb-false, eqb-true}
use Rattle.std.proofs.lemmas.Bool.Decides.{nat_tests}
use Rattle.std.proofs.lemmas.Grind.{get_or-set_at}
use Rattle.std.proofs.lemmas.List.{get_or-set_other, length-set}
use Rattle.std.proofs.lemmas.List.Sums.{sum_by-append}
use Rattle.cnf_match.specs.declared.index.Entry.{Entry}
use Rattle.cnf_match.specs.Searching.{mark, mark_all, marked, place_of}
use Rattle.cnf_match.proofs.Single.{counted}

-- the entry is of the clause at the place, and negated or not
abbrev pub is_hit : Bool → ℕ → Entry → Bool
is_hit negated k e = (place_of e == k) && cond negated e.negated (not e.negated)

abbrev pub hits : Bool → ℕ → List Entry → ℕ
hits negated k es = count_by (is_hit negated k) es

pub hits_more : (negated : Bool) (k : ℕ) (es fs : List Entry) → hits negated k (es ++ fs) ≡ hits negated k es + hits negated k fs
hits_more negated k es fs = sum_by-append (λ (e : Entry). cond (is_hit negated k e) 1 0) es fs

-- ---- at one place

abbrev pub mark_at : ℕ → ℕ → Entry → ℕ
mark_at k v e = cond (place_of e == k) (marked e.negated v) v

one_mark : (left : List ℕ) (e : Entry) (k : ℕ) → k < length left → get_or (mark left e) k 0 ≡ mark_at k (get_or left k 0) e
one_mark left e k within =
    elim (cases_Bool (place_of e == k)) [
      | inl is ↦
          let same : place_of e ≡ k = eqb-true (place_of e) k is in
          get_or-set_at left (place_of e) k (marked e.negated (get_or left (place_of e) 0)) 0 (sym same) (omega (arith, same, within))
          ∙ ap (λ n. marked e.negated (get_or left n 0)) same
          ∙ sym (ap (λ b. cond b (marked e.negated (get_or left k 0)) (get_or left k 0)) is)
      | inr is ↦
          get_or-set_other left (place_of e) k (marked e.negated (get_or left (place_of e) 0)) 0 (λ same. eqb-false (place_of e) k is (sym same))
          ∙ sym (ap (λ b. cond b (marked e.negated (get_or left k 0)) (get_or left k 0)) is)
    ]

pub length-mark_all : (left : List ℕ) (es : List Entry) → length (mark_all left es) ≡ length left
length-mark_all left [] = refl
length-mark_all left (e ∷ es) = length-mark_all (mark left e) es ∙ length-set left (place_of e) (marked e.negated (get_or left (place_of e) 0))

pub marks_at : (left : List ℕ) (es : List Entry) (k : ℕ) → k < length left → get_or (mark_all left es) k 0 ≡ fold (mark_at k) (get_or left k 0) es
marks_at left [] k within = refl
marks_at left (e ∷ es) k within =
    marks_at (mark left e) es k (omega (arith, within, length-set left (place_of e) (marked e.negated (get_or left (place_of e) 0))))
    ∙ ap (λ v. fold (mark_at k) v es) (one_mark left e k within)

-- ---- what is above 0

full : (b n : Bool) → cond b (marked n 255) 255 ≡ 255
full true true = refl
full true false = refl
full false n = refl

-- true for good
stays : (k : ℕ) (es : List Entry) → fold (mark_at k) 255 es ≡ 255
stays k [] = refl
stays k (e ∷ es) = ap (λ v. fold (mark_at k) v es) (full (place_of e == k) e.negated) ∙ stays k es

same_tests : (p h v : ℕ) → (nat_lt 0 p || nat_lt h v) ≡ (nat_lt 0 (0 + p) || nat_lt (0 + h) v)
same_tests p h v = grind (arith, nat_tests)

one_plain : (p h v w : ℕ) → w ≡ 255 → nat_lt 0 w ≡ (nat_lt 0 (1 + p) || nat_lt h v)
one_plain p h v w is = grind (arith, nat_tests, is)

one_negated : (p h v : ℕ) → (nat_lt 0 p || nat_lt h (v - 1)) ≡ (nat_lt 0 (0 + p) || nat_lt (1 + h) v)
one_negated p h v = grind (arith, nat_tests)

not_full : (v : ℕ) → v ≤ 254 → (v == 255) ≡ false
not_full v few = grind (arith, nat_tests)

pub above : (k : ℕ) (es : List Entry) (v : ℕ) → v ≤ 254 → nat_lt 0 (fold (mark_at k) v es) ≡ (nat_lt 0 (hits false k es) || nat_lt (hits true k es) v)
above k [] v few = refl
above k (e ∷ es) v few =
    by (place_of e == k) e.negated (above k es)
    ∙ sym (ap (λ n. nat_lt 0 n || nat_lt (hits true k (e ∷ es)) v) (counted (is_hit false k) e es)
    ∙ ap (λ n. nat_lt 0 (cond (is_hit false k e) 1 0 + hits false k es) || nat_lt n v) (counted (is_hit true k) e es))
  where
    by : (b n : Bool) → ((w : ℕ) → w ≤ 254 → nat_lt 0 (fold (mark_at k) w es) ≡ (nat_lt 0 (hits false k es) || nat_lt (hits true k es) w))
        → nat_lt 0 (fold (mark_at k) (cond b (marked n v) v) es) ≡ (nat_lt 0 (cond (b && not n) 1 0 + hits false k es) || nat_lt (cond (b && n) 1 0 + hits true k es) v)
    by false n later = later v few ∙ same_tests (hits false k es) (hits true k es) v
    by true false later = one_plain (hits false k es) (0 + hits true k es) v (fold (mark_at k) 255 es) (stays k es)
    by true true later =
        ap (λ b. nat_lt 0 (fold (mark_at k) (cond b 255 (v - 1)) es)) (not_full v few)
        ∙ later (v - 1) (omega (arith, few))
        ∙ one_negated (hits false k es) (hits true k es) v
