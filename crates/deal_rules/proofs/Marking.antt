-- Marks of texts: a text whose mark is not set is none of them.
use Rattle.std.proofs.Common.{◌≡◌, inl, inr, ℕ, zero, suc, ◌+◌, ◌-◌, ◌*◌, ◌/◌, ◌%◌, ◌<◌, ◌≤◌, ◌&&◌, ◌||◌, List, [], ◌∷◌, Bool, true, false, not, eqb, length, get_or, map, set, refl, sym, ◌∙◌, ap, subst, arith}
use Rattle.std.specs.Borrow.{Bor}
use Rattle.std.specs.List.{fold, list_all, list_any}
use Rattle.std.specs.Str.{bytes_eq}
use Rattle.std.proofs.lemmas.Bool.{and_parts, cases_Bool, eqb-true, false≢true}
use Rattle.std.proofs.Math.Nat.{mod-lt}
use Rattle.std.proofs.lemmas.List.{length-set, nil_from_length}
use Rattle.std.proofs.lemmas.Slice.Eq.{bytes_eq-Decides}
use Rattle.campaign.specs.Marks.{mark_at, mark_of}
use Rattle.deal_rules.specs.Marks.{AreMarked, is_marked_at, with_mark}
use Rattle.deal_rules.specs.Named.{MayBeMarked}
use Rattle.deal_rules.specs.Rules.{has_text}

-- ---- one mark more

stays : (marks : List Bool) (m j : ℕ) → is_marked_at marks j ≡ true → is_marked_at (set marks m true) j ≡ true
stays [] m zero h = absurd (false≢true h)
stays [] m (suc j) h = absurd (false≢true h)
stays (b ∷ marks) zero zero h = refl
stays (b ∷ marks) zero (suc j) h = h
stays (b ∷ marks) (suc m) zero h = h
stays (b ∷ marks) (suc m) (suc j) h = stays marks m j h

comes : (marks : List Bool) (m : ℕ) → m < length marks → is_marked_at (set marks m true) m ≡ true
comes [] m h = absurd (omega (arith, h))
comes (b ∷ marks) zero h = refl
comes (b ∷ marks) (suc m) h = comes marks m (omega (arith, h))

abbrev tests : List Bool → Bor (List ℕ) → Bool
tests marks t = is_marked_at marks (mark_of t.now)

stays_all : (refs : List (Bor (List ℕ))) (marks : List Bool) (j : ℕ) → is_marked_at marks j ≡ true → is_marked_at (fold with_mark marks refs) j ≡ true
stays_all [] marks j h = h
stays_all (t ∷ refs) marks j h = stays_all refs (with_mark marks t) j (stays marks (mark_of t.now) j h)

in_range : (t : List ℕ) → mark_of t < 4096
unfolding mark_of
in_range t = mod-lt (get_or t 0 0 + 7 * get_or t (length t / 2) 0 + 49 * get_or t (length t - 1) 0 + 343 * (length t % 256)) (omega arith)

-- all are set, one after the other
all_set : (refs : List (Bor (List ℕ))) (marks : List Bool) → length marks ≡ 4096 → list_all (tests (fold with_mark marks refs)) refs ≡ true
all_set [] marks long = refl
all_set (t ∷ refs) marks long =
    let next = with_mark marks t in
    let here = stays_all refs next (mark_of t.now) (comes marks (mark_of t.now) (omega (arith, in_range t.now, long))) in
    ap (λ (b : Bool). b && list_all (tests (fold with_mark next refs)) refs) here ∙ all_set refs next (length-set marks (mark_of t.now) true ∙ long)

pub all_marked : (refs : List (Bor (List ℕ))) (marks after : List Bool) → length marks ≡ 4096 → after ≡ fold with_mark marks refs → AreMarked after refs
all_marked refs marks after long e = subst (λ (ms : List Bool). list_all (tests ms) refs ≡ true) (sym e) (all_set refs marks long)

-- ---- a text whose mark is not set

other_mark : (marks : List Bool) (t x : List ℕ) → is_marked_at marks (mark_of t) ≡ true → is_marked_at marks (mark_of x) ≡ false → bytes_eq t x ≡ false
other_mark marks t x h no_mark =
    elim (cases_Bool (bytes_eq t x)) [
      | inl e ↦ absurd (false≢true (sym no_mark ∙ ap (λ (y : List ℕ). is_marked_at marks (mark_of y)) (sym ((bytes_eq-Decides t x).0 e)) ∙ h))
      | inr f ↦ f
    ]

pub unmarked : (marks : List Bool) (refs : List (Bor (List ℕ))) (x : List ℕ) → AreMarked marks refs → is_marked_at marks (mark_of x) ≡ false → has_text (map (λ (t : Bor (List ℕ)). t.now) refs) x ≡ false
unmarked marks [] x h f = refl
unmarked marks (t ∷ refs) x h f =
    let (first, rest) = and_parts (tests marks t) (list_all (tests marks) refs) h in
    ap (λ (b : Bool). b || has_text (map (λ (t : Bor (List ℕ)). t.now) refs) x) (other_mark marks t.now x first f) ∙ unmarked marks refs x rest f

-- where there are marks
pub ruled_out : (marks : List Bool) (refs : List (Bor (List ℕ))) (x : List ℕ) → MayBeMarked marks refs → eqb (length marks) 0 ≡ false → is_marked_at marks (mark_of x) ≡ false → has_text (map (λ (t : Bor (List ℕ)). t.now) refs) x ≡ false
ruled_out marks refs x (inl none) some f = absurd (false≢true (sym some ∙ ap (λ (n : ℕ). eqb n 0) none))
ruled_out marks refs x (inr all) some f = unmarked marks refs x all f

-- where there is no text
pub none_has : (refs : List (Bor (List ℕ))) (x : List ℕ) (b : Bool) → b ≡ eqb (length refs) 0 → not b ≡ false → has_text (map (λ (t : Bor (List ℕ)). t.now) refs) x ≡ false
none_has refs x true e h = ap (λ (rs : List (Bor (List ℕ))). has_text (map (λ (t : Bor (List ℕ)). t.now) rs) x) (nil_from_length refs (eqb-true (length refs) 0 (sym e)))
none_has refs x false e h = absurd (false≢true (sym h))

-- ---- at most three texts, by their marks

pub none_of_one : (has : List ℕ → Bool) (texts : List (List ℕ)) → length texts ≤ 1 → ((t : List ℕ) → mark_at texts 0 ≡ mark_of t → has t ≡ false) → list_any has texts ≡ false
none_of_one has [] few first = refl
none_of_one has (a ∷ []) few first = ap (λ (b : Bool). b || false) (first a refl)
none_of_one has (a ∷ b ∷ texts) few first = absurd (omega (arith, few))

pub none_of_three : (has : List ℕ → Bool) (texts : List (List ℕ)) → length texts ≤ 3 → ((t : List ℕ) → mark_at texts 0 ≡ mark_of t → has t ≡ false) → ((t : List ℕ) → mark_at texts 1 ≡ mark_of t → has t ≡ false) → ((t : List ℕ) → mark_at texts 2 ≡ mark_of t → has t ≡ false)
    → list_any has texts ≡ false
none_of_three has [] few first second third = refl
none_of_three has (a ∷ []) few first second third = ap (λ (b : Bool). b || false) (first a refl)
none_of_three has (a ∷ b ∷ []) few first second third = ap (λ (x : Bool). x || (has b || false)) (first a refl) ∙ ap (λ (x : Bool). x || false) (second b refl)
none_of_three has (a ∷ b ∷ c ∷ []) few first second third =
    ap (λ (x : Bool). x || (has b || (has c || false))) (first a refl) ∙ ap (λ (x : Bool). x || (has c || false)) (second b refl) ∙ ap (λ (x : Bool). x || false) (third c refl)
none_of_three has (a ∷ b ∷ c ∷ d ∷ texts) few first second third = absurd (omega (arith, few))
