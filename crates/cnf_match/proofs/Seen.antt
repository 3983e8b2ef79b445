-- Weights of one pair have one mark.
use Rattle.std.proofs.Common.{◌≡◌, ℕ, zero, suc, ◌+◌, ◌*◌, ◌%◌, ◌<◌, ◌&&◌, List, [], ◌∷◌, length, take, get_or, set, Bool, true, false, inl, inr, refl, sym, ◌∙◌, ap}
use Rattle.std.specs.List.{list_all, list_any}
use Rattle.std.specs.Str.{bytes_eq}
use Rattle.std.proofs.lemmas.Bool.{and_from, and_parts, cases_Bool, false≢true, or_from}
use Rattle.std.proofs.lemmas.List.{get_or-set_same, take_more}
use Rattle.std.proofs.lemmas.List.Folds.{list_all-append}
use Rattle.std.proofs.lemmas.Slice.Eq.{bytes_eq-Decides}
use Rattle.cnf_match.specs.declared.weight.RawWeight.{RawWeight}
use Rattle.cnf_match.specs.Making.{end_of, mark_of, same_pair}

-- where the first test fails the second does
pub where_seen : (s b : Bool) → (s ≡ false → b ≡ false) → (s && b) ≡ b
where_seen true b h = refl
where_seen false b h = sym (h refl)

-- the marks of these were seen
abbrev pub AreSeen : List Bool → List RawWeight → Type 0
AreSeen seen ws = list_all (λ v. get_or seen (mark_of v) false) ws ≡ true

same_marks : (v w : RawWeight) → same_pair v w ≡ true → mark_of v ≡ mark_of w
same_marks v w e =
    let parts = and_parts (bytes_eq v.attr w.attr) (bytes_eq v.value w.value) e in
    let attrs : v.attr ≡ w.attr = (bytes_eq-Decides v.attr w.attr).0 parts.0 in
    let values : v.value ≡ w.value = (bytes_eq-Decides v.value w.value).0 parts.1 in
    ap (λ a. (end_of a * 5 + end_of v.value) % 64) attrs ∙ ap (λ t. (end_of w.attr * 5 + end_of t) % 64) values

-- one whose mark was not seen is of no pair of these
pub none_same : (seen : List Bool) (w : RawWeight) (ws : List RawWeight) → AreSeen seen ws → get_or seen (mark_of w) false ≡ false → list_any (λ v. same_pair v w) ws ≡ false
none_same seen w [] all new = refl
none_same seen w (v ∷ ws) all new =
    let parts = and_parts (get_or seen (mark_of v) false) (list_all (λ v. get_or seen (mark_of v) false) ws) all in
    let other : same_pair v w ≡ false = elim (cases_Bool (same_pair v w)) [
      | inl e ↦ absurd (false≢true (sym new ∙ ap (λ m. get_or seen m false) (sym (same_marks v w e)) ∙ parts.0))
      | inr e ↦ e
    ] in
    or_from _ _ other (none_same seen w ws parts.1 new)

stays : (seen : List Bool) (m k : ℕ) → get_or seen k false ≡ true → get_or (set seen m true) k false ≡ true
stays [] m k h = h
stays (s ∷ seen) zero zero h = refl
stays (s ∷ seen) zero (suc k) h = h
stays (s ∷ seen) (suc m) zero h = h
stays (s ∷ seen) (suc m) (suc k) h = stays seen m k h

all_stay : (seen : List Bool) (m : ℕ) (ws : List RawWeight) → AreSeen seen ws → AreSeen (set seen m true) ws
all_stay seen m [] all = refl
all_stay seen m (w ∷ ws) all =
    let parts = and_parts (get_or seen (mark_of w) false) (list_all (λ v. get_or seen (mark_of v) false) ws) all in
    and_from _ _ (stays seen m (mark_of w) parts.0) (all_stay seen m ws parts.1)

pub seen_more : (seen : List Bool) (ws : List RawWeight) (i : ℕ) (d : RawWeight) → i < length ws → AreSeen seen (take i ws) → mark_of (get_or ws i d) < length seen
    → AreSeen (set seen (mark_of (get_or ws i d)) true) (take (i + 1) ws)
seen_more seen ws i d h all within =
    let m = mark_of (get_or ws i d) in
    let q : RawWeight → Bool = λ v. get_or (set seen m true) (mark_of v) false in
    ap (list_all q) (take_more ws i d h) ∙ list_all-append q (take i ws) (get_or ws i d ∷ [])
    ∙ and_from _ _ (all_stay seen m (take i ws) all) (and_from _ _ (get_or-set_same seen m true false within) refl)
