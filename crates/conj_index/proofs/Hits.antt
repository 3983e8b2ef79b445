-- The bits of what is found, part by part, and the campaigns of them.
use Rattle.std.proofs.Common.{◌≡◌, ℕ, ◌+◌, ◌*◌, ◌<◌, ◌≤◌, ◌||◌, inl, inr, max, List, length, slice_get, Bool, true, false, Some, refl, sym, ◌∙◌, ap, subst, arith}
use Rattle.std.specs.List.{Contains, filter_map}
use Rattle.std.proofs.lemmas.Bool.{cases_Bool, cases_eq, false≢true}
use Rattle.std.proofs.lemmas.Option.{same_Some, slice_get_within}
use Rattle.postings.specs.Packed.{is_marked}
use Rattle.conj_match.specs.Bits.{AreSet, AreThose}
use Rattle.conj_match.specs.Matching.{is_match}
use Rattle.conj_match.proofs.Words.{those_below}
use Rattle.target_expr.specs.declared.attr.Attr.{Attr}
use Rattle.conj_index.specs.declared.part.Part.{Part}
use Rattle.conj_index.specs.Find.{found_lists}
use Rattle.conj_index.specs.Searching.{AreFound, AreHit, AreOwners}
use Rattle.conj_index.proofs.Members.{contains_from_has, found_has, has_found, has_from_contains}

abbrev Pairs : Type 0
Pairs = List (Attr × List ℕ)

pub hits_none : (a : Pairs) (parts : List Part) (words : List ℕ) → ((i : ℕ) → is_marked words i ≡ false) → AreHit a parts 0 words
hits_none a parts words none = record {
  sound = λ id within is. absurd (false≢true (sym (none id) ∙ is));
  whole = λ k id part within h at f. absurd (omega arith);
}

or_true : (x : Bool) → (x || true) ≡ true
or_true true = refl
or_true false = refl

pub hits_next : (a : Pairs) (parts : List Part) (n : ℕ) (part : Part) (old new : List ℕ) → length new ≡ length old → AreHit a parts n old → slice_get parts n ≡ Some part
    → AreSet (is_match (found_lists a n part) (max n 1)) old new → AreHit a parts (n + 1) new
hits_next a parts n part old new len hit there set = record {
  sound = λ id within is.
      let inside : id < 64 * length old = omega arith in
      elim (cases_Bool (is_marked old id)) [
        | inl before ↦ let (k, at, below, is_at, matched) = hit.sound id inside before in (k, at, omega (arith, below), is_at, matched)
        | inr fresh ↦ (n, part, omega arith, there, ap (λ b. b || is_match (found_lists a n part) (max n 1) id) (sym fresh) ∙ sym (set id inside) ∙ is)
      ];
  whole = λ k id at within h is_at matched.
      let inside : id < 64 * length old = omega arith in
      elim (cases_eq k n) [
        | inl e ↦
            let same : at ≡ part = same_Some at part (sym is_at ∙ ap (slice_get parts) e ∙ there) in
            let here : is_match (found_lists a n part) (max n 1) id ≡ true = ap (λ (m : ℕ). is_match (found_lists a m part) (max m 1) id) (sym e) ∙ ap (λ (p : Part). is_match (found_lists a k p) (max k 1) id) (sym same) ∙ matched in
            set id inside ∙ ap (λ b. is_marked old id || b) here ∙ or_true (is_marked old id)
        | inr other ↦ set id inside ∙ ap (λ b. b || is_match (found_lists a n part) (max n 1) id) (hit.whole k id at inside (before k n h other) is_at matched)
      ];
}
  where
    before : (k n : ℕ) → k < n + 1 → (k ≡ n → ⊥) → k < n
    before k n h other = grind (arith, h, other)

pub owners_are : (owners words ids numbers : List ℕ) → AreThose (is_marked words) (64 * length words) ids → numbers ≡ filter_map (slice_get owners) ids → AreOwners owners words numbers
owners_are owners words ids numbers those is = record {
  sound = λ z h.
      let (id, has, owner) = found_has (slice_get owners) ids z (has_from_contains (filter_map (slice_get owners) ids) z (subst (λ (l : List ℕ). Contains l z) is h)) in
      let among = contains_from_has ids id has in
      (id, those_below (is_marked words) (64 * length words) ids id those among, those.sound id among, owner);
  whole = λ id z within marked owner. subst (λ (l : List ℕ). Contains l z) (sym is)
      (contains_from_has (filter_map (slice_get owners) ids) z (has_found (slice_get owners) ids id z (has_from_contains ids id (those.whole id within marked)) owner));
}

pub found_by : (a : Pairs) (owners : List ℕ) (parts : List Part) (n : ℕ) (words numbers : List ℕ) → length owners ≤ 64 * length words → AreHit a parts n words → AreOwners owners words numbers → AreFound a owners parts n numbers
found_by a owners parts n words numbers room hit of = record {
  sound = λ z h.
      let (id, within, marked, owner) = of.sound z h in
      let (k, part, below, at, matched) = hit.sound id within marked in
      (k, id, part, below, at, record { matched = matched; with_owner = owner });
  whole = λ k id z part h at f.
      let there : id < length owners = slice_get_within owners id z f.with_owner in
      let within : id < 64 * length words = omega arith in
      of.whole id z within (hit.whole k id part within h at f.matched) f.with_owner;
}
