-- The chosen places are those of lists, and differ from each other.
use Rattle.std.proofs.Common.{◌≡◌, ℕ, zero, suc, ◌-◌, ◌<◌, ◌≤◌, ◌==◌, ◌&&◌, inl, inr, List, [], ◌∷◌, length, get_or, position, Bool, true, false, cond, Option, Some, None, refl, subst, arith, nat_lt}
use Rattle.std.specs.Prelude.{option_and_then}
use Rattle.std.specs.List.{All, cons_option, filter_map}
use Rattle.std.proofs.lemmas.Bool.{ltb-true}
use Rattle.std.proofs.lemmas.List.Quantifiers.{position-Some}
use Rattle.std.proofs.lemmas.Option.{same_Some}
use Rattle.indexmap.specs.IndexMap.{keys}
use Rattle.conj_index.specs.declared.key.Key.{Key}
use Rattle.conj_index.specs.declared.part.Part.{Part}
use Rattle.conj_index.specs.Content.{same_key}
use Rattle.conj_index.specs.Find.{key_lists, key_place, places_of, zero_place}
use Rattle.conj_index.proofs.Members.{Has, found_has, has_either}
use Rattle.conj_index.proofs.Served.{key_same}

-- ---- each item of a list, and no item twice

at_has : {X : Type 0} (xs : List X) (k : ℕ) (d : X) → k < length xs → Has (get_or xs k d) xs
at_has [] k d h = absurd (omega arith)
at_has (x ∷ xs) zero d h = inl refl
at_has (x ∷ xs) (suc k) d h = inr (at_has xs k d (omega arith))

all_from_has : {X : Type 0} (P : X → Type 0) (xs : List X) → ((z : X) → Has z xs → P z) → All P xs
all_from_has P xs h = λ k d within. h (get_or xs k d) (at_has xs k d within)

-- ---- one place

record IsPlace (k : ℕ) (part : Part) (key : Key) (n : ℕ) : Type 0 where
  pub within : n < key_lists k part
  pub there : n < length (keys part.keys)
  pub same : key ≡ get_or (keys part.keys) n key

is_place : (k : ℕ) (part : Part) (key : Key) (n : ℕ) → key_place k part key ≡ Some n → IsPlace k part key n
is_place k part key n e = by (position (same_key key) (keys part.keys)) refl e
  where
    none_some : None ≡ Some n → ⊥
    none_some e = cc

    given : (m : ℕ) → position (same_key key) (keys part.keys) ≡ Some m → (b : Bool) → nat_lt m (key_lists k part) ≡ b → cond b (Some m) None ≡ Some n → IsPlace k part key n
    given m p true b e =
        let at = position-Some (same_key key) (keys part.keys) m key p in
        subst (λ (x : ℕ). IsPlace k part key x) (same_Some m n e) (record { within = ltb-true m (key_lists k part) b; there = at.0; same = key_same key (get_or (keys part.keys) m key) at.1 })
    given m p false b e = absurd (none_some e)

    by : (o : Option ℕ) → position (same_key key) (keys part.keys) ≡ o → option_and_then (λ m. cond (nat_lt m (key_lists k part)) (Some m) None) o ≡ Some n → IsPlace k part key n
    by None p e = absurd (none_some e)
    by (Some m) p e = given m p (nat_lt m (key_lists k part)) refl e

zero_is : (k : ℕ) (part : Part) (z : ℕ) → Has z (cons_option (zero_place k part) []) → (z < length part.lists) × (key_lists k part ≤ z)
zero_is k part z h = by (k == 0) (nat_lt 0 (length part.lists)) refl h
  where
    by : (b c : Bool) → nat_lt 0 (length part.lists) ≡ c → Has z (cons_option (cond (b && c) (Some (length part.lists - 1)) None) []) → (z < length part.lists) × (length part.lists - cond b 1 0 ≤ z)
    by true true e (inl f) = let some : 0 < length part.lists = ltb-true 0 (length part.lists) e in (omega (arith, f, some), omega (arith, f, some))
    by true true e (inr f) = absurd f
    by true false e f = absurd f
    by false c e f = absurd f

some_list : (k : ℕ) (part : Part) → key_lists k part ≤ length part.lists
some_list k part = by (k == 0)
  where
    by : (b : Bool) → length part.lists - cond b 1 0 ≤ length part.lists
    by true = omega arith
    by false = omega arith

pub places_within : (looked : List Key) (k : ℕ) (part : Part) → All (λ n. n < length part.lists) (places_of looked k part)
places_within looked k part = all_from_has (λ n. n < length part.lists) (places_of looked k part) (λ z h.
    elim (has_either (filter_map (key_place k part) looked) (cons_option (zero_place k part) []) z h) [
      | inl l ↦
          let (key, has, is) = found_has (key_place k part) looked z l in
          omega (arith, (is_place k part key z is).within, some_list k part)
      | inr r ↦ (zero_is k part z r).0
    ])
