-- What has been found up to a size, which the crate's private clauses cite.
use Rattle.std.specs.Prelude.{ℕ, ◌≡◌, ◌*◌, ◌<◌, max, List, length, true, Some, slice_get, Contains}
use Rattle.postings.specs.Packed.{is_marked}
use Rattle.conj_match.specs.Matching.{is_match}
use Rattle.target_expr.specs.declared.attr.Attr.{Attr}
use Rattle.conj_index.specs.declared.part.Part.{Part}
use Rattle.conj_index.specs.Find.{found_lists}

-- the conjunction is found in part k, and it is the campaign's
pub record IsFoundIn (a : List (Attr × List ℕ)) (owners : List ℕ) (k : ℕ) (part : Part) (id number : ℕ) : Type 0 where
  pub matched : is_match (found_lists a k part) (max k 1) id ≡ true
  pub with_owner : slice_get owners id ≡ Some number

-- the numbers are those of the campaigns with a conjunction that is found in one of the first n parts
pub record AreFound (a : List (Attr × List ℕ)) (owners : List ℕ) (parts : List Part) (n : ℕ) (numbers : List ℕ) : Type 0 where
  pub sound : (number : ℕ) → Contains numbers number → (k id : ℕ) × (part : Part) × (k < n) × (slice_get parts k ≡ Some part) × IsFoundIn a owners k part id number
  pub whole : (k id number : ℕ) (part : Part) → k < n → slice_get parts k ≡ Some part → IsFoundIn a owners k part id number → Contains numbers number

-- the bits are those of the conjunctions that are found in one of the first n parts
pub record AreHit (a : List (Attr × List ℕ)) (parts : List Part) (n : ℕ) (words : List ℕ) : Type 0 where
  pub sound : (id : ℕ) → id < 64 * length words → is_marked words id ≡ true → (k : ℕ) × (part : Part) × (k < n) × (slice_get parts k ≡ Some part) × (is_match (found_lists a k part) (max k 1) id ≡ true)
  pub whole : (k id : ℕ) (part : Part) → id < 64 * length words → k < n → slice_get parts k ≡ Some part → is_match (found_lists a k part) (max k 1) id ≡ true → is_marked words id ≡ true

-- the numbers are those of the campaigns that have one of the conjunctions whose bits are set
pub record AreOwners (owners words numbers : List ℕ) : Type 0 where
  pub sound : (number : ℕ) → Contains numbers number → (id : ℕ) × (id < 64 * length words) × (is_marked words id ≡ true) × (slice_get owners id ≡ Some number)
  pub whole : (id number : ℕ) → id < 64 * length words → is_marked words id ≡ true → slice_get owners id ≡ Some number → Contains numbers number
