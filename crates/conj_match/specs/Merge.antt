-- The cursors of a match, which the crate's private clauses cite.
use Rattle.std.specs.Prelude.{ℕ, ◌≡◌, ◌+◌, ◌-◌, ◌<◌, ◌≤◌, ◌&&◌, ◌==◌, not, min, List, Bool, true, false, Option, Some, None, MatchOption, All, Contains, count_by, get_or, nat_le, slice_index, length, map, option_map, sum_by}
use Rattle.conj_match.specs.Matching.{is_match}
use Rattle.std.specs.List.{list_any}
use Rattle.std.specs.Option.{option_map_or}
use Rattle.postings.specs.declared.entry.Entry.{Entry}
use Rattle.postings.specs.Order.{IsRising, entry_at}
use Rattle.conj_match.specs.Place.{Place, current, IsFirstFrom}

abbrev pub entries_of : Place → List Entry
entries_of c = c.entries

-- the number of the entry that the cursor shows
abbrev pub current_id : Place → Option ℕ
current_id c = option_map (λ (e : Entry). e.id) (current c)

-- the cursor shows a negated entry of the conjunction, or another
abbrev pub shows_negated : ℕ → Place → Bool
shows_negated id c = option_map_or (λ (e : Entry). (e.id == id) && e.negated) (current c) false

abbrev pub shows_plain : ℕ → Place → Bool
shows_plain id c = option_map_or (λ (e : Entry). (e.id == id) && not e.negated) (current c) false

abbrev pub lesser : Option ℕ → Option ℕ → Option ℕ
lesser None b = b
lesser (Some a) None = Some a
lesser (Some a) (Some b) = Some (min a b)

-- the entries before the cursor are those of numbers below `b`
pub record Stands (b : ℕ) (c : Place) : Type 0 where
  pub loaded : c.loaded ≡ true
  pub rising : IsRising c.entries
  pub within : c.place ≤ length c.entries
  pub before : (i : ℕ) → i < c.place → (entry_at c.entries i).id < b
  pub after : (i : ℕ) → c.place ≤ i → i < length c.entries → b ≤ (entry_at c.entries i).id

-- each number that a cursor shows is at least this one, or there is none
abbrev pub IsLeast : List Place → Option ℕ → Type 0
IsLeast cs least = MatchOption least
    (All (λ c. current_id c ≡ None) cs)
    (λ m. All (λ c. MatchOption (current_id c) (Unit {0}) (λ n. m ≤ n)) cs × ((c : Place) × Contains cs c × (current_id c ≡ Some m)))

-- the cursor went past the number
pub record Passed (id : ℕ) (old new : Place) : Type 0 where
  pub entries : new.entries ≡ old.entries
  pub loaded : new.loaded ≡ old.loaded
  pub first : IsFirstFrom old.entries old.place (id + 1) new.place

-- the entries from the cursors on
abbrev pub left_in : List Place → ℕ
left_in cs = sum_by (λ (c : Place). length c.entries - c.place) cs

abbrev pub ArePassed : ℕ → List Place → List Place → Type 0
ArePassed id old new = (length new ≡ length old) × ((j : ℕ) (d : Place) → j < length old → Passed id (get_or old j d) (get_or new j d))

-- by the entries that the cursors show, the conjunction is a match
abbrev pub is_shown : List Place → ℕ → ℕ → Bool
is_shown cs k id = not (list_any (shows_negated id) cs) && nat_le k (count_by (shows_plain id) cs)

-- what is known between two turns of the merge: all numbers below `b` are decided
pub record Decided (lists : List (List Entry)) (k : ℕ) (cs : List Place) (ids : List ℕ) (b : ℕ) : Type 0 where
  pub same : map entries_of cs ≡ lists
  pub stand : All (Stands b) cs
  pub rising : (i : ℕ) → i + 1 < length ids → slice_index ids i < slice_index ids (i + 1)
  pub below : (i : ℕ) → i < length ids → slice_index ids i < b
  pub sound : (id : ℕ) → Contains ids id → is_match lists k id ≡ true
  pub whole : (id : ℕ) → id < b → is_match lists k id ≡ true → Contains ids id
