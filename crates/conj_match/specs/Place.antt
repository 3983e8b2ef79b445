-- A place in a posting list.
use Rattle.std.specs.Prelude.{ℕ, ◌≡◌, ◌<◌, ◌≤◌, ◌^◌, List, Bool, Option, Some, None, MatchOption, if◌then◌else◌, length, nat_lt, slice_get}
use Rattle.std.specs.Option.{option_map_or}
use Rattle.postings.specs.declared.entry.Entry.{Entry}
use Rattle.postings.specs.Order.{entry_at}

-- the list, the place in it, and whether the entry there was read
pub record Place : Type 0 where
  pub entries : List Entry
  pub place : ℕ
  pub loaded : Bool

-- the entry at the place, where it was read
abbrev pub current : Place → Option Entry
current c = if c.loaded then slice_get c.entries c.place else None

-- the number of the entry, or 2^32 where there is none
abbrev pub HasHead : Option Entry → ℕ → Type 0
HasHead entry head = MatchOption entry (head ≡ 2 ^ 32) (λ e. (head ≡ e.id) × (head < 2 ^ 32))

abbrev pub head_of : Place → ℕ
head_of c = option_map_or (λ (e : Entry). e.id) (current c) (2 ^ 32)

-- the number that a head stands for
abbrev pub number_of : ℕ → Option ℕ
number_of head = if nat_lt head (2 ^ 32) then Some head else None

-- `now` is the first place, from `before` on, whose entry's number is at least `id`, or is past the end
abbrev pub IsFirstFrom : List Entry → ℕ → ℕ → ℕ → Type 0
IsFirstFrom es before id now =
    (before ≤ now) × (now ≤ length es)
    × ((i : ℕ) → before ≤ i → i < now → (entry_at es i).id < id)
    × (now < length es → id ≤ (entry_at es now).id)
