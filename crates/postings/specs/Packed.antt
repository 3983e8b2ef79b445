-- How a posting list keeps its entries: the numbers in one list, and a bit for each entry that is set
-- where it is negated. A word has the bits of 64 entries, the first in its lowest bit.
use Rattle.std.specs.Prelude.{ℕ, ◌≡◌, ◌<◌, ◌+◌, ◌/◌, ◌%◌, ◌==◌, List, [], ◌∷◌, Bool, length, slice_index}
use Rattle.std.specs.Int.{bit_at}
use Rattle.postings.specs.declared.entry.Entry.{Entry}
use Rattle.postings.specs.Order.{entry_at}

abbrev pub id_of : Entry → ℕ
id_of e = e.id

-- the bit of the entry at the place is set
unfoldable pub is_marked : List ℕ → ℕ → Bool
is_marked marks i = bit_at (slice_index marks (i / 64)) (i % 64) == 1

-- the entries of these numbers, the first at place n
abbrev pub unpack_from : List ℕ → ℕ → List ℕ → List Entry
unpack_from marks n [] = []
unpack_from marks n (id ∷ ids) = record { id = id; negated = is_marked marks n } ∷ unpack_from marks (n + 1) ids

abbrev pub unpack : List ℕ → List ℕ → List Entry
unpack ids marks = unpack_from marks 0 ids

-- the bits are those of the entries
abbrev pub AreMarked : List ℕ → List Entry → Type 0
AreMarked marks es = (i : ℕ) → i < length es → is_marked marks i ≡ (entry_at es i).negated
