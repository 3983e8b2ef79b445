-- The marks of a match by counting, which the crate's private clauses cite.
use Rattle.std.specs.Prelude.{ℕ, ◌≡◌, ◌+◌, ◌<◌, ◌&&◌, ◌||◌, ◌==◌, not, nat_le, List, Bool, if◌then◌else◌, count_by, length, slice_index}
use Rattle.std.specs.List.{flat_map, list_any}
use Rattle.postings.specs.declared.entry.Entry.{Entry}
use Rattle.postings.specs.Order.{entry_at}
use Rattle.postings.specs.Packed.{is_marked}

-- the numbers of the entries are below `width`
abbrev pub IsBelow : ℕ → List Entry → Type 0
IsBelow width es = (i : ℕ) → i < length es → (entry_at es i).id < width

-- the entries of the lists, one list after the other
abbrev pub all_in : List (List Entry) → List Entry
all_in lists = flat_map (λ (es : List Entry). es) lists

-- the entry is of the conjunction; it is a negated one of it, or another
abbrev pub is_of : ℕ → Entry → Bool
is_of id e = e.id == id

abbrev pub excludes : ℕ → Entry → Bool
excludes id e = (e.id == id) && e.negated

abbrev pub asks : ℕ → Entry → Bool
asks id e = (e.id == id) && not e.negated

-- how many entries ask for the conjunction, and 128 more where none excludes it
abbrev pub tally_of : ℕ → List Entry → ℕ
tally_of id es = (if list_any (excludes id) es then 0 else 128) + count_by (asks id) es

-- each mark is that of the entries, where fewer than 128 ask
abbrev pub AreTallied : List ℕ → List Entry → Type 0
AreTallied marks es = (id : ℕ) → id < length marks → count_by (asks id) es < 128 → slice_index marks id ≡ tally_of id es

-- the marks of no entry
abbrev pub AreBlank : List ℕ → Type 0
AreBlank marks = (i : ℕ) → i < length marks → slice_index marks i ≡ 128

-- the mark is that of a match
abbrev pub is_hit : ℕ → ℕ → Bool
is_hit k mark = nat_le (128 + k) mark

-- the marks of these entries are blank again, and the bits of the matches among them are set
pub record AreTaken (k : ℕ) (marks hits : List ℕ) (es : List Entry) (new found : List ℕ) : Type 0 where
  pub blank : (i : ℕ) → i < length marks → slice_index new i ≡ (if list_any (is_of i) es then 128 else slice_index marks i)
  pub bits : (i : ℕ) → i < length marks → is_marked found i ≡ (is_marked hits i || (list_any (is_of i) es && is_hit k (slice_index marks i)))
