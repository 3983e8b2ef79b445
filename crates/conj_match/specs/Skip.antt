-- Skips, and a match that skips from the shortest list, which the crate's private clauses cite.
use Rattle.std.specs.Prelude.{ℕ, ◌≡◌, ◌+◌, ◌^◌, ◌<◌, ◌≤◌, ◌&&◌, not, List, [], Bool, Option, false, true, nat_lt, get_or, length, slice_get, slice_index, Contains}
use Rattle.std.specs.Option.{option_map_or}
use Rattle.postings.specs.declared.entry.Entry.{Entry}
use Rattle.postings.specs.Order.{entry_at}
use Rattle.conj_match.specs.declared.leaping.Reach.{Reach}
use Rattle.conj_match.specs.Matching.{has_negated, has_plain, is_match, lists_at, reading_cost, shortest, skipping_cost}
use Rattle.conj_match.specs.Place.{Place, current}

-- there is an entry, and its number is below `id`
abbrev pub is_short : ℕ → Option Entry → Bool
is_short id entry = option_map_or (λ (e : Entry). nat_lt e.id id) entry false

-- the cursor shows such an entry
abbrev pub falls_short : ℕ → Place → Bool
falls_short id c = is_short id (current c)

-- counted from `origin`, the entry at `low` is below `id`, and the one at `high` is not, or is past the end
pub record Reaches (es : List Entry) (origin id : ℕ) (r : Reach) : Type 0 where
  pub ordered : r.low < r.high
  pub within : origin + r.high ≤ length es
  pub fits : origin + r.high < 2 ^ 64
  pub below : (entry_at es (origin + r.low)).id < id
  pub shown : r.entry ≡ slice_get es (origin + r.high)
  pub far : origin + r.high < length es → id ≤ (entry_at es (origin + r.high)).id

-- the list asks for the conjunction, and does not exclude it
abbrev pub is_asked : ℕ → List Entry → Bool
is_asked id es = not (has_negated id es) && has_plain id es

-- as many lists as `k` are chosen, the one at the place is a shortest of them, and to skip from it is the
-- smaller bound
pub record SkipsFrom (lists : List (List Entry)) (chosen : List ℕ) (k place : ℕ) : Type 0 where
  pub many : length chosen ≡ k
  pub there : place < length lists
  pub member : Contains (lists_at lists chosen) (get_or lists place [])
  pub least : length (get_or lists place []) ≡ shortest (lists_at lists chosen)
  pub smaller : skipping_cost (lists_at lists chosen) k ≤ reading_cost (lists_at lists chosen)

-- what is known after the first `n` entries of the shortest list: the matches among its plain ones are found
pub record IsSkipped (lists : List (List Entry)) (k : ℕ) (es : List Entry) (n : ℕ) (ids : List ℕ) : Type 0 where
  pub rising : (i : ℕ) → i + 1 < length ids → slice_index ids i < slice_index ids (i + 1)
  pub sound : (id : ℕ) → Contains ids id → is_match lists k id ≡ true
  pub ahead : (j m : ℕ) → j < length ids → n ≤ m → m < length es → (entry_at es m).negated ≡ false → slice_index ids j < (entry_at es m).id
  pub whole : (m : ℕ) → m < n → (entry_at es m).negated ≡ false → is_match lists k (entry_at es m).id ≡ true → Contains ids (entry_at es m).id
