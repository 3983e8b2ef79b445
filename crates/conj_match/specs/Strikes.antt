-- Entries that are counted as if they were plain, and then struck where they are negated, which the crate's
-- private clauses cite.
use Rattle.std.specs.Prelude.{ℕ, zero, suc, ◌≡◌, ◌+◌, ◌*◌, ◌%◌, ◌<◌, ◌==◌, List, count_by, length, slice_index, take}
use Rattle.postings.specs.declared.entry.Entry.{Entry}
use Rattle.conj_match.specs.Tally.{excludes}

-- a mark that counts so many entries more
abbrev pub counted : ℕ → ℕ → ℕ
counted mark zero = mark
counted mark (suc n) = (mark + suc n) % 256

-- each of the numbers is counted
abbrev pub AreCounted : List ℕ → List ℕ → List ℕ → Type 0
AreCounted marks ids new = (i : ℕ) → i < length marks → slice_index new i ≡ counted (slice_index marks i) (count_by (λ n. n == i) ids)

-- a mark from which so many negated entries are struck
abbrev pub struck : ℕ → ℕ → ℕ
struck mark zero = mark
struck mark (suc n) = (mark + 127 * suc n) % 128

-- of the first `n` entries the negated ones are struck
abbrev pub AreStruck : List ℕ → List Entry → ℕ → List ℕ → Type 0
AreStruck marks es n new = (i : ℕ) → i < length marks → slice_index new i ≡ struck (slice_index marks i) (count_by (excludes i) (take n es))
