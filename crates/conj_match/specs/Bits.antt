-- Numbers as bits of words, 64 to a word, the lowest bit first (`is_marked` of `postings`).
use Rattle.std.specs.Prelude.{ℕ, ◌≡◌, ◌+◌, ◌*◌, ◌<◌, ◌==◌, ◌||◌, List, Bool, true, Contains, length, slice_index}
use Rattle.std.specs.Int.{bit_at}
use Rattle.postings.specs.Packed.{is_marked}

-- the bits of these numbers are set besides
abbrev pub AreSet : (ℕ → Bool) → List ℕ → List ℕ → Type 0
AreSet p old new = (i : ℕ) → i < 64 * length old → is_marked new i ≡ (is_marked old i || p i)

-- the ids rise, and are exactly those below `n` that pass the test
pub record AreThose (p : ℕ → Bool) (n : ℕ) (ids : List ℕ) : Type 0 where
  pub rising : (i : ℕ) → i + 1 < length ids → slice_index ids i < slice_index ids (i + 1)
  pub below : (i : ℕ) → i < length ids → slice_index ids i < n
  pub sound : (id : ℕ) → Contains ids id → p id ≡ true
  pub whole : (id : ℕ) → id < n → p id ≡ true → Contains ids id

-- the word has the bits of the 64 numbers from `base` on
abbrev pub IsWord : List ℕ → ℕ → ℕ → Type 0
IsWord bits base word = (i : ℕ) → i < 64 → is_marked bits (base + i) ≡ (bit_at word i == 1)
