-- What stands at a place of some bytes, and codes of which no word is a front of another.
use Rattle.std.specs.Prelude.{◌≡◌, ℕ, ◌+◌, ◌≤◌, List, ◌++◌, length, drop, Option, MatchOption}

-- the bytes from the place on begin with the word, and next is the place behind it
pub record BeginsAt (bytes : List ℕ) (place : ℕ) (word : List ℕ) (next : ℕ) : Type 0 where
  pub there : drop place bytes ≡ word ++ drop next bytes
  pub behind : next ≡ place + length word
  pub inside : next ≤ length bytes

-- What is read at a place. Some: what is valid, whose bytes begin there, and the place behind them.
-- None: the bytes of nothing valid begin there, also where the place is past the end.
abbrev pub IsReadAt : {A : Type 0} → (A → Type 0) → (A → List ℕ) → List ℕ → ℕ → Option (A × ℕ) → Type 0
IsReadAt {A} IsValid encode bytes place found = MatchOption found
    ((x : A) (next : ℕ) → IsValid x → BeginsAt bytes place (encode x) next → ⊥)
    (λ p. IsValid p.0 × BeginsAt bytes place (encode p.0) p.1)

-- a prefix code: from bytes that begin with a word, whose word it is and where it ends are known
pub record IsCode {A : Type 0} (IsValid : A → Type 0) (encode : A → List ℕ) : Type 0 where
  pub unique : (x y : A) (s t : List ℕ) → IsValid x → IsValid y → encode x ++ s ≡ encode y ++ t → (x ≡ y) × (s ≡ t)

-- two in a row
abbrev pub BothValid : {A B : Type 0} → (A → Type 0) → (B → Type 0) → A × B → Type 0
BothValid IsFirst IsSecond p = IsFirst p.0 × IsSecond p.1

abbrev pub both_bytes : {A B : Type 0} → (A → List ℕ) → (B → List ℕ) → A × B → List ℕ
both_bytes first second p = first p.0 ++ second p.1
