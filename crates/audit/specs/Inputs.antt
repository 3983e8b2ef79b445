-- What comes of a source, one item behind the other. Only private clauses cite this file.
use Rattle.std.specs.Prelude.{◌≡◌, ◌≢◌, ℕ, Bool, true, false, List, [], ◌++◌, length, Option, Some, None}
use Rattle.std.specs.Io.KnownBytes.{Consumes, IsAtEnd}
use Rattle.audit.specs.declared.input.Next.{Next}
use Rattle.audit.specs.declared.input.Next.TheVariants as next

-- these bytes came of the source, and are held behind what was
pub record Comes (left left' : Option (List ℕ)) (old new : List ℕ) : Type 0 where
  pub came : List ℕ
  pub consumes : Consumes left left' came
  pub held : new ≡ old ++ came

-- more came, or the source is at its end
pub record Fills (left left' : Option (List ℕ)) (old new : List ℕ) (some : Bool) : Type 0 where
  pub comes : Comes left left' old new
  pub grown : some ≡ true → new ≢ []
  pub ended : some ≡ false → (new ≡ old) × IsAtEnd left'

-- whether something is left, by the bytes that were held and those that came
pub record Looks (left left' : Option (List ℕ)) (old : List ℕ) (some : Bool) : Type 0 where
  pub all : List ℕ
  pub comes : Comes left left' old all
  pub more : some ≡ true → all ≢ []
  pub none : some ≡ false → (all ≡ []) × IsAtEnd left'

module _ {A : Type 0} (IsValid : A → Type 0) (encode : A → List ℕ) where
  -- the bytes begin with no item
  abbrev pub BeginsNone : List ℕ → Type 0
  BeginsNone bytes = (x : A) (rest : List ℕ) → IsValid x → bytes ≡ encode x ++ rest → ⊥

  -- an item was taken from the front, or none begins there
  abbrev pub Takes : List ℕ → List ℕ → Option (A × ℕ) → Type 0
  Takes old new None = (new ≡ old) × BeginsNone old
  Takes old new (Some p) = IsValid p.0 × (old ≡ encode p.0 ++ new) × (p.1 ≡ length (encode p.0))

  -- what is next, by the bytes that are held once they came
  abbrev pub IsThen : Option (List ℕ) → List ℕ → List ℕ → Next A → Type 0
  IsThen left' all new (next.Item x size) = IsValid x × (all ≡ encode x ++ new) × (size ≡ length (encode x))
  IsThen left' all new next.End = IsAtEnd left' × (all ≡ []) × (new ≡ all)
  IsThen left' all new next.Torn = IsAtEnd left' × (all ≢ []) × BeginsNone all × (new ≡ all)

  -- what is next, by the bytes that were held and those that came
  pub record IsNext (left left' : Option (List ℕ)) (old new : List ℕ) (found : Next A) : Type 0 where
    pub all : List ℕ
    pub comes : Comes left left' old all
    pub next_is : IsThen left' all new found
