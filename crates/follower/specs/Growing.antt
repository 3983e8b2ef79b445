-- A journal that another program appends to.
use Rattle.std.specs.Prelude.{◌≡◌, ◌⊎◌, ℕ, ◌<◌, ◌^◌, List, ◌++◌, length}
use Rattle.follower.specs.Following.{StandsIn}
use Rattle.journal_file.specs.Blocks.{HasBlocks, IsTornCreation, journal_names}
use Rattle.plain_exchange.specs.declared.changes.Effect.{Effect}
use Rattle.plain_exchange.specs.State.{State}
use Rattle.recovery.specs.Texts.{HasText}

-- Whole blocks came behind those of the first image, the gate in front of them last: the gate behind the last block is
-- closed in both. What stands behind a closed gate has no meaning, so it may be anything, as while a block is written.
pub record Appends (image image' : List ℕ) : Type 0 where
  pub payloads : List (List ℕ)
  pub more : List (List ℕ)
  pub before : HasBlocks journal_names payloads image
  pub after : HasBlocks journal_names (payloads ++ more) image'
  pub named : after.name ≡ before.name

-- or the creation of the journal was not finished
abbrev pub Grows : List ℕ → List ℕ → Type 0
Grows image image' = IsTornCreation image ⊎ Appends image image'

-- What was carried out of the first image, up to where a follower stands in it, is so of the other.
abbrev pub StandsThen : List ℕ → List ℕ → Type 0
StandsThen image image' = (s : State) (n gate done : ℕ) → StandsIn image s n gate done → StandsIn image' s n gate done

-- What the first image says is a front of what the other says.
abbrev pub SaysMore : List ℕ → List ℕ → Type 0
SaysMore image image' = (es fs : List Effect) → HasText image es → HasText image' fs → (more : List Effect) × (fs ≡ es ++ more)

-- of images that a disk can have
abbrev pub WhereGrown : (List ℕ → List ℕ → Type 0) → Type 0
WhereGrown P = (image image' : List ℕ) → length image < 2 ^ 64 → length image' < 2 ^ 64 → Grows image image' → P image image'
