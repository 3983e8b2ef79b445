-- Where an image is damaged as the journal of an exchange.
use Rattle.std.specs.Prelude.{◌≡◌, ◌⊎◌, ℕ, List, ◌++◌, Some, None, Ok}
use Rattle.effects.specs.Bytes.{IsDecoded}
use Rattle.journal_file.specs.Blocks.{IsName, end_of, front_of, journal_names}
use Rattle.journal_file.specs.Damage.{HasBlock, IsCutShort, IsForeign}
use Rattle.plain_exchange.specs.declared.changes.Effect.{Effect}
use Rattle.plain_exchange.specs.Effects.{all_applied, state_of}
use Rattle.plain_exchange.specs.State.{State}
use Rattle.recovery.specs.Texts.{IsTextOf}

-- the payload is no list of effects, or has one that does not fit the state that it comes to
abbrev pub IsUnfit : List ℕ → State → Type 0
IsUnfit payload state = (effects : List Effect) → IsDecoded payload (Ok effects) → all_applied effects state ≡ None

-- These are the bytes from a gate on, in the state that the blocks before it lead to: the gate is open, and
-- its block does not all lie in them, or its payload is unfit.
abbrev pub IsBadBlock : List ℕ → State → Type 0
IsBadBlock bytes state = IsCutShort bytes ⊎ ((payload : List ℕ) × HasBlock payload bytes × IsUnfit payload state)

-- the image is damaged at a gate: the blocks before it lead to a state, and behind it is a bad block
pub record IsDamagedBehind (image : List ℕ) (at : ℕ) : Type 0 where
  pub name : List ℕ
  pub named : IsName journal_names name
  pub payloads : List (List ℕ)
  pub effects : List Effect
  pub text : IsTextOf payloads effects
  pub state : State
  pub leads : state_of effects ≡ Some state
  pub rest : List ℕ
  pub file : image ≡ front_of name payloads ++ rest
  pub place : at ≡ end_of payloads
  pub bad : IsBadBlock rest state

-- the image is damaged at the place: it is no journal, or a block is bad and none before it is
abbrev pub IsDamagedAt : List ℕ → ℕ → Type 0
IsDamagedAt image at = ((at ≡ 0) × IsForeign journal_names image) ⊎ IsDamagedBehind image at
