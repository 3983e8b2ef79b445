-- The effects that a journal says, and the state that they lead to.
use Rattle.std.specs.Prelude.{◌≡◌, ℕ, List, All, Some, map}
use Rattle.std.specs.List.{flat_map}
use Rattle.effects.specs.Bytes.{IsEncodable, effects_bytes}
use Rattle.journal_file.specs.Blocks.{StandsFor, journal_names}
use Rattle.plain_exchange.specs.declared.changes.Effect.{Effect}
use Rattle.plain_exchange.specs.Effects.{state_of}
use Rattle.plain_exchange.specs.State.{State}

-- the payloads are the bytes of blocks of effects, and these are the effects of all blocks in their order
pub record IsTextOf (payloads : List (List ℕ)) (effects : List Effect) : Type 0 where
  pub blocks : List (List Effect)
  pub encodable : All (All IsEncodable) blocks
  pub payloads_are : payloads ≡ map effects_bytes blocks
  pub effects_are : effects ≡ flat_map (λ (block : List Effect). block) blocks

-- the image is a journal that says these effects, or a creation that was not finished, which says none
pub record HasText (image : List ℕ) (effects : List Effect) : Type 0 where
  pub payloads : List (List ℕ)
  pub stands : StandsFor journal_names payloads image
  pub text : IsTextOf payloads effects

-- the image is a journal, and its effects lead from the exchange without campaigns to the state
pub record GivesState (image : List ℕ) (state : State) : Type 0 where
  pub effects : List Effect
  pub has : HasText image effects
  pub leads : state_of effects ≡ Some state
