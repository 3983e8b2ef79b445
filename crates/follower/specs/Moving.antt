-- What a step of a catching up did, by what its disk showed in it. Private.
use Rattle.std.specs.Prelude.{◌≡◌, ℕ, ◌+◌, List, [], ◌∷◌, ◌++◌, length, drop, Bool, true, false, Result, Ok, Err}
use Rattle.follower.specs.Following.{Lead}
use Rattle.follower.specs.Seen.{AreFrom, IsSeen, SeesBadBlock, SeesHead, Since, StartsAt}
use Rattle.follower.specs.declared.follower.Follower.{Follower}
use Rattle.journal_file.specs.Blocks.{IsTornCreation, journal_names}
use Rattle.journal_file.specs.Damage.{IsForeign}
use Rattle.journal_file.specs.Shows.{ShowsBlock, ShowsCut, ShowsOpen, ShowsShut}
use Rattle.journal_file.specs.declared.faults.JournalFault.{JournalFault}
use Rattle.journal_file.specs.declared.faults.JournalFault.TheVariants as fault
use Rattle.plain_exchange.specs.declared.changes.Effect.{Effect}
use Rattle.plain_exchange.specs.State.{State}
use Rattle.rtb_disk.specs.Showing.{Shown}

-- whole blocks alone, but for the first effects of the first
abbrev pub AreWhole : List Shown → ℕ → ℕ → List (List Effect) → List Effect → ℕ → ℕ → Type 0
AreWhole shown gate done [] effects gate' done' = (gate' ≡ gate) × (done' ≡ done) × (effects ≡ [])
AreWhole shown gate done (block ∷ blocks) effects gate' done' =
    (payload : List ℕ) × (more : List Effect) × IsSeen shown gate payload block × (effects ≡ drop done block ++ more) × AreWhole shown (gate + 9 + length payload) 0 blocks more gate' done'

-- where a follower stands, and by what was carried out
pub record Spot : Type 0 where
  pub state : State
  pub count : ℕ
  pub gate : ℕ
  pub done : ℕ

abbrev pub spot : {D : Type 0} → Follower D → Spot
spot f = record { state = f.core.state; count = f.count; gate = f.gate; done = f.done }

-- whole blocks were carried out
pub record Passes (shown : List Shown) (old new : Spot) : Type 0 where
  pub blocks : List (List Effect)
  pub effects : List Effect
  pub lead : Lead old.state new.state old.count new.count effects
  pub are : AreWhole shown old.gate old.done blocks effects new.gate new.done

-- and maybe a part of the block behind them
pub record Moves (shown : List Shown) (old new : Spot) : Type 0 where
  pub blocks : List (List Effect)
  pub effects : List Effect
  pub lead : Lead old.state new.state old.count new.count effects
  pub are : AreFrom shown old.gate old.done blocks effects new.gate new.done

-- the gate was shown open, and not that its block is not whole
abbrev pub IsOpenAlone : ℕ → List Shown → Type 0
IsOpenAlone gate shown = ShowsOpen gate shown × (ShowsCut gate shown → ⊥)

-- the block was shown, and not that it is not whole
abbrev pub IsBlockAlone : ℕ → List ℕ → List Shown → Type 0
IsBlockAlone gate payload shown = ShowsBlock gate payload shown × (ShowsCut gate shown → ⊥)

-- a step that was refused
abbrev pub IsRefused : List Shown → Spot → Spot → JournalFault → Type 0
IsRefused shown old new (fault.Damaged at) = Moves shown old new × (at ≡ new.gate) × SeesBadBlock shown new.gate new.done new.state
IsRefused shown old new fault.DiskFailed = Moves shown old new
IsRefused shown old new fault.Memory = Moves shown old new × Since (IsOpenAlone new.gate) shown

-- Whole blocks were carried out, and there may be more, or the gate behind them is shut; or it was refused.
abbrev pub IsTurn : List Shown → Spot → Spot → Result Bool JournalFault → Type 0
IsTurn shown old new (Ok true) = Passes shown old new
IsTurn shown old new (Ok false) = Passes shown old new × ShowsShut new.gate shown
IsTurn shown old new (Err e) = IsRefused shown old new e

-- The file was seen to be a journal, or its creation not to be finished, or that it is no journal.
abbrev pub IsBegun : List Shown → Spot → Spot → Result Bool JournalFault → Type 0
IsBegun shown old new (Ok true) = StartsAt shown old.gate new.gate
IsBegun shown old new (Ok false) = (old.gate ≡ 0) × (new.gate ≡ old.gate) × SeesHead IsTornCreation shown
IsBegun shown old new (Err (fault.Damaged at)) = (old.gate ≡ 0) × (new.gate ≡ old.gate) × (at ≡ 0) × SeesHead (IsForeign journal_names) shown
IsBegun shown old new (Err fault.DiskFailed) = new.gate ≡ old.gate
IsBegun shown old new (Err fault.Memory) = ⊥
