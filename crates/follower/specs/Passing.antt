-- What comes of the block at a gate. Private.
use Rattle.std.specs.Prelude.{◌≡◌, ◌⊎◌, ℕ, ◌+◌, nat_eq, List, [], ◌∷◌, ◌++◌, Bool, true, false, not, length, drop, None, Result, Ok, Err}
use Rattle.auction_core.specs.declared.fault.ApplyFault.{ApplyFault}
use Rattle.auction_core.specs.declared.fault.ApplyFault.TheVariants as apply
use Rattle.effects.specs.Bytes.{IsDecoded}
use Rattle.follower.specs.declared.follower.Follower.{Follower}
use Rattle.follower.specs.Following.{Lead, SaysAll, StandsIn}
use Rattle.journal_file.specs.declared.faults.JournalFault.{JournalFault}
use Rattle.journal_file.specs.declared.faults.JournalFault.TheVariants as fault
use Rattle.plain_exchange.specs.declared.changes.Effect.{Effect}
use Rattle.plain_exchange.specs.Effects.{all_applied}
use Rattle.plain_exchange.specs.State.{State}
use Rattle.recovery.specs.Damage.{IsDamagedAt}

-- these bytes begin with a gate that is not open
abbrev pub begins_shut : List ℕ → Bool
begins_shut [] = false
begins_shut (gate ∷ rest) = not (nat_eq gate 1)

-- Why these effects were not carried out: there are none where there is no fault, and where one does not fit they do not.
abbrev pub Stops : List Effect → State → Result Unit ApplyFault → Type 0
Stops left s (Ok _) = left ≡ []
Stops left s (Err apply.Unfit) = all_applied left s ≡ None
Stops left s (Err apply.Memory) = Unit {0}

-- A front of the effects was carried out, and those behind it were not for that reason.
pub record Applies (effects : List Effect) (old new : State) (before now : ℕ) (result : Result Unit ApplyFault) : Type 0 where
  pub more : List Effect
  pub left : List Effect
  pub split : effects ≡ more ++ left
  pub lead : Lead old new before now more
  pub stops : Stops left new result

-- The payload was read, and of its effects those behind the first so many were carried out.
pub record Carries (payload : List ℕ) (done done' : ℕ) (old new : State) (before now : ℕ) (result : Result Unit ApplyFault) : Type 0 where
  pub block : List Effect
  pub decoded : IsDecoded payload (Ok block)
  pub applies : Applies (drop done block) old new before now result
  pub place : done' ≡ done + length applies.more

-- why no payload was read
abbrev pub IsUnread : List ℕ → Result Unit ApplyFault → Type 0
IsUnread payload (Ok _) = ⊥
IsUnread payload (Err apply.Unfit) = (block : List Effect) → IsDecoded payload (Ok block) → ⊥
IsUnread payload (Err apply.Memory) = Unit {0}

-- The effects of the payload were carried out but for the first so many, or nothing was done.
abbrev pub IsCarried : List ℕ → ℕ → ℕ → State → State → ℕ → ℕ → Result Unit ApplyFault → Type 0
IsCarried payload done done' old new before now result =
    Carries payload done done' old new before now result
    ⊎ (IsUnread payload result × (new ≡ old) × (now ≡ before) × (done' ≡ done))

-- what that is told as of the block at the gate
abbrev pub at_gate : ℕ → Result Unit ApplyFault → Result Unit JournalFault
at_gate gate (Ok u) = Ok u
at_gate gate (Err apply.Unfit) = Err (fault.Damaged gate)
at_gate gate (Err apply.Memory) = Err fault.Memory

-- One block more was carried out, or there is none more, or there is damage; what was carried out leads there.
abbrev pub TurnsIn : List ℕ → State → ℕ → ℕ → ℕ → Result Bool JournalFault → Type 0
TurnsIn image s n gate done (Ok true) = StandsIn image s n gate done
TurnsIn image s n gate done (Ok false) = StandsIn image s n gate done × SaysAll image s n
TurnsIn image s n gate done (Err (fault.Damaged at)) = StandsIn image s n gate done × IsDamagedAt image at
TurnsIn image s n gate done (Err fault.DiskFailed) = StandsIn image s n gate done
TurnsIn image s n gate done (Err fault.Memory) = StandsIn image s n gate done

abbrev pub Turns : {D : Type 0} → List ℕ → Follower D → Result Bool JournalFault → Type 0
Turns image f result = TurnsIn image f.core.state f.count f.gate f.done result
