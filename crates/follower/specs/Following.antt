-- What a follower of a journal has carried out, and where it stands in the file.
use Rattle.std.specs.Prelude.{◌≡◌, ◌⊎◌, ℕ, ◌+◌, ◌≤◌, List, [], ◌∷◌, ◌++◌, All, length, take, Some, true, Result, Err, IfOk, OnOk}
use Rattle.effects.specs.Bytes.{IsEncodable, effects_bytes}
use Rattle.follower.specs.declared.follower.Follower.{Follower}
use Rattle.follower.specs.declared.follower.FollowReport.{FollowReport}
use Rattle.journal_file.specs.Blocks.{IsName, block_bytes, end_of, front_of, journal_names}
use Rattle.follower.specs.Seen.{AreCarried, SeesWhy}
use Rattle.journal_file.specs.Shows.{ShowsMore}
use Rattle.journal_file.specs.declared.faults.JournalFault.{JournalFault}
use Rattle.journal_file.specs.declared.faults.JournalFault.TheVariants as fault
use Rattle.plain_exchange.specs.declared.changes.Effect.{Effect}
use Rattle.plain_exchange.specs.Effects.{all_applied, state_of}
use Rattle.plain_exchange.specs.State.{Campaign, State, totals}
use Rattle.recovery.specs.Damage.{IsDamagedAt}
use Rattle.recovery.specs.Texts.{HasText, IsTextOf}
use Rattle.rtb_base.specs.Faults.{RisesOnlyWhere}
use Rattle.rtb_disk.specs.Showing.{Shown}
use Rattle.rtb_disk.specs.declared.disk.Disk.{Ghosts}

-- ---- a place in a file

-- The first so many effects of the block at the front of these bytes, which is open and whole.
abbrev pub IsPart : ℕ → List ℕ → List Effect → Type 0
IsPart done bytes part = ((done ≡ 0) × (part ≡ []))
    ⊎ ((block : List Effect) × (next : ℕ) × (rest : List ℕ) × All IsEncodable block × (bytes ≡ 1 ∷ (block_bytes (effects_bytes block) ++ next ∷ rest)) × (done ≤ length block) × (part ≡ take done block))

-- The effects of the blocks before the gate, and the first so many of the block behind it.
pub record IsBehind (image : List ℕ) (gate done : ℕ) (effects : List Effect) : Type 0 where
  pub name : List ℕ
  pub named : IsName journal_names name
  pub payloads : List (List ℕ)
  pub before : List Effect
  pub text : IsTextOf payloads before
  pub part : List Effect
  pub next : ℕ
  pub rest : List ℕ
  pub file : image ≡ front_of name payloads ++ next ∷ rest
  pub place : gate ≡ end_of payloads
  pub part_is : IsPart done (next ∷ rest) part
  pub effects_are : effects ≡ before ++ part

-- The same, where gate 0 is that of the file, behind which nothing was read yet.
abbrev pub IsUpTo : List ℕ → ℕ → ℕ → List Effect → Type 0
IsUpTo image gate done effects = ((gate ≡ 0) × (done ≡ 0) × (effects ≡ [])) ⊎ IsBehind image gate done effects

-- ---- a report

-- of campaign n
abbrev pub report_of : State → ℕ → Campaign → FollowReport
report_of s n c = record { live = c.live; bid = c.facts.bid; budget = c.facts.budget; totals = totals s n c }

-- ---- effects carried out

-- Effects lead from the one state to the other, and the one count grew to the other by their number.
pub record Lead (old new : State) (before now : ℕ) (effects : List Effect) : Type 0 where
  pub applied : all_applied effects old ≡ Some new
  pub counted : now ≡ before + length effects

-- The effects up to the place lead to the state, and are so many.
pub record StandsIn (image : List ℕ) (s : State) (n gate done : ℕ) : Type 0 where
  pub effects : List Effect
  pub leads : state_of effects ≡ Some s
  pub counted : n ≡ length effects
  pub up_to : IsUpTo image gate done effects

-- All effects that the image says lead to the state, and are so many.
pub record SaysAll (image : List ℕ) (s : State) (n : ℕ) : Type 0 where
  pub effects : List Effect
  pub has : HasText image effects
  pub leads : state_of effects ≡ Some s
  pub counted : n ≡ length effects

module _ {D : Type 0} where
  abbrev pub state_in : Follower D → State
  state_in f = f.core.state

  -- how many effects were carried out
  abbrev pub count_in : Follower D → ℕ
  count_in f = f.count

  abbrev pub disk_in : Follower D → D
  disk_in f = f.disk

  -- More effects were carried out, one after the other, and counted.
  abbrev pub GoesOn : Follower D → Follower D → Type 0
  GoesOn old new = (more : List Effect) × Lead old.core.state new.core.state old.count new.count more

  -- The first effects that the image says were carried out, each once: those up to where the follower stands.
  abbrev pub IsWithin : List ℕ → Follower D → Type 0
  IsWithin image f = StandsIn image f.core.state f.count f.gate f.done

  -- All effects that the image says were carried out.
  abbrev pub IsCaughtUp : List ℕ → Follower D → Type 0
  IsCaughtUp image f = SaysAll image f.core.state f.count

-- What was carried out between two states of a follower, by what the disk showed meanwhile, and why it ended there.
pub record IsShownBy {D : Type 0} (shown : List Shown) (old new : Follower D) (caught : Result ℕ JournalFault) : Type 0 where
  pub effects : List Effect
  pub lead : Lead old.core.state new.core.state old.count new.count effects
  pub are : AreCarried shown old.gate old.done effects new.gate new.done
  pub why : SeesWhy shown new.gate new.done new.core.state caught

-- What comes of a catching up.
pub record CatchesUp {D : Type 0} (G : Ghosts D) (old new : Follower D) (caught : Result ℕ JournalFault) : Type 0 where
  -- whatever the disk shows: effects are carried out behind those of before, and counted
  pub goes : GoesOn old new
  pub count : IfOk caught (λ n. n ≡ new.count)
  -- where it is told, these are the first ones that it says, and after a call that is not refused all of them
  pub within : (G.store old.disk).told ≡ true → IsWithin (G.store old.disk).reads old → IsWithin (G.store old.disk).reads new
  pub all : (G.store old.disk).told ≡ true → IsWithin (G.store old.disk).reads old → OnOk caught (IsCaughtUp (G.store old.disk).reads new)
  pub damaged : (G.store old.disk).told ≡ true → IsWithin (G.store old.disk).reads old → (at : ℕ) → caught ≡ Err (fault.Damaged at) → IsDamagedAt (G.store old.disk).reads at
  -- where it tells what it shows, also of a file that grows meanwhile: by what was shown in this call alone
  pub shows : ShowsMore (G.shown old.disk) (G.shown new.disk) (λ shown. IsShownBy shown old new caught)
  -- nothing is written
  pub same : G.store new.disk ≡ G.store old.disk
  pub cause : RisesOnlyWhere (caught ≡ Err fault.DiskFailed) (G.faults old.disk) (G.faults new.disk)
