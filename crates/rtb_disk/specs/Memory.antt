-- What contracts see of a disk in memory.
use Rattle.std.specs.Prelude.{◌≡◌, ◌⊎◌, ℕ, List, [], ◌∷◌, ◌++◌, Bool, true, false, Option, nat_le, Result, MatchResult, ◌||◌}
use Rattle.std.specs.Option.{option_map_or}
use Rattle.rtb_base.specs.Calls.{Calls, next_fails, one_call_later}
use Rattle.rtb_base.specs.Faults.{one_more}
use Rattle.rtb_disk.specs.Stores.{Store, fresh}
use Rattle.rtb_disk.specs.Record.{made_of, replay}
use Rattle.rtb_disk.specs.declared.calls.Call.{Call}
use Rattle.rtb_disk.specs.declared.calls.Made.{Made}

-- what it was made with, the record of its calls, their count, and the number of the first call that is stopped
pub record DiskState : Type 0 where
  pub first : List ℕ
  pub made : List Made
  pub calls : Calls
  pub stop : Option ℕ

-- what is known of it
abbrev pub store_of : DiskState → Store
store_of d = replay d.made (fresh d.first)

-- the next call is stopped
abbrev pub is_stopped : DiskState → Bool
is_stopped d = option_map_or (λ n. nat_le n (one_more d.calls.calls)) d.stop false

-- one call later, which is in the record, and failed or not
abbrev pub recorded : Call → Bool → DiskState → DiskState
recorded call failed d = record { first = d.first; made = d.made ++ made_of call failed ∷ []; calls = one_call_later d.calls failed; stop = d.stop }

-- one call later, which failed, did nothing and is not in the record
abbrev pub unheard : DiskState → DiskState
unheard d = record { first = d.first; made = d.made; calls = one_call_later d.calls true; stop = d.stop }

-- A call that succeeds was neither stopped nor told to fail. One that fails did nothing, or what a call
-- that fails does where it was not stopped.
abbrev pub Did : {T E : Type 0} → Call → DiskState → DiskState → Result T E → Type 0
Did call old new r = MatchResult r
    (λ _. ((is_stopped old || next_fails old.calls) ≡ false) × (new ≡ recorded call false old))
    (λ _. (new ≡ unheard old) ⊎ ((is_stopped old ≡ false) × (new ≡ recorded call true old)))
