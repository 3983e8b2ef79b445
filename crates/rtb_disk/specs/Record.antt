-- What the calls of a disk in memory do.
use Rattle.std.specs.Prelude.{ℕ, ◌+◌, ◌-◌, ◌/◌, ◌&&◌, not, List, ◌++◌, length, take, fold, replicate, Bool, true, false, Option, Some, None, if◌then◌else◌}
use Rattle.rtb_disk.specs.Stores.{Store, write, cut, overwritten, changed, settled}
use Rattle.rtb_disk.specs.declared.calls.Call.{Call}
use Rattle.rtb_disk.specs.declared.calls.Call.TheVariants as call
use Rattle.rtb_disk.specs.declared.calls.Made.{Made}

-- a call that was made, and whether it failed
abbrev pub made_of : Call → Bool → Made
made_of c failed = record { call = c; failed = failed }

-- as many of the bytes as a write does: all, or the first half where it fails
abbrev pub part : Bool → List ℕ → List ℕ
part failed bytes = if failed then take (length bytes / 2) bytes else bytes

-- the bytes, with zeros behind them up to this length
abbrev pub filled : ℕ → List ℕ → List ℕ
filled n bytes = bytes ++ replicate (n - length bytes) 0

-- these bytes at the place, over what is there, and past the end; a gap is filled with zeros
abbrev pub written : ℕ → List ℕ → List ℕ → List ℕ
written place bytes old = overwritten (filled (place + length bytes) old) place bytes

-- what the bytes are behind a call that failed or not
abbrev pub done : Call → Bool → List ℕ → List ℕ
done call.Length failed old = old
done (call.Read place count) failed old = old
done (call.Write place bytes) failed old = written place (part failed bytes) old
done (call.Cut n) failed old = if failed then old else take n old
done call.Sync failed old = old

-- and behind calls, one after the other
abbrev pub all_done : List Made → List ℕ → List ℕ
all_done made old = fold (λ bytes m. done m.call m.failed bytes) old made

-- what is known of the disk behind a call that failed or not
abbrev pub effect : Call → Bool → Store → Store
effect call.Length failed s = s
effect (call.Read place count) failed s = s
effect (call.Write place bytes) failed s = changed (write place (length bytes)) (written place (part failed bytes) s.reads) s
effect (call.Cut n) failed s = if failed then s else changed (cut n) (take n s.reads) s
effect call.Sync failed s = if failed then s else settled s

-- and behind all of them
abbrev pub replay : List Made → Store → Store
replay made s = fold (λ t m. effect m.call m.failed t) s made

-- the content as it is now, where it is no longer the first
abbrev pub content_now : Option (List ℕ) → List ℕ → List ℕ
content_now None first = first
content_now (Some content) first = content

-- a write or a cut
abbrev pub is_change : Call → Bool
is_change call.Length = false
is_change (call.Read place count) = false
is_change (call.Write place bytes) = true
is_change (call.Cut n) = true
is_change call.Sync = false

abbrev is_sync : Call → Bool
is_sync call.Length = false
is_sync (call.Read place count) = false
is_sync (call.Write place bytes) = false
is_sync (call.Cut n) = false
is_sync call.Sync = true

-- a sync that succeeded
abbrev pub is_settling : Made → Bool
is_settling m = is_sync m.call && not m.failed
