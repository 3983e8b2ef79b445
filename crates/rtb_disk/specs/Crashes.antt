-- What a crash leaves of a disk in memory, by a pick of the changes.
use Rattle.std.specs.Prelude.{ℕ, ◌/◌, ◌%◌, ◌==◌, ◌&&◌, List, [], ◌∷◌, ◌++◌, fold, if◌then◌else◌}
use Rattle.rtb_disk.specs.Stores.{fresh}
use Rattle.rtb_disk.specs.Record.{done, is_change, is_settling, replay}
use Rattle.rtb_disk.specs.declared.calls.Made.{Made}

-- the call is done, where it is a write or a cut and the lowest bit of the pick is set
abbrev pub by_bit : ℕ → Made → List ℕ → List ℕ
by_bit pick m bytes = if is_change m.call && (pick % 2 == 1) then done m.call m.failed bytes else bytes

-- the bits for what is behind it
abbrev pub next_pick : ℕ → Made → ℕ
next_pick pick m = if is_change m.call then pick / 2 else pick

-- the picked of the writes and cuts done, one after the other
abbrev pub with_picked : ℕ → List Made → List ℕ → List ℕ
with_picked pick [] bytes = bytes
with_picked pick (m ∷ ms) bytes = with_picked (next_pick pick m) ms (by_bit pick m bytes)

-- the calls behind the last sync that succeeded
abbrev pub behind_sync : List Made → List Made
behind_sync made = fold (λ later m. if is_settling m then [] else later ++ m ∷ []) [] made

-- what the last sync that succeeded kept, with the picked of the changes behind it
abbrev pub crashed : ℕ → List ℕ → List Made → List ℕ
crashed pick first made = with_picked pick (behind_sync made) (replay made (fresh first)).now.synced
