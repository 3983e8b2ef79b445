-- How far a file reaches behind a write.
use Rattle.std.proofs.Common.{◌≡◌, ℕ, ◌+◌, ◌≤◌, List, ◌++◌, length, take, drop, ap, arith, length-append}
use Rattle.std.proofs.lemmas.List.{length-take}
use Rattle.rtb_disk.specs.Stores.{Store, Change, changed, settled, overwritten}

written_reaches : (old bytes : List ℕ) (place : ℕ) → place ≤ length old → place + length bytes ≤ length (overwritten old place bytes)
written_reaches old bytes place le =
    omega (arith, le, length-append (take place old ++ bytes) (drop (place + length bytes) old), length-append (take place old) bytes, length-take place old)

pub changed_reaches : (change : Change) (bytes : List ℕ) (place : ℕ) (s t : Store) → place ≤ length s.reads → t ≡ changed change (overwritten s.reads place bytes) s → place + length bytes ≤ length t.reads
changed_reaches change bytes place s t le e = omega (arith, ap (λ (u : Store). length u.reads) e, written_reaches s.reads bytes place le)

pub synced_reaches : (change : Change) (bytes : List ℕ) (place : ℕ) (s t : Store) → place ≤ length s.reads → t ≡ settled (changed change (overwritten s.reads place bytes) s) → place + length bytes ≤ length t.reads
synced_reaches change bytes place s t le e = omega (arith, ap (λ (u : Store). length u.reads) e, written_reaches s.reads bytes place le)
