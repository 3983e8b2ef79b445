use Rattle.std.proofs.Common.{◌≡◌, ◌++◌, ◌∷◌, [], ◌+◌, ◌<◌, ◌^◌, ℕ, List, length}
use Rattle.follower.specs.Following.{GoesOn, IsWithin}
use Rattle.follower.specs.Moving.{Passes, spot}
use Rattle.rtb_disk.specs.Showing.{bytes_from}
use Rattle.journal_file.specs.Pieces.{BeginsFrom}
use Rattle.follower.proofs.follower.Follower.pass_read.Given as goal

abbrev pub invariant-loop-payload : goal.invariant-loop-payload
invariant-loop-payload g l = record {
  begun : 0 < l.self.gate;
  low : l.self.gate + length l.rest < 2 ^ 64;
  goes : GoesOn l.fn.self l.self;
  disk : l.self.disk ≡ l.fn.self.disk;
  begins : (reads : List ℕ) → BeginsFrom l.fn.self.gate l.fn.read reads → BeginsFrom l.self.gate l.rest reads;
  lies : (front : List ℕ) × (l.fn.read ≡ front ++ l.rest) × (l.self.gate ≡ l.fn.self.gate + length front);
  passes : (asked : ℕ) → Passes (bytes_from l.fn.self.gate asked l.fn.read ∷ []) (spot l.fn.self) (spot l.self);
  within : (reads : List ℕ) → length reads < 2 ^ 64 → BeginsFrom l.fn.self.gate l.fn.read reads → IsWithin reads l.fn.self → IsWithin reads l.self;
}

abbrev pub decreases-loop-payload : goal.decreases-loop-payload
decreases-loop-payload g l = length l.rest
