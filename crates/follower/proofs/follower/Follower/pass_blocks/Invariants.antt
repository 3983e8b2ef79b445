use Rattle.std.proofs.Common.{◌≡◌, ◌-◌, ◌<◌, ◌^◌, true, length}
use Rattle.follower.specs.Following.{GoesOn, IsWithin}
use Rattle.follower.specs.Moving.{Passes, spot}
use Rattle.journal_file.specs.Shows.{ShowsMore}
use Rattle.follower.proofs.follower.Follower.pass_blocks.Given as goal

abbrev pub invariant-loop-self : goal.invariant-loop-self
invariant-loop-self g l = record {
  begun : 0 < l.self.gate;
  goes : GoesOn l.fn.self l.self;
  same : g.D.Disk.store l.self.disk ≡ g.D.Disk.store l.fn.self.disk;
  faults : g.D.Disk.faults l.self.disk ≡ g.D.Disk.faults l.fn.self.disk;
  shows : ShowsMore (g.D.Disk.shown l.fn.self.disk) (g.D.Disk.shown l.self.disk) (λ shown. Passes shown (spot l.fn.self) (spot l.self));
  within : (g.D.Disk.store l.fn.self.disk).told ≡ true → length (g.D.Disk.store l.fn.self.disk).reads < 2 ^ 64 → IsWithin (g.D.Disk.store l.fn.self.disk).reads l.fn.self → IsWithin (g.D.Disk.store l.fn.self.disk).reads l.self;
}

abbrev pub decreases-loop-self : goal.decreases-loop-self
decreases-loop-self g l = l.size - l.self.gate
