use Rattle.std.proofs.Common.{◌≡◌, ◌+◌, ◌-◌, ◌≤◌, ◌++◌, ℕ, List, length, take, drop, true}
use Rattle.journal_file.specs.Showing.{AreSome}
use Rattle.journal_file.specs.Shows.{Shows, ShowsMore}
use Rattle.journal_file.proofs.payloads.read_payload.Given as goal

abbrev pub invariant-loop-left : goal.invariant-loop-left
invariant-loop-left g l =
    record {
      place : l.at + l.left ≡ l.place + l.count;
      from : l.place ≤ l.at;
      store : g.D.Disk.store l.disk ≡ g.D.Disk.store l.fn.disk;
      faults : g.D.Disk.faults l.disk ≡ g.D.Disk.faults l.fn.disk;
      out : (g.D.Disk.store l.fn.disk).told ≡ true → l.out ≡ l.fn.out ++ take (l.at - l.place) (drop l.place (g.D.Disk.store l.fn.disk).reads);
      more : (more : List ℕ) × (l.out ≡ l.fn.out ++ more);
      shows : ShowsMore (g.D.Disk.shown l.fn.disk) (g.D.Disk.shown l.disk) (λ more. (bytes : List ℕ) × Shows more l.place bytes × (l.out ≡ l.fn.out ++ bytes) × (l.at ≡ l.place + length bytes) × AreSome l.place more);
      long : length l.out ≡ length l.fn.out + (l.at - l.place);
    }

abbrev pub decreases-loop-left : goal.decreases-loop-left
decreases-loop-left g l = l.left
