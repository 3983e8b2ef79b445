use Rattle.std.proofs.Common.{◌≡◌, ◌≤◌, ◌<◌, ◌+◌, ◌-◌, ℕ, true, length}
use Rattle.postings.specs.Order.{entry_at}
use Rattle.conj_match.proofs.cursor.Cursor.pass.Given as goal

abbrev pub invariant-loop-self : goal.invariant-loop-self
invariant-loop-self g l = record {
  entries : l.self.entries ≡ l.fn.self.entries;
  loaded : l.self.loaded ≡ true;
  from : l.fn.self.place ≤ l.self.place;
  below : (i : ℕ) → l.fn.self.place ≤ i → i < l.self.place → (entry_at l.fn.self.entries i).id < l.id + 1;
  cost : l.steps + l.fn.self.place ≤ l.fn.steps + l.self.place;
}

abbrev pub decreases-loop-self : goal.decreases-loop-self
decreases-loop-self g l = length l.self.entries - l.self.place
