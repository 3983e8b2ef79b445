use Rattle.std.proofs.Common.{◌≡◌, ◌-◌, ◌≤◌, ℕ, List, Option}
use Rattle.audit.specs.Standing.{IsStanding}
use Rattle.plain_exchange.specs.State.{State}
use Rattle.audit.proofs.entries.Audit.run.Given as goal
use Rattle.audit.specs.Accounts.{settings_of}

abbrev pub invariant-loop-self : goal.invariant-loop-self
invariant-loop-self g l = record {
  says : (s : State) (left : Option (List ℕ)) → IsStanding l.fn.keys s left (g.S.Source.left l.fn.source) l.fn.self → IsStanding l.fn.keys s left (g.S.Source.left l.source) l.self;
  settings : l.self.core.settings ≡ settings_of l.self.header;
  few : l.self.entries ≤ 4294967296;
  passed : l.self.passed ≤ l.self.entries;
  faults : g.S.Source.faults l.source ≡ g.S.Source.faults l.fn.source;
}

abbrev pub decreases-loop-self : goal.decreases-loop-self
decreases-loop-self g l = 4294967296 - l.self.entries
