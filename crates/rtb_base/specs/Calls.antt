-- The calls of an object in memory, of which some are told to fail.
use Rattle.std.specs.Prelude.{ℕ, List, Bool, ◌==◌, if◌then◌else◌}
use Rattle.std.specs.List.{list_any}
use Rattle.rtb_base.specs.Faults.{one_more}

-- how many calls there were, the numbers of those that fail, where the first call is number 1, and
-- how many faults were counted; both counts in 64 bits
pub record Calls : Type 0 where
  pub calls : ℕ
  pub fails : List ℕ
  pub faults : ℕ

-- no call and no fault so far
abbrev pub no_calls : List ℕ → Calls
no_calls fails = record { calls = 0; fails = fails; faults = 0 }

-- the next call is told to fail
abbrev pub next_fails : Calls → Bool
next_fails c = list_any (λ n. n == one_more c.calls) c.fails

-- one call later, which ended in a fault or not
abbrev pub one_call_later : Calls → Bool → Calls
one_call_later c failed =
    record {
      calls = one_more c.calls;
      fails = c.fails;
      faults = if failed then one_more c.faults else c.faults;
    }
