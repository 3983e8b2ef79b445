-- What contracts see of a source and of a sink in memory.
use Rattle.std.specs.Prelude.{ℕ, List}
use Rattle.rtb_base.specs.Calls.{Calls}

-- the bytes that are left, and the calls
pub record SourceState : Type 0 where
  pub left : List ℕ
  pub calls : Calls

-- the bytes that were written, and the calls
pub record SinkState : Type 0 where
  pub written : List ℕ
  pub calls : Calls
