-- Lists and texts whose room contracts see: how many items more fit without taking memory.
use Rattle.std.specs.Prelude.{ℕ, List}

-- the items, and how many more fit
pub record SpareItems (T : Type 0) : Type 0 where
  pub items : List T
  pub spare : ℕ

-- the bytes, and how many more fit
pub record SpareBytes : Type 0 where
  pub bytes : List ℕ
  pub spare : ℕ
