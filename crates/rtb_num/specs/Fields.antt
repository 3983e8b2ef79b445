-- Numbers in four and in eight bytes, the greatest place first.
use Rattle.std.specs.Prelude.{ℕ, ◌+◌, nat_le, List, length, take, drop, Option, Some, None, if◌then◌else◌}
use Rattle.std.specs.Int.{w32, w64, from_be_bytes}

-- the number in the four bytes from the place on, where they are there
abbrev pub u32_at : List ℕ → ℕ → Option ℕ
u32_at bytes place = if nat_le (place + 4) (length bytes) then Some (from_be_bytes w32 (take 4 (drop place bytes))) else None

-- the number in the eight bytes from the place on
abbrev pub u64_at : List ℕ → ℕ → Option ℕ
u64_at bytes place = if nat_le (place + 8) (length bytes) then Some (from_be_bytes w64 (take 8 (drop place bytes))) else None
