-- Caps: how often one user is shown a campaign.
use Rattle.std.specs.Prelude.{ℕ, nat_le, ◌&&◌, Bool, if◌then◌else◌, Option, Some, None}

-- so many times in so many seconds
pub record CapTerms : Type 0 where
  pub count : ℕ
  pub seconds : ℕ

-- 1 to 1,000 times in 1 to 31,536,000 seconds
abbrev pub is_cap : ℕ → ℕ → Bool
is_cap count seconds = nat_le 1 count && nat_le count 1000 && nat_le 1 seconds && nat_le seconds 31536000

-- the cap of these numbers, where they are in their ranges
abbrev pub cap_of : ℕ → ℕ → Option CapTerms
cap_of count seconds = if is_cap count seconds then Some (record { count = count; seconds = seconds }) else None
