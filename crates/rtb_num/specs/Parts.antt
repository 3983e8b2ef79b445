-- A number's parts as they are read, and what is made of them: which the crate's private clauses cite.
use Rattle.std.specs.Prelude.{◌≡◌, ℕ, ◌+◌, ◌-◌, ◌*◌, ◌/◌, ◌%◌, ◌^◌, ◌<◌, ◌⊎◌, ◌==◌, List, ◌++◌, length, min, Bool, true, not}
use Rattle.std.specs.List.{list_all}
use Rattle.rtb_num.specs.Amounts.{is_digit, number_of}
use Rattle.rtb_num.specs.Numbers.{Number}

-- the digits before the point and behind it, and the powers of ten, or 2 ^ 64 - 1 where that is less
pub record IsParted (n : Number) (minus : Bool) (whole fraction : List ℕ) (up down : ℕ) : Type 0 where
  pub sign : minus ≡ n.minus
  pub digits : n.digits ≡ whole ++ fraction
  pub are_digits : list_all is_digit (whole ++ fraction) ≡ true
  pub short : length whole + length fraction < 2 ^ 63
  pub rises : up ≡ min n.up (2 ^ 64 - 1)
  pub falls : down ≡ min n.down (2 ^ 64 - 1)
  pub plain : (n.up ≡ 0) ⊎ (n.down ≡ length fraction)

-- the number in units of which `places` digits make a whole, without its sign: how many whole units,
-- or 10 ^ 12 + 1 where that is less
unfoldable pub units_of : Number → ℕ → ℕ
units_of n places = min (number_of n.digits * 10 ^ (n.up + places) / 10 ^ n.down) 1000000000001

-- and whether something finer is left
unfoldable pub is_finer : Number → ℕ → Bool
is_finer n places = not (number_of n.digits * 10 ^ (n.up + places) % 10 ^ n.down == 0)
