-- Counts of faults: each object of the outside counts the faults that it met, in 64 bits. At the
-- greatest number the count stands for ever. The laws that chain these words over calls in a row
-- are in proofs/Chains.antt.
use Rattle.std.specs.Prelude.{◌≡◌, ℕ, ◌+◌, ◌-◌, ◌^◌, ◌≤◌, min, Result, MatchResult}

-- a count of 64 bits one higher, where it is not at its greatest
abbrev pub one_more : ℕ → ℕ
one_more count = min (count + 1) (2 ^ 64 - 1)

-- the count rose, or stands at its greatest
abbrev pub Rose : ℕ → ℕ → Type 0
Rose before now = min (before + 1) (2 ^ 64 - 1) ≤ now

-- the count rose by at least n, or stands at its greatest: n failures are all counted
abbrev pub RoseBy : ℕ → ℕ → ℕ → Type 0
RoseBy n before now = min (before + n) (2 ^ 64 - 1) ≤ now

-- the count did not fall, and rose by at most n
abbrev pub RoseAtMost : ℕ → ℕ → ℕ → Type 0
RoseAtMost n before now = (before ≤ now) × (now ≤ before + n)

-- a call whose only error is a fault: the count stays as it was, or an error came and it rose by one
abbrev pub CountsErrors : {T E : Type 0} → ℕ → ℕ → Result T E → Type 0
CountsErrors before now r = MatchResult r (λ _. now ≡ before) (λ _. (before ≤ now) × Rose before now × (now ≤ before + 1))

-- a call that can end for other causes too: the count rose where a fault ended it, and else is as it was
abbrev pub RisesOnlyWhere : Type 0 → ℕ → ℕ → Type 0
RisesOnlyWhere failed before now = (before ≤ now) × (failed → Rose before now) × (¬ failed → now ≡ before)

-- a call that can also get over faults: the count did not fall, and rose where a fault ended it
abbrev pub RisesWhere : Type 0 → ℕ → ℕ → Type 0
RisesWhere failed before now = (before ≤ now) × (failed → Rose before now)
