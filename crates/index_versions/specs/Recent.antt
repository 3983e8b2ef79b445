-- The edits of campaigns that are remembered.
use Rattle.std.specs.Prelude.{ℕ, ◌+◌, ◌-◌, List, drop, length}

-- the edits after number `oldest`, each by the campaign that it touched, and for how many more there is room
pub record RecentEdits : Type 0 where
  pub oldest : ℕ
  pub touched : List ℕ
  pub spare : ℕ

-- the number of the last one
abbrev pub newest : RecentEdits → ℕ
newest recent = recent.oldest + length recent.touched

-- the campaigns of the edits after this number
abbrev pub touched_after : ℕ → RecentEdits → List ℕ
touched_after edit recent = drop (edit - recent.oldest) recent.touched
