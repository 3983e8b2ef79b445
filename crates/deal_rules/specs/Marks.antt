-- Marks of texts. Only private clauses cite this file.
use Rattle.std.specs.Prelude.{ℕ, List, Bool, false, true, IsTrue, set, slice_get}
use Rattle.std.specs.Borrow.{Bor}
use Rattle.std.specs.List.{list_all}
use Rattle.std.specs.Option.{option_map_or}
use Rattle.campaign.specs.Marks.{mark_of}

abbrev pub is_marked_at : List Bool → ℕ → Bool
is_marked_at marks mark = option_map_or (λ (b : Bool). b) (slice_get marks mark) false

-- those marks, and that of one text more
abbrev pub with_mark : List Bool → Bor (List ℕ) → List Bool
with_mark marks t = set marks (mark_of t.now) true

-- each has its mark
abbrev pub AreMarked : List Bool → List (Bor (List ℕ)) → Type 0
AreMarked marks refs = IsTrue (list_all (λ (t : Bor (List ℕ)). is_marked_at marks (mark_of t.now)) refs)
