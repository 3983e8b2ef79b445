-- The tag of a change: a number in one byte that says what its bytes hold. Where an addition or a change
-- has a cap, its tag is another.
use Rattle.std.specs.Prelude.{ℕ, ◌==◌, List, [], ◌∷◌, Option, Some, None, find}
use Rattle.campaign.specs.Caps.{CapTerms}
use Rattle.effects.specs.declared.tag.Tag.{Tag}
use Rattle.plain_exchange.specs.declared.changes.Change.{Change}

abbrev pub tags : List Tag
tags = Tag.Swept ∷ Tag.Sold ∷ Tag.Added ∷ Tag.Changed ∷ Tag.Paused ∷ Tag.Resumed ∷ Tag.Billed ∷ Tag.Lost ∷ Tag.SoldTo ∷ Tag.CappedAdded ∷ Tag.CappedChanged ∷ Tag.Kept ∷ Tag.KeptSale ∷ Tag.Forgot ∷ []

abbrev pub number_of : Tag → ℕ
number_of Tag.Swept = 0
number_of Tag.Sold = 1
number_of Tag.Added = 2
number_of Tag.Changed = 3
number_of Tag.Paused = 4
number_of Tag.Resumed = 5
number_of Tag.Billed = 6
number_of Tag.Lost = 7
number_of Tag.SoldTo = 8
number_of Tag.CappedAdded = 9
number_of Tag.CappedChanged = 10
number_of Tag.Kept = 11
number_of Tag.KeptSale = 12
number_of Tag.Forgot = 13

abbrev pub tag_numbered : ℕ → Option Tag
tag_numbered n = find (λ t. number_of t == n) tags

-- one tag where there is no cap, and another where there is one
abbrev pub by_cap : Tag → Tag → Option CapTerms → Tag
by_cap plain capped None = plain
by_cap plain capped (Some c) = capped

abbrev pub tag_of : Change → Tag
tag_of Change.Swept = Tag.Swept
tag_of (Change.Sold items) = Tag.Sold
tag_of (Change.Added facts expr) = by_cap Tag.Added Tag.CappedAdded facts.cap
tag_of (Change.Changed n facts expr) = by_cap Tag.Changed Tag.CappedChanged facts.cap
tag_of (Change.Paused n) = Tag.Paused
tag_of (Change.Resumed n) = Tag.Resumed
tag_of (Change.Billed n) = Tag.Billed
tag_of (Change.Lost n) = Tag.Lost
tag_of (Change.SoldTo user items) = Tag.SoldTo
tag_of (Change.Kept k) = Tag.Kept
tag_of (Change.KeptSale row) = Tag.KeptSale
tag_of (Change.Forgot n) = Tag.Forgot
