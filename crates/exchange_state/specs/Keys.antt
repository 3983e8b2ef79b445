-- Keys by which candidates are put near their order. Only private clauses cite this file.
use Rattle.std.specs.Prelude.{ℕ, zero, suc, ◌%◌, List, [], ◌∷◌, ◌++◌}

-- the place of the offer
abbrev pub place_in : ℕ → ℕ
place_in key = key % 8388608

-- 0, 1, 2 and so on, so many
abbrev pub places : ℕ → List ℕ
places zero = []
places (suc n) = places n ++ n ∷ []
