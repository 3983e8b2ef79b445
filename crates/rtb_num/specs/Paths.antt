-- How the path of a field in a JSON text is written: names, with points between them, and places in arrays,
-- counted from 0, in square brackets.
use Rattle.std.specs.Prelude.{ℕ, List, ◌++◌, codes, decimal}

-- a place in an array
abbrev pub place : ℕ → List ℕ
place k = codes "[" ++ decimal k ++ codes "]"
