-- How the code reads and compares the lengths of a body. Private: only the crate's own functions cite this file.
use Rattle.std.specs.Prelude.{ℕ, ◌==◌, if◌then◌else◌, List, [], ◌∷◌, map, codes}
use Rattle.httparse.specs.Spans.{header_bytes}
use Rattle.httparse.specs.declared.spans.HeaderSpan.{HeaderSpan}
use Rattle.http_wire.specs.Rules.{values}

abbrev pub without_zeros : List ℕ → List ℕ
without_zeros [] = []
without_zeros (b ∷ s) = if b == 48 then without_zeros s else (b ∷ s)

-- what the fields of that name say
abbrev pub lengths : List ℕ → List HeaderSpan → List (List ℕ)
lengths head fields = values (codes "content-length") (map (header_bytes head) fields)
