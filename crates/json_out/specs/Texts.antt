-- Whole objects and arrays (RFC 8259, sections 4 and 5), by the texts of what is in them.
use Rattle.std.specs.Prelude.{ℕ, List, [], ◌∷◌, ◌++◌, map}
use Rattle.std.specs.List.{join_with_byte}
use Rattle.json_out.specs.Strings.{string_text}

-- a name, and the text of its value
abbrev pub Member : Type 0
Member = List ℕ × List ℕ

-- the name, the name-separator and the value
abbrev pub member_text : Member → List ℕ
member_text m = string_text m.0 ++ 58 ∷ m.1

abbrev pub object_text : List Member → List ℕ
object_text ms = 123 ∷ (join_with_byte 44 (map member_text ms) ++ 125 ∷ [])

abbrev pub array_text : List (List ℕ) → List ℕ
array_text vs = 91 ∷ (join_with_byte 44 vs ++ 93 ∷ [])
