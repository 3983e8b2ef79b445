-- What a writer has written, by what stands in the innermost object or array: which the private clauses of
-- the crates above cite.
use Rattle.std.specs.Prelude.{ℕ, ◌==◌, not, false, List, [], ◌∷◌, ◌++◌, length, map}
use Rattle.std.specs.List.{join_with_byte}
use Rattle.json_out.specs.declared.places.Place.TheVariants.{Array, Object}
use Rattle.json_out.specs.Texts.{Member, member_text}
use Rattle.json_out.specs.Writer.{Written, put_name, put_value, separator}

-- an object was begun, and has these members
abbrev pub in_object : Written → List Member → Written
in_object w ms = record { text = w.text ++ separator w.places ++ 123 ∷ join_with_byte 44 (map member_text ms); places = Object (not (length ms == 0)) false ∷ w.places }

-- an array was begun, and has these elements
abbrev pub in_array : Written → List (List ℕ) → Written
in_array w vs = record { text = w.text ++ separator w.places ++ 91 ∷ join_with_byte 44 vs; places = Array (not (length vs == 0)) ∷ w.places }

-- one member more, and several
abbrev pub put_member : Written → Member → Written
put_member w m = put_value (put_name w m.0) m.1

abbrev pub put_members : Written → List Member → Written
put_members w [] = w
put_members w (m ∷ ms) = put_members (put_member w m) ms
