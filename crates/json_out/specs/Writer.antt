-- A JSON text (RFC 8259) as far as it is written, and what may stand next in it.
use Rattle.std.specs.Prelude.{ℕ, ◌==◌, ◌&&◌, not, Bool, true, false, List, [], ◌∷◌, ◌++◌, length, drop, if◌then◌else◌}
use Rattle.json_out.specs.declared.places.Place.{Place}
use Rattle.json_out.specs.declared.places.Place.TheVariants.{Array, Object}
use Rattle.json_out.specs.Strings.{string_text}

-- the text so far, and the arrays and objects that are open, the innermost first
pub record Written : Type 0 where
  pub text : List ℕ
  pub places : List Place

-- nothing is written, and nothing is open
abbrev pub blank : Written
blank = record { text = []; places = [] }

-- an array or an object is open
abbrev pub is_open : List Place → Bool
is_open [] = false
is_open (p ∷ places) = true

-- the innermost is an object, whose next member has no name yet
abbrev pub wants_name : List Place → Bool
wants_name (Object filled named ∷ places) = not named
wants_name _ = false

-- the innermost is an object, whose next member has a name but no value yet
abbrev pub wants_value : List Place → Bool
wants_value (Object filled named ∷ places) = named
wants_value _ = false

-- A value may stand next: as the whole text (section 2), as an element of an array (section 5) and
-- behind a name (section 4).
abbrev pub takes_value : Written → Bool
takes_value w = if is_open w.places then not (wants_name w.places) else length w.text == 0

-- a name may stand next (section 4)
abbrev pub takes_name : Written → Bool
takes_name w = wants_name w.places

-- the innermost array or object may end (sections 4 and 5)
abbrev pub can_end : Written → Bool
can_end w = is_open w.places && not (wants_value w.places)

-- the text is one value (section 2)
abbrev pub is_whole : Written → Bool
is_whole w = not (is_open w.places) && not (length w.text == 0)

-- the value-separator of section 2, where an element or a member stands before the next one
abbrev pub separator : List Place → List ℕ
separator (Array true ∷ places) = 44 ∷ []
separator (Object true false ∷ places) = 44 ∷ []
separator _ = []

-- what is open once a value stands in the innermost
abbrev pub fill : List Place → List Place
fill [] = []
fill (Array _ ∷ places) = Array true ∷ places
fill (Object _ _ ∷ places) = Object true false ∷ places

-- a value is written
abbrev pub put_value : Written → List ℕ → Written
put_value w value = record { text = w.text ++ separator w.places ++ value; places = fill w.places }

-- the bracket or brace that begins an array or an object (section 2), and the one that ends it
abbrev pub beginning : Place → List ℕ
beginning (Array _) = 91 ∷ []
beginning (Object _ _) = 123 ∷ []

abbrev pub ending : List Place → List ℕ
ending [] = []
ending (Array _ ∷ places) = 93 ∷ []
ending (Object _ _ ∷ places) = 125 ∷ []

-- an array or an object is begun
abbrev pub begin : Written → Place → Written
begin w place = record { text = w.text ++ separator w.places ++ beginning place; places = place ∷ w.places }

-- the innermost array or object is ended, and so is a value of the one around it
abbrev pub end : Written → Written
end w = record { text = w.text ++ ending w.places; places = fill (drop 1 w.places) }

-- what is open once a name stands in the innermost
abbrev pub name_in : List Place → List Place
name_in (Object f _ ∷ places) = Object f true ∷ places
name_in places = places

-- the name of the next member is written, and the name-separator behind it (section 4)
abbrev pub put_name : Written → List ℕ → Written
put_name w name = record { text = w.text ++ separator w.places ++ string_text name ++ 58 ∷ []; places = name_in w.places }
