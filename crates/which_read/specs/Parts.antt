-- The fields of a request, by their types.
use Rattle.std.specs.Prelude.{ℕ, pos, unsigned_abs, List, [], ◌∷◌, Bool, if◌then◌else◌, Result}
use Rattle.exact_json.specs.Tree.{Tree}
use Rattle.json_fields.specs.Fields.{as_array, as_text, as_whole, present, required}
use Rattle.json_fields.specs.Items.{list_in}
use Rattle.json_fields.specs.Readings.{Reading, found_or, map_faults, map_value}
use Rattle.json_fields.specs.declared.bounds.Bounds.{Bounds}
use Rattle.json_fields.specs.declared.flaw.Flaw.{Flaw}
use Rattle.json_fields.specs.declared.flaw.ListFlaw.{ListFlaw}
use Rattle.which_read.specs.declared.fault.WhichFault.{WhichFault}
use Rattle.which_read.specs.declared.field.WhichField.{WhichField}
use Rattle.which_read.specs.Paths.{item_of, member_name}

abbrev pub fault_of : WhichField → Flaw → WhichFault
fault_of field Flaw.Missing = WhichFault.Missing field
fault_of field Flaw.WrongType = WhichFault.WrongType field
fault_of field Flaw.Range = WhichFault.Range field
fault_of field (Flaw.Price fault) = WhichFault.Range field

-- the fault where it is so
abbrev pub fault_where : Bool → WhichFault → List WhichFault
fault_where b fault = if b then fault ∷ [] else []

-- a text that has to be there
unfoldable pub text_field : WhichField → Tree → Reading WhichFault (List ℕ)
text_field field t = found_or (fault_of field) [] (required as_text (present (member_name field) t))

-- a whole number that has to be there, within bounds from 0 on
unfoldable pub number_field : Bounds → WhichField → Tree → Reading WhichFault ℕ
number_field bounds field t =
    map_value unsigned_abs
    (found_or (fault_of field) (pos 0) (required (as_whole bounds) (present (member_name field) t)))

-- a list of texts, none where it is absent, by its own fault or that of the element at a place
abbrev pub list_fault : WhichField → ListFlaw → WhichFault
list_fault field (ListFlaw.Whole flaw) = fault_of field flaw
list_fault field (ListFlaw.Item place flaw) = fault_of (item_of field place) flaw
list_fault field ListFlaw.Memory = WhichFault.Memory

unfoldable pub texts_field : WhichField → Tree → Reading WhichFault (List (List ℕ))
texts_field field t = map_faults (list_fault field) (list_in [] as_text (present (member_name field) t))

-- an array that has to be there
unfoldable pub array_in : List ℕ → Tree → Result (List Tree) Flaw
array_in name t = required as_array (present name t)
