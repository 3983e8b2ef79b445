-- The fields of a campaign's body, by their types.
use Rattle.std.specs.Prelude.{ℕ, ℤ, pos, List, [], ◌∷◌, Bool, false, if◌then◌else◌, Option, None}
use Rattle.exact_json.specs.Tree.{Tree}
use Rattle.json_fields.specs.Fields.{present, as_exact, as_flag, as_text, as_whole, optional, or_absent, required}
use Rattle.json_fields.specs.Items.{list_in}
use Rattle.json_fields.specs.Readings.{Reading, found_or, map_faults}
use Rattle.json_fields.specs.declared.bounds.Bounds.{Bounds}
use Rattle.json_fields.specs.declared.flaw.Flaw.{Flaw}
use Rattle.json_fields.specs.declared.flaw.ListFlaw.{ListFlaw}
use Rattle.campaign.specs.declared.field.CampField.{CampField}
use Rattle.campaign.specs.Paths.{member_name}
use Rattle.campaign_read.specs.declared.fault.CampFault.{CampFault}
use Rattle.campaign_read.specs.declared.lists.ListField.{ListField}

abbrev pub fault_of : CampField → Flaw → CampFault
fault_of field Flaw.Missing = CampFault.Missing field
fault_of field Flaw.WrongType = CampFault.WrongType field
fault_of field Flaw.Range = CampFault.Range field
fault_of field (Flaw.Price fault) = CampFault.Price field fault

-- a text that has to be there, and one that may be absent
unfoldable pub text_field : CampField → Tree → Reading CampFault (List ℕ)
text_field field t = found_or (fault_of field) [] (required as_text (present (member_name field) t))

unfoldable pub optional_text : CampField → Tree → Reading CampFault (Option (List ℕ))
optional_text field t = found_or (fault_of field) None (optional as_text (present (member_name field) t))

-- an amount in US dollars that has to be there, in whole micro-dollars
unfoldable pub amount_field : CampField → Tree → Reading CampFault ℕ
amount_field field t = found_or (fault_of field) 0 (required as_exact (present (member_name field) t))

-- a 0 or a 1, 0 where it is absent
unfoldable pub flag_field : CampField → Tree → Reading CampFault Bool
flag_field field t = found_or (fault_of field) false (or_absent false as_flag (present (member_name field) t))

-- a whole number within bounds that has to be there, and one that may be absent
unfoldable pub whole_field : Bounds → CampField → Tree → Reading CampFault ℤ
whole_field bounds field t = found_or (fault_of field) (pos 0) (required (as_whole bounds) (present (member_name field) t))

unfoldable pub optional_whole : Bounds → CampField → Tree → Reading CampFault (Option ℤ)
optional_whole bounds field t = found_or (fault_of field) None (optional (as_whole bounds) (present (member_name field) t))

-- a side of the creative: 1 to 32767 pixels
abbrev pub side_bounds : Bounds
side_bounds = record { least = pos 1; greatest = pos 32767 }

-- an attribute of the creative: from 0
abbrev pub attr_bounds : Bounds
attr_bounds = record { least = pos 0; greatest = pos 2147483647 }

-- ---- lists

-- the field of the list, and that of the element at a place
abbrev pub list_whole : ListField → CampField
list_whole ListField.Cat = CampField.Cat
list_whole ListField.Attr = CampField.Attr
list_whole ListField.Deals = CampField.Deals
list_whole (ListField.In i j) = CampField.In i j
list_whole (ListField.Not i j) = CampField.Not i j

abbrev pub list_item : ListField → ℕ → CampField
list_item ListField.Cat k = CampField.CatItem k
list_item ListField.Attr k = CampField.AttrItem k
list_item ListField.Deals k = CampField.DealsItem k
list_item (ListField.In i j) k = CampField.InItem i j k
list_item (ListField.Not i j) k = CampField.NotItem i j k

-- the fault of a list, or of the element at a place
abbrev pub list_fault : ListField → ListFlaw → CampFault
list_fault list (ListFlaw.Whole flaw) = fault_of (list_whole list) flaw
list_fault list (ListFlaw.Item place flaw) = fault_of (list_item list place) flaw
list_fault list ListFlaw.Memory = CampFault.Memory

-- texts, and whole numbers within bounds: none where the list is absent
unfoldable pub texts_field : ListField → Tree → Reading CampFault (List (List ℕ))
texts_field list t = map_faults (list_fault list) (list_in [] as_text (present (member_name (list_whole list)) t))

unfoldable pub wholes_field : Bounds → ListField → Tree → Reading CampFault (List ℤ)
wholes_field bounds list t =
    map_faults (list_fault list) (list_in (pos 0) (as_whole bounds) (present (member_name (list_whole list)) t))

-- the fault where it is so
abbrev pub fault_where : Bool → CampFault → List CampFault
fault_where b fault = if b then fault ∷ [] else []
