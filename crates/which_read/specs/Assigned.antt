-- The assignment: an object, each member of which is named as an attribute and is a text. Of one name the last counts.
use Rattle.std.specs.Prelude.{ℕ, ◌&&◌, List, [], not, Bool, false, Option, None, is_some, option_map, Result}
use Rattle.std.specs.List.{filter_map, list_all}
use Rattle.exact_json.specs.Tree.{Tree, null, boolean, number, string, array, object, members_of}
use Rattle.json_fields.specs.Answers.{flaws_of, value_or}
use Rattle.json_fields.specs.Fields.{as_object, as_text, optional, present, required}
use Rattle.json_fields.specs.Readings.{Reading, with_faults, within}
use Rattle.json_fields.specs.declared.flaw.Flaw.{Flaw}
use Rattle.target_expr.specs.Attributes.{attr_named, attributes, name_of}
use Rattle.target_expr.specs.declared.attr.Attr.{Attr}
use Rattle.which_read.specs.declared.fault.WhichFault.{WhichFault}
use Rattle.which_read.specs.declared.field.WhichField.{WhichField}
use Rattle.which_read.specs.Parts.{fault_of, fault_where}
use Rattle.which_read.specs.Paths.{member_name}

unfoldable pub members_in : Tree → List (List ℕ × Tree)
members_in null = []
members_in (boolean b) = []
members_in (number x) = []
members_in (string s) = []
members_in (array ts) = []
members_in (object ps) = members_of ps

-- whether it is a text; null is none
unfoldable pub is_text : Tree → Bool
is_text t = list_all (λ (_ : Flaw). false) (flaws_of (as_text t))

abbrev pub is_assigned : List ℕ × Tree → Bool
is_assigned (name, t) = is_some (attr_named name) && is_text t

-- the object of that name, which has to be there
unfoldable pub object_in : List ℕ → Tree → Result Tree Flaw
object_in name t = required as_object (present name t)

-- an attribute with its text, where it has one
abbrev pub pair_of : Tree → Attr → Option (Attr × List ℕ)
pair_of t a = option_map (λ v. (a, v)) (value_or None (optional as_text (present (name_of a) t)))

-- the attributes that have one, in the order of their table
unfoldable pub pairs_from : Tree → List (Attr × List ℕ)
pairs_from t = filter_map (pair_of t) attributes

unfoldable pub assigned_in : Tree → Reading WhichFault (List (Attr × List ℕ))
assigned_in t =
    with_faults
    (fault_where (not (list_all is_assigned (members_in t))) (WhichFault.WrongType WhichField.Assignment))
    (pairs_from t)

unfoldable pub assignment_field : Tree → Reading WhichFault (List (Attr × List ℕ))
assignment_field t =
    within (fault_of WhichField.Assignment) null assigned_in (object_in (member_name WhichField.Assignment) t)
