-- The target of a campaign: an array of conjunctions, each an array of predicates.
use Rattle.std.specs.Prelude.{ℕ, List, [], ◌∷◌, Bool, ◌&&◌, if◌then◌else◌, is_some, not}
use Rattle.exact_json.specs.Tree.{Tree, null}
use Rattle.json_fields.specs.Fields.{present, as_array, as_object, optional}
use Rattle.json_fields.specs.Readings.{Reading, each_in, give, inside_or, within, ◌>>◌, ◌>>=◌}
use Rattle.campaign.specs.Paths.{member_name}
use Rattle.campaign.specs.declared.field.CampField.{CampField}
use Rattle.target_expr.specs.declared.pred.RawPred.{RawPred}
use Rattle.campaign_read.specs.declared.fault.CampFault.{CampFault}
use Rattle.campaign_read.specs.declared.lists.ListField.{ListField}
use Rattle.campaign_read.specs.Parts.{fault_of, fault_where, text_field, texts_field}

-- whether a predicate has `in`, and whether it has `not`
abbrev pub has_in : Tree → Bool
has_in t = is_some (present (member_name (CampField.In 0 0)) t)

abbrev pub has_not : Tree → Bool
has_not t = is_some (present (member_name (CampField.Not 0 0)) t)

-- the predicate at place j of the conjunction at place i: it lists what it admits or what it excludes, one of
-- them and not both
unfoldable pub pred_in : ℕ → ℕ → Tree → Reading CampFault RawPred
pred_in i j t = do
  attr ← text_field (CampField.PredicateAttr i j) t
  fault_where (not (has_in t) && not (has_not t)) (CampFault.Missing (CampField.In i j))
  admitted ← texts_field (ListField.In i j) t
  fault_where (has_in t && has_not t) (CampFault.WrongType (CampField.Not i j))
  excluded ← texts_field (ListField.Not i j) t
  give (record { attr = attr; negated = has_not t; values = if has_not t then excluded else admitted })

abbrev pub pred_at : ℕ → ℕ → Tree → Reading CampFault RawPred
pred_at i j t = within (fault_of (CampField.Predicate i j)) null (pred_in i j) (as_object t)

-- a conjunction is an array of them
unfoldable pub conjunction_at : ℕ → Tree → Reading CampFault (List RawPred)
conjunction_at i t = within (fault_of (CampField.Conjunction i)) [] (each_in (pred_at i)) (as_array t)

-- the target, where it is absent one conjunction of no predicate, which is true of everything
unfoldable pub target_field : Tree → Reading CampFault (List (List RawPred))
target_field t =
    inside_or ([] ∷ []) (fault_of CampField.Target) (each_in conjunction_at)
    (optional as_array (present (member_name CampField.Target) t))
