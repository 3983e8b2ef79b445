-- A campaign's body in a JSON text: what is wrong with it, and the campaign.
use Rattle.std.specs.Prelude.{◌*◌, List, ◌++◌, map}
use Rattle.exact_json.specs.Tree.{Tree, null}
use Rattle.json_fields.specs.Fields.{as_object}
use Rattle.json_fields.specs.Readings.{Reading, give, map_value, within, ◌>>◌, ◌>>=◌}
use Rattle.campaign.specs.declared.field.CampField.{CampField}
use Rattle.campaign.specs.declared.parts.FactParts.{FactParts}
use Rattle.campaign.specs.Faults.{fact_faults}
use Rattle.target_expr.specs.declared.fault.ExprFault.{ExprFault}
use Rattle.target_expr.specs.declared.pred.Pred.{Pred}
use Rattle.target_expr.specs.declared.pred.RawPred.{RawPred}
use Rattle.target_expr.specs.Kept.{faults, keep}
use Rattle.campaign_read.specs.declared.fault.CampFault.{CampFault}
use Rattle.campaign_read.specs.declared.lists.ListField.{ListField}
use Rattle.campaign_read.specs.Cap.{cap_field}
use Rattle.campaign_read.specs.Parts.{amount_field, attr_bounds, flag_field, optional_text, optional_whole, side_bounds, text_field, texts_field, wholes_field}
use Rattle.campaign_read.specs.Target.{target_field}

-- the fields other than the target, in the order in which they are read; the budget in nano-dollars
unfoldable pub parts_in : Tree → Reading CampFault FactParts
parts_in t = do
  give (record {
    seat = (← text_field CampField.Seat t);
    adomain = (← text_field CampField.Adomain t);
    cat = (← texts_field ListField.Cat t);
    w = (← optional_whole side_bounds CampField.W t);
    h = (← optional_whole side_bounds CampField.H t);
    attr = (← wholes_field attr_bounds ListField.Attr t);
    secure = (← flag_field CampField.Secure t);
    bid = (← amount_field CampField.Bid t);
    deals = (← texts_field ListField.Deals t);
    budget = (← amount_field CampField.Budget t) * 1000;
    adm = (← text_field CampField.Adm t);
    crid = (← text_field CampField.Crid t);
    adid = (← optional_text CampField.Adid t);
    cap = (← cap_field t);
  })

-- the fault that an expression's is, which private clauses cite
abbrev pub fault_of_target : ExprFault → CampFault
fault_of_target ExprFault.NoConjunction = CampFault.Target ExprFault.NoConjunction
fault_of_target (ExprFault.EmptyList i j) = CampFault.Target (ExprFault.EmptyList i j)
fault_of_target (ExprFault.AttrTwice i j) = CampFault.Target (ExprFault.AttrTwice i j)
fault_of_target (ExprFault.TooMany i j) = CampFault.Target (ExprFault.TooMany i j)
fault_of_target (ExprFault.UnknownAttr i j) = CampFault.Target (ExprFault.UnknownAttr i j)
fault_of_target ExprFault.Memory = CampFault.Memory

-- what is made of these parts and this target: the faults of the facts, then those of the expression
unfoldable pub made_of : FactParts → List (List RawPred) → Reading CampFault (FactParts × List (List Pred))
made_of parts target = do
  map CampFault.Fact (fact_faults parts)
  map CampFault.Target (faults target)
  give (parts, keep target)

-- the facts and the target: first what is wrong with the fields, and then with what is made of them
unfoldable pub body_in : Tree → Reading CampFault (FactParts × List (List Pred))
body_in t = do
  parts ← parts_in t
  target ← target_field t
  made_of parts target

-- a campaign is an object
unfoldable pub campaign_body : Tree → Reading CampFault (FactParts × List (List Pred))
campaign_body t = within (λ _. CampFault.NotObject) null body_in (as_object t)

-- all that is wrong with the campaign, the first fault first
abbrev pub campaign_faults : Tree → List CampFault
campaign_faults t = (campaign_body t).faults

-- the facts and the target of the campaign
abbrev pub campaign_from : Tree → FactParts × List (List Pred)
campaign_from t = (campaign_body t).value
