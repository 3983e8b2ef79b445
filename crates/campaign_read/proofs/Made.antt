-- The faults of what is made of the fields: facts and an expression.
use Rattle.std.proofs.Common.{◌≡◌, ℕ, ◌*◌, ◌%◌, List, [], ◌∷◌, ◌++◌, map, subst, Some, Ok, Err, inl, inr, refl, ap, arith}
use Rattle.std.specs.Prelude.{Result}
use Rattle.exact_json.specs.Tree.{Tree}
use Rattle.json_fields.specs.Answers.{Answers, IsFirst}
use Rattle.json_fields.specs.Readings.{◌>>◌}
use Rattle.json_fields.proofs.Each.{left_none, right_none}
use Rattle.json_fields.proofs.First.{answers_behind}
use Rattle.campaign.specs.declared.parts.FactParts.{FactParts}
use Rattle.campaign.specs.declared.field.CampField.{CampField}
use Rattle.campaign.specs.Faults.{ok_unless}
use Rattle.target_expr.specs.declared.pred.RawPred.{RawPred}
use Rattle.target_expr.specs.declared.pred.Pred.{Pred}
use Rattle.target_expr.specs.declared.fault.ExprFault.{ExprFault}
use Rattle.target_expr.specs.Kept.{IsFirstUnlessMemory, first_of}
use Rattle.campaign_read.specs.declared.fault.CampFault.{CampFault}
use Rattle.campaign_read.specs.Campaign.{body_in, fault_of_target, made_of, parts_in}
use Rattle.campaign_read.specs.Parts.{amount_field}
use Rattle.campaign_read.specs.Target.{target_field}

pub checked_ok : {A E : Type 0} (fs : List E) (x y : A) → Ok y ≡ ok_unless fs x → (fs ≡ []) × (y ≡ x)
checked_ok [] x y e = (refl, cc)
checked_ok (f ∷ fs) x y e = cc

pub checked_err : {A E : Type 0} (fs : List E) (x : A) (f : E) → Err f ≡ ok_unless fs x → (rest : List E) × (fs ≡ f ∷ rest)
checked_err [] x f e = cc
checked_err (g ∷ fs) x f e = (fs, let same : g ≡ f = cc in ap (λ h. h ∷ fs) same)

pub first_mapped : {F G : Type 0} (g : F → G) (memory : G) (fs : List F) (f : F) → (rest : List F) × (fs ≡ f ∷ rest) → IsFirst memory (map g fs) (g f)
first_mapped g memory fs f (rest, e) = record { first = inr (map g rest, ap (map g) e) }

first_there : (fs : List ExprFault) (f : ExprFault) → first_of fs ≡ Some f → (rest : List ExprFault) × (fs ≡ f ∷ rest)
first_there [] f e = cc
first_there (g ∷ fs) f e = (fs, let same : g ≡ f = cc in ap (λ h. h ∷ fs) same)

pub expr_first : (fs : List ExprFault) (f : ExprFault) → IsFirstUnlessMemory fs f → IsFirst CampFault.Memory (map CampFault.Target fs) (fault_of_target f)
expr_first fs ExprFault.NoConjunction h = first_mapped CampFault.Target CampFault.Memory fs ExprFault.NoConjunction (first_there fs ExprFault.NoConjunction h)
expr_first fs (ExprFault.EmptyList i j) h = first_mapped CampFault.Target CampFault.Memory fs (ExprFault.EmptyList i j) (first_there fs (ExprFault.EmptyList i j) h)
expr_first fs (ExprFault.AttrTwice i j) h = first_mapped CampFault.Target CampFault.Memory fs (ExprFault.AttrTwice i j) (first_there fs (ExprFault.AttrTwice i j) h)
expr_first fs (ExprFault.TooMany i j) h = first_mapped CampFault.Target CampFault.Memory fs (ExprFault.TooMany i j) (first_there fs (ExprFault.TooMany i j) h)
expr_first fs (ExprFault.UnknownAttr i j) h = first_mapped CampFault.Target CampFault.Memory fs (ExprFault.UnknownAttr i j) (first_there fs (ExprFault.UnknownAttr i j) h)
expr_first fs ExprFault.Memory h = record { first = inl refl }

pub whole_budget : (t : Tree) → (parts_in t).value.budget % 1000 ≡ 0
unfolding parts_in
whole_budget t = whole (amount_field CampField.Budget t).value
  where
    whole : (n : ℕ) → n * 1000 % 1000 ≡ 0
    whole n = omega arith

-- what is wrong with a body: with its fields, and then with what is made of them
pub made_right : (t : Tree) (p : FactParts) (raw : List (List RawPred)) (r : Result (FactParts × List (List Pred)) CampFault) → (parts_in t).faults ++ ((target_field t).faults ++ []) ≡ []
    → p ≡ (parts_in t).value → raw ≡ (target_field t).value → Answers CampFault.Memory (made_of p raw) r → Answers CampFault.Memory (body_in t) r
unfolding body_in
made_right t p raw r none parts target h =
    let right_parts = subst (λ q. Answers CampFault.Memory (made_of q raw) r) parts h in
    let right = subst (λ w. Answers CampFault.Memory (made_of (parts_in t).value w) r) target right_parts in
    let made = made_of (parts_in t).value (target_field t).value in
    let of_target = answers_behind CampFault.Memory (target_field t).faults made r (left_none (target_field t).faults [] (right_none (parts_in t).faults ((target_field t).faults ++ []) none)) right in
    answers_behind CampFault.Memory (parts_in t).faults ((target_field t).faults >> made) r (left_none (parts_in t).faults ((target_field t).faults ++ []) none) of_target
