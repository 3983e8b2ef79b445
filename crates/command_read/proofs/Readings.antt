-- What a body is read as.
use Rattle.std.proofs.Common.{◌≡◌, ℕ, List, [], ◌∷◌, ◌⊎◌, inl, inr, Result, Ok, Err, IfOk, OnOk, MatchResult, ap, sym, ◌∙◌, subst}
use Rattle.campaign.specs.declared.parts.FactParts.{FactParts}
use Rattle.campaign_read.specs.Campaign.{campaign_faults, campaign_from}
use Rattle.campaign_read.specs.declared.fault.CampFault.{CampFault}
use Rattle.campaign_read.specs.declared.fault.CampFault.TheVariants.{Memory as Unkept}
use Rattle.command_read.specs.Commands.{IsOfBody, bad_body, campaign_by, campaign_command, faulty, request_by, request_command, said}
use Rattle.command_read.specs.Memory.{UnlessMemory}
use Rattle.command_read.specs.declared.fault.CommandFault.{CommandFault}
use Rattle.command_read.specs.declared.fault.CommandFault.TheVariants as fault
use Rattle.exact_json.specs.Faults.{Explains}
use Rattle.exact_json.specs.Grammar.{IsText}
use Rattle.exact_json.specs.Tree.{Tree}
use Rattle.exact_json.specs.declared.fault.JsonFault.{JsonFault}
use Rattle.exact_json.specs.declared.fault.JsonFault.TheVariants.{Memory}
use Rattle.http_wire.specs.declared.answer.Answer.{Answer}
use Rattle.json_fields.specs.Answers.{IsFirst}
use Rattle.plain_exchange.specs.declared.commands.Act.{Act}
use Rattle.plain_exchange.specs.declared.commands.Command.{Command}
use Rattle.plain_exchange.specs.declared.commands.Command.TheVariants as command
use Rattle.refusal_text.specs.Refusals.{campaign_fault_text, json_fault_text, request_fault_text}
use Rattle.rtb_read.specs.Request.{request_faults, request_from}
use Rattle.rtb_read.specs.declared.fault.ReqFault.{ReqFault}
use Rattle.rtb_read.specs.declared.fault.ReqFault.TheVariants.{Memory as Unread}
use Rattle.rtb_types.specs.declared.request.BidRequest.{BidRequest}
use Rattle.target_expr.specs.declared.pred.Pred.{Pred}

-- how a refusal is handed on
abbrev pub Refuses : {E : Type 0} → Result Answer E → Result Command CommandFault → Type 0
Refuses refusal found = MatchResult refusal (λ a. found ≡ Err (fault.Refused a)) (λ _. found ≡ Err fault.Memory)

-- a refusal of which this holds, or want of memory for its text
pub refused : {E : Type 0} (holds : Result Command Answer → Type 0) (refusal : Result Answer E) (found : Result Command CommandFault) → Refuses refusal found
    → IfOk refusal (λ a. holds (Err a)) → UnlessMemory holds found
refused holds (Ok a) found e h = subst (UnlessMemory holds) (sym e) h
refused holds (Err x) found e h = subst (UnlessMemory holds) (sym e) tt

-- of a text whose request has no fault
pub auction : (t : Tree) (r : BidRequest) → request_faults t ≡ [] → r ≡ request_from t → Ok (command.Auction r) ≡ request_command t
auction t r none same = ap (λ x. Ok (command.Auction x)) same ∙ ap (λ fs. request_by fs (request_from t)) (sym none)

-- of a text whose request has a fault
pub bad_request : {E : Type 0} (t : Tree) (f : ReqFault) (refusal : Result Answer E) (found : Result Command CommandFault) → IsFirst Unread (request_faults t) f
    → IfOk refusal (λ a. a ≡ bad_body (request_fault_text f)) → OnOk refusal (f ≡ Unread → ⊥) → Refuses refusal found
    → UnlessMemory (λ x. x ≡ request_command t) found
bad_request {E} t f refusal found is e other hands = refused (λ x. x ≡ request_command t) refusal found hands (each refusal e other is.first)
  where
    each : (refusal : Result Answer E) → IfOk refusal (λ a. a ≡ bad_body (request_fault_text f)) → OnOk refusal (f ≡ Unread → ⊥)
        → (f ≡ Unread) ⊎ ((rest : List ReqFault) × (request_faults t ≡ f ∷ rest)) → IfOk refusal (λ a. Err a ≡ request_command t)
    each (Err x) e other which = e
    each (Ok a) e other (inl memory) = absurd (other memory)
    each (Ok a) e other (inr (rest, faults)) = ap (λ x. Err x) e ∙ ap (λ fs. request_by fs (request_from t)) (sym faults)

-- of a text whose campaign has a fault
pub bad_campaign : {E : Type 0} (make : FactParts → List (List Pred) → Act) (t : Tree) (f : CampFault) (refusal : Result Answer E) (found : Result Command CommandFault)
    → IsFirst Unkept (campaign_faults t) f
    → IfOk refusal (λ a. a ≡ bad_body (campaign_fault_text f)) → OnOk refusal (f ≡ Unkept → ⊥) → Refuses refusal found
    → UnlessMemory (λ x. x ≡ campaign_command make t) found
bad_campaign {E} make t f refusal found is e other hands = refused (λ x. x ≡ campaign_command make t) refusal found hands (each refusal e other is.first)
  where
    each : (refusal : Result Answer E) → IfOk refusal (λ a. a ≡ bad_body (campaign_fault_text f)) → OnOk refusal (f ≡ Unkept → ⊥)
        → (f ≡ Unkept) ⊎ ((rest : List CampFault) × (campaign_faults t ≡ f ∷ rest)) → IfOk refusal (λ a. Err a ≡ campaign_command make t)
    each (Err x) e other which = e
    each (Ok a) e other (inl memory) = absurd (other memory)
    each (Ok a) e other (inr (rest, faults)) = ap (λ x. Err x) e ∙ ap (λ fs. campaign_by make fs (campaign_from t)) (sym faults)

-- of a text
pub found_in : (by : Tree → Result Command Answer) (body : List ℕ) (t : Tree) (found : Result Command CommandFault) → IsText t body
    → UnlessMemory (λ x. x ≡ by t) found → UnlessMemory (IsOfBody by body) found
found_in by body t (Ok c) text e = said t text e
found_in by body t (Err (fault.Refused a)) text e = said t text e
found_in by body t (Err fault.Memory) text e = tt

-- of bytes that are no text
pub bad_text : {E : Type 0} (by : Tree → Result Command Answer) (body : List ℕ) (f : JsonFault) (refusal : Result Answer E) (found : Result Command CommandFault) → Explains body f
    → IfOk refusal (λ a. a ≡ bad_body (json_fault_text f)) → OnOk refusal (f ≡ Memory → ⊥) → Refuses refusal found
    → UnlessMemory (IsOfBody by body) found
bad_text {E} by body f refusal found explained e other hands = refused (IsOfBody by body) refusal found hands (each refusal e other)
  where
    each : (refusal : Result Answer E) → IfOk refusal (λ a. a ≡ bad_body (json_fault_text f)) → OnOk refusal (f ≡ Memory → ⊥) → IfOk refusal (λ a. IsOfBody by body (Err a))
    each (Err x) e other = e
    each (Ok a) e other = faulty f other explained (ap (λ x. Err x) e)
