-- Which reply the reading of a text leads to.
use Rattle.std.proofs.Common.{◌≡◌, refl, ℕ, ◌≤◌, subst, List, [], ◌∷◌, ◌⊎◌, inl, inr, length, Result, Ok, Err, IfOk, OnOk, sym, ap, ◌∙◌}
use Rattle.exact_json.specs.Tree.{Tree}
use Rattle.exact_json.specs.declared.fault.JsonFault.{JsonFault}
use Rattle.exact_json.specs.declared.fault.JsonFault.TheVariants.{Memory}
use Rattle.exact_json.specs.Faults.{Explains}
use Rattle.exact_json.specs.Grammar.{IsText}
use Rattle.rtb_types.specs.declared.request.BidRequest.{BidRequest}
use Rattle.rtb_read.specs.Request.{request_faults, request_from}
use Rattle.rtb_read.specs.declared.fault.ReqFault.{ReqFault}
use Rattle.rtb_read.specs.declared.fault.ReqFault.TheVariants.{Memory as Unread}
use Rattle.json_fields.specs.Answers.{IsFirst}
use Rattle.exchange_run.specs.Words.{Campaign}
use Rattle.refusal_text.specs.Refusals.{json_fault_text, request_fault_text}
use Rattle.exchange_run.specs.Answer.{IsReply, faulty, max_input, refusal_of, reply_by, reply_to, said, too_large, tree_reply}
use Rattle.rtb_io.specs.declared.status.Status.TheVariants.{Done, Refused}
use Rattle.exchange_run.specs.declared.try_command.Reply.{Reply}

-- of a text whose request has no fault
pub accepted : {E : Type 0} (cs : List Campaign) (t : Tree) (r : BidRequest) (reply : Result Reply E) → request_faults t ≡ [] → r ≡ request_from t
    → IfOk reply (λ x. x ≡ reply_to cs r) → IfOk reply (λ x. x ≡ tree_reply cs t)
accepted cs t r (Ok x) none same e = e ∙ ap (reply_to cs) same ∙ ap (λ fs. reply_by cs fs (request_from t)) (sym none)
accepted cs t r (Err f) none same e = e

first : (cs : List Campaign) (t : Tree) (f : ReqFault) (x : Reply) → (f ≡ Unread → ⊥) → (f ≡ Unread) ⊎ ((rest : List ReqFault) × (request_faults t ≡ f ∷ rest)) → x ≡ refusal_of (request_fault_text f) → x ≡ tree_reply cs t
first cs t f x other (inl memory) e = absurd (other memory)
first cs t f x other (inr (rest, faults)) e = e ∙ ap (λ fs. reply_by cs fs (request_from t)) (sym faults)

-- of a text whose request has a fault
pub rejected : {E : Type 0} (cs : List Campaign) (t : Tree) (f : ReqFault) (reply : Result Reply E) → IsFirst Unread (request_faults t) f
    → IfOk reply (λ x. x ≡ refusal_of (request_fault_text f)) → OnOk reply (f ≡ Unread → ⊥) → IfOk reply (λ x. x ≡ tree_reply cs t)
rejected cs t f (Ok x) is e other = first cs t f x other is.first e
rejected cs t f (Err y) is e other = e

-- of a text
pub found : {E : Type 0} (cs : List Campaign) (bytes : List ℕ) (t : Tree) (reply : Result Reply E) → length bytes ≤ max_input → IsText t bytes
    → IfOk reply (λ x. x ≡ tree_reply cs t) → IfOk reply (IsReply cs bytes)
found cs bytes t (Ok x) le spelled e = said le t spelled e
found cs bytes t (Err f) le spelled e = e

-- of bytes whose reading failed, and not for want of memory
pub refused : {E : Type 0} (cs : List Campaign) (bytes : List ℕ) (reply : Result Reply E) (fault : JsonFault) → length bytes ≤ max_input → Explains bytes fault
    → IfOk reply (λ x. x ≡ refusal_of (json_fault_text fault)) → OnOk reply (fault ≡ Memory → ⊥) → IfOk reply (IsReply cs bytes)
refused cs bytes (Ok x) fault le explained e other = faulty le fault other explained e
refused cs bytes (Err f) fault le explained e other = e

-- a reply is a sale or a refusal
abbrev Ends : Reply → Type 0
Ends reply = (reply.status ≡ Done) ⊎ (reply.status ≡ Refused)

by_faults : (cs : List Campaign) (fs : List ReqFault) (r : BidRequest) → Ends (reply_by cs fs r)
by_faults cs [] r = inl refl
by_faults cs (f ∷ fs) r = inr refl

pub ends : (cs : List Campaign) (bytes : List ℕ) (reply : Reply) → IsReply cs bytes reply → (reply.status ≡ Done) ⊎ (reply.status ≡ Refused)
ends cs bytes reply (too_large long e) = subst Ends (sym e) (inr refl)
ends cs bytes reply (said short t is e) = subst Ends (sym e) (by_faults cs (request_faults t) (request_from t))
ends cs bytes reply (faulty short fault some explains e) = subst Ends (sym e) (inr refl)
