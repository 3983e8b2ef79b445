-- Which reply the reading of a text leads to.
use Rattle.std.proofs.Common.{◌≡◌, ℕ, ◌≤◌, List, [], ◌∷◌, ◌⊎◌, inl, inr, length, Result, Ok, Err, IfOk, OnOk, sym, ap, ◌∙◌}
use Rattle.exact_json.specs.Tree.{Tree}
use Rattle.exact_json.specs.declared.fault.JsonFault.{JsonFault}
use Rattle.exact_json.specs.declared.fault.JsonFault.TheVariants.{Memory}
use Rattle.exact_json.specs.Faults.{Explains}
use Rattle.exact_json.specs.Grammar.{IsText}
use Rattle.json_fields.specs.Answers.{IsFirst}
use Rattle.refusal_text.specs.Refusals.{json_fault_text}
use Rattle.which_read.specs.Judged.{judged}
use Rattle.which_read.specs.Request.{Request, which_faults, which_from}
use Rattle.which_read.specs.declared.fault.WhichFault.{WhichFault}
use Rattle.which_read.specs.declared.fault.WhichFault.TheVariants.{Memory as Unread}
use Rattle.which_read.specs.declared.request.Judged.{Judged}
use Rattle.which_run.specs.Answers.{IsReply, answer_to, faulty, longest, refusal_of, reply_by, said, tree_reply}
use Rattle.which_run.specs.Texts.{which_fault_text}
use Rattle.which_run.specs.declared.reply.Reply.{Reply}

-- of a text whose request has no fault
pub accepted : {E : Type 0} (t : Tree) (q : Judged) (reply : Result Reply E) → which_faults t ≡ [] → q ≡ judged (which_from t) → IfOk reply (λ x. (r : Request) → q ≡ judged r → x ≡ answer_to r)
    → IfOk reply (λ x. x ≡ tree_reply t)
unfolding tree_reply
accepted t q (Ok x) none same e = e (which_from t) same ∙ ap (λ fs. reply_by fs (which_from t)) (sym none)
accepted t q (Err f) none same e = e

first : (t : Tree) (f : WhichFault) (x : Reply) → (f ≡ Unread → ⊥) → (f ≡ Unread) ⊎ ((rest : List WhichFault) × (which_faults t ≡ f ∷ rest)) → x ≡ refusal_of (which_fault_text f) → x ≡ tree_reply t
unfolding tree_reply
first t f x other (inl memory) e = absurd (other memory)
first t f x other (inr (rest, faults)) e = e ∙ ap (λ fs. reply_by fs (which_from t)) (sym faults)

-- of a text whose request has a fault
pub rejected : {E : Type 0} (t : Tree) (f : WhichFault) (reply : Result Reply E) → IsFirst Unread (which_faults t) f → IfOk reply (λ x. x ≡ refusal_of (which_fault_text f))
    → OnOk reply (f ≡ Unread → ⊥) → IfOk reply (λ x. x ≡ tree_reply t)
rejected t f (Ok x) is e other = first t f x other is.first e
rejected t f (Err y) is e other = e

-- of a text
pub found : {E : Type 0} (bytes : List ℕ) (t : Tree) (reply : Result Reply E) → length bytes ≤ longest → IsText t bytes → IfOk reply (λ x. x ≡ tree_reply t) → IfOk reply (IsReply bytes)
found bytes t (Ok x) le spelled e = said le t spelled e
found bytes t (Err f) le spelled e = e

-- of bytes whose reading failed, and not for want of memory
pub refused : {E : Type 0} (bytes : List ℕ) (reply : Result Reply E) (fault : JsonFault) → length bytes ≤ longest → Explains bytes fault → IfOk reply (λ x. x ≡ refusal_of (json_fault_text fault))
    → OnOk reply (fault ≡ Memory → ⊥) → IfOk reply (IsReply bytes)
refused bytes (Ok x) fault le explained e other = faulty le fault other explained e
refused bytes (Err f) fault le explained e other = e
