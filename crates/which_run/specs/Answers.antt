-- What is answered to the bytes of a request for the best expressions.
use Rattle.std.specs.Prelude.{◌≡◌, ◌≢◌, ℕ, ◌<◌, ◌≤◌, List, [], ◌∷◌, length, true, false, codes}
use Rattle.exact_json.specs.Tree.{Tree}
use Rattle.exact_json.specs.Grammar.{IsText}
use Rattle.exact_json.specs.Faults.{Explains}
use Rattle.exact_json.specs.declared.fault.JsonFault.{JsonFault}
use Rattle.exact_json.specs.declared.fault.JsonFault.TheVariants.{Memory}
use Rattle.refusal_text.specs.Refusals.{error_text, json_fault_text}
use Rattle.top_match.specs.Certificate.{marks_of}
use Rattle.top_match.specs.Top.{top_list}
use Rattle.which_read.specs.Request.{Request, which_faults, which_from}
use Rattle.which_read.specs.declared.fault.WhichFault.{WhichFault}
use Rattle.which_run.specs.Texts.{best_text, which_fault_text}
use Rattle.which_run.specs.declared.reply.Reply.{Reply}

-- the longest input, in bytes
abbrev pub longest : ℕ
longest = 16777216

abbrev pub refusal_of : List ℕ → Reply
refusal_of body = record { text = body; refused = true }

-- the best n of all expressions for the assignment, and the mark of each
unfoldable pub answer_to : Request → Reply
answer_to r = record {
  text = best_text (top_list r.expressions r.assignment r.n) (marks_of r.expressions r.assignment (top_list r.expressions r.assignment r.n));
  refused = false;
}

-- the first fault is refused; without one the request is answered
abbrev pub reply_by : List WhichFault → Request → Reply
reply_by [] r = answer_to r
reply_by (fault ∷ faults) r = refusal_of (which_fault_text fault)

-- the reply to a JSON text that says this
unfoldable pub tree_reply : Tree → Reply
tree_reply t = reply_by (which_faults t) (which_from t)

abbrev pub too_large_reply : Reply
too_large_reply = refusal_of (error_text (codes "body-too-large"))

-- The reply to the bytes. A text says one thing and other bytes have one fault, so there is one.
pub data IsReply (bytes : List ℕ) (reply : Reply) : Type 0 where
  too_large : longest < length bytes → reply ≡ too_large_reply → IsReply bytes reply
  said : length bytes ≤ longest → (t : Tree) → IsText t bytes → reply ≡ tree_reply t → IsReply bytes reply
  faulty : length bytes ≤ longest → (fault : JsonFault) → fault ≢ Memory → Explains bytes fault → reply ≡ refusal_of (json_fault_text fault) → IsReply bytes reply
