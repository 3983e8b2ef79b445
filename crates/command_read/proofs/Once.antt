-- A message is read in one way.
use Rattle.std.proofs.Common.{◌≡◌, ℕ, List, Bool, true, false, Option, Some, None, Result, Err, sym, ap, ◌∙◌, subst}
use Rattle.address_keys.specs.declared.keys.Keys.{Keys}
use Rattle.command_read.specs.Commands.{IsCommandOf, IsOfBody, IsOfMethod, IsOfPath, IsOfRoute, IsWhereOpen, IsWhereTaken, bad_body, campaign_command, faulty, request_command, said}
use Rattle.command_read.specs.Methods.{method_of, takes}
use Rattle.command_read.specs.Paths.{methods_of, path_of, place_of}
use Rattle.command_read.specs.declared.methods.Method.{Method}
use Rattle.command_read.specs.declared.methods.Method.TheVariants as method
use Rattle.command_read.specs.declared.paths.Route.{Route}
use Rattle.command_read.specs.declared.paths.Route.TheVariants as route
use Rattle.exact_json.specs.Faults.{Explains}
use Rattle.exact_json.specs.Grammar.{IsText}
use Rattle.exact_json.specs.Tree.{Tree}
use Rattle.exact_json.specs.declared.fault.JsonFault.{JsonFault}
use Rattle.exact_json.specs.declared.fault.JsonFault.TheVariants.{Memory}
use Rattle.http_wire.specs.declared.answer.Answer.{Answer}
use Rattle.http_wire.specs.declared.message.Message.{Message}
use Rattle.plain_exchange.specs.declared.commands.Act.TheVariants as act
use Rattle.plain_exchange.specs.declared.commands.Command.{Command}
use Rattle.refusal_text.specs.Refusals.{json_fault_text}

-- what is known of the bytes of a body: a text has one tree, other bytes have one fault, and none are both
pub record IsOneThing (body : List ℕ) : Type 0 where
  pub tree : (t u : Tree) → IsText t body → IsText u body → t ≡ u
  pub fault : (e f : JsonFault) → (e ≡ Memory → ⊥) → (f ≡ Memory → ⊥) → Explains body e → Explains body f → e ≡ f
  pub neither : (e : JsonFault) (t : Tree) → (e ≡ Memory → ⊥) → Explains body e → IsText t body → ⊥

one_body : (by : Tree → Result Command Answer) (body : List ℕ) → IsOneThing body → (a b : Result Command Answer) → IsOfBody by body a → IsOfBody by body b → a ≡ b
one_body by body one a b (said t text e) (said u other f) = e ∙ ap by (one.tree t u text other) ∙ sym f
one_body by body one a b (said t text e) (faulty g some explains f) = absurd (one.neither g t some explains text)
one_body by body one a b (faulty g some explains f) (said t text e) = absurd (one.neither g t some explains text)
one_body by body one a b (faulty g some explains e) (faulty h other explained f) =
    e ∙ ap (λ (x : JsonFault). Err (bad_body (json_fault_text x))) (one.fault g h some other explains explained) ∙ sym f

one_route : (r : Route) (m : Method) (body : List ℕ) → IsOneThing body → (a b : Result Command Answer) → IsOfRoute r m body a → IsOfRoute r m body b → a ≡ b
one_route route.Auction m body one a b h k = one_body request_command body one a b h k
one_route route.Campaigns m body one a b h k = one_body (campaign_command act.Add) body one a b h k
one_route (route.Campaign n) method.Get body one a b h k = h ∙ sym k
one_route (route.Campaign n) method.Post body one a b h k = one_body (campaign_command (act.Change n)) body one a b h k
one_route (route.Pause n) m body one a b h k = h ∙ sym k
one_route (route.Resume n) m body one a b h k = h ∙ sym k
one_route (route.Bill n) m body one a b h k = h ∙ sym k
one_route (route.Lose n) m body one a b h k = h ∙ sym k
one_route (route.Forget keep) m body one a b h k = h ∙ sym k

one_open : (may : Bool) (r : Route) (m : Method) (body : List ℕ) → IsOneThing body → (a b : Result Command Answer) → IsWhereOpen may r m body a → IsWhereOpen may r m body b → a ≡ b
one_open false r m body one a b h k = h ∙ sym k
one_open true r m body one a b h k = one_route r m body one a b h k

one_taken : (taken : Bool) (place : Route × Bool) (m : Method) (body : List ℕ) → IsOneThing body → (a b : Result Command Answer)
    → IsWhereTaken taken place m body a → IsWhereTaken taken place m body b → a ≡ b
one_taken false place m body one a b h k = h ∙ sym k
one_taken true place m body one a b h k = one_open place.1 place.0 m body one a b h k

one_path : (place : Option (Route × Bool)) (m : Method) (body : List ℕ) → IsOneThing body → (a b : Result Command Answer) → IsOfPath place m body a → IsOfPath place m body b → a ≡ b
one_path None m body one a b h k = h ∙ sym k
one_path (Some place) m body one a b h k = one_taken (takes (methods_of place.0) m) place m body one a b h k

one_method : (keys : Keys) (m : Option Method) (target body : List ℕ) → IsOneThing body → (a b : Result Command Answer) → IsOfMethod keys m target body a → IsOfMethod keys m target body b → a ≡ b
one_method keys None target body one a b h k = h ∙ sym k
one_method keys (Some m) target body one a b h k = one_path (place_of keys (path_of target)) m body one a b h k

pub one_reading : (keys : Keys) (message : Message) (bytes : List ℕ) → bytes ≡ message.body → IsOneThing bytes → (a b : Result Command Answer) → IsCommandOf keys message a → IsCommandOf keys message b → a ≡ b
one_reading keys message bytes e one = one_method keys (method_of message.method) message.target message.body (subst IsOneThing e one)
