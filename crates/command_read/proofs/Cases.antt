-- What holds of all that a message may be read as.
use Rattle.std.proofs.Common.{ℕ, List, Bool, true, false, Option, Some, None, Result, Ok, Err, sym, subst}
use Rattle.address_keys.specs.declared.keys.Keys.{Keys}
use Rattle.command_read.specs.Commands.{IsCommandOf, IsOfBody, IsOfMethod, IsOfPath, IsOfRoute, IsWhereOpen, IsWhereTaken, bad_body, campaign_command, faulty, forbidden, not_allowed, not_found, request_command, said}
use Rattle.command_read.specs.Methods.{method_of, takes}
use Rattle.command_read.specs.Paths.{methods_of, path_of, place_of}
use Rattle.command_read.specs.declared.methods.Method.{Method}
use Rattle.command_read.specs.declared.methods.Method.TheVariants as method
use Rattle.command_read.specs.declared.paths.Route.{Route}
use Rattle.command_read.specs.declared.paths.Route.TheVariants as route
use Rattle.exact_json.specs.Tree.{Tree}
use Rattle.http_wire.specs.declared.answer.Allow.TheVariants as allow
use Rattle.http_wire.specs.declared.answer.Answer.{Answer}
use Rattle.http_wire.specs.declared.message.Message.{Message}
use Rattle.campaign.specs.declared.parts.FactParts.{FactParts}
use Rattle.plain_exchange.specs.declared.commands.Act.{Act}
use Rattle.plain_exchange.specs.declared.commands.Act.TheVariants as act
use Rattle.plain_exchange.specs.declared.commands.Command.{Command}
use Rattle.plain_exchange.specs.declared.commands.Command.TheVariants as command
use Rattle.target_expr.specs.declared.pred.Pred.{Pred}

-- it holds of each command and of each refusal
pub record HoldsOfEach (P : Result Command Answer → Type 0) : Type 0 where
  pub any_method : P (Err (not_allowed allow.GetPost))
  pub method : (r : Route) → P (Err (not_allowed (methods_of r)))
  pub path : P (Err not_found)
  pub token : P (Err forbidden)
  pub body : (text : List ℕ) → P (Err (bad_body text))
  pub auction : (t : Tree) → P (request_command t)
  pub campaign : (make : FactParts → List (List Pred) → Act) (t : Tree) → P (campaign_command make t)
  pub other : (a : Act) → P (Ok (command.Act a))

at_body : (P : Result Command Answer → Type 0) → HoldsOfEach P → (by : Tree → Result Command Answer) → ((t : Tree) → P (by t)) → (body : List ℕ) (found : Result Command Answer)
    → IsOfBody by body found → P found
at_body P each by said_by body found (said t text e) = subst P (sym e) (said_by t)
at_body P each by said_by body found (faulty f some explains e) = subst P (sym e) (each.body _)

at_route : (P : Result Command Answer → Type 0) → HoldsOfEach P → (r : Route) (m : Method) (body : List ℕ) (found : Result Command Answer) → IsOfRoute r m body found → P found
at_route P each route.Auction m body found h = at_body P each request_command each.auction body found h
at_route P each route.Campaigns m body found h = at_body P each (campaign_command act.Add) (each.campaign act.Add) body found h
at_route P each (route.Campaign n) method.Get body found h = subst P (sym h) (each.other _)
at_route P each (route.Campaign n) method.Post body found h = at_body P each (campaign_command (act.Change n)) (each.campaign (act.Change n)) body found h
at_route P each (route.Pause n) m body found h = subst P (sym h) (each.other _)
at_route P each (route.Resume n) m body found h = subst P (sym h) (each.other _)
at_route P each (route.Bill n) m body found h = subst P (sym h) (each.other _)
at_route P each (route.Lose n) m body found h = subst P (sym h) (each.other _)
at_route P each (route.Forget keep) m body found h = subst P (sym h) (each.other _)

where_open : (P : Result Command Answer → Type 0) → HoldsOfEach P → (may : Bool) (r : Route) (m : Method) (body : List ℕ) (found : Result Command Answer) → IsWhereOpen may r m body found → P found
where_open P each false r m body found h = subst P (sym h) each.token
where_open P each true r m body found h = at_route P each r m body found h

where_taken : (P : Result Command Answer → Type 0) → HoldsOfEach P → (taken : Bool) (place : Route × Bool) (m : Method) (body : List ℕ) (found : Result Command Answer)
    → IsWhereTaken taken place m body found → P found
where_taken P each false place m body found h = subst P (sym h) (each.method place.0)
where_taken P each true place m body found h = where_open P each place.1 place.0 m body found h

at_path : (P : Result Command Answer → Type 0) → HoldsOfEach P → (place : Option (Route × Bool)) (m : Method) (body : List ℕ) (found : Result Command Answer) → IsOfPath place m body found → P found
at_path P each None m body found h = subst P (sym h) each.path
at_path P each (Some place) m body found h = where_taken P each (takes (methods_of place.0) m) place m body found h

by_method : (P : Result Command Answer → Type 0) → HoldsOfEach P → (keys : Keys) (m : Option Method) (target body : List ℕ) (found : Result Command Answer) → IsOfMethod keys m target body found → P found
by_method P each keys None target body found h = subst P (sym h) each.any_method
by_method P each keys (Some m) target body found h = at_path P each (place_of keys (path_of target)) m body found h

pub holds_of_reading : (P : Result Command Answer → Type 0) → HoldsOfEach P → (keys : Keys) (message : Message) (found : Result Command Answer) → IsCommandOf keys message found → P found
holds_of_reading P each keys message found h = by_method P each keys (method_of message.method) message.target message.body found h
