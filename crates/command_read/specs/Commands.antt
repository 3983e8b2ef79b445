-- The command that a message asks for, or the answer that refuses it: first by its method, then by its path,
-- then by the path's methods, then by its token where addresses are signed, and last by its body.
use Rattle.std.specs.Prelude.{◌≡◌, ◌≢◌, List, [], ◌∷◌, Bool, true, false, Option, Some, None, Result, Ok, Err, codes, ℕ}
use Rattle.address_keys.specs.declared.keys.Keys.{Keys}
use Rattle.campaign.specs.declared.parts.FactParts.{FactParts}
use Rattle.campaign_read.specs.Campaign.{campaign_faults, campaign_from}
use Rattle.campaign_read.specs.declared.fault.CampFault.{CampFault}
use Rattle.command_read.specs.Methods.{method_of, takes}
use Rattle.command_read.specs.Paths.{methods_of, path_of, place_of}
use Rattle.command_read.specs.declared.methods.Method.{Method}
use Rattle.command_read.specs.declared.methods.Method.TheVariants as method
use Rattle.command_read.specs.declared.paths.Route.{Route}
use Rattle.command_read.specs.declared.paths.Route.TheVariants as route
use Rattle.exact_json.specs.Faults.{Explains}
use Rattle.exact_json.specs.Grammar.{IsText}
use Rattle.exact_json.specs.Tree.{Tree}
use Rattle.exact_json.specs.declared.fault.JsonFault.{JsonFault}
use Rattle.exact_json.specs.declared.fault.JsonFault.TheVariants.{Memory}
use Rattle.http_wire.specs.declared.answer.Allow.{Allow}
use Rattle.http_wire.specs.declared.answer.Allow.TheVariants as allow
use Rattle.http_wire.specs.declared.answer.Answer.{Answer}
use Rattle.http_wire.specs.declared.message.Message.{Message}
use Rattle.plain_exchange.specs.declared.commands.Act.{Act}
use Rattle.plain_exchange.specs.declared.commands.Act.TheVariants as act
use Rattle.plain_exchange.specs.declared.commands.Command.{Command}
use Rattle.plain_exchange.specs.declared.commands.Command.TheVariants as command
use Rattle.plain_exchange.specs.declared.commands.Look.TheVariants as look
use Rattle.refusal_text.specs.Refusals.{campaign_fault_text, error_text, json_fault_text, request_fault_text}
use Rattle.rtb_read.specs.Request.{request_faults, request_from}
use Rattle.rtb_read.specs.declared.fault.ReqFault.{ReqFault}
use Rattle.rtb_types.specs.declared.request.BidRequest.{BidRequest}
use Rattle.target_expr.specs.declared.pred.Pred.{Pred}

-- ---- refusals

-- RFC 9110, section 15.5.6: the methods that the path takes are listed
abbrev pub not_allowed : Allow → Answer
not_allowed methods = record { status = 405; allow = methods; body = [] }

-- section 15.5.5
abbrev pub not_found : Answer
not_found = record { status = 404; allow = allow.None; body = error_text (codes "not-found") }

-- section 15.5.4
abbrev pub forbidden : Answer
forbidden = record { status = 403; allow = allow.None; body = error_text (codes "forbidden") }

-- section 15.5.1
abbrev pub bad_body : List ℕ → Answer
bad_body body = record { status = 400; allow = allow.None; body = body }

-- ---- bodies

-- what a JSON text asks for that has these faults, the first of which is refused
abbrev pub request_by : List ReqFault → BidRequest → Result Command Answer
request_by [] r = Ok (command.Auction r)
request_by (fault ∷ faults) r = Err (bad_body (request_fault_text fault))

abbrev pub request_command : Tree → Result Command Answer
request_command t = request_by (request_faults t) (request_from t)

abbrev pub campaign_by : (FactParts → List (List Pred) → Act) → List CampFault → FactParts × List (List Pred) → Result Command Answer
campaign_by make [] c = Ok (command.Act (make c.0 c.1))
campaign_by make (fault ∷ faults) c = Err (bad_body (campaign_fault_text fault))

abbrev pub campaign_command : (FactParts → List (List Pred) → Act) → Tree → Result Command Answer
campaign_command make t = campaign_by make (campaign_faults t) (campaign_from t)

-- The body is a JSON text that says this, or has this fault. A text says one thing and other bytes have one
-- fault, so there is one answer.
pub data IsOfBody (by : Tree → Result Command Answer) (body : List ℕ) (found : Result Command Answer) : Type 0 where
  said : (t : Tree) → IsText t body → found ≡ by t → IsOfBody by body found
  faulty : (fault : JsonFault) → fault ≢ Memory → Explains body fault → found ≡ Err (bad_body (json_fault_text fault)) → IsOfBody by body found

-- ---- messages

-- what is asked for by a method that the path takes; a body that no command has is not read
abbrev pub IsOfRoute : Route → Method → List ℕ → Result Command Answer → Type 0
IsOfRoute route.Auction m body found = IsOfBody request_command body found
IsOfRoute route.Campaigns m body found = IsOfBody (campaign_command act.Add) body found
IsOfRoute (route.Campaign n) method.Get body found = found ≡ Ok (command.Act (act.Look (look.Report n)))
IsOfRoute (route.Campaign n) method.Post body found = IsOfBody (campaign_command (act.Change n)) body found
IsOfRoute (route.Pause n) m body found = found ≡ Ok (command.Act (act.Pause n))
IsOfRoute (route.Resume n) m body found = found ≡ Ok (command.Act (act.Resume n))
IsOfRoute (route.Bill n) m body found = found ≡ Ok (command.Act (act.Bill n))
IsOfRoute (route.Lose n) m body found = found ≡ Ok (command.Act (act.Lose n))
IsOfRoute (route.Forget keep) m body found = found ≡ Ok (command.Act (act.Forget keep))

abbrev pub IsWhereOpen : Bool → Route → Method → List ℕ → Result Command Answer → Type 0
IsWhereOpen false r m body found = found ≡ Err forbidden
IsWhereOpen true r m body found = IsOfRoute r m body found

abbrev pub IsWhereTaken : Bool → Route × Bool → Method → List ℕ → Result Command Answer → Type 0
IsWhereTaken false place m body found = found ≡ Err (not_allowed (methods_of place.0))
IsWhereTaken true place m body found = IsWhereOpen place.1 place.0 m body found

abbrev pub IsOfPath : Option (Route × Bool) → Method → List ℕ → Result Command Answer → Type 0
IsOfPath None m body found = found ≡ Err not_found
IsOfPath (Some place) m body found = IsWhereTaken (takes (methods_of place.0) m) place m body found

abbrev pub IsOfMethod : Keys → Option Method → List ℕ → List ℕ → Result Command Answer → Type 0
IsOfMethod keys None target body found = found ≡ Err (not_allowed allow.GetPost)
IsOfMethod keys (Some m) target body found = IsOfPath (place_of keys (path_of target)) m body found

-- the command that the message asks for, or its refusal
abbrev pub IsCommandOf : Keys → Message → Result Command Answer → Type 0
IsCommandOf keys message found = IsOfMethod keys (method_of message.method) message.target message.body found
