-- Each refusal can be written: its status has a reason, and it lists methods exactly at 405.
use Rattle.std.proofs.Common.{ℕ, List, [], ◌∷◌, Result, Ok, Err, IfErr, refl, arith}
use Rattle.address_keys.specs.declared.keys.Keys.{Keys}
use Rattle.campaign.specs.declared.parts.FactParts.{FactParts}
use Rattle.campaign_read.specs.Campaign.{campaign_faults, campaign_from}
use Rattle.campaign_read.specs.declared.fault.CampFault.{CampFault}
use Rattle.command_read.specs.Commands.{IsCommandOf, bad_body, campaign_by, forbidden, not_allowed, not_found, request_by}
use Rattle.command_read.specs.Memory.{IfRefused, UnlessMemory}
use Rattle.command_read.specs.Paths.{methods_of}
use Rattle.command_read.specs.declared.fault.CommandFault.{CommandFault}
use Rattle.command_read.specs.declared.fault.CommandFault.TheVariants as fault
use Rattle.command_read.specs.declared.paths.Route.{Route}
use Rattle.command_read.specs.declared.paths.Route.TheVariants as route
use Rattle.command_read.proofs.Cases.{HoldsOfEach, holds_of_reading}
use Rattle.http_wire.specs.Answers.{IsWritable}
use Rattle.http_wire.specs.declared.answer.Allow.TheVariants as allow
use Rattle.http_wire.specs.declared.answer.Answer.{Answer}
use Rattle.http_wire.specs.declared.message.Message.{Message}
use Rattle.plain_exchange.specs.declared.commands.Act.{Act}
use Rattle.plain_exchange.specs.declared.commands.Command.{Command}
use Rattle.rtb_read.specs.Request.{request_faults, request_from}
use Rattle.rtb_read.specs.declared.fault.ReqFault.{ReqFault}
use Rattle.rtb_types.specs.declared.request.BidRequest.{BidRequest}
use Rattle.target_expr.specs.declared.pred.Pred.{Pred}

-- what is a refusal can be written
abbrev Writes : Result Command Answer → Type 0
Writes found = IfErr found IsWritable

only_post : IsWritable (not_allowed allow.Post)
only_post = record { status = refl; allow = refl; no_content = λ e. absurd (omega (arith, e)); not_allowed = λ e. refl }

both_methods : IsWritable (not_allowed allow.GetPost)
both_methods = record { status = refl; allow = refl; no_content = λ e. absurd (omega (arith, e)); not_allowed = λ e. refl }

no_path : IsWritable not_found
no_path = record { status = refl; allow = refl; no_content = λ e. absurd (omega (arith, e)); not_allowed = λ e. absurd (omega (arith, e)) }

no_token : IsWritable forbidden
no_token = record { status = refl; allow = refl; no_content = λ e. absurd (omega (arith, e)); not_allowed = λ e. absurd (omega (arith, e)) }

of_body : (body : List ℕ) → IsWritable (bad_body body)
of_body body = record { status = refl; allow = refl; no_content = λ e. absurd (omega (arith, e)); not_allowed = λ e. absurd (omega (arith, e)) }

of_methods : (r : Route) → IsWritable (not_allowed (methods_of r))
of_methods route.Auction = only_post
of_methods route.Campaigns = only_post
of_methods (route.Campaign n) = both_methods
of_methods (route.Pause n) = only_post
of_methods (route.Resume n) = only_post
of_methods (route.Bill n) = both_methods
of_methods (route.Lose n) = both_methods
of_methods (route.Forget keep) = only_post

by_request : (faults : List ReqFault) (r : BidRequest) → Writes (request_by faults r)
by_request [] r = tt
by_request (f ∷ faults) r = of_body _

by_campaign : (make : FactParts → List (List Pred) → Act) (faults : List CampFault) (c : FactParts × List (List Pred)) → Writes (campaign_by make faults c)
by_campaign make [] c = tt
by_campaign make (f ∷ faults) c = of_body _

each_writes : HoldsOfEach Writes
each_writes = record {
  any_method = both_methods;
  method = of_methods;
  path = no_path;
  token = no_token;
  body = of_body;
  auction = λ t. by_request (request_faults t) (request_from t);
  campaign = λ make t. by_campaign make (campaign_faults t) (campaign_from t);
  other = λ a. tt;
}

pub refusals_are_writable : (keys : Keys) (message : Message) (found : Result Command CommandFault) → UnlessMemory (IsCommandOf keys message) found → IfErr found (IfRefused IsWritable)
refusals_are_writable keys message (Ok c) h = tt
refusals_are_writable keys message (Err (fault.Refused a)) h = holds_of_reading Writes each_writes keys message (Err a) h
refusals_are_writable keys message (Err fault.Memory) h = tt
