-- The request of an auction is valid.
use Rattle.std.proofs.Common.{◌≡◌, List, [], ◌∷◌, true, Result, Ok, Err, refl, subst}
use Rattle.address_keys.specs.declared.keys.Keys.{Keys}
use Rattle.campaign.specs.declared.parts.FactParts.{FactParts}
use Rattle.campaign_read.specs.Campaign.{campaign_faults, campaign_from}
use Rattle.campaign_read.specs.declared.fault.CampFault.{CampFault}
use Rattle.command_read.specs.Commands.{IsCommandOf, campaign_by, request_by}
use Rattle.command_read.specs.Memory.{UnlessMemory}
use Rattle.command_read.specs.declared.fault.CommandFault.{CommandFault}
use Rattle.command_read.proofs.Cases.{HoldsOfEach, holds_of_reading}
use Rattle.exact_json.specs.Tree.{Tree}
use Rattle.http_wire.specs.declared.answer.Answer.{Answer}
use Rattle.http_wire.specs.declared.message.Message.{Message}
use Rattle.plain_exchange.specs.declared.commands.Act.{Act}
use Rattle.plain_exchange.specs.declared.commands.Command.{Command}
use Rattle.plain_exchange.specs.declared.commands.Command.TheVariants as command
use Rattle.rtb_read.specs.Request.{request_faults, request_from}
use Rattle.rtb_read.specs.declared.fault.ReqFault.{ReqFault}
use Rattle.rtb_read.proofs.Validity.{valid_answer}
use Rattle.rtb_types.specs.Valid.{is_valid}
use Rattle.rtb_types.specs.declared.request.BidRequest.{BidRequest}
use Rattle.target_expr.specs.declared.pred.Pred.{Pred}

-- what is an auction has a valid request
abbrev IsFine : Result Command Answer → Type 0
IsFine (Ok (command.Auction r)) = is_valid r ≡ true
IsFine (Ok (command.Act a)) = Unit {0}
IsFine (Err a) = Unit {0}

by_request : (t : Tree) (faults : List ReqFault) → request_faults t ≡ faults → IsFine (request_by faults (request_from t))
by_request t [] e = valid_answer t (Ok (request_from t)) (e, refl)
by_request t (f ∷ faults) e = tt

by_campaign : (make : FactParts → List (List Pred) → Act) (faults : List CampFault) (c : FactParts × List (List Pred)) → IsFine (campaign_by make faults c)
by_campaign make [] c = tt
by_campaign make (f ∷ faults) c = tt

each_is_fine : HoldsOfEach IsFine
each_is_fine = record {
  any_method = tt;
  method = λ r. tt;
  path = tt;
  token = tt;
  body = λ text. tt;
  auction = λ t. by_request t (request_faults t) refl;
  campaign = λ make t. by_campaign make (campaign_faults t) (campaign_from t);
  other = λ a. tt;
}

pub requests_are_valid : (keys : Keys) (message : Message) (found : Result Command CommandFault) → UnlessMemory (IsCommandOf keys message) found
    → (r : BidRequest) → found ≡ Ok (command.Auction r) → is_valid r ≡ true
requests_are_valid keys message found h r e = holds_of_reading IsFine each_is_fine keys message (Ok (command.Auction r)) (subst (UnlessMemory (IsCommandOf keys message)) e h)
