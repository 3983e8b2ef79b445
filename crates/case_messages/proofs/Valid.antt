-- What is read of a message can be asked.
use Rattle.std.proofs.Common.{◌≡◌, refl}
use Rattle.std.specs.Prelude.{IsTrue, Ok, Result}
use Rattle.auction_core.specs.Draft.{is_valid_command}
use Rattle.plain_exchange.specs.declared.commands.Command.{Command}
use Rattle.plain_exchange.specs.declared.commands.Command.TheVariants as command
use Rattle.rtb_types.specs.declared.request.BidRequest.{BidRequest}
use Rattle.rtb_types.specs.Valid.{is_valid}

pub valid_as_read : {E : Type 0} (c : Command) → ((r : BidRequest) → ◌≡◌ {A = Result Command E} (Ok c) (Ok (command.Auction r)) → IsTrue (is_valid r)) → IsTrue (is_valid_command c)
valid_as_read (command.Auction r) h = h r refl
valid_as_read (command.Act a) h = refl
