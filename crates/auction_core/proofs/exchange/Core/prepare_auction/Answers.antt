use Rattle.plain_exchange.specs.declared.commands.Command.TheVariants as command
use Rattle.auction_core.proofs.exchange.Core.prepare_auction.Goals as goal

pub draft-requires : goal.draft-requires
draft-requires c = record { outcome = (c.args.self.now.settings, command.Auction c.args.request.now, c.in_ok-outcome.ensures) }
