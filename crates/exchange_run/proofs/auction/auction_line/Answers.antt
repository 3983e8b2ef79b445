use Rattle.std.proofs.Common.{refl}
use Rattle.exchange_run.proofs.auction.auction_line.Goals as goal

pub command_line-line-requires : goal.command_line-line-requires
command_line-line-requires c = record {
  campaigns = c.requires.campaigns;
  few = c.requires.few;
  valid = c.requires.valid;
}

pub returns : goal.returns
returns c = c.command_line-line.ensures c.args.request refl
