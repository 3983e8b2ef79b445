use Rattle.std.proofs.Common.{◌≡◌, ◌∙◌}
use Rattle.exchange_run.specs.Exchange.{settings}
use Rattle.exchange_run.specs.Making.{campaigns_named}
use Rattle.exchange_run.proofs.Answering.{by_opening}
use Rattle.exchange_run.proofs.auction.reply_with.Goals as goal

pub returns : goal.returns
returns c =
    let core = c.add_campaigns.new.core in
    let held : core.settings ≡ settings = c.add_campaigns.ensures.settings ∙ c.requires.held in
    by_opening core.settings core.state c.args.command.now (campaigns_named c.args.words.now) c.reply_of.result held c.in_ok-add_campaigns.ensures.state c.reply_of.ensures
