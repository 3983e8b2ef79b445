use Rattle.std.proofs.Common.{ap, ◌∙◌}
use Rattle.exchange_run.specs.Words.{campaign_of}
use Rattle.exchange_run.specs.View.{campaign_view}
use Rattle.exchange_run.proofs.Campaigns.{in_limits}
use Rattle.exchange_run.proofs.words.campaign_named.Goals as goal

pub returns-clause-some_bid : goal.returns-clause-some_bid
returns-clause-some_bid c = (in_limits c.args.word.now (campaign_view c.in-Some.campaign) (c.in-Some.ensures ∙ ap campaign_of c.as_bytes.ensures.value)).0

pub returns-clause-short : goal.returns-clause-short
returns-clause-short c = (in_limits c.args.word.now (campaign_view c.in-Some.campaign) (c.in-Some.ensures ∙ ap campaign_of c.as_bytes.ensures.value)).1
