use Rattle.std.proofs.Common.{◌∙◌}
use Rattle.deal_rules.specs.Seen.{opportunity_seen}
use Rattle.deal_rules.proofs.Ordered.{common_reason}
use Rattle.deal_rules.proofs.opportunity.Opportunity.common_reason.Goals as goal

pub returns : goal.returns
returns c = c.copied.ensures ∙ c.first_reason.ensures ∙ common_reason (opportunity_seen c.args.self.now)
