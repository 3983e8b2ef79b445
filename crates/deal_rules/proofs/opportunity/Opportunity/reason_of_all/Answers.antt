use Rattle.std.proofs.Common.{◌∙◌}
use Rattle.deal_rules.specs.Seen.{opportunity_seen}
use Rattle.deal_rules.proofs.Ordered.{reason_of_all}
use Rattle.deal_rules.proofs.opportunity.Opportunity.reason_of_all.Goals as goal

pub returns : goal.returns
returns c = c.copied.ensures ∙ c.first_reason.ensures ∙ reason_of_all (opportunity_seen c.args.self.now)
