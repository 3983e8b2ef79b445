use Rattle.std.proofs.Common.{rules}
use Rattle.deal_rules.proofs.opportunity.Opportunity.is_excluded_by.Goals as goal

pub returns-in-Category : goal.returns-in-Category
returns-in-Category c = search rules

pub returns-in-Floor : goal.returns-in-Floor
returns-in-Floor c = search rules

pub returns-in-Private : goal.returns-in-Private
returns-in-Private c = search rules

pub returns-in-SeatBlocked : goal.returns-in-SeatBlocked
returns-in-SeatBlocked c = search rules
