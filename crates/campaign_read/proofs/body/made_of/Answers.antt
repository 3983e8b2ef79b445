use Rattle.std.proofs.Common.{map}
use Rattle.json_fields.specs.Readings.{with_faults}
use Rattle.campaign.specs.Faults.{fact_faults}
use Rattle.target_expr.specs.Kept.{faults, keep}
use Rattle.campaign_read.specs.Campaign.{made_of}
use Rattle.campaign_read.specs.declared.fault.CampFault.{CampFault}
use Rattle.campaign_read.proofs.body.made_of.Goals as goal

pub returns : goal.returns
unfolding made_of
returns c =
    let facts = with_faults (map CampFault.Fact (fact_faults c.args.parts)) c.args.parts in
    let target = with_faults (map CampFault.Target (faults c.args.target)) (keep c.args.target) in
    c.both-made.ensures facts target c.facts_of.ensures c.expr_of.ensures
