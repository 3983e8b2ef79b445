use Rattle.std.proofs.Common.{map, ap}
use Rattle.campaign.specs.Faults.{fact_faults}
use Rattle.campaign_read.specs.declared.fault.CampFault.{CampFault}
use Rattle.campaign_read.proofs.Made.{checked_err, checked_ok, first_mapped}
use Rattle.campaign_read.proofs.body.facts_of.Goals as goal

pub returns-in-Ok : goal.returns-in-Ok
returns-in-Ok c =
    let ok = checked_ok (fact_faults c.args.parts) c.args.parts c.in-Ok.facts c.in-Ok.ensures in
    (ap (map CampFault.Fact) ok.0, ok.1)

pub returns-in-Err : goal.returns-in-Err
returns-in-Err c =
    first_mapped CampFault.Fact CampFault.Memory (fact_faults c.args.parts) c.in-Err.fault (checked_err (fact_faults c.args.parts) c.args.parts c.in-Err.fault c.in-Err.ensures)
