use Rattle.std.proofs.Common.{sym}
use Rattle.campaign.specs.Faults.{fact_faults}
use Rattle.campaign.proofs.facts.Facts.make.Goals as goal
use Rattle.campaign.proofs.Firsts.{no_first}

pub invariant_of-result : goal.invariant_of-result
invariant_of-result c = record {
  kept = record {
    faultless = no_first (fact_faults c.args.parts) (sym c.in-None.ensures.value);
    whole_micros = c.requires;
    in_range = c.in-None.ensures.range;
  };
  marks = c.marks_of.ensures;
}
