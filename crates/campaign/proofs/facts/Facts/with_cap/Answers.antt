use Rattle.campaign.proofs.facts.Facts.with_cap.Goals as goal
use Rattle.campaign.proofs.Rules.{kept_capped}

pub invariant_of-result : goal.invariant_of-result
invariant_of-result c = record {
  kept = kept_capped c.self.inside.parts c.args.cap c.self.invariant.kept;
  marks = c.self.invariant.marks;
}
