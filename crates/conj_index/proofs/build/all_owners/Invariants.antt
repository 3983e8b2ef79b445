use Rattle.std.proofs.Common.{◌≡◌, take, map}
use Rattle.conj_index.specs.Campaigns.{AreKept}
use Rattle.conj_index.specs.Content.{Listed, conjunctions_of}
use Rattle.conj_index.proofs.build.all_owners.Given as goal

abbrev pub invariant-loop-campaign : goal.invariant-loop-campaign
invariant-loop-campaign l = record {
  owners : l.owners ≡ map (λ (c : Listed). c.owner) (conjunctions_of (take l.campaign-index l.added));
  kept : AreKept (take l.campaign-index l.added);
}
