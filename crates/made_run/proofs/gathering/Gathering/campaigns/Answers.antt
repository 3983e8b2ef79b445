use Rattle.std.proofs.Common.{◌≡◌, ℕ, arith, subst}
use Rattle.made_run.proofs.Posts.{none_drawn}
use Rattle.made_run.proofs.Taken.{campaign_drawn, campaign_taken, none_taken}
use Rattle.made_run.specs.Runs.{behind_campaigns, campaigns_from}
use Rattle.made_run.specs.Standing.{IsSoFar}
use Rattle.made_run.proofs.gathering.Gathering.campaigns.Goals as goal

pub loop-init : goal.loop-init
loop-init g c = record { ready = c.requires.ready; so_far = none_taken c.args.drawn.now c.args.self.now c.requires.none; drawn = none_drawn c.args.drawn.now }

pub loop-preserved : goal.loop-preserved
loop-preserved g c =
    let before = c.loop.invariant in
    let taken = c.in_ok-take_campaign.ensures in
    record {
      ready = taken.ready;
      so_far = campaign_taken c.args.drawn.now c.loop.counter c.loop.drawn c.in_ok-message.message c.take_campaign.new.self before.drawn c.in_ok-message.ensures.message (taken.one _ before.so_far);
      drawn = campaign_drawn c.args.drawn.now c.loop.counter c.loop.drawn c.next_campaign.new.drawn before.drawn c.next_campaign.ensures.behind;
    }

pub returns-clause-gathered : goal.returns-clause-gathered
returns-clause-gathered g c =
    let all : c.loop.counter ≡ 100 = omega arith in
    subst (λ (n : ℕ). IsSoFar (campaigns_from c.args.drawn.now n) c.loop.self) all c.loop.invariant.so_far

pub returns-clause-drawn : goal.returns-clause-drawn
returns-clause-drawn g c =
    let all : c.loop.counter ≡ 100 = omega arith in
    subst (λ (n : ℕ). c.loop.drawn ≡ behind_campaigns c.args.drawn.now n) all c.loop.invariant.drawn
