use Rattle.top_match.proofs.Reasons.{ranks_all, ranks_more}
use Rattle.top_match.proofs.best.ranks_from.Goals as goal

pub loop-place-preserved : goal.loop-place-preserved
loop-place-preserved c =
    ranks_more c.args.reasons.now c.loop-place.place _ c.loop-place.ranks.items c.push_some.new.ranks.items c.rank_by.result c.loop-place-test.true
    c.in_ok-push_some.ensures c.loop-place.invariant c.rank_by.ensures

pub returns : goal.returns
returns c = ranks_all c.args.reasons.now c.loop-place.place _ c.loop-place-test.false c.loop-place.invariant
