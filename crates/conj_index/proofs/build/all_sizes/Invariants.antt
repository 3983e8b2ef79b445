use Rattle.std.proofs.Common.{◌≡◌, take}
use Rattle.target_expr.specs.Pairs.{sizes_of}
use Rattle.conj_index.specs.Campaigns.{expression_of}
use Rattle.conj_index.proofs.build.all_sizes.Given as goal

abbrev pub invariant-loop-campaign : goal.invariant-loop-campaign
invariant-loop-campaign l = l.sizes.items ≡ sizes_of (expression_of (take l.campaign-index l.added))
