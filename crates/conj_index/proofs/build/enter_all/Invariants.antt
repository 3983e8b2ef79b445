use Rattle.std.proofs.Common.{◌≡◌, ◌≤◌, ◌+◌, take, length}
use Rattle.target_expr.specs.Pairs.{pairs_of}
use Rattle.conj_index.specs.Campaigns.{conjunctions_in, expression_of}
use Rattle.conj_index.specs.Growing.{AreGrown}
use Rattle.conj_index.proofs.build.enter_all.Given as goal

abbrev pub invariant-loop-campaign : goal.invariant-loop-campaign
invariant-loop-campaign g l = record {
  grown : AreGrown (pairs_of (expression_of (take l.campaign-index l.added))) l.parts.items;
  count : length l.parts.items ≡ length l.fn.parts.items;
  first : l.first ≡ conjunctions_in (take l.campaign-index l.added);
  cost : l.steps ≤ l.fn.steps + length (pairs_of (expression_of (take l.campaign-index l.added)));
}
