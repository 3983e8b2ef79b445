use Rattle.std.proofs.Common.{◌≡◌, ◌≤◌, ◌+◌, take, map}
use Rattle.std.specs.Prelude.{sum_by}
use Rattle.auction_core.specs.Core.{listed}
use Rattle.auction_core.specs.Draft.{found_for}
use Rattle.conj_index.specs.Content.{IsIndexOf}
use Rattle.live_index.specs.Reached.{imp_cost, live_expressions}
use Rattle.plain_exchange.specs.State.{State}
use Rattle.live_index.proofs.reached.find_for_imps.Given as goal

-- the numbers for the impressions so far, and what they cost
abbrev pub invariant-loop-imp : goal.invariant-loop-imp
invariant-loop-imp g l =
    ((s : State) → IsIndexOf (live_expressions (listed s)) l.index → l.found.items ≡ map (found_for s l.request) (take l.imp l.request.imps))
    × (l.steps ≤ l.fn.steps + sum_by (imp_cost l.index l.request) (take l.imp l.request.imps))
