use Rattle.std.proofs.Common.{◌<◌, ◌++◌, [], ◌∷◌, length, map, take, sym, ◌∙◌, ap, arith}
use Rattle.auction_core.specs.Draft.{found_for}
use Rattle.auction_core.proofs.Auctioning.{some_there}
use Rattle.auction_core.proofs.Scanning.{found_more}
use Rattle.auction_core.proofs.exchange.Core.scan_counted.Goals as goal

pub loop-imp-preserved : goal.loop-imp-preserved
loop-imp-preserved g c =
    let s = c.args.self.now.state in
    let r = c.args.request.now in
    let k = c.loop-imp.imp in
    let inside : k < length r.imps = omega arith in
    let (i, at) = some_there r.imps k inside in
    c.in_ok-push.ensures.items
    ∙ ap (λ l. l ++ c.in_ok-numbers.numbers ∷ []) c.loop-imp.invariant
    ∙ ap (λ n. map (found_for s r) (take k r.imps) ++ n ∷ []) (c.in_ok-numbers.ensures i at)
    ∙ sym (found_more s r k i inside at)
