use Rattle.std.proofs.Common.{◌&&◌, ◌++◌, ◌∙◌, ap}
use Rattle.std.specs.List.{list_all}
use Rattle.std.proofs.lemmas.List.Folds.{list_all-append}
use Rattle.clearing.specs.Clearing.{is_fit}
use Rattle.deal_rules.specs.Terms.{terms_of}
use Rattle.market_cases.proofs.rules.all_offers.Goals as goal

pub loop-bidder-preserved : goal.loop-bidder-preserved
loop-bidder-preserved c = λ i at.
    let fits = is_fit (terms_of c.args.asked.now i) in
    let all = c.loop-bidder.all.items in
    let more = c.in_ok-more.more in
    ap (list_all fits) (c.in_ok-extend_from_slice.ensures.items ∙ ap (λ l. all ++ l) c.as_slice.ensures)
    ∙ list_all-append fits all more
    ∙ ap (λ b. b && list_all fits more) (c.loop-bidder.invariant i at)
    ∙ c.in_ok-more.ensures.fit i at
