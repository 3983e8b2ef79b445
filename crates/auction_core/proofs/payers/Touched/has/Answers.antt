use Rattle.std.proofs.Common.{List, ap, ◌∙◌, ℕ}
use Rattle.auction_core.specs.Found.{is_touched}
use Rattle.auction_core.proofs.Touching.{touched_looked}
use Rattle.auction_core.proofs.payers.Touched.has.Goals as goal

pub returns : goal.returns
returns c =
    c.is_ok.ensures.value
    ∙ touched_looked c.self.inside.numbers.now c.args.number.now c.binary_search.result c.self.invariant c.binary_search.ensures.bound c.binary_search.ensures.position
    ∙ ap (λ (l : List ℕ). is_touched l c.args.number.now) c.self.view_is
