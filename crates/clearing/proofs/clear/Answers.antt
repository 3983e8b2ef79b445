use Rattle.std.proofs.Common.{Some, sym, ◌∙◌, ap}
use Rattle.clearing.proofs.Winner.{outcome_at, terms_of_fit, winner_is_fit}
use Rattle.clearing.proofs.clear.Goals as goal

pub sale-requires : goal.sale-requires
sale-requires c = winner_is_fit c.args.offers.now c.args.terms.now c.in_ok-winner.winner c.requires (sym c.in_ok-winner.ensures.value)

pub returns-clause-sale : goal.returns-clause-sale
returns-clause-sale c =
    let won = sym c.in_ok-winner.ensures.value in
    let (t, is, at_least) = terms_of_fit c.args.terms.now c.in_ok-winner.winner (winner_is_fit c.args.offers.now c.args.terms.now c.in_ok-winner.winner c.requires won) in
    ap Some (c.sale.ensures t is) ∙ sym (outcome_at c.args.offers.now c.args.terms.now c.in_ok-winner.winner t won is)
