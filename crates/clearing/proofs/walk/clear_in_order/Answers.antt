use Rattle.std.proofs.Common.{◌∙◌, Some, ap, subst, sym}
use Rattle.clearing.proofs.Walking.{BehindPass, behind_pass, sold_by_walk, unsold_by_walk, winner_fits}
use Rattle.clearing.proofs.Winner.{terms_of_fit}
use Rattle.clearing.proofs.walk.clear_in_order.Goals as goal

pub sale_above-requires-clause-known : goal.sale_above-requires-clause-known
sale_above-requires-clause-known g c =
    subst (BehindPass (g.P.Payers.knows c.args.payers.now)) (sym c.in-Some.ensures.value)
    (behind_pass (g.P.Payers.pays c.args.payers.now) (g.P.Payers.knows c.args.payers.now) c.best-best.result c.args.candidates.now c.requires.known)

pub sale_above-requires-clause-fit : goal.sale_above-requires-clause-fit
sale_above-requires-clause-fit g c =
    winner_fits (g.P.Payers.pays c.args.payers.now) c.args.others.now c.args.terms.now c.args.candidates.now c.best-best.result c.in-Some.winner c.in-Some.behind.now c.best-best.ensures.value c.in-Some.ensures.value c.requires.fit c.requires.others

pub returns-in-Some-clause-sale : goal.returns-in-Some-clause-sale
returns-in-Some-clause-sale g c =
    let pays = g.P.Payers.pays c.args.payers.now in
    let fits = winner_fits pays c.args.others.now c.args.terms.now c.args.candidates.now c.best-best.result c.in-Some.winner c.in-Some.behind.now c.best-best.ensures.value c.in-Some.ensures.value c.requires.fit c.requires.others in
    let (t, is, least) = terms_of_fit c.args.terms.now c.in-Some.winner fits in
    ap Some (c.sale_above.ensures.value t is)
    ∙ sym (sold_by_walk pays c.args.others.now c.args.terms.now c.args.candidates.now c.best-best.result c.in-Some.winner c.in-Some.behind.now t c.requires.order c.best-best.ensures.value c.in-Some.ensures.value is)

pub returns-in-None-clause-sale : goal.returns-in-None-clause-sale
returns-in-None-clause-sale g c =
    sym (unsold_by_walk (g.P.Payers.pays c.args.payers.now) c.args.others.now c.args.terms.now c.args.candidates.now c.best-best.result c.requires.order c.best-best.ensures.value c.in-None.ensures.value)
