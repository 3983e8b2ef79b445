use Rattle.std.proofs.Common.{◌+◌, take, sym, ◌∙◌, subst, arith}
use Rattle.clearing.specs.Clearing.{IsUnbeaten}
use Rattle.clearing.proofs.Winner.{unbeaten_kept, unbeaten_replaced, winner_at_end}
use Rattle.clearing.proofs.best.Goals as goal
use Rattle.clearing.proofs.best.Goals.{then-beats, else-beats}

pub loop-offer-preserved : goal.loop-offer-preserved
loop-offer-preserved c =
    let offers = c.args.offers.now in
    let rest = c.in_ok-first.rest.now in
    let first = c.in_ok-first.first.now in
    let x = c.offer-item.result in
    let w = c.loop-offer.best in
    let i = c.loop-offer.offer-index in
    let split = c.in_ok-first.ensures.cases.0 in
    elim c.if-beats.branch [
      | then-beats b ↦
          subst (IsUnbeaten (take (i + 1 + 1) offers)) (sym b.best-is)
          (unbeaten_replaced offers rest first x w i split c.loop-offer-test.true c.offer-item.is c.loop-offer.invariant (sym c.beats.ensures ∙ b.if-beats.true))
      | else-beats b ↦
          subst (IsUnbeaten (take (i + 1 + 1) offers)) (sym b.best-is)
          (unbeaten_kept offers rest first x w i split c.loop-offer-test.true c.offer-item.is c.loop-offer.invariant (sym c.beats.ensures ∙ b.if-beats.false))
    ]

pub returns-clause-value : goal.returns-clause-value
returns-clause-value c = sym (winner_at_end c.args.offers.now c.loop-offer.best (c.loop-offer.offer-index + 1) (omega (arith, c.in_ok-first.ensures.cases.1)) c.loop-offer.invariant)
