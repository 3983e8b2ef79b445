use Rattle.std.proofs.Common.{ap, sym, ◌∙◌}
use Rattle.deal_rules.specs.Rules.{is_closed}
use Rattle.deal_rules.proofs.Places.{same_place}
use Rattle.deal_rules.proofs.Standing.{closed_first, closed_there, none_closed}
use Rattle.deal_rules.proofs.asked.Asked.is_closed_at.Goals as goal

pub returns-then-self-clause-none : goal.returns-then-self-clause-none
returns-then-self-clause-none c = λ i number f at closed.
    let r = c.args.self.now in
    none_closed number r i f (closed_first r i c.self.inside.closed closed (c.self.invariant.closed_is ∙ ap is_closed c.self.view_is))

pub returns-else-self-clause-value : goal.returns-else-self-clause-value
returns-else-self-clause-value c = λ i at.
    let r = c.args.self.now in
    let x = c.index-imps-imp.result in
    closed_there r i x c.self.inside.closed c.sells_nothing.result (c.self.invariant.closed_is ∙ ap is_closed c.self.view_is) c.if-self.false c.sells_nothing.ensures
    (same_place c.imps.result.now r.imps c.args.imp x i c.index-imps-imp.is c.imps.ensures at)

pub returns-else-self-clause-none : goal.returns-else-self-clause-none
returns-else-self-clause-none c = λ i number f at blank.
    let r = c.args.self.now in
    none_closed number r i f (sym (returns-else-self-clause-value c i at) ∙ blank)
