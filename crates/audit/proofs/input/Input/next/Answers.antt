use Rattle.audit.proofs.Coming.{empty_or_not, rest_next}
use Rattle.audit.proofs.input.Input.next.Goals as goal

pub returns-then-not-branch-clause-next : goal.returns-then-not-branch-clause-next
returns-then-not-branch-clause-next g c =
    let none = rw c.in_default.is at c.in_ok-item.ensures in
    rest_next g.E.Element.IsValid g.E.Element.encode (g.S.Source.left c.args.source.now) (g.S.Source.left c.loop.source) (g.S.Source.left c.fill.new.source) c.args.self.now c.loop.self c.take.new.self c.fill.new.self
    c.in_ok-fill.field-0 c.rest.result c.loop.invariant.comes none c.in_ok-fill.ensures.fills c.if-not-branch.true c.rest.ensures.end c.rest.ensures.torn (empty_or_not c.fill.new.self)
