use Rattle.std.proofs.Common.{refl, sym}
use Rattle.audit.proofs.Coming.{none_held}
use Rattle.audit.proofs.input.Input.take.Goals as goal

pub returns-in_default : goal.returns-in_default
returns-in_default g c =
    let none = rw c.as_bytes.ensures.value at (rw c.in_default.is at c.in_ok-item.ensures) in
    (refl, none_held g.E.Element.IsValid g.E.Element.encode c.self.inside.held c.self.inside.start c.args.self.now (sym c.self.view_is) c.self.invariant none)
