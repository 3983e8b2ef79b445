use Rattle.std.proofs.Common.{◌≡◌, ◌∷◌, ◌∙◌, ◌-◌, length, drop, ap, sym, subst, IsTrue, arith}
use Rattle.json_out.specs.Writer.{is_open}
use Rattle.json_out.proofs.Innermost.{replaced}
use Rattle.json_out.proofs.places.Places.replace.Goals as goal

pub returns : goal.returns
returns c =
    let xs = c.self.inside.items.items in
    let e : c.len-last.result - 1 ≡ length xs - 1 = omega (arith, c.self.inside.items.ok.0) in
    replaced xs _ c.args.place e (subst (λ ps. IsTrue (is_open ps)) (sym c.self.view_is) c.requires)
    ∙ ap (λ ps. c.args.place ∷ drop 1 ps) c.self.view_is
