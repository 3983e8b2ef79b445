use Rattle.std.proofs.Common.{arith, sym, ◌∙◌, List, ℕ}
use Rattle.std.specs.Str.{bytes_eq}
use Rattle.deal_rules.proofs.Naming.{any_now, looked_up}
use Rattle.deal_rules.proofs.texts.is_among.Goals as goal

pub returns-then-texts-le-FEW : goal.returns-then-texts-le-FEW
returns-then-texts-le-FEW c = c.has_same.ensures ∙ sym (any_now (λ (t : List ℕ). bytes_eq t c.args.text.now) c.args.texts.now)

pub returns : goal.returns
returns c =
    c.is_ok.ensures.value
    ∙ looked_up c.args.texts.now c.args.text.now c.binary_search.result (c.requires (omega (arith, c.if-texts-le-FEW.false))) c.binary_search.ensures.bound c.binary_search.ensures.position
