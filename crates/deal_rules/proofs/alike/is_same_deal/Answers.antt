use Rattle.std.proofs.Common.{sym, ◌∙◌}
use Rattle.deal_rules.proofs.Same.{same_deal}
use Rattle.deal_rules.proofs.alike.is_same_deal.Goals as goal

pub returns : goal.returns
returns c = λ e.
    let (floor, at) = c.has_same_price.ensures c.if-not-has_same_price.false in
    same_deal c.args.a.now c.args.b.now floor at (c.is_same_text.ensures c.if-not-is_same_text.false) (c.is_same_text-2.ensures c.if-not-is_same_text-2.false)
    (sym c.as_slice.ensures ∙ c.has_same_texts.ensures c.if-not-has_same_texts.false ∙ c.as_slice-2.ensures)
    (sym c.as_slice-3.ensures ∙ c.has_same_texts-2.ensures e ∙ c.as_slice-4.ensures)
