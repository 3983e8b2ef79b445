use Rattle.std.proofs.Common.{List, ap, map, subst, sym, ◌∙◌, ℕ}
use Rattle.std.specs.Borrow.{Bor}
use Rattle.deal_rules.specs.Named.{AreInOrder}
use Rattle.deal_rules.specs.Rules.{has_text}
use Rattle.deal_rules.proofs.texts.Texts.finds.Goals as goal

pub is_among-requires : goal.is_among-requires
is_among-requires c = subst AreInOrder (sym c.as_slice.ensures.value) c.self.invariant.sorted

pub returns : goal.returns
returns c =
    let x = c.args.text.now in
    c.is_among.ensures
    ∙ ap (λ (l : List (Bor (List ℕ))). has_text (map (λ (t : Bor (List ℕ)). t.now) l) x) c.as_slice.ensures.value
    ∙ ap (λ (l : List (List ℕ)). has_text l x) c.self.view_is
