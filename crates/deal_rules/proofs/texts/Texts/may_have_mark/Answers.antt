use Rattle.std.proofs.Common.{Bool, List, ap, map, subst, sym, ◌∙◌, ℕ}
use Rattle.std.specs.Borrow.{Bor}
use Rattle.deal_rules.specs.Named.{MayBeMarked}
use Rattle.deal_rules.specs.Rules.{has_text}
use Rattle.deal_rules.proofs.texts.Texts.may_have_mark.Goals as goal

pub may_have_mark-requires : goal.may_have_mark-requires
may_have_mark-requires c =
    subst (λ (ms : List Bool). MayBeMarked ms c.as_slice-2.result.now) (sym c.as_slice.ensures.value)
    (subst (MayBeMarked c.self.inside.marks.items) (sym c.as_slice-2.ensures.value) c.self.invariant.marked)

pub returns : goal.returns
returns c = λ text is e.
    sym (ap (λ (l : List (List ℕ)). has_text l text) c.self.view_is)
    ∙ sym (ap (λ (l : List (Bor (List ℕ))). has_text (map (λ (t : Bor (List ℕ)). t.now) l) text) c.as_slice-2.ensures.value)
    ∙ c.may_have_mark.ensures text is e
