use Rattle.std.proofs.Common.{Bool, List, ap, map, subst, sym, ◌∙◌, ℕ}
use Rattle.std.specs.Borrow.{Bor}
use Rattle.deal_rules.specs.Named.{MayBeMarked}
use Rattle.deal_rules.specs.Rules.{has_text}
use Rattle.deal_rules.proofs.texts.Texts.may_have.Goals as goal

pub may_be_among-requires : goal.may_be_among-requires
may_be_among-requires c =
    subst (λ (ms : List Bool). MayBeMarked ms c.as_slice-2.result.now) (sym c.as_slice.ensures.value)
    (subst (MayBeMarked c.self.inside.marks.items) (sym c.as_slice-2.ensures.value) c.self.invariant.marked)

pub returns : goal.returns
returns c = λ e.
    let x = c.args.text.now in
    sym (ap (λ (l : List (List ℕ)). has_text l x) c.self.view_is)
    ∙ sym (ap (λ (l : List (Bor (List ℕ))). has_text (map (λ (t : Bor (List ℕ)). t.now) l) x) c.as_slice-2.ensures.value)
    ∙ c.may_be_among.ensures e
