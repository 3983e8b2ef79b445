use Rattle.std.proofs.Common.{List, ap, arith, length, sym, ◌≤◌, ◌≡◌, ◌∙◌, ℕ}
use Rattle.campaign.specs.declared.marks.Marks.{Marks}
use Rattle.deal_rules.specs.Named.{ids_of}
use Rattle.deal_rules.specs.Rules.{has_text}
use Rattle.deal_rules.proofs.Marking.{none_of_one}
use Rattle.rtb_types.specs.declared.request.Imp.{Imp}
use Rattle.deal_rules.proofs.asked.AskedImp.may_have_deal_of.Goals as goal

pub returns : goal.returns
returns c = λ e.
    let here : c.self.inside.ids ≡ ids_of c.args.self.now.pmp.deals = c.self.invariant.ids_are ∙ ap (λ (i : Imp). ids_of i.pmp.deals) c.self.view_is in
    let few : length c.args.facts.now.deals ≤ 1 = omega (arith, c.if-len-gt1.false, c.len.ensures, ap length c.deals.ensures) in
    none_of_one (has_text (ids_of c.args.self.now.pmp.deals)) c.args.facts.now.deals few
    (λ text is. sym (ap (λ (l : List (List ℕ)). has_text l text) here) ∙ c.may_have_mark.ensures text (ap (λ (m : Marks). m.deal) c.marks.ensures ∙ is) e)
