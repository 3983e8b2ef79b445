use Rattle.std.proofs.Common.{List, ap, arith, length, sym, ◌≤◌, ◌≡◌, ◌∙◌, ℕ}
use Rattle.campaign.specs.declared.marks.Marks.{Marks}
use Rattle.deal_rules.specs.Rules.{has_text}
use Rattle.deal_rules.proofs.Marking.{none_of_three}
use Rattle.rtb_types.specs.declared.request.BidRequest.{BidRequest}
use Rattle.deal_rules.proofs.asked.Asked.may_block_category_of.Goals as goal

pub returns : goal.returns
returns c = λ e.
    let here : c.self.inside.bcat ≡ c.args.self.now.bcat = c.self.invariant.bcat_is ∙ ap (λ (r : BidRequest). r.bcat) c.self.view_is in
    let cats = c.args.facts.now.cat in
    let few : length cats ≤ 3 = omega (arith, c.if-len-gt3.false, c.len.ensures, ap length c.cat.ensures) in
    let marks = c.marks-marks.ensures in
    none_of_three (has_text c.args.self.now.bcat) cats few
    (λ text is. sym (ap (λ (l : List (List ℕ)). has_text l text) here) ∙ c.may_have_mark.ensures text (ap (λ (m : Marks). m.first) marks ∙ is) c.if-may_have_mark.false)
    (λ text is. sym (ap (λ (l : List (List ℕ)). has_text l text) here) ∙ c.may_have_mark-2.ensures text (ap (λ (m : Marks). m.second) marks ∙ is) c.if-may_have_mark-2.false)
    (λ text is. sym (ap (λ (l : List (List ℕ)). has_text l text) here) ∙ c.may_have_mark-3.ensures text (ap (λ (m : Marks). m.third) marks ∙ is) e)
