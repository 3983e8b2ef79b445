use Rattle.std.proofs.Common.{◌≡◌, ◌∙◌, ap, refl, subst}
use Rattle.std.specs.Prelude.{IfOk}
use Rattle.campaign.specs.Groups.{creative_of, join, names_of}
use Rattle.campaign.proofs.copy.copy_parts.Goals as goal
use Rattle.campaign.proofs.Rules.{joined_same}

pub returns : goal.returns
returns c =
    let p = c.args.parts.now in
    let attr = c.from_vec-attr.ensures ∙ c.in_ok-from_slice.ensures.items ∙ c.as_slice.ensures in
    let deals = subst (λ l. IfOk c.copy_texts.result (λ ts. ts ≡ l)) c.as_slice-2.ensures c.copy_texts.ensures in
    let lists = c.in_ok-lists.ensures.made p.attr p.deals attr deals in
    let more = c.in_ok-more.ensures.made (p.attr, p.deals) (creative_of p) lists c.copy_creative.ensures in
    let copies = c.in_ok-copies.ensures.made ((p.attr, p.deals), creative_of p) (names_of p) more c.copy_names.ensures in
    c.join.ensures
    ∙ ap (λ all. join p all.1 all.0.0.0 all.0.0.1 all.0.1) copies
    ∙ joined_same p (names_of p) p.attr p.deals (creative_of p) refl refl refl refl
