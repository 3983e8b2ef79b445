use Rattle.std.proofs.Common.{sym, ◌∙◌}
use Rattle.deal_rules.proofs.alike.are_ruled_alike.Goals as goal

pub returns : goal.returns
returns c = λ e.
    let (floor, secure, private) = c.has_same_terms.ensures c.if-not-has_same_terms.false in
    let (there, sizes, attributes) = c.has_same_banner.ensures c.if-not-has_same_banner.false in
    record {
      secure = secure;
      floor = floor;
      currency = c.is_same_text.ensures c.if-not-is_same_text.false;
      there = there;
      sizes = sizes;
      attributes = attributes;
      private = private;
      deals = sym c.as_slice.ensures ∙ c.has_same_deals.ensures e ∙ c.as_slice-2.ensures;
    }
