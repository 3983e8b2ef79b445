-- Impressions that the rules cannot tell apart. Only private clauses cite this file.
use Rattle.std.specs.Prelude.{◌≡◌, ℤ, Option, is_none, option_and_then}
use Rattle.deal_rules.specs.Rules.{blocked_attributes_of, sizes_of}
use Rattle.rtb_types.specs.declared.request.Banner.{Banner}
use Rattle.rtb_types.specs.declared.request.Imp.{Imp}

-- all that the rules look at is the same
pub record AreRuledAlike (a b : Imp) : Type 0 where
  pub secure : a.secure ≡ b.secure
  pub floor : a.floor ≡ b.floor
  pub currency : a.currency ≡ b.currency
  pub there : is_none a.banner ≡ is_none b.banner
  pub sizes : sizes_of a ≡ sizes_of b
  pub attributes : blocked_attributes_of a ≡ blocked_attributes_of b
  pub private : a.pmp.private_auction ≡ b.pmp.private_auction
  pub deals : a.pmp.deals ≡ b.pmp.deals

-- where the banner stands
abbrev pub position_of : Imp → Option ℤ
position_of imp = option_and_then (λ (b : Banner). b.pos) imp.banner
