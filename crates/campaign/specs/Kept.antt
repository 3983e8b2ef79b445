-- What is known of all facts, and what is counted of them.
use Rattle.std.specs.Prelude.{◌≡◌, ℕ, None, ◌%◌, ◌^◌, ◌≤◌, List, [], ◌∷◌, ◌++◌, length, All, ℤ, FitsSigned, Option}
use Rattle.std.specs.Option.{option_to_list, option_zip}
use Rattle.std.specs.List.{sum_by}
use Rattle.std.specs.Int.{w32}
use Rattle.campaign.specs.declared.parts.FactParts.{FactParts}
use Rattle.campaign.specs.Caps.{CapTerms}
use Rattle.campaign.specs.Faults.{fact_faults}

-- the ranges of the types that the parts are made of: micro-dollars, nano-dollars, and whole numbers in
-- four bytes
pub record IsInRange (p : FactParts) : Type 0 where
  pub bid_range : p.bid ≤ 10 ^ 12
  pub budget_range : p.budget ≤ 10 ^ 15
  pub attr_range : All (FitsSigned w32) p.attr

-- no fault, and a budget of whole micro-dollars
pub record IsKept (p : FactParts) : Type 0 where
  pub faultless : fact_faults p ≡ []
  pub whole_micros : p.budget % 1000 ≡ 0
  pub in_range : IsInRange p

-- the same with that cap, and without one
abbrev pub with_cap : Option CapTerms → FactParts → FactParts
with_cap cap p = record p { cap = cap }

abbrev pub without_cap : FactParts → FactParts
without_cap p = with_cap None p

-- what can be encoded and read again whole: the bytes of facts leave their cap out
pub record IsEncodable (p : FactParts) : Type 0 where
  pub kept : IsKept p
  pub uncapped : p.cap ≡ None

-- width and height, where both are given
abbrev pub size_of : FactParts → Option (ℤ × ℤ)
size_of p = option_zip p.w p.h

-- all texts
abbrev pub texts_of : FactParts → List (List ℕ)
texts_of p = p.seat ∷ p.adomain ∷ p.cat ++ p.deals ++ p.adm ∷ p.crid ∷ option_to_list p.adid

-- their bytes in all
abbrev pub text_bytes_of : FactParts → ℕ
text_bytes_of p = sum_by length (texts_of p)
