-- The terms of an impression's pools, and who is its user (OpenRTB 2.5, sections 3.2.1, 3.2.12 and 3.2.20).
use Rattle.std.specs.Prelude.{ℕ, ◌==◌, List, ◌∷◌, length, map, Option, Some, None, option_and_then, if◌then◌else◌}
use Rattle.clearing.specs.declared.PriceKind.{PriceKind}
use Rattle.clearing.specs.declared.PriceKind.TheVariants.{First, Second, Agreed}
use Rattle.clearing.specs.declared.Terms.{Terms}
use Rattle.rtb_types.specs.declared.request.BidRequest.{BidRequest}
use Rattle.rtb_types.specs.declared.request.Deal.{Deal}
use Rattle.rtb_types.specs.declared.request.Imp.{Imp}
use Rattle.rtb_types.specs.declared.request.User.{User}
use Rattle.rtb_types.specs.Valid.{is_from}

-- how the price is made, by `at`: 1 is first price, 2 second price, and 3 the floor as agreed
abbrev pub kind_of : ℕ → PriceKind
kind_of at = if at == 1 then First else (if at == 3 then Agreed else Second)

abbrev pub terms_at : ℕ → ℕ → Terms
terms_at floor at = record { floor = floor; kind = kind_of at }

abbrev pub deal_terms : Deal → Terms
deal_terms deal = terms_at deal.floor deal.at

-- of the public pool, and then of each deal
unfoldable pub terms_of : BidRequest → Imp → List Terms
terms_of r imp = terms_at imp.floor r.at ∷ map deal_terms imp.pmp.deals

-- an `id` of 1 to 255 bytes
abbrev pub known_id : List ℕ → Option (List ℕ)
known_id id = if is_from 1 255 (length id) then Some id else None

-- the user, by `user.id`
unfoldable pub user_of : BidRequest → Option (List ℕ)
user_of r = option_and_then known_id (option_and_then (λ (u : User). u.id) r.user)
