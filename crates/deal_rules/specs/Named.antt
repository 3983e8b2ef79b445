-- Lists in order. Only private clauses cite this file.
use Rattle.std.specs.Prelude.{◌≡◌, ◌⊎◌, ◌<◌, ◌-◌, ◌^◌, ℕ, ℤ, List, Bool, fold, length, map, min, nat_lt}
use Rattle.std.specs.Borrow.{Bor}
use Rattle.std.specs.Cmp.Lexicographic.{slice_cmp}
use Rattle.std.specs.List.{list_all, list_any}
use Rattle.std.specs.List.Sorted.{IsSorted}
use Rattle.std.specs.Ordering.{int_cmp, nat_cmp}
use Rattle.deal_rules.specs.Marks.{AreMarked}
use Rattle.deal_rules.specs.Rules.{blocked_attributes_of, is_closed}
use Rattle.clearing.specs.declared.Terms.{Terms}
use Rattle.deal_rules.specs.Terms.{terms_of}
use Rattle.rtb_types.specs.declared.request.BidRequest.{BidRequest}
use Rattle.rtb_types.specs.declared.request.Deal.{Deal}
use Rattle.rtb_types.specs.declared.request.Imp.{Imp}

-- where these are many they stand in order
abbrev pub AreInOrder : List (Bor (List ℕ)) → Type 0
AreInOrder refs = 128 < length refs → IsSorted (λ (s t : Bor (List ℕ)). slice_cmp nat_cmp s.now t.now) refs

-- there are no marks, or each has its mark
abbrev pub MayBeMarked : List Bool → List (Bor (List ℕ)) → Type 0
MayBeMarked marks refs = (length marks ≡ 0) ⊎ AreMarked marks refs

pub record IsOrdered (refs : List (Bor (List ℕ))) (marks : List Bool) : Type 0 where
  pub sorted : AreInOrder refs
  pub marked : MayBeMarked marks refs

-- the same texts are in both lists
abbrev pub HaveSame : List (List ℕ) → List (List ℕ) → Type 0
HaveSame texts ordered = (p : List ℕ → Bool) → list_any p texts ≡ list_any p ordered

abbrev pub ids_of : List Deal → List (List ℕ)
ids_of deals = map (λ (d : Deal). d.id) deals

-- these are those numbers, in order
pub record AreOrderedNumbers (numbers ordered : List ℤ) : Type 0 where
  pub same : (p : ℤ → Bool) → list_any p numbers ≡ list_any p ordered
  pub sorted : IsSorted int_cmp ordered

-- these are the lists of the request, whether it is closed, and the terms of its pools
pub record AreListsOf (r : BidRequest) (closed : Bool) (wseat bseat bcat badv : List (List ℕ)) (imps : List Imp) (terms : List (List Terms)) : Type 0 where
  pub closed_is : closed ≡ is_closed r
  pub wseat_is : wseat ≡ r.wseat
  pub bseat_is : bseat ≡ r.bseat
  pub bcat_is : bcat ≡ r.bcat
  pub badv_is : badv ≡ r.badv
  pub imps_are : imps ≡ r.imps
  pub terms_are : terms ≡ map (terms_of r) r.imps

-- the lesser of that and the deal's floor, and so the least of all; where there is no deal the greatest number
abbrev pub lesser : ℕ → Deal → ℕ
lesser least d = min least d.floor

abbrev pub least_floor : List Deal → ℕ
least_floor deals = fold lesser (2 ^ 64 - 1) deals

-- each deal has a floor above the bid
abbrev pub is_below_all : ℕ → List Deal → Bool
is_below_all bid deals = list_all (λ (d : Deal). nat_lt bid d.floor) deals

-- those of the impression, and the least floor of its deals
pub record AreListsIn (i : Imp) (battr : List ℤ) (ids : List (List ℕ)) (deals : List Deal) (least : ℕ) : Type 0 where
  pub battr_is : battr ≡ blocked_attributes_of i
  pub ids_are : ids ≡ ids_of i.pmp.deals
  pub deals_are : deals ≡ i.pmp.deals
  pub least_is : least ≡ least_floor i.pmp.deals

-- those of the deal
pub record AreListsFor (d : Deal) (wseat wadomain : List (List ℕ)) : Type 0 where
  pub wseat_is : wseat ≡ d.wseat
  pub wadomain_is : wadomain ≡ d.wadomain
