-- The fields of a campaign's body: their names, and how the path of one is written.
use Rattle.std.specs.Prelude.{ℕ, List, ◌++◌, codes}
use Rattle.rtb_num.specs.Paths.{place}
use Rattle.campaign.specs.declared.field.CampField.{CampField}

-- the name that a field has as a member of its object; an entry of a list has that of the list
abbrev pub member_name : CampField → List ℕ
member_name CampField.Seat = codes "seat"
member_name CampField.Adomain = codes "adomain"
member_name CampField.Cat = codes "cat"
member_name (CampField.CatItem k) = codes "cat"
member_name CampField.W = codes "w"
member_name CampField.H = codes "h"
member_name CampField.Attr = codes "attr"
member_name (CampField.AttrItem k) = codes "attr"
member_name CampField.Secure = codes "secure"
member_name CampField.Bid = codes "bid"
member_name CampField.Deals = codes "deals"
member_name (CampField.DealsItem k) = codes "deals"
member_name CampField.Budget = codes "budget"
member_name CampField.Adm = codes "adm"
member_name CampField.Crid = codes "crid"
member_name CampField.Adid = codes "adid"
member_name CampField.Cap = codes "cap"
member_name CampField.CapCount = codes "count"
member_name CampField.CapSeconds = codes "seconds"
member_name CampField.Target = codes "target"
member_name (CampField.Conjunction i) = codes "target"
member_name (CampField.Predicate i j) = codes "target"
member_name (CampField.PredicateAttr i j) = codes "attr"
member_name (CampField.In i j) = codes "in"
member_name (CampField.InItem i j k) = codes "in"
member_name (CampField.Not i j) = codes "not"
member_name (CampField.NotItem i j k) = codes "not"

-- a conjunction of the target, and a predicate of it
abbrev pub conjunction_path : ℕ → List ℕ
conjunction_path i = member_name (CampField.Conjunction i) ++ place i

abbrev pub predicate_path : ℕ → ℕ → List ℕ
predicate_path i j = conjunction_path i ++ place j

abbrev pub camp_path : CampField → List ℕ
camp_path CampField.Seat = member_name CampField.Seat
camp_path CampField.Adomain = member_name CampField.Adomain
camp_path CampField.Cat = member_name CampField.Cat
camp_path (CampField.CatItem k) = member_name (CampField.CatItem k) ++ place k
camp_path CampField.W = member_name CampField.W
camp_path CampField.H = member_name CampField.H
camp_path CampField.Attr = member_name CampField.Attr
camp_path (CampField.AttrItem k) = member_name (CampField.AttrItem k) ++ place k
camp_path CampField.Secure = member_name CampField.Secure
camp_path CampField.Bid = member_name CampField.Bid
camp_path CampField.Deals = member_name CampField.Deals
camp_path (CampField.DealsItem k) = member_name (CampField.DealsItem k) ++ place k
camp_path CampField.Budget = member_name CampField.Budget
camp_path CampField.Adm = member_name CampField.Adm
camp_path CampField.Crid = member_name CampField.Crid
camp_path CampField.Adid = member_name CampField.Adid
camp_path CampField.Cap = member_name CampField.Cap
camp_path CampField.CapCount = member_name CampField.Cap ++ codes "." ++ member_name CampField.CapCount
camp_path CampField.CapSeconds = member_name CampField.Cap ++ codes "." ++ member_name CampField.CapSeconds
camp_path CampField.Target = member_name CampField.Target
camp_path (CampField.Conjunction i) = conjunction_path i
camp_path (CampField.Predicate i j) = predicate_path i j
camp_path (CampField.PredicateAttr i j) = predicate_path i j ++ codes "." ++ member_name (CampField.PredicateAttr i j)
camp_path (CampField.In i j) = predicate_path i j ++ codes "." ++ member_name (CampField.In i j)
camp_path (CampField.InItem i j k) = predicate_path i j ++ codes "." ++ member_name (CampField.InItem i j k) ++ place k
camp_path (CampField.Not i j) = predicate_path i j ++ codes "." ++ member_name (CampField.Not i j)
camp_path (CampField.NotItem i j k) = predicate_path i j ++ codes "." ++ member_name (CampField.NotItem i j k) ++ place k
