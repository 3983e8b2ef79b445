-- What facts without fault keep.
use Rattle.std.proofs.Common.{◌≡◌, ℕ, ◌+◌, ◌≤◌, nat_le, ◌&&◌, List, [], ◌∷◌, ◌++◌, length, Bool, true, false, Option, Some, None, is_some, refl, arith, All, ℤ, pos, negsuc, ◌≤ℤ◌, int_le, FitsSigned}
use Rattle.std.specs.Option.{option_to_list, option_zip}
use Rattle.std.specs.List.{flat_map, enumerate_from, sum_by}
use Rattle.std.specs.Int.{w32}
use Rattle.std.proofs.lemmas.Bool.Decides.{nat_tests}
use Rattle.std.proofs.lemmas.Int.{ints}
use Rattle.std.proofs.lemmas.List.Elements.{All-nil, All-cons, All-weaker}
use Rattle.rtb_num.proofs.Plain.{both_nil}
use Rattle.byte_fields.specs.Encodings.{IsShort, IsOptionOf, IsListWithin}
use Rattle.campaign.specs.declared.parts.FactParts.{FactParts}
use Rattle.campaign.specs.declared.parts.FactFault.{FactFault}
use Rattle.campaign.specs.declared.field.CampField.{CampField}
use Rattle.campaign.specs.Faults.{fault_unless, is_text, text_faults, is_list, texts_faults, is_side, is_size, attr_faults, fact_faults}
use Rattle.campaign.specs.Groups.{IsWhole, AreSides, AreNames, IsLook, IsMoney, IsCreative, AreGroups, Creative, Names, groups_of, join, names_of, look_of, money_of, creative_of, IsLoose}
use Rattle.campaign.specs.Caps.{CapTerms}
use Rattle.campaign.specs.Kept.{IsKept, IsEncodable, with_cap, without_cap}

unless_right : (b : Bool) (f : FactFault) → fault_unless b f ≡ [] → b ≡ true
unless_right true f e = refl
unless_right false f e = cc

pub text_sizes : (t : List ℕ) → is_text t ≡ true → (1 ≤ length t) × (length t ≤ 255)
text_sizes t e = (grind (arith, nat_tests), grind (arith, nat_tests))

pub list_size : (n : ℕ) → nat_le n 64 ≡ true → n ≤ 64
list_size n e = grind (arith, nat_tests)

markup_size : (n : ℕ) → nat_le n 65536 ≡ true → n ≤ 65536
markup_size n e = grind (arith, nat_tests)

at_least_one : (n : ℕ) → nat_le 1 n ≡ true → 1 ≤ n
at_least_one n e = grind (arith, nat_tests)

items_right : {A : Type 0} (right : A → Bool) (fault : ℕ → FactFault) (xs : List A) (n : ℕ) → flat_map (λ (q : ℕ × A). fault_unless (right q.1) (fault q.0)) (enumerate_from n xs) ≡ [] → All (λ x. right x ≡ true) xs
items_right right fault [] n e = All-nil (λ x. right x ≡ true)
items_right {A} right fault (x ∷ xs) n e =
    let both = both_nil (fault_unless (right x) (fault n)) (flat_map (λ (q : ℕ × A). fault_unless (right q.1) (fault q.0)) (enumerate_from (n + 1) xs)) e in
    All-cons (λ y. right y ≡ true) x xs (unless_right (right x) (fault n) both.0) (items_right right fault xs (n + 1) both.1)

-- at most 64 texts of 1 to 255 bytes
pub record AreTexts (ts : List (List ℕ)) : Type 0 where
  pub few : length ts ≤ 64
  pub short : All (λ t. length t ≤ 255) ts

texts_right : (field : CampField) (item : ℕ → CampField) (ts : List (List ℕ)) → texts_faults field item ts ≡ [] → AreTexts ts
texts_right field item ts e =
    let both = both_nil (fault_unless (is_list ts) (FactFault.ListLength field)) (flat_map (λ (q : ℕ × List ℕ). fault_unless (is_text q.1) (FactFault.TextLength (item q.0))) (enumerate_from 0 ts)) e in
    record {
      few = list_size (length ts) (unless_right (is_list ts) (FactFault.ListLength field) both.0);
      short = All-weaker (λ t. is_text t ≡ true) (λ t. length t ≤ 255) (λ t h. (text_sizes t h).1) ts (items_right is_text (λ k. FactFault.TextLength (item k)) ts 0 both.1);
    }

not_negative : (z : ℤ) → int_le (pos 0) z ≡ true → pos 0 ≤ℤ z
not_negative z e = grind (arith, ints)

attr_right : (zs : List ℤ) → attr_faults zs ≡ [] → (length zs ≤ 64) × All (λ z. pos 0 ≤ℤ z) zs
attr_right zs e =
    let both = both_nil (fault_unless (is_list zs) (FactFault.ListLength CampField.Attr)) (flat_map (λ (q : ℕ × ℤ). fault_unless (int_le (pos 0) q.1) (FactFault.ListLength (CampField.AttrItem q.0))) (enumerate_from 0 zs)) e in (
      list_size (length zs) (unless_right (is_list zs) (FactFault.ListLength CampField.Attr) both.0),
      All-weaker (λ z. int_le (pos 0) z ≡ true) (λ z. pos 0 ≤ℤ z) not_negative zs (items_right (λ z. int_le (pos 0) z) (λ k. FactFault.ListLength (CampField.AttrItem k)) zs 0 both.1),
    )

adid_right : (t : Option (List ℕ)) → flat_map (text_faults CampField.Adid) (option_to_list t) ≡ [] → All (λ u. length u ≤ 255) (option_to_list t)
adid_right None e = All-nil (λ u. length u ≤ 255)
adid_right (Some t) e =
    let both = both_nil (text_faults CampField.Adid t) [] e in
    All-cons (λ u. length u ≤ 255) t [] (text_sizes t (unless_right (is_text t) (FactFault.TextLength CampField.Adid) both.0)).1 (All-nil (λ u. length u ≤ 255))

-- what parts without fault keep, field by field
pub record Rules (p : FactParts) : Type 0 where
  pub seat_size : length p.seat ≤ 255
  pub adomain_size : length p.adomain ≤ 255
  pub cat_texts : AreTexts p.cat
  pub size_right : is_size p.w p.h ≡ true
  pub attr_few : length p.attr ≤ 64
  pub attr_positive : All (λ z. pos 0 ≤ℤ z) p.attr
  pub bid_positive : 1 ≤ p.bid
  pub deals_texts : AreTexts p.deals
  pub adm_size : length p.adm ≤ 65536
  pub crid_size : length p.crid ≤ 255
  pub adid_size : All (λ t. length t ≤ 255) (option_to_list p.adid)

pub rules_of : (p : FactParts) → fact_faults p ≡ [] → Rules p
rules_of p e9 =
    let f0 = text_faults CampField.Seat p.seat in
    let f1 = f0 ++ text_faults CampField.Adomain p.adomain in
    let f2 = f1 ++ texts_faults CampField.Cat CampField.CatItem p.cat in
    let f3 = f2 ++ fault_unless (is_size p.w p.h) FactFault.Size in
    let f4 = f3 ++ attr_faults p.attr in
    let f5 = f4 ++ fault_unless (nat_le 1 p.bid) FactFault.BidZero in
    let f6 = f5 ++ texts_faults CampField.Deals CampField.DealsItem p.deals in
    let f7 = f6 ++ fault_unless (nat_le (length p.adm) 65536) (FactFault.TextLength CampField.Adm) in
    let f8 = f7 ++ text_faults CampField.Crid p.crid in
    let h9 = both_nil f8 (flat_map (text_faults CampField.Adid) (option_to_list p.adid)) e9 in
    let h8 = both_nil f7 (text_faults CampField.Crid p.crid) h9.0 in
    let h7 = both_nil f6 (fault_unless (nat_le (length p.adm) 65536) (FactFault.TextLength CampField.Adm)) h8.0 in
    let h6 = both_nil f5 (texts_faults CampField.Deals CampField.DealsItem p.deals) h7.0 in
    let h5 = both_nil f4 (fault_unless (nat_le 1 p.bid) FactFault.BidZero) h6.0 in
    let h4 = both_nil f3 (attr_faults p.attr) h5.0 in
    let h3 = both_nil f2 (fault_unless (is_size p.w p.h) FactFault.Size) h4.0 in
    let h2 = both_nil f1 (texts_faults CampField.Cat CampField.CatItem p.cat) h3.0 in
    let h1 = both_nil f0 (text_faults CampField.Adomain p.adomain) h2.0 in
    record {
      seat_size = (text_sizes p.seat (unless_right (is_text p.seat) (FactFault.TextLength CampField.Seat) h1.0)).1;
      adomain_size = (text_sizes p.adomain (unless_right (is_text p.adomain) (FactFault.TextLength CampField.Adomain) h1.1)).1;
      cat_texts = texts_right CampField.Cat CampField.CatItem p.cat h2.1;
      size_right = unless_right (is_size p.w p.h) FactFault.Size h3.1;
      attr_few = (attr_right p.attr h4.1).0;
      attr_positive = (attr_right p.attr h4.1).1;
      bid_positive = at_least_one p.bid (unless_right (nat_le 1 p.bid) FactFault.BidZero h5.1);
      deals_texts = texts_right CampField.Deals CampField.DealsItem p.deals h6.1;
      adm_size = markup_size (length p.adm) (unless_right (nat_le (length p.adm) 65536) (FactFault.TextLength CampField.Adm) h7.1);
      crid_size = (text_sizes p.crid (unless_right (is_text p.crid) (FactFault.TextLength CampField.Crid) h8.1)).1;
      adid_size = adid_right p.adid h9.1;
    }

-- ---- what is written and read of such parts

pub short_text : (t : List ℕ) → length t ≤ 255 → IsShort t
short_text t h = omega arith

pub short_texts : (ts : List (List ℕ)) → AreTexts ts → IsListWithin 64 IsShort ts
short_texts ts r = ((omega (arith, r.few), All-weaker (λ t. length t ≤ 255) IsShort short_text ts r.short), r.few)

side_whole : (z : ℤ) → is_side z ≡ true → IsWhole z
side_whole (pos n) e = (grind (arith, ints, nat_tests), grind (arith, ints, nat_tests))
side_whole (negsuc n) e = cc

sides_of : (a b : Bool) → (a && b) ≡ true → (a ≡ true) × (b ≡ true)
sides_of true true e = (refl, refl)
sides_of true false e = cc
sides_of false b e = cc

size_sides : (w h : Option ℤ) → is_size w h ≡ true → IsOptionOf AreSides (option_zip w h) × (is_some w ≡ is_some h)
size_sides None None e = (tt, refl)
size_sides (Some w) (Some h) e =
    let both = sides_of (is_side w) (is_side h) e in
    ((side_whole w both.0, side_whole h both.1), refl)
size_sides None (Some h) e = cc
size_sides (Some w) None e = cc

whole_ints : (zs : List ℤ) → All (λ z. pos 0 ≤ℤ z) zs → All (FitsSigned w32) zs → All IsWhole zs
whole_ints zs a b = λ k d lt. (a k d lt, b k d lt)

optional_short : (t : Option (List ℕ)) → All (λ u. length u ≤ 255) (option_to_list t) → IsOptionOf IsShort t
optional_short None a = tt
optional_short (Some t) a = short_text t (a 0 t (omega arith))

-- facts without fault have bytes, whatever their cap is
pub groups_right : (p : FactParts) → IsKept p → AreGroups (groups_of p) × (is_some p.w ≡ is_some p.h)
groups_right p kept =
    let r = rules_of p kept.faultless in
    let size = size_sides p.w p.h r.size_right in
    let names : AreNames (names_of p) = ((short_text p.seat r.seat_size, short_text p.adomain r.adomain_size), short_texts p.cat r.cat_texts) in
    let look : IsLook (look_of p) = ((size.0, ((omega (arith, r.attr_few), whole_ints p.attr r.attr_positive kept.in_range.attr_range), r.attr_few)), tt) in
    let money : IsMoney (money_of p) = ((kept.in_range.bid_range, short_texts p.deals r.deals_texts), kept.in_range.budget_range) in
    let creative : IsCreative (creative_of p) = ((omega (arith, r.adm_size), short_text p.crid r.crid_size), optional_short p.adid r.adid_size) in
    ((((names, look), money), creative), size.1)

pub loose : (p : FactParts) → IsEncodable p → IsLoose p
loose p e =
    let right = groups_right p e.kept in
    record { groups = right.0; sides = right.1; uncapped = e.uncapped }

-- a cap changes nothing of what is known of facts
pub kept_capped : (p : FactParts) (cap : Option CapTerms) → IsKept p → IsKept (with_cap cap p)
kept_capped p cap k = record {
  faultless = k.faultless;
  whole_micros = k.whole_micros;
  in_range = record { bid_range = k.in_range.bid_range; budget_range = k.in_range.budget_range; attr_range = k.in_range.attr_range };
}

pub encodable : (p : FactParts) → IsKept p → IsEncodable (without_cap p)
encodable p k = record { kept = kept_capped p None k; uncapped = refl }

pub optional_size : (t : Option (List ℕ)) → All (λ u. length u ≤ 255) (option_to_list t) → sum_by length (option_to_list t) ≤ 255
optional_size None a = omega arith
optional_size (Some t) a = let h : length t ≤ 255 = a 0 t (omega arith) in omega arith

-- parts with equal names, lists and creative are the same
pub joined_same : (p : FactParts) (names : Names) (attr : List ℤ) (deals : List (List ℕ)) (creative : Creative) → names ≡ names_of p → attr ≡ p.attr → deals ≡ p.deals → creative ≡ creative_of p → join p names attr deals creative ≡ p
joined_same p names attr deals creative e f g h = λ i. join p (e i) (f i) (g i) (h i)
