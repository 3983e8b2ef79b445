-- The bytes of facts are a code, in their groups.
use Rattle.std.proofs.Common.{◌≡◌, ℕ, ◌+◌, ◌%◌, ◌<◌, ◌^◌, List, [], ◌∷◌, ◌++◌, length, Option, Some, None, is_some, Result, Ok, Err, refl, sym, ap, subst, ◌∙◌, arith, append_assoc, ℤ, pos, negsuc}
use Rattle.std.specs.Option.{option_map, option_zip}
use Rattle.std.specs.Prelude.{IfOk}
use Rattle.std.specs.Result.{result_map_both}
use Rattle.std.specs.Int.{w32, cast_unsigned}
use Rattle.std.proofs.lemmas.Int.{ints}
use Rattle.byte_fields.specs.Codes.{IsReadAt, IsCode, BothValid, both_bytes}
use Rattle.byte_fields.specs.Encodings.{FitsFour, four_bytes, FitsEight, eight_bytes, IsFlag, flag_bytes, IsShort, text_bytes, IsOptionOf, option_bytes, list_bytes}
use Rattle.byte_fields.proofs.Codes.{begins_as, both_code, code_as, flag_code, narrow_code, one_reading, option_code, read_again, read_as, read_both, read_narrow, read_no_second, read_none_as, three_code}
use Rattle.byte_fields.proofs.Numbers.{four_code, eight_code}
use Rattle.byte_fields.proofs.Rows.{within_code, text_code}
use Rattle.campaign.specs.declared.parts.FactParts.{FactParts}
use Rattle.campaign.specs.declared.parts.FactFault.{FactFault}
use Rattle.campaign.specs.Encoding.{facts_bytes, int_bytes, sides_bytes}
use Rattle.campaign.specs.Faults.{ok_unless, fact_faults}
use Rattle.campaign.specs.Groups.{AreGroups, AreInts, AreNames, AreSides, AreTexts, Groups, IsCreative, IsLook, IsLoose, IsMicros, IsMoney, IsNanos, IsWhole, creative_bytes, groups_bytes, groups_of, look_bytes, money_bytes, names_bytes, parts_from}
use Rattle.campaign.specs.Kept.{IsEncodable, IsInRange, IsKept, size_of, without_cap}
use Rattle.campaign.proofs.Rules.{encodable, loose}

whole_fits : (z : ℤ) → IsWhole z → cast_unsigned w32 z < 2 ^ 32
whole_fits z h = let a = h.0 in let b = h.1 in omega (arith, ints)

whole_apart : (y z : ℤ) → IsWhole y → IsWhole z → cast_unsigned w32 y ≡ cast_unsigned w32 z → y ≡ z
whole_apart (pos m) (pos n) v w e = ap pos e
whole_apart (pos m) (negsuc n) v w e = let a = w.0 in absurd (omega (arith, ints))
whole_apart (negsuc m) z v w e = let a = v.0 in absurd (omega (arith, ints))

pub int_code : IsCode IsWhole int_bytes
int_code = code_as FitsFour four_bytes IsWhole int_bytes four_code (cast_unsigned w32) whole_fits (λ y w. refl) whole_apart

-- more than the greatest number of 32 bits with a sign
pub int_too_large : (bytes : List ℕ) (place n m : ℕ) → IsReadAt FitsFour four_bytes bytes place (Some (n, m)) → 2147483647 < n → IsReadAt IsWhole int_bytes bytes place None
int_too_large bytes place n m r large = λ z k w a.
    let same = one_reading FitsFour four_bytes four_code bytes place n (cast_unsigned w32 z) m k r.0 (whole_fits z w) r.1 a in
    let e = same.0 in
    let low = w.0 in
    let fits = w.1 in
    omega (arith, ints)

pub sides_code : IsCode AreSides sides_bytes
sides_code = both_code IsWhole int_bytes IsWhole int_bytes int_code int_code

pub texts_code : IsCode AreTexts (list_bytes text_bytes)
texts_code = within_code IsShort text_bytes 64 text_code

pub ints_code : IsCode AreInts (list_bytes int_bytes)
ints_code = within_code IsWhole int_bytes 64 int_code

pub size_code : IsCode (IsOptionOf AreSides) (option_bytes sides_bytes)
size_code = option_code AreSides sides_bytes sides_code

pub micros_fit : (n : ℕ) → IsMicros n → FitsEight n
micros_fit n h = omega (arith, h)

pub nanos_fit : (n : ℕ) → IsNanos n → FitsEight n
nanos_fit n h = omega (arith, h)

pub micros_code : IsCode IsMicros eight_bytes
micros_code = narrow_code FitsEight eight_bytes eight_code IsMicros micros_fit

pub nanos_code : IsCode IsNanos eight_bytes
nanos_code = narrow_code FitsEight eight_bytes eight_code IsNanos nanos_fit

pub names_code : IsCode AreNames names_bytes
names_code = three_code IsShort text_bytes IsShort text_bytes AreTexts (list_bytes text_bytes) text_code text_code texts_code

pub look_code : IsCode IsLook look_bytes
look_code = three_code (IsOptionOf AreSides) (option_bytes sides_bytes) AreInts (list_bytes int_bytes) IsFlag flag_bytes size_code ints_code flag_code

pub money_code : IsCode IsMoney money_bytes
money_code = three_code IsMicros eight_bytes AreTexts (list_bytes text_bytes) IsNanos eight_bytes micros_code texts_code nanos_code

pub creative_code : IsCode IsCreative creative_bytes
creative_code = three_code IsShort text_bytes IsShort text_bytes (IsOptionOf IsShort) (option_bytes text_bytes) text_code text_code (option_code IsShort text_bytes text_code)

pub groups_code : IsCode AreGroups groups_bytes
groups_code = both_code (BothValid (BothValid AreNames IsLook) IsMoney) (both_bytes (both_bytes names_bytes look_bytes) money_bytes) IsCreative creative_bytes (three_code AreNames names_bytes IsLook look_bytes IsMoney money_bytes names_code look_code money_code) creative_code

regrouped : (a b c d e f g h i j k l : List ℕ) → a ++ b ++ c ++ d ++ e ++ f ++ g ++ h ++ i ++ j ++ k ++ l ≡ ((a ++ b ++ c) ++ (d ++ e ++ f) ++ (g ++ h ++ i)) ++ (j ++ k ++ l)
regrouped a b c d e f g h i j k l = simp append_assoc

pub facts_is : (p : FactParts) → facts_bytes p ≡ groups_bytes (groups_of p)
unfolding facts_bytes
facts_is p = regrouped (text_bytes p.seat) (text_bytes p.adomain) (list_bytes text_bytes p.cat) (option_bytes sides_bytes (size_of p)) (list_bytes int_bytes p.attr) (flag_bytes p.secure) (eight_bytes p.bid) (list_bytes text_bytes p.deals) (eight_bytes p.budget) (text_bytes p.adm) (text_bytes p.crid) (option_bytes text_bytes p.adid)

zip_back : (s : Option (ℤ × ℤ)) → option_zip (option_map (λ (r : ℤ × ℤ). r.0) s) (option_map (λ (r : ℤ × ℤ). r.1) s) ≡ s
zip_back None = refl
zip_back (Some s) = refl

both_there : (s : Option (ℤ × ℤ)) → is_some (option_map (λ (r : ℤ × ℤ). r.0) s) ≡ is_some (option_map (λ (r : ℤ × ℤ). r.1) s)
both_there None = refl
both_there (Some s) = refl

first_back : (w h : Option ℤ) → is_some w ≡ is_some h → option_map (λ (r : ℤ × ℤ). r.0) (option_zip w h) ≡ w
first_back None h e = refl
first_back (Some w) (Some h) e = refl
first_back (Some w) None e = cc

second_back : (w h : Option ℤ) → is_some w ≡ is_some h → option_map (λ (r : ℤ × ℤ). r.1) (option_zip w h) ≡ h
second_back None None e = refl
second_back None (Some h) e = cc
second_back (Some w) (Some h) e = refl
second_back (Some w) None e = cc

groups_back : (g : Groups) → groups_of (parts_from g) ≡ g
groups_back g =
    ap (λ (s : Option (ℤ × ℤ)). (((g.0.0.0, ((s, g.0.0.1.0.1), g.0.0.1.1)), g.0.1), g.1)) (zip_back g.0.0.1.0.0)

parts_back : (p : FactParts) → IsLoose p → parts_from (groups_of p) ≡ p
parts_back p l =
    ap (λ w. record p { w = w; h = option_map (λ (r : ℤ × ℤ). r.1) (option_zip p.w p.h); cap = None }) (first_back p.w p.h l.sides)
    ∙ ap (λ h. record p { h = h; cap = None }) (second_back p.w p.h l.sides)
    ∙ ap (λ c. record p { cap = c }) (sym l.uncapped)

loose_from : (g : Groups) → AreGroups g → IsLoose (parts_from g)
loose_from g v = record { groups = subst AreGroups (sym (groups_back g)) v; sides = both_there g.0.0.1.0.0; uncapped = refl }

pub loose_code : IsCode IsLoose facts_bytes
loose_code = code_as AreGroups groups_bytes IsLoose facts_bytes groups_code groups_of (λ p l. l.groups) (λ p l. facts_is p) apart
  where
    apart : (p q : FactParts) → IsLoose p → IsLoose q → groups_of p ≡ groups_of q → p ≡ q
    apart p q l m e = sym (parts_back p l) ∙ ap parts_from e ∙ parts_back q m

pub encodable_code : IsCode IsEncodable facts_bytes
encodable_code = narrow_code IsLoose facts_bytes loose_code IsEncodable loose

-- the bytes leave the cap out
pub same_bytes : (p : FactParts) → facts_bytes (without_cap p) ≡ facts_bytes p
unfolding facts_bytes
same_bytes p = refl

pub capped_ends : (p q : FactParts) (s t : List ℕ) → IsKept p → IsKept q → facts_bytes p ++ s ≡ facts_bytes q ++ t → (without_cap p ≡ without_cap q) × (s ≡ t)
capped_ends p q s t k l e =
    encodable_code.unique (without_cap p) (without_cap q) s t (encodable p k) (encodable q l) (ap (λ w. w ++ s) (same_bytes p) ∙ e ∙ ap (λ w. w ++ t) (sym (same_bytes q)))

pub capped_again : (front back : List ℕ) (p : FactParts) (found : Option (FactParts × ℕ)) → IsKept p → IsReadAt IsEncodable facts_bytes ((front ++ facts_bytes p) ++ back) (length front) found
    → found ≡ Some (without_cap p, length front + length (facts_bytes p))
capped_again front back p found k r =
    subst (λ w. IsReadAt IsEncodable facts_bytes ((front ++ w) ++ back) (length front) found → found ≡ Some (without_cap p, length front + length w)) (same_bytes p)
    (read_again IsEncodable facts_bytes encodable_code front back (without_cap p) found (encodable p k)) r

-- ---- the groups, one after another

module _ {A B E : Type 0} (V : A → Type 0) (e : A → List ℕ) (W : B → Type 0) (f : B → List ℕ) where
  -- what was found first, with what was found behind it
  pub read_paired : IsCode V e → (bytes : List ℕ) (place : ℕ) (x : A) (n : ℕ) (behind : Result (Option (B × ℕ)) E) → IsReadAt V e bytes place (Some (x, n)) → IfOk behind (IsReadAt W f bytes n)
      → IfOk (result_map_both (option_map (λ (r : B × ℕ). ((x, r.0), r.1))) (λ (fault : E). fault) behind) (IsReadAt (BothValid V W) (both_bytes e f) bytes place)
  read_paired code bytes place x n (Ok None) first none = read_no_second V e W f code bytes place x n first none
  read_paired code bytes place x n (Ok (Some p)) first second = read_both V e W f bytes place x n p.0 p.1 first second
  read_paired code bytes place x n (Err fault) first second = tt

-- ---- from the groups to the facts

pub parts_read : (bytes : List ℕ) (place : ℕ) (g : Groups) (n : ℕ) → IsReadAt AreGroups groups_bytes bytes place (Some (g, n)) → IsReadAt IsLoose facts_bytes bytes place (Some (parts_from g, n))
parts_read = read_as AreGroups groups_bytes IsLoose facts_bytes parts_from groups_of loose_from (λ p l. l.groups) (λ g v. sym (facts_is (parts_from g) ∙ ap groups_bytes (groups_back g))) (λ p l. facts_is p)

pub parts_none : (bytes : List ℕ) (place : ℕ) → IsReadAt AreGroups groups_bytes bytes place None → IsReadAt IsLoose facts_bytes bytes place None
parts_none = read_none_as AreGroups groups_bytes IsLoose facts_bytes groups_of (λ p l. l.groups) (λ p l. facts_is p)

pub encodable_none : (bytes : List ℕ) (place : ℕ) → IsReadAt IsLoose facts_bytes bytes place None → IsReadAt IsEncodable facts_bytes bytes place None
encodable_none bytes place none = λ p m k a. none p m (loose p k) a

pub refused : (bytes : List ℕ) (place : ℕ) (p : FactParts) (n : ℕ) → IsReadAt IsLoose facts_bytes bytes place (Some (p, n)) → (IsKept p → ⊥) → IsReadAt IsEncodable facts_bytes bytes place None
refused bytes place p n r wrong = read_narrow IsLoose facts_bytes loose_code IsEncodable loose bytes place p n r (λ e. wrong e.kept)

pub faulty : (p : FactParts) (f : FactFault) → ok_unless (fact_faults p) p ≡ Err f → IsKept p → ⊥
faulty p f e kept = apart (ap (λ fs. ok_unless {A = FactParts} fs p) (sym kept.faultless) ∙ e)
  where
    apart : {A E : Type 0} {x : A} {y : E} → ◌≡◌ {A = Result A E} (Ok x) (Err y) → ⊥
    apart h = cc

checked_ok : {A E : Type 0} (fs : List E) (x y : A) → ok_unless fs x ≡ Ok y → (fs ≡ []) × (y ≡ x)
checked_ok [] x y e = (refl, cc)
checked_ok (f ∷ fs) x y e = cc

encodable_from : (p q : FactParts) → IsLoose p → p.budget % 1000 ≡ 0 → ok_unless (fact_faults p) p ≡ Ok q → IsEncodable q
encodable_from p q l whole e =
    let ok = checked_ok (fact_faults p) p q e in
    let range : IsInRange p = record {
      bid_range = l.groups.0.1.0.0;
      budget_range = l.groups.0.1.1;
      attr_range = λ k d lt. (l.groups.0.0.1.0.1.0.1 k d lt).1;
    } in
    subst IsEncodable (sym ok.1) record { kept = record { faultless = ok.0; whole_micros = whole; in_range = range }; uncapped = l.uncapped }

pub facts_read : (bytes : List ℕ) (place : ℕ) (p q : FactParts) (n : ℕ) → IsReadAt IsLoose facts_bytes bytes place (Some (p, n)) → p.budget % 1000 ≡ 0 → ok_unless (fact_faults p) p ≡ Ok q → IsReadAt IsEncodable facts_bytes bytes place (Some (q, n))
facts_read bytes place p q n r whole e =
    let ok = checked_ok (fact_faults p) p q e in
    (encodable_from p q r.0 whole e, begins_as bytes (facts_bytes p) (facts_bytes q) place n n (ap facts_bytes (sym ok.1)) refl r.1)
