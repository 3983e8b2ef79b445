-- The first of a list of faults.
use Rattle.std.proofs.Common.{◌≡◌, ℕ, zero, suc, ◌+◌, ◌<◌, ◌≤◌, nat_lt, List, [], ◌∷◌, ◌++◌, length, get_or, Bool, true, false, not, cond, Option, Some, None, Ok, Err, refl, sym, ap, ◌∙◌, arith, ℤ, pos, int_le, int_lt, FitsSigned, IfNone, All, ◌^◌}
use Rattle.std.specs.Int.{w32}
use Rattle.std.specs.Option.{option_or, option_map}
use Rattle.std.specs.List.{flat_map, enumerate_from, position, position_or_len, slice_get}
use Rattle.std.proofs.lemmas.Bool.Decides.{nat_tests}
use Rattle.std.proofs.lemmas.Int.{ints}
use Rattle.campaign.specs.declared.field.CampField.{CampField}
use Rattle.campaign.specs.declared.field.CampField.TheVariants.{Attr, AttrItem}
use Rattle.campaign.specs.declared.parts.FactParts.{FactParts}
use Rattle.campaign.specs.declared.parts.FactFault.{FactFault}
use Rattle.campaign.specs.declared.parts.FactFault.TheVariants.{TextLength, ListLength}
use Rattle.campaign.specs.Kept.{IsInRange}
use Rattle.campaign.specs.Faults.{attr_faults, ok_unless, fault_unless, is_list, is_text, texts_faults}

pub first_or : {A : Type 0} (xs ys : List A) → slice_get (xs ++ ys) 0 ≡ option_or (slice_get xs 0) (slice_get ys 0)
first_or [] ys = refl
first_or (x ∷ xs) ys = refl

pub no_first : {A : Type 0} (xs : List A) → slice_get xs 0 ≡ None → xs ≡ []
no_first [] e = refl
no_first (x ∷ xs) e = cc

pub checked_right : {A E : Type 0} (xs : List E) (v : A) → slice_get xs 0 ≡ None → ok_unless xs v ≡ Ok v
checked_right [] v e = refl
checked_right (x ∷ xs) v e = cc

pub checked_fault : {A E : Type 0} (xs : List E) (v : A) (f : E) → slice_get xs 0 ≡ Some f → ok_unless xs v ≡ Err f
checked_fault [] v f e = cc
checked_fault (x ∷ xs) v f e = cc

placed : ℕ → ℕ → Option ℕ
placed k n = cond (nat_lt k n) (Some k) None

front_test : (b : Bool) (k n : ℕ) → placed (cond (not b) (1 + k) 0) (suc n) ≡ cond b (Some 0) (option_map (λ i. i + 1) (placed k n))
unfolding placed
front_test true k n = let t : nat_lt 0 (suc n) ≡ true = grind (arith, nat_tests) in ap (λ b. cond b (Some 0) None) t
front_test false k n = by_test (nat_lt k n) refl
  where
    by_test : (b : Bool) → nat_lt k n ≡ b → placed (1 + k) (suc n) ≡ option_map (λ i. i + 1) (placed k n)
    by_test true e =
        let t : nat_lt (1 + k) (suc n) ≡ true = grind (arith, nat_tests) in
        let same : 1 + k ≡ k + 1 = omega arith in
        ap (λ b. cond b (Some (1 + k)) None) t ∙ ap Some same ∙ sym (ap (λ b. option_map (λ i. i + 1) (cond b (Some k) None)) e)
    by_test false e =
        let t : nat_lt (1 + k) (suc n) ≡ false = grind (arith, nat_tests) in
        ap (λ b. cond b (Some (1 + k)) None) t ∙ sym (ap (λ b. option_map (λ i. i + 1) (cond b (Some k) None)) e)

pub position-cons : {A : Type 0} (p : A → Bool) (x : A) (xs : List A) → position p (x ∷ xs) ≡ cond (p x) (Some 0) (option_map (λ i. i + 1) (position p xs))
unfolding placed
position-cons p x xs = front_test (p x) (position_or_len p xs) (length xs)

-- the first place that passes, by what passes
pub position_found : {A : Type 0} (p : A → Bool) (xs : List A) (i : ℕ) (d : A) → i < length xs → ((k : ℕ) → k < i → p (get_or xs k d) ≡ false) → p (get_or xs i d) ≡ true → position p xs ≡ Some i
position_found p [] i d lt before here = absurd (omega (arith, lt))
position_found p (x ∷ xs) zero d lt before here =
    position-cons p x xs ∙ ap (λ b. cond b (Some 0) (option_map (λ i. i + 1) (position p xs))) here
position_found p (x ∷ xs) (suc i) d lt before here =
    let rest = position_found p xs i d (omega (arith, lt)) (λ k h. before (suc k) (omega (arith, h))) here in
    let first : p x ≡ false = before 0 (omega arith) in
    let one_more : i + 1 ≡ suc i = omega arith in
    position-cons p x xs ∙ ap (λ b. cond b (Some 0) (option_map (λ i. i + 1) (position p xs))) first ∙ ap (option_map (λ i. i + 1)) rest ∙ ap Some one_more

pub position_none : {A : Type 0} (p : A → Bool) (xs : List A) (d : A) → ((k : ℕ) → k < length xs → p (get_or xs k d) ≡ false) → position p xs ≡ None
position_none p [] d all = refl
position_none p (x ∷ xs) d all =
    let rest = position_none p xs d (λ k h. all (suc k) (omega (arith, h))) in
    let first : p x ≡ false = all 0 (omega arith) in
    position-cons p x xs ∙ ap (λ b. cond b (Some 0) (option_map (λ i. i + 1) (position p xs))) first ∙ ap (option_map (λ i. i + 1)) rest

module _ {A : Type 0} (right : A → Bool) (fault : ℕ → FactFault) where
  item_faults : ℕ × A → List FactFault
  item_faults q = fault_unless (right q.1) (fault q.0)

  first_step : (b : Bool) (f : FactFault) (rest : List FactFault) → slice_get (fault_unless b f ++ rest) 0 ≡ cond b (slice_get rest 0) (Some f)
  first_step true f rest = refl
  first_step false f rest = refl

  shifted : (b : Bool) (n : ℕ) (o : Option ℕ) → cond b (option_map (λ i. fault (n + 1 + i)) o) (Some (fault n)) ≡ option_map (λ i. fault (n + i)) (cond (not b) (Some 0) (option_map (λ i. i + 1) o))
  shifted true n None = refl
  shifted true n (Some i) = let e : n + 1 + i ≡ n + (i + 1) = omega arith in ap (λ k. Some (fault k)) e
  shifted false n o = let e : n ≡ n + 0 = omega arith in ap (λ k. Some (fault k)) e

  -- the first fault of an item is that of the first item that is not right
  pub first_item : (xs : List A) (n : ℕ) → slice_get (flat_map (λ (q : ℕ × A). fault_unless (right q.1) (fault q.0)) (enumerate_from n xs)) 0 ≡ option_map (λ i. fault (n + i)) (position (λ x. not (right x)) xs)
  first_item [] n = refl
  first_item (x ∷ xs) n =
      first_step (right x) (fault n) (flat_map (λ (q : ℕ × A). fault_unless (right q.1) (fault q.0)) (enumerate_from (n + 1) xs))
      ∙ ap (λ o. cond (right x) o (Some (fault n))) (first_item xs (n + 1))
      ∙ shifted (right x) n (position (λ y. not (right y)) xs)
      ∙ sym (ap (option_map (λ i. fault (n + i))) (position-cons (λ y. not (right y)) x xs))

  plain : (o : Option ℕ) → option_map (λ i. fault (0 + i)) o ≡ option_map fault o
  plain None = refl
  plain (Some i) = let e : 0 + i ≡ i = omega arith in ap (λ k. Some (fault k)) e

  -- a list within its limit has the first fault of its items
  pub list_first : (b : Bool) (f : FactFault) (xs : List A) → b ≡ true → slice_get (fault_unless b f ++ flat_map (λ (q : ℕ × A). fault_unless (right q.1) (fault q.0)) (enumerate_from 0 xs)) 0 ≡ option_map fault (position (λ x. not (right x)) xs)
  list_first b f xs e =
      first_step b f (flat_map (λ (q : ℕ × A). fault_unless (right q.1) (fault q.0)) (enumerate_from 0 xs))
      ∙ ap (λ t. cond t (slice_get (flat_map (λ (q : ℕ × A). fault_unless (right q.1) (fault q.0)) (enumerate_from 0 xs)) 0) (Some f)) e
      ∙ first_item xs 0 ∙ plain (position (λ x. not (right x)) xs)

pub texts_first : (field : CampField) (item : ℕ → CampField) (ts : List (List ℕ)) (found : Option ℕ) → is_list ts ≡ true → found ≡ position (λ t. not (is_text t)) ts → option_map (λ k. TextLength (item k)) found ≡ slice_get (texts_faults field item ts) 0
texts_first field item ts found few e =
    ap (option_map (λ k. TextLength (item k))) e ∙ sym (list_first is_text (λ k. TextLength (item k)) (is_list ts) (ListLength field) ts few)

pub attr_first : (zs : List ℤ) (found : Option ℕ) → is_list zs ≡ true → found ≡ position (λ z. not (int_le (pos 0) z)) zs → option_map (λ k. ListLength (AttrItem k)) found ≡ slice_get (attr_faults zs) 0
attr_first zs found few e =
    ap (option_map (λ k. ListLength (AttrItem k))) e ∙ sym (list_first (λ z. int_le (pos 0) z) (λ k. ListLength (AttrItem k)) (is_list zs) (ListLength Attr) zs few)

pub first_of_ten : {A : Type 0} (a b c d e f g h i j : List A) → slice_get (a ++ b ++ c ++ d ++ e ++ f ++ g ++ h ++ i ++ j) 0
    ≡ option_or (option_or (option_or (option_or (option_or (option_or (option_or (option_or (option_or (slice_get a 0) (slice_get b 0)) (slice_get c 0)) (slice_get d 0)) (slice_get e 0)) (slice_get f 0)) (slice_get g 0)) (slice_get h 0)) (slice_get i 0)) (slice_get j 0)
first_of_ten a b c d e f g h i j = simp first_or

pub is_negative : (z : ℤ) → int_lt z (pos 0) ≡ true → not (int_le (pos 0) z) ≡ true
is_negative z h = grind (arith, ints)

pub is_not_negative : (z : ℤ) → int_lt z (pos 0) ≡ false → not (int_le (pos 0) z) ≡ false
is_not_negative z h = grind (arith, ints)

-- what is known where none of two is there
none_left : {A : Type 0} (P : Type 0) (a b : Option A) → IfNone a P → IfNone (option_or a b) P
none_left P None None h = h
none_left P None (Some y) h = tt
none_left P (Some x) b h = tt

none_right : {A : Type 0} (P : Type 0) (a b : Option A) → IfNone b P → IfNone (option_or a b) P
none_right P None b h = h
none_right P (Some x) b h = tt

pub known_range : (p : FactParts) (fault : Option FactFault) → p.bid ≤ 10 ^ 12 → p.budget ≤ 10 ^ 15 → IfNone fault (All (FitsSigned w32) p.attr) → IfNone fault (IsInRange p)
known_range p None b c h = record { bid_range = b; budget_range = c; attr_range = h }
known_range p (Some e) b c h = tt

pub fifth_of_ten : {A : Type 0} (P : Type 0) (d e f g h i j : Option A) → IfNone e P → IfNone (option_or (option_or (option_or (option_or (option_or (option_or d e) f) g) h) i) j) P
fifth_of_ten P d e f g h i j known =
    let five = option_or d e in
    let six = option_or five f in
    let seven = option_or six g in
    let eight = option_or seven h in
    none_left P (option_or eight i) j (none_left P eight i (none_left P seven h (none_left P six g (none_left P five f (none_right P d e known)))))
