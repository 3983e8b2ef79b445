-- The campaigns whose expression is true are the owners of the conjunctions that are true.
use Rattle.std.proofs.Common.{◌≡◌, ℕ, ◌+◌, ◌<◌, ◌≤◌, inl, inr, List, [], ◌∷◌, length, Bool, true, false, ◌&&◌, ◌||◌, not, cond, filter, map, refl, sym, ◌∙◌, ap, subst, arith, IsTrue, nat_lt, nat_le, count_by, ◌==◌}
use Rattle.std.specs.List.{list_all, list_any}
use Rattle.std.proofs.lemmas.Bool.{and_parts, false≢true, ltb-true, leb-true}
use Rattle.std.proofs.lemmas.Bool.Decides.{nat_tests}
use Rattle.target_expr.specs.declared.attr.Attr.{Attr}
use Rattle.target_expr.specs.declared.pred.Pred.{Pred}
use Rattle.target_expr.specs.Attributes.{number_of}
use Rattle.target_expr.specs.Kept.{attr_below, is_kept, is_kept_conjunction, is_kept_pred, rise}
use Rattle.target_expr.specs.Pairs.{size_of}
use Rattle.target_expr.specs.Truth.{are_single, conjunction_holds, holds, same_attr}
use Rattle.conj_index.specs.Campaigns.{AreKept, Campaigns, DoRise, numbers_of}
use Rattle.conj_index.specs.Content.{Listed, conjunctions_of, greatest_size, with_owner}
use Rattle.conj_index.specs.Find.{true_under}
use Rattle.conj_index.proofs.Matches.{are_apart, asked, counted, excluded, true_where}
use Rattle.conj_index.proofs.Members.{Has, Up, any_has, filter_has, has_any, has_filter, has_in_all, has_mapped, has_spread, mapped_has, spread_has, up_from_increasing}

abbrev Campaign : Type 0
Campaign = ℕ × List (List Pred)

abbrev Pairs : Type 0
Pairs = List (Attr × List ℕ)

-- ---- a conjunction that is kept has no attribute twice

later_rise : (p : Pred) (c : List Pred) → rise attr_below (p ∷ c) ≡ true → rise attr_below c ≡ true
later_rise p [] h = refl
later_rise p (q ∷ c) h = (and_parts (attr_below p q) (rise attr_below (q ∷ c)) h).1

differ : (m n : ℕ) (b : Bool) → m < n → b ≡ false → ((n == m) || b) ≡ false
differ m n b lt e = grind (arith, nat_tests, lt, e)

-- each attribute from here on is above the number
none_below : (n : ℕ) (c : List Pred) → ((q : Pred) → Has q c → n < number_of q.attr) → list_any (λ (r : Pred). number_of r.attr == n) c ≡ false
none_below n [] h = refl
none_below n (q ∷ c) h = differ n (number_of q.attr) (list_any (λ (r : Pred). number_of r.attr == n) c) (h q (inl refl)) (none_below n c (λ r k. h r (inr k)))

all_above : (p : Pred) (c : List Pred) → rise attr_below (p ∷ c) ≡ true → (q : Pred) → Has q c → number_of p.attr < number_of q.attr
all_above p [] h q k = absurd k
all_above p (r ∷ c) h q (inl e) =
    let below : number_of p.attr < number_of r.attr = ltb-true (number_of p.attr) (number_of r.attr) (and_parts (attr_below p r) (rise attr_below (r ∷ c)) h).0 in
    omega (arith, below, ap (λ (o : Pred). number_of o.attr) e)
all_above p (r ∷ c) h q (inr k) =
    let below : number_of p.attr < number_of r.attr = ltb-true (number_of p.attr) (number_of r.attr) (and_parts (attr_below p r) (rise attr_below (r ∷ c)) h).0 in
    let above : number_of r.attr < number_of q.attr = all_above r c (and_parts (attr_below p r) (rise attr_below (r ∷ c)) h).1 q k in
    omega (arith, below, above)

pub apart_from_rise : (c : List Pred) → rise attr_below c ≡ true → are_apart c ≡ true
apart_from_rise [] h = refl
apart_from_rise (p ∷ c) h = both (list_any (λ (r : Pred). same_attr r.attr p.attr) c) (are_apart c) (none_below (number_of p.attr) c (all_above p c h)) (apart_from_rise c (later_rise p c h))
  where
    both : (b d : Bool) → b ≡ false → d ≡ true → (not b && d) ≡ true
    both true d e f = absurd (false≢true (sym e))
    both false d e f = f

pub apart_from_kept : (c : List Pred) → is_kept_conjunction c ≡ true → are_apart c ≡ true
apart_from_kept c h = apart_from_rise c (and_parts (nat_le (length c) 16 && list_all is_kept_pred c) (rise attr_below c) h).1

-- ---- all conjunctions

all_has : {X : Type 0} (p : X → Bool) (xs : List X) → list_all p xs ≡ true → (x : X) → Has x xs → p x ≡ true
all_has p [] h x k = absurd k
all_has p (y ∷ xs) h x (inl e) = ap p e ∙ (and_parts (p y) (list_all p xs) h).0
all_has p (y ∷ xs) h x (inr k) = all_has p xs (and_parts (p y) (list_all p xs) h).1 x k

true_from : (b : Bool) → IsTrue b → b ≡ true
true_from b h = h

kept_in_campaign : (e : List (List Pred)) → is_kept e ≡ true → (c : List Pred) → Has c e → is_kept_conjunction c ≡ true
kept_in_campaign e h c k = all_has is_kept_conjunction e (and_parts (nat_lt 0 (length e) && nat_le (length e) 64) (list_all is_kept_conjunction e) h).1 c k

pub kept_member : (added : Campaigns) → AreKept added → (l : Listed) → Has l (conjunctions_of added) → is_kept_conjunction l.preds ≡ true
kept_member added kept l h =
    let (q, has, in_q) = spread_has with_owner added l h in
    let (c, in_e, is) = mapped_has (λ (c : List Pred). record { owner = q.0; preds = c }) q.1 l in_q in
    ap (λ (x : Listed). is_kept_conjunction x.preds) (sym is) ∙ kept_in_campaign q.1 (true_from (is_kept q.1) (has_in_all (λ (p : Campaign). IsTrue (is_kept p.1)) added q kept has)) c in_e

pub greatest_has : (cs : List Listed) (l : Listed) → Has l cs → size_of l.preds ≤ greatest_size cs
greatest_has [] l h = absurd h
greatest_has (c ∷ cs) l (inl e) = omega (arith, ap (λ (x : Listed). size_of x.preds) e)
greatest_has (c ∷ cs) l (inr h) = omega (arith, greatest_has cs l h)

-- ---- a campaign is true where it owns a conjunction that is true

pub owner_of_true : (a : Pairs) (added : Campaigns) (z : ℕ) → Has z (true_under a added) → (l : Listed) × Has l (conjunctions_of added) × (l.owner ≡ z) × (conjunction_holds a l.preds ≡ true)
owner_of_true a added z h =
    let (q, in_filter, is) = mapped_has (λ (p : Campaign). p.0) (filter (λ (p : Campaign). holds a p.1) added) z h in
    let (has, true_q) = filter_has (λ (p : Campaign). holds a p.1) added q in_filter in
    let (c, in_e, true_c) = any_has (conjunction_holds a) q.1 true_q in
    (record { owner = q.0; preds = c }, has_spread with_owner added q (record { owner = q.0; preds = c }) has (has_mapped (λ (d : List Pred). record { owner = q.0; preds = d }) q.1 c in_e), is, true_c)

pub true_by_owner : (a : Pairs) (added : Campaigns) (l : Listed) → Has l (conjunctions_of added) → conjunction_holds a l.preds ≡ true → Has l.owner (true_under a added)
true_by_owner a added l h t =
    let (q, has, in_q) = spread_has with_owner added l h in
    let (c, in_e, is) = mapped_has (λ (c : List Pred). record { owner = q.0; preds = c }) q.1 l in_q in
    let same : q.0 ≡ l.owner = ap (λ (x : Listed). x.owner) is in
    let true_q : holds a q.1 ≡ true = has_any (conjunction_holds a) q.1 c in_e (ap (λ (x : Listed). conjunction_holds a x.preds) is ∙ t) in
    subst (λ (n : ℕ). Has n (true_under a added)) same (has_mapped (λ (p : Campaign). p.0) (filter (λ (p : Campaign). holds a p.1) added) q (has_filter (λ (p : Campaign). holds a p.1) added q has true_q))

-- ---- the answer rises

number_has : (p : Campaign → Bool) (added : Campaigns) (z : ℕ) → Has z (map (λ (q : Campaign). q.0) (filter p added)) → Has z (numbers_of added)
number_has p added z h =
    let (q, in_filter, is) = mapped_has (λ (r : Campaign). r.0) (filter p added) z h in
    subst (λ (n : ℕ). Has n (numbers_of added)) is (has_mapped (λ (r : Campaign). r.0) added q (filter_has p added q in_filter).0)

up_filter : (p : Campaign → Bool) (added : Campaigns) → Up (numbers_of added) → Up (map (λ (q : Campaign). q.0) (filter p added))
up_filter p [] up = tt
up_filter p (q ∷ added) up = by (p q) (λ z h. up.0 z (number_has p added z h)) (up_filter p added up.1)
  where
    by : (b : Bool) → ((z : ℕ) → Has z (map (λ (r : Campaign). r.0) (filter p added)) → q.0 < z) → Up (map (λ (r : Campaign). r.0) (filter p added)) → Up (map (λ (r : Campaign). r.0) (cond b (q ∷ filter p added) (filter p added)))
    by true below later = (below, later)
    by false below later = later

pub up_true : (a : Pairs) (added : Campaigns) → DoRise added → Up (true_under a added)
up_true a added rising = up_filter (λ (p : Campaign). holds a p.1) added (up_from_increasing (numbers_of added) rising)

-- ---- a conjunction that is true is no larger than the assignment

count_le : {X : Type 0} (p : X → Bool) (xs : List X) → count_by p xs ≤ length xs
count_le p [] = omega arith
count_le p (x ∷ xs) = by (p x) (counted p x xs) (count_le p xs)
  where
    by : (b : Bool) → count_by p (x ∷ xs) ≡ cond b 1 0 + count_by p xs → count_by p xs ≤ length xs → count_by p (x ∷ xs) ≤ length (x ∷ xs)
    by true e le = omega (arith, e, le)
    by false e le = omega (arith, e, le)

pub no_larger : (c : List Pred) (a : Pairs) → are_apart c ≡ true → are_single a ≡ true → conjunction_holds a c ≡ true → size_of c ≤ length a
no_larger c a apart single t =
    let enough : size_of c ≤ asked c a = leb-true (size_of c) (asked c a) (and_parts (not (excluded c a)) (nat_le (size_of c) (asked c a)) (sym (true_where c a apart single) ∙ t)).1 in
    let most : asked c a ≤ length a = count_le _ a in
    omega (arith, enough, most)
