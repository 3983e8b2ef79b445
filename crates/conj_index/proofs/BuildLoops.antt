-- What the lists of campaigns and sizes are with one item more, for the loops that build.
use Rattle.std.proofs.Common.{◌≡◌, ℕ, ◌+◌, ◌<◌, max, List, [], ◌∷◌, ◌++◌, false, cond, Some, None, map, length, take, get_or, replicate, refl, sym, ◌∙◌, ap, arith}
use Rattle.std.specs.List.{cons_option, enumerate_from, filter_map}
use Rattle.std.specs.Ordering.{nat_cmp, ord_max}
use Rattle.std.proofs.lemmas.Grind.{common_steps}
use Rattle.std.proofs.lemmas.Bool.{eq-eqb, ne_eqb}
use Rattle.std.proofs.lemmas.List.{take_more, map-append, append-nil, length-take, replicate_more as appended}
use Rattle.std.proofs.lemmas.List.Concat.{flat_map-append}
use Rattle.std.proofs.lemmas.List.Elements.{filter_map-append}
use Rattle.postings.specs.declared.entry.Entry.{Entry}
use Rattle.target_expr.specs.declared.pred.Pred.{Pred}
use Rattle.conj_index.specs.Campaigns.{Campaigns, expression_of}
use Rattle.conj_index.specs.Content.{Listed, conjunctions_of, with_owner}
use Rattle.conj_index.specs.Growing.{greatest, zero_entry, zero_of}

greatest-push : (ns : List ℕ) (n : ℕ) → greatest (ns ++ n ∷ []) ≡ max (greatest ns) n
greatest-push [] n = omega arith
greatest-push (m ∷ ns) n = omega (arith, greatest-push ns n)

pub greatest_more : (ns : List ℕ) (i d : ℕ) → i < length ns → greatest (take (i + 1) ns) ≡ max (greatest (take i ns)) (get_or ns i d)
greatest_more ns i d h = ap greatest (take_more ns i d h) ∙ greatest-push (take i ns) (get_or ns i d)

pub replicate_more : (n x : ℕ) → replicate (n + 1) x ≡ replicate n x ++ x ∷ []
replicate_more n x = sym (appended n x)

pub enumerate_from-append : {X : Type 0} (n : ℕ) (xs ys : List X) → enumerate_from n (xs ++ ys) ≡ enumerate_from n xs ++ enumerate_from (n + length xs) ys
enumerate_from-append n [] ys = ap (λ k. enumerate_from k ys) (omega arith)
enumerate_from-append n (x ∷ xs) ys =
    let here : n + 1 + length xs ≡ n + length (x ∷ xs) = omega arith in
    ap (λ l. (n, x) ∷ l) (enumerate_from-append (n + 1) xs ys ∙ ap (λ k. enumerate_from (n + 1) xs ++ enumerate_from k ys) here)

zero_more : (ns : List ℕ) (i d : ℕ) → i < length ns → zero_of (take (i + 1) ns) ≡ zero_of (take i ns) ++ cons_option (zero_entry (i, get_or ns i d)) []
zero_more ns i d h =
    let here : 0 + length (take i ns) ≡ i = omega (arith, length-take i ns) in
    ap zero_of (take_more ns i d h)
    ∙ ap (filter_map zero_entry) (enumerate_from-append 0 (take i ns) (get_or ns i d ∷ []))
    ∙ filter_map-append zero_entry (enumerate_from 0 (take i ns)) (enumerate_from (0 + length (take i ns)) (get_or ns i d ∷ []))
    ∙ ap (λ n. zero_of (take i ns) ++ filter_map zero_entry (enumerate_from n (get_or ns i d ∷ []))) here

-- a size that is 0 has an entry
pub zero_there : (ns : List ℕ) (i d : ℕ) (old new : List Entry) → i < length ns → get_or ns i d ≡ 0 → old ≡ zero_of (take i ns)
    → new ≡ old ++ record { id = i; negated = false } ∷ [] → new ≡ zero_of (take (i + 1) ns)
zero_there ns i d old new h is was pushed =
    pushed ∙ ap (λ l. l ++ record { id = i; negated = false } ∷ []) was
    ∙ sym (zero_more ns i d h ∙ ap (λ b. zero_of (take i ns) ++ cons_option (cond b (Some (record { id = i; negated = false })) None) []) (eq-eqb (get_or ns i d) 0 is))

-- and another has none
pub zero_absent : (ns : List ℕ) (i d : ℕ) (old new : List Entry) → i < length ns → (get_or ns i d ≡ 0 → ⊥) → old ≡ zero_of (take i ns)
    → new ≡ old → new ≡ zero_of (take (i + 1) ns)
zero_absent ns i d old new h is was same =
    same ∙ was ∙ sym (zero_more ns i d h ∙ ap (λ b. zero_of (take i ns) ++ cons_option (cond b (Some (record { id = i; negated = false })) None) []) (ne_eqb (get_or ns i d) 0 is)
    ∙ append-nil (zero_of (take i ns)))

pub expression_more : (xs : Campaigns) (i : ℕ) (d : ℕ × List (List Pred)) → i < length xs → expression_of (take (i + 1) xs) ≡ expression_of (take i xs) ++ (get_or xs i d).1
expression_more xs i d h =
    ap expression_of (take_more xs i d h) ∙ flat_map-append (λ (p : ℕ × List (List Pred)). p.1) (take i xs) (get_or xs i d ∷ [])
    ∙ ap (λ l. expression_of (take i xs) ++ l) (append-nil ((get_or xs i d).1))

pub conjunctions_more : (xs : Campaigns) (i : ℕ) (d : ℕ × List (List Pred)) → i < length xs → conjunctions_of (take (i + 1) xs) ≡ conjunctions_of (take i xs) ++ with_owner (get_or xs i d)
conjunctions_more xs i d h =
    ap conjunctions_of (take_more xs i d h) ∙ flat_map-append with_owner (take i xs) (get_or xs i d ∷ [])
    ∙ ap (λ l. conjunctions_of (take i xs) ++ l) (append-nil (with_owner (get_or xs i d)))

pub owners_owned : (n : ℕ) (e : List (List Pred)) → map (λ (c : Listed). c.owner) (with_owner (n, e)) ≡ replicate (length e) n
owners_owned n [] = refl
owners_owned n (c ∷ e) = ap (λ l. n ∷ l) (owners_owned n e)

-- the owners after one campaign more
pub owners_step : (added : Campaigns) (i : ℕ) (p : ℕ × List (List Pred)) (old new : List ℕ) (times : ℕ) → i < length added → p ≡ get_or added i p → times ≡ length p.1
    → old ≡ map (λ (c : Listed). c.owner) (conjunctions_of (take i added)) → new ≡ old ++ replicate times p.0
    → new ≡ map (λ (c : Listed). c.owner) (conjunctions_of (take (i + 1) added))
owners_step added i p old new times h is count was pushed =
    pushed ∙ ap (λ l. l ++ replicate times p.0) was
    ∙ ap (λ l. map (λ (c : Listed). c.owner) (conjunctions_of (take i added)) ++ l)
    (ap (λ n. replicate n p.0) count ∙ sym (owners_owned p.0 p.1) ∙ ap (λ (q : ℕ × List (List Pred)). map (λ (c : Listed). c.owner) (with_owner q)) is)
    ∙ sym (map-append (λ (c : Listed). c.owner) (conjunctions_of (take i added)) (with_owner (get_or added i p)))
    ∙ ap (map (λ (c : Listed). c.owner)) (sym (conjunctions_more added i p h))

pub max_by_order : (m n : ℕ) → ord_max nat_cmp m n ≡ max m n
max_by_order m n = grind (arith, common_steps)
