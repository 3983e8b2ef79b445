-- Keys that are one, and what `==` says of them.
use Rattle.std.proofs.Common.{◌≡◌, ◌+◌, ◌∙◌, ◌==◌, ◌&&◌, ℕ, Bool, List, [], ◌∷◌, ap, arith, rules, refl, sym, position, not, length, nat_lt, cond, Some, None, true}
use Rattle.std.specs.List.{position_or_len}
use Rattle.std.specs.Str.{bytes_eq}
use Rattle.std.proofs.lemmas.Bool.{and_from, and_parts, eq-eqb, eqb-true}
use Rattle.std.proofs.lemmas.Bool.Decides.{nat_tests}
use Rattle.std.proofs.lemmas.Slice.Eq.{bytes_eq-Decides}
use Rattle.std.specs.Cmp.Derive.{one_truth}
use denote.Enum.Bare.{same_true, sameb, true_same}
use Rattle.target_expr.specs.contracts.attr.Attr.{the_type}
use Rattle.target_expr.specs.declared.attr.Attr.{Attr}
use Rattle.target_expr.specs.Attributes.{number_of}
use Rattle.target_expr.specs.Truth.{same_attr}
use Rattle.target_expr.proofs.Attributes.{same_number}
use Rattle.cnf_match.specs.declared.index.Key.{Key}
use Rattle.cnf_match.specs.contracts.index.KeyPartialEq.TheImpl.{eq-value}
use Rattle.cnf_match.specs.Content.{same_key}

attr_same : (a b : Attr) → same_attr a b ≡ true → a ≡ b
attr_same a b e =
    let same : number_of a ≡ number_of b = eqb-true (number_of a) (number_of b) e in
    same_number a b same

pub key_same : (a b : Key) → same_key a b ≡ true → a ≡ b
key_same a b e =
    let parts = and_parts (same_attr a.attr b.attr) (bytes_eq a.value b.value) e in
    let attrs : a.attr ≡ b.attr = attr_same a.attr b.attr parts.0 in
    let values : a.value ≡ b.value = (bytes_eq-Decides a.value b.value).0 parts.1 in
    (λ i. record { attr = attrs i; value = values i })

pub own_key : (a : Key) → same_key a a ≡ true
own_key a = and_from (same_attr a.attr a.attr) (bytes_eq a.value a.value) (eq-eqb (number_of a.attr) (number_of a.attr) refl) ((bytes_eq-Decides a.value a.value).1 refl)

turned : (a b : Key) → same_key a b ≡ true → same_key b a ≡ true
turned a b h = let e : a ≡ b = key_same a b h in ap (λ k. same_key k a) (sym e) ∙ own_key a

pub same_turned : (a b : Key) → same_key a b ≡ same_key b a
same_turned a b = one_truth (same_key a b) (same_key b a) (turned a b) (turned b a)

itself : (n : ℕ) → (n == n) ≡ true
itself n = grind (arith, nat_tests)

attr_eq : (a b : Attr) → sameb the_type a b ≡ same_attr a b
attr_eq a b = one_truth (sameb the_type a b) (same_attr a b)
    (λ h. ap (λ n. number_of a == n) (ap number_of (sym (same_true the_type (search rules) a b h))) ∙ itself (number_of a))
    (λ h. true_same the_type a b (attr_same a b h))

pub key_eq : (a b : Key) → eq-value.it a b ≡ same_key a b
key_eq a b = ap (λ c. c && bytes_eq a.value b.value) (attr_eq a.attr b.attr)

same_prefix : {X : Type 0} (p q : X → Bool) → ((x : X) → p x ≡ q x) → (xs : List X) → position_or_len p xs ≡ position_or_len q xs
same_prefix p q h [] = refl
same_prefix p q h (x ∷ xs) = ap (λ b. cond (not b) (1 + position_or_len p xs) 0) (h x) ∙ ap (λ n. cond (not (q x)) (1 + n) 0) (same_prefix p q h xs)

pub position_same : (key : Key) (ks : List Key) → position (eq-value.it key) ks ≡ position (same_key key) ks
position_same key ks = ap (λ n. cond (nat_lt n (length ks)) (Some n) None) (same_prefix (eq-value.it key) (same_key key) (key_eq key) ks)

pub place_same : (key : Key) (ks : List Key) → position_or_len (eq-value.it key) ks ≡ position_or_len (same_key key) ks
place_same key ks = same_prefix (eq-value.it key) (same_key key) (key_eq key) ks
