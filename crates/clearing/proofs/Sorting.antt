-- Offers that are sorted by `beats` stand in order.
use Rattle.std.proofs.Common.{◌≡◌, ◌<◌, ◌≤◌, ℕ, suc, zero, List, [], ◌∷◌, true, false, length, get_or, refl, arith}
use Rattle.std.specs.Cmp.{IsStrictWeakOrder}
use Rattle.std.specs.List.{list_all}
use Rattle.std.specs.List.Sorted.{IsSortedBy}
use Rattle.std.proofs.lemmas.Bool.{and_from, not_from_false}
use Rattle.std.proofs.lemmas.Bool.Decides.{nat_tests}
use Rattle.std.proofs.lemmas.List.Sums.{list_all-from_AllPass}
use Rattle.std.proofs.lemmas.List.Sorted.{sorted_far}
use Rattle.clearing.specs.declared.Offer.{Offer}
use Rattle.clearing.specs.Candidates.{is_in_order, stands_before}
use Rattle.clearing.specs.Clearing.{beats}
use Rattle.clearing.proofs.Order.{beats-asymmetric}

chained : (a b c : Offer) → beats a b ≡ false → beats b c ≡ false → beats a c ≡ false
chained a b c h k = grind (arith, nat_tests)

pub ranks : IsStrictWeakOrder beats
ranks = record { one_way = beats-asymmetric; chain = chained }

abbrev IsFar : List Offer → Type 0
IsFar os = (i j : ℕ) (d : Offer) → i ≤ j → j < length os → beats (get_or os j d) (get_or os i d) ≡ false

far_tail : (o : Offer) (os : List Offer) → IsFar (o ∷ os) → IsFar os
far_tail o os far = λ i j d le within. far (suc i) (suc j) d (omega arith) (omega arith)

in_order : (os : List Offer) → IsFar os → is_in_order os ≡ true
in_order [] far = refl
in_order (o ∷ os) far =
    and_from (list_all (stands_before o) os) (is_in_order os)
    (list_all-from_AllPass (stands_before o) os (λ k d within. not_from_false _ (far zero (suc k) d (omega arith) (omega arith))))
    (in_order os (far_tail o os far))

pub sorted_in_order : (os : List Offer) → IsSortedBy beats os → is_in_order os ≡ true
sorted_in_order os up = in_order os (λ i j d le within. sorted_far beats ranks os up i j d le within)
