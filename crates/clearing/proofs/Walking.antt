-- The walk over candidates in order gives what clearing gives of all that may pay.
use Rattle.std.proofs.Common.{◌≡◌, ◌≤◌, nat_le, max, ℕ, inl, inr, List, [], ◌∷◌, ◌++◌, Bool, true, false, not, cond, Option, Some, None, map, refl, sym, ◌∙◌, ap, subst, arith, IsTrue}
use Rattle.std.specs.List.{All, filter, fold, list_all, slice_get}
use Rattle.std.specs.Prelude.{IfSome}
use Rattle.std.specs.Option.{option_map, option_and_then}
use Rattle.std.proofs.lemmas.Bool.{and_parts, cases_Bool, cond_both, cond-true, cond-false, leb-true, leb-false, not-true, not_from_false, false≢true}
use Rattle.std.proofs.lemmas.Bool.Decides.{nat_tests}
use Rattle.std.proofs.lemmas.Option.{none-some}
use Rattle.std.proofs.lemmas.List.{append_assoc, append-nil}
use Rattle.std.proofs.lemmas.List.Elements.{All-append, All-cons, All-filter, All-weaker, Contains-append_right, filter-append}
use Rattle.std.proofs.lemmas.List.Sums.{AllPass-from_list_all, list_all-from_AllPass}
use Rattle.clearing.specs.declared.Offer.{Offer}
use Rattle.clearing.specs.declared.PriceKind.{PriceKind}
use Rattle.clearing.specs.declared.PriceKind.TheVariants.{First, Second, Agreed}
use Rattle.clearing.specs.declared.Terms.{Terms}
use Rattle.clearing.specs.declared.Win.{Win}
use Rattle.clearing.specs.Candidates.{first_that_pays, is_beaten_by, is_in_order, is_rival, next_that_pays, price_above, stands_before, walked, win_above, win_at}
use Rattle.clearing.specs.Clearing.{IsUnbeaten, beats, greatest_bid, is_fit, outcome, price_of, rivals, win_by, winner}
use Rattle.clearing.proofs.Order.{beats-asymmetric, beats-irreflexive}
use Rattle.clearing.proofs.Winner.{unbeaten_from_winner, unbeaten_more, unbeaten_new, winner_from_unbeaten, winner_is_fit}

abbrev IsAhead : Offer → Offer → Type 0
IsAhead w x = IsTrue (not (beats x w))

-- ---- orders

ahead : (w x : Offer) → beats w x ≡ true → IsAhead w x
ahead w x h = not_from_false _ (beats-asymmetric w x h)

-- what stands behind one that it beats
ahead_through : (a b c : Offer) → beats a b ≡ true → stands_before b c ≡ true → IsAhead a c
ahead_through a b c h k = grind (arith, nat_tests)

all_ahead : (w : Offer) (xs : List Offer) → list_all (stands_before w) xs ≡ true → All (IsAhead w) xs
all_ahead w xs h = AllPass-from_list_all (stands_before w) xs h

-- ---- some offer is unbeaten, where there is one

unbeaten_of : (front : List Offer) (w : Offer) → IsUnbeaten front w → (rest : List Offer) → (v : Offer) × IsUnbeaten (front ++ rest) v
unbeaten_of front w unbeaten [] = (w, subst (λ l. IsUnbeaten l w) (sym (append-nil front)) unbeaten)
unbeaten_of front w unbeaten (x ∷ rest) =
    elim (cases_Bool (beats x w)) [
      | inl e ↦ subst (λ l. (v : Offer) × IsUnbeaten l v) (append_assoc front (x ∷ []) rest) (unbeaten_of (front ++ x ∷ []) x (unbeaten_new front w x unbeaten e) rest)
      | inr e ↦ subst (λ l. (v : Offer) × IsUnbeaten l v) (append_assoc front (x ∷ []) rest) (unbeaten_of (front ++ x ∷ []) w (unbeaten_more front w x unbeaten e) rest)
    ]

pub none_unbeaten : (os : List Offer) → winner os ≡ None → os ≡ []
none_unbeaten [] h = refl
none_unbeaten (x ∷ xs) h =
    let (v, unbeaten) = unbeaten_of (x ∷ []) x ((0, omega arith, refl), All-cons (IsAhead x) x [] (not_from_false _ (beats-irreflexive x)) (AllPass-from_list_all (λ y. not (beats y x)) [] refl)) xs in
    absurd (none-some v (sym h ∙ winner_from_unbeaten (x ∷ xs) v unbeaten))

-- ---- the winner

-- one that is not beaten by the best of the others beats them all
unbeaten_through : (y b o : Offer) → beats y b ≡ false → beats b o ≡ false → beats y o ≡ false
unbeaten_through y b o h k = grind (arith, nat_tests)

ahead_of_others : (others : List Offer) (best : Option Offer) (o : Offer) → winner others ≡ best → is_beaten_by best o ≡ false → All (IsAhead o) others
ahead_of_others others None o won h = subst (All (IsAhead o)) (sym (none_unbeaten others won)) (AllPass-from_list_all (λ y. not (beats y o)) [] refl)
ahead_of_others others (Some b) o won h =
    let (among, unbeaten) = unbeaten_from_winner others b won in
    All-weaker (IsAhead b) (IsAhead o) (λ y k. not_from_false _ (unbeaten_through y b o (not-true _ k) h)) others unbeaten

-- the winner of the first step
best_wins : (may : Offer → Bool) (others : List Offer) (b o : Offer) (os : List Offer) → winner others ≡ Some b → beats b o ≡ true → list_all (stands_before o) os ≡ true
    → winner (filter may (o ∷ os) ++ others) ≡ Some b
best_wins may others b o os won h behind =
    let (among, unbeaten) = unbeaten_from_winner others b won in
    let all : All (IsAhead b) (o ∷ os) = All-cons (IsAhead b) o os (ahead b o h) (All-weaker (λ x. stands_before o x ≡ true) (IsAhead b) (λ x k. ahead_through b o x h k) os (AllPass-from_list_all (stands_before o) os behind)) in
    winner_from_unbeaten (filter may (o ∷ os) ++ others) b
    (Contains-append_right (filter may (o ∷ os)) others b among, All-append (IsAhead b) (filter may (o ∷ os)) others (All-filter may (IsAhead b) (o ∷ os) all) unbeaten)

one_wins : (may : Offer → Bool) (others : List Offer) (best : Option Offer) (o : Offer) (os : List Offer) → winner others ≡ best → is_beaten_by best o ≡ false → list_all (stands_before o) os ≡ true
    → winner (o ∷ (filter may os ++ others)) ≡ Some o
one_wins may others best o os won h behind =
    winner_from_unbeaten (o ∷ (filter may os ++ others)) o (
      (0, omega arith, refl),
      All-cons (IsAhead o) o (filter may os ++ others) (not_from_false _ (beats-irreflexive o))
          (All-append (IsAhead o) (filter may os) others (All-filter may (IsAhead o) os (all_ahead o os behind)) (ahead_of_others others best o won h)),
    )

-- ---- the next bid

fold_max : (ys : List ℕ) (a : ℕ) → fold max a ys ≡ max a (fold max 0 ys)
fold_max [] a = omega arith
fold_max (y ∷ ys) a = omega (arith, fold_max ys (max a y), fold_max ys (max 0 y))

pub greatest_cons : (o : Offer) (os : List Offer) → greatest_bid (o ∷ os) ≡ max o.bid (greatest_bid os)
greatest_cons o os = omega (arith, fold_max (map (λ (x : Offer). x.bid) os) (max 0 o.bid))

pub greatest_append : (xs ys : List Offer) → greatest_bid (xs ++ ys) ≡ max (greatest_bid xs) (greatest_bid ys)
greatest_append [] ys = omega arith
greatest_append (x ∷ xs) ys = omega (arith, greatest_cons x (xs ++ ys), greatest_cons x xs, greatest_append xs ys)

rival_below : (w o y : Offer) → is_rival w o ≡ true → is_rival w y ≡ true → stands_before o y ≡ true → nat_le y.bid o.bid ≡ true
rival_below w o y h k e = grind (arith, nat_tests)

one_less : (b : Bool) (y : Offer) (ys : List Offer) (most : ℕ) → (b ≡ true → y.bid ≤ most) → greatest_bid ys ≤ most → greatest_bid (cond b (y ∷ ys) ys) ≤ most
one_less true y ys most h k = omega (arith, greatest_cons y ys, h refl, k)
one_less false y ys most h k = k

rivals_below : (w o : Offer) → is_rival w o ≡ true → (ys : List Offer) → list_all (stands_before o) ys ≡ true → greatest_bid (filter (is_rival w) ys) ≤ o.bid
rivals_below w o r [] h = omega arith
rivals_below w o r (y ∷ ys) h =
    let (first, rest) = and_parts (stands_before o y) (list_all (stands_before o) ys) h in
    one_less (is_rival w y) y (filter (is_rival w) ys) o.bid (λ e. leb-true y.bid o.bid (rival_below w o y r e first)) (rivals_below w o r ys rest)

kept_behind : (may : Offer → Bool) (o : Offer) (os : List Offer) → list_all (stands_before o) os ≡ true → list_all (stands_before o) (filter may os) ≡ true
kept_behind may o os h = list_all-from_AllPass (stands_before o) (filter may os) (All-filter may (λ x. stands_before o x ≡ true) os (AllPass-from_list_all (stands_before o) os h))

filtered : (r : Offer → Bool) (m : Bool) (o : Offer) (os : List Offer) → filter r (cond m (o ∷ os) os) ≡ cond m (cond (r o) (o ∷ filter r os) (filter r os)) (filter r os)
filtered r true o os = refl
filtered r false o os = refl

next_step : (r l m : Bool) (known next : ℕ) (o : Offer) (os : List Offer) → (r ≡ true → greatest_bid os ≤ o.bid) → nat_le o.bid known ≡ l → next ≡ max known (greatest_bid os)
    → cond r (cond l known (cond m o.bid next)) next ≡ max known (greatest_bid (cond m (cond r (o ∷ os) os) os))
next_step true true true known next o os below e n = omega (arith, below refl, leb-true o.bid known e, greatest_cons o os)
next_step true true false known next o os below e n = omega (arith, below refl, leb-true o.bid known e)
next_step true false true known next o os below e n = omega (arith, below refl, leb-false o.bid known e, greatest_cons o os)
next_step true false false known next o os below e n = n
next_step false l true known next o os below e n = n
next_step false l false known next o os below e n = n

pub next_is : (may : Offer → Bool) (w : Offer) (known : ℕ) (os : List Offer) → is_in_order os ≡ true → next_that_pays may w known os ≡ max known (greatest_bid (rivals w (filter may os)))
next_is may w known [] h = omega arith
next_is may w known (o ∷ os) h =
    let (behind, rest) = and_parts (list_all (stands_before o) os) (is_in_order os) h in
    next_step (is_rival w o) (nat_le o.bid known) (may o) known (next_that_pays may w known os) o (filter (is_rival w) (filter may os))
    (λ r. rivals_below w o r (filter may os) (kept_behind may o os behind)) refl (next_is may w known os rest)
    ∙ ap (λ l. max known (greatest_bid l)) (sym (filtered (is_rival w) (may o) o (filter may os)))

-- beside others
next_beside : (may : Offer → Bool) (w : Offer) (others os : List Offer) → is_in_order os ≡ true
    → next_that_pays may w (greatest_bid (rivals w others)) os ≡ greatest_bid (rivals w (filter may os ++ others))
next_beside may w others os h =
    let known = greatest_bid (rivals w others) in
    next_is may w known os h
    ∙ omega (arith, greatest_append (rivals w (filter may os)) (rivals w others))
    ∙ ap greatest_bid (sym (filter-append (is_rival w) (filter may os) others))

no_rival : (o : Offer) → is_rival o o ≡ false
no_rival o = grind (arith, nat_tests)

-- ---- the sale

abbrev priced : Offer → ℕ → Win
priced o price = record { campaign = o.campaign; pool = o.pool; price = price }

price_is : (offers : List Offer) (o : Offer) (floor next : ℕ) → next ≡ greatest_bid (rivals o offers) → (kind : PriceKind) → price_of kind floor o offers ≡ price_above kind floor o.bid next
price_is offers o floor next e First = refl
price_is offers o floor next e Second = ap (λ n. price_above Second floor o.bid n) (sym e)
price_is offers o floor next e Agreed = refl

win_is : (offers : List Offer) (o : Offer) (t : Terms) (next : ℕ) → next ≡ greatest_bid (rivals o offers) → win_by offers o t ≡ win_above o t next
win_is offers o t next e = ap (priced o) (price_is offers o t.floor next e t.kind)

sold_is : (offers : List Offer) (o : Offer) (next : ℕ) → next ≡ greatest_bid (rivals o offers) → (t : Option Terms) → option_map (λ t. win_by offers o t) t ≡ option_map (λ t. win_above o t next) t
sold_is offers o next e None = refl
sold_is offers o next e (Some t) = ap Some (win_is offers o t next e)

pub outcome_as : (offers : List Offer) (terms : List Terms) (o : Offer) (next : ℕ) → winner offers ≡ Some o → next ≡ greatest_bid (rivals o offers) → outcome offers terms ≡ option_map (λ t. win_above o t next) (slice_get terms o.pool)
outcome_as offers terms o next won e =
    ap (option_and_then (λ (o : Offer). option_map (λ t. win_by offers o t) (slice_get terms o.pool))) won ∙ sold_is offers o next e (slice_get terms o.pool)

at_end : (may : Offer → Bool) (others : List Offer) (terms : List Terms) (best : Option Offer) → winner others ≡ best → outcome others terms ≡ option_and_then (win_at may others terms) (option_map (λ b. (b, [])) best)
at_end may others terms None won = ap (option_and_then (λ (o : Offer). option_map (λ t. win_by others o t) (slice_get terms o.pool))) won
at_end may others terms (Some b) won = outcome_as others terms b (greatest_bid (rivals b others)) won refl

at_best : (may : Offer → Bool) (others : List Offer) (terms : List Terms) (best : Option Offer) (o : Offer) (os : List Offer) → winner others ≡ best → is_beaten_by best o ≡ true → is_in_order (o ∷ os) ≡ true
    → outcome (filter may (o ∷ os) ++ others) terms ≡ option_and_then (win_at may others terms) (option_map (λ b. (b, o ∷ os)) best)
at_best may others terms None o os won e h = absurd (false≢true e)
at_best may others terms (Some b) o os won e h =
    let (behind, rest) = and_parts (list_all (stands_before o) os) (is_in_order os) h in
    outcome_as (filter may (o ∷ os) ++ others) terms b (next_that_pays may b (greatest_bid (rivals b others)) (o ∷ os)) (best_wins may others b o os won e behind) (next_beside may b others (o ∷ os) h)

at_one : (may : Offer → Bool) (others : List Offer) (terms : List Terms) (best : Option Offer) (o : Offer) (os : List Offer) → winner others ≡ best → is_beaten_by best o ≡ false → is_in_order (o ∷ os) ≡ true
    → outcome (o ∷ (filter may os ++ others)) terms ≡ win_at may others terms (o, os)
at_one may others terms best o os won e h =
    let (behind, rest) = and_parts (list_all (stands_before o) os) (is_in_order os) h in
    let all = filter may os ++ others in
    outcome_as (o ∷ all) terms o (next_that_pays may o (greatest_bid (rivals o others)) os) (one_wins may others best o os won e behind)
    (next_beside may o others os rest ∙ ap greatest_bid (sym (cond-false (is_rival o o) (o ∷ rivals o all) (rivals o all) (no_rival o))))

first_of : {X : Type 0} (t m : Bool) (s p f : X) → t ≡ true → cond t s (cond m p f) ≡ s
first_of t m s p f e = cond-true t s (cond m p f) e

second_of : {X : Type 0} (t m : Bool) (s p f : X) → t ≡ false → m ≡ true → cond t s (cond m p f) ≡ p
second_of t m s p f e h = cond-false t s (cond m p f) e ∙ cond-true m p f h

third_of : {X : Type 0} (t m : Bool) (s p f : X) → t ≡ false → m ≡ false → cond t s (cond m p f) ≡ f
third_of t m s p f e h = cond-false t s (cond m p f) e ∙ cond-false m p f h

walked_from : (may : Offer → Bool) (others : List Offer) (terms : List Terms) (best : Option Offer) → winner others ≡ best → (os : List Offer) → is_in_order os ≡ true
    → outcome (filter may os ++ others) terms ≡ option_and_then (win_at may others terms) (first_that_pays may best os)
walked_from may others terms best won [] h = at_end may others terms best won
walked_from may others terms best won (o ∷ os) h =
    let front : List Offer = filter may os in
    let (behind, rest) = and_parts (list_all (stands_before o) os) (is_in_order os) h in
    let stops : Option (Offer × List Offer) = option_map (λ (b : Offer). (b, o ∷ os)) best in
    let further : Option (Offer × List Offer) = first_that_pays may best os in
    let t = is_beaten_by best o in
    let m = may o in
    elim (cases_Bool t) [
      | inl e ↦
          let from = at_best may others terms best o os won e h in
          let here = ap (option_and_then (win_at may others terms)) (sym (first_of t m stops (Some (o, os)) further e)) in
          (from ∙ here)
      | inr e ↦ elim (cases_Bool m) [
        | inl k ↦
            let front_is = ap (λ l. outcome (l ++ others) terms) (cond-true m (o ∷ front) front k) in
            let here = ap (option_and_then (win_at may others terms)) (sym (second_of t m stops (Some (o, os)) further e k)) in
            (front_is ∙ at_one may others terms best o os won e h ∙ here)
        | inr k ↦
            let front_is = ap (λ l. outcome (l ++ others) terms) (cond-false m (o ∷ front) front k) in
            let here = ap (option_and_then (win_at may others terms)) (sym (third_of t m stops (Some (o, os)) further e k)) in
            (front_is ∙ walked_from may others terms best won os rest ∙ here)
      ]
    ]

pub walk_clears : (may : Offer → Bool) (others : List Offer) (terms : List Terms) (os : List Offer) → is_in_order os ≡ true → outcome (filter may os ++ others) terms ≡ walked may others os terms
walk_clears may others terms os h = walked_from may others terms (winner others) refl os h

-- ---- what the walk leaves behind the winner, and the winner's terms

abbrev pub BehindPass : (Offer → Bool) → Option (Offer × List Offer) → Type 0
BehindPass test p = IfSome p (λ (q : Offer × List Offer). list_all test q.1 ≡ true)

best_behind : (test : Offer → Bool) (best : Option Offer) (os : List Offer) → list_all test os ≡ true → BehindPass test (option_map (λ b. (b, os)) best)
best_behind test None os h = tt
best_behind test (Some b) os h = h

pub behind_pass : (may test : Offer → Bool) (best : Option Offer) (os : List Offer) → list_all test os ≡ true → BehindPass test (first_that_pays may best os)
behind_pass may test best [] h = best_behind test best [] h
behind_pass may test best (o ∷ os) h =
    let (first, rest) = and_parts (test o) (list_all test os) h in
    cond_both (is_beaten_by best o) (option_map (λ (b : Offer). (b, o ∷ os)) best) (cond (may o) (Some (o, os)) (first_that_pays may best os)) (BehindPass test)
    (λ e. best_behind test best (o ∷ os) h)
    (λ e. cond_both (may o) (Some (o, os)) (first_that_pays may best os) (BehindPass test) (λ k. rest) (λ k. behind_pass may test best os rest))

abbrev pub FirstPasses : (Offer → Bool) → Option (Offer × List Offer) → Type 0
FirstPasses test p = IfSome p (λ (q : Offer × List Offer). test q.0 ≡ true)

best_passes : (test : Offer → Bool) (best : Option Offer) (os : List Offer) → IfSome best (λ b. test b ≡ true) → FirstPasses test (option_map (λ b. (b, os)) best)
best_passes test None os h = tt
best_passes test (Some b) os h = h

first_passes : (may test : Offer → Bool) (best : Option Offer) → IfSome best (λ b. test b ≡ true) → (os : List Offer) → list_all test os ≡ true → FirstPasses test (first_that_pays may best os)
first_passes may test best b [] h = best_passes test best [] b
first_passes may test best b (o ∷ os) h =
    let (first, rest) = and_parts (test o) (list_all test os) h in
    cond_both (is_beaten_by best o) (option_map (λ (b : Offer). (b, o ∷ os)) best) (cond (may o) (Some (o, os)) (first_that_pays may best os)) (FirstPasses test)
    (λ e. best_passes test best (o ∷ os) b)
    (λ e. cond_both (may o) (Some (o, os)) (first_that_pays may best os) (FirstPasses test) (λ k. first) (λ k. first_passes may test best b os rest))

best_is_fit : (others : List Offer) (terms : List Terms) → list_all (is_fit terms) others ≡ true → (best : Option Offer) → winner others ≡ best → IfSome best (λ b. is_fit terms b ≡ true)
best_is_fit others terms h None won = tt
best_is_fit others terms h (Some b) won = winner_is_fit others terms b h won

pub first_is_fit : (may : Offer → Bool) (others : List Offer) (terms : List Terms) → list_all (is_fit terms) others ≡ true → (os : List Offer) → list_all (is_fit terms) os ≡ true → FirstPasses (is_fit terms) (first_that_pays may (winner others) os)
first_is_fit may others terms h os k = first_passes may (is_fit terms) (winner others) (best_is_fit others terms h (winner others) refl) os k

-- the sale, by what the walk gave
pub winner_fits : (may : Offer → Bool) (others : List Offer) (terms : List Terms) (os : List Offer) (best : Option Offer) (w : Offer) (behind : List Offer) → best ≡ winner others
    → Some (w, behind) ≡ first_that_pays may best os → list_all (is_fit terms) os ≡ true → list_all (is_fit terms) others ≡ true → is_fit terms w ≡ true
winner_fits may others terms os best w behind e found fit fit_others =
    subst (FirstPasses (is_fit terms)) (sym (found ∙ ap (λ b. first_that_pays may b os) e)) (first_is_fit may others terms fit_others os fit)

pub sold_by_walk : (may : Offer → Bool) (others : List Offer) (terms : List Terms) (os : List Offer) (best : Option Offer) (w : Offer) (behind : List Offer) (t : Terms) → is_in_order os ≡ true → best ≡ winner others
    → Some (w, behind) ≡ first_that_pays may best os → slice_get terms w.pool ≡ Some t
    → outcome (filter may os ++ others) terms ≡ Some (win_above w t (next_that_pays may w (greatest_bid (rivals w others)) behind))
sold_by_walk may others terms os best w behind t h e found is =
    walk_clears may others terms os h
    ∙ ap (option_and_then (win_at may others terms)) (sym (found ∙ ap (λ b. first_that_pays may b os) e))
    ∙ ap (option_map (λ (t : Terms). win_above w t (next_that_pays may w (greatest_bid (rivals w others)) behind))) is

pub unsold_by_walk : (may : Offer → Bool) (others : List Offer) (terms : List Terms) (os : List Offer) (best : Option Offer) → is_in_order os ≡ true → best ≡ winner others → None ≡ first_that_pays may best os
    → outcome (filter may os ++ others) terms ≡ None
unsold_by_walk may others terms os best h e found =
    walk_clears may others terms os h ∙ ap (option_and_then (win_at may others terms)) (sym (found ∙ ap (λ b. first_that_pays may b os) e))
