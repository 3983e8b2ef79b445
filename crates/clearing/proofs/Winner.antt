-- The winner is the one offer that no other beats, and stays so or is replaced as offers come in.
use Rattle.std.proofs.Common.{◌≡◌, ◌+◌, ◌<◌, ◌≤◌, take, add-one, nat_le, ℕ, suc, zero, inl, inr, List, [], ◌∷◌, ◌++◌, Bool, true, false, not, Option, Some, None, length, get_or, refl, sym, ◌∙◌, ap, subst, arith, IsTrue}
use Rattle.std.specs.List.{find, list_all, slice_get, All, Contains}
use Rattle.std.specs.Option.{option_map, option_map_or, option_and_then}
use Rattle.std.proofs.lemmas.Bool.{not-true, not_from_false, cases_Bool, cond-true, cond-false, false≢true, leb-true}
use Rattle.std.proofs.lemmas.Option.{same_Some, none-some}
use Rattle.std.proofs.lemmas.List.{take_all, take_more}
use Rattle.std.proofs.lemmas.List.Elements.{All-contains, All-push, All-weaker, Contains-push, Contains-append_left}
use Rattle.std.proofs.lemmas.List.Sums.{AllPass-from_list_all, list_all-from_AllPass}
use Rattle.clearing.specs.declared.Offer.{Offer}
use Rattle.clearing.specs.declared.Terms.{Terms}
use Rattle.clearing.specs.Clearing.{beats, winner, is_fit, outcome, win_by, IsUnbeaten}
use Rattle.clearing.proofs.Order.{beats-asymmetric, beats-irreflexive, beats-shared, beats-total}

-- what `find` gives is in the list and passes
find_passes : {X : Type 0} (p : X → Bool) (xs : List X) (x : X) → find p xs ≡ Some x → Contains xs x × (p x ≡ true)
find_passes p [] x h = absurd (none-some x h)
find_passes {X} p (y ∷ ys) x h =
    elim (cases_Bool (p y)) [
      | inl e ↦
          let same : y ≡ x = same_Some y x (sym (cond-true (p y) (Some y) (find p ys) e) ∙ h) in
          ((0, omega arith, same), ap p (sym same) ∙ e)
      | inr e ↦
          let ((k, within, is), passes) = find_passes p ys x (sym (cond-false (p y) (Some y) (find p ys) e) ∙ h) in
          ((suc k, omega arith, is), passes)
    ]

-- where something passes, `find` gives something
find_some : {X : Type 0} (p : X → Bool) (xs : List X) (x : X) (k : ℕ) → k < length xs → get_or xs k x ≡ x → p x ≡ true → (y : X) × (find p xs ≡ Some y)
find_some p [] x k within is h = absurd (omega arith)
find_some p (y ∷ ys) x zero within is h = (y, cond-true (p y) (Some y) (find p ys) (ap p is ∙ h))
find_some p (y ∷ ys) x (suc k) within is h =
    elim (cases_Bool (p y)) [
      | inl e ↦ (y, cond-true (p y) (Some y) (find p ys) e)
      | inr e ↦
          let (z, found) = find_some p ys x k (omega arith) is h in
          (z, cond-false (p y) (Some y) (find p ys) e ∙ found)
    ]

pub unbeaten_from_winner : (offers : List Offer) (o : Offer) → winner offers ≡ Some o → IsUnbeaten offers o
unbeaten_from_winner offers o h =
    let (among, passes) = find_passes (λ o. list_all (λ other. not (beats other o)) offers) offers o h in
    (among, AllPass-from_list_all (λ other. not (beats other o)) offers passes)

-- an offer of the list does not beat one that none beats
not_beaten : (offers : List Offer) (o other : Offer) → All (λ other. IsTrue (not (beats other o))) offers → Contains offers other → beats other o ≡ false
not_beaten offers o other unbeaten among = not-true _ (All-contains (λ other. IsTrue (not (beats other o))) offers other unbeaten among)

pub winner_from_unbeaten : (offers : List Offer) (o : Offer) → IsUnbeaten offers o → winner offers ≡ Some o
winner_from_unbeaten offers o ((k, within, is), unbeaten) =
    let passes = list_all-from_AllPass (λ other. not (beats other o)) offers unbeaten in
    let (w, found) = find_some (λ o. list_all (λ other. not (beats other o)) offers) offers o k within is passes in
    let (among, w_unbeaten) = unbeaten_from_winner offers w found in
    let same = beats-total w o (not_beaten offers o w unbeaten among) (not_beaten offers w o w_unbeaten (k, within, is)) in
    found ∙ ap Some same

-- an offer that does not beat the winner changes nothing
pub unbeaten_more : (offers : List Offer) (w x : Offer) → IsUnbeaten offers w → beats x w ≡ false → IsUnbeaten (offers ++ x ∷ []) w
unbeaten_more offers w x (among, unbeaten) h = (
  Contains-append_left offers (x ∷ []) w among,
  All-push (λ other. IsTrue (not (beats other w))) offers x unbeaten (not_from_false _ h),
)

-- one that beats the winner is the new one
pub unbeaten_new : (offers : List Offer) (w x : Offer) → IsUnbeaten offers w → beats x w ≡ true → IsUnbeaten (offers ++ x ∷ []) x
unbeaten_new offers w x (among, unbeaten) h =
    let old : All (λ other. IsTrue (not (beats other x))) offers =
    All-weaker (λ other. IsTrue (not (beats other w))) (λ other. IsTrue (not (beats other x)))
    (λ other k. not_from_false _ (beats-asymmetric x other (beats-shared x other w h (not-true _ k)))) offers unbeaten in
    (Contains-push offers x, All-push (λ other. IsTrue (not (beats other x))) offers x old (not_from_false _ (beats-irreflexive x)))

-- one offer more, counted from the second on
front_more : (offers rest : List Offer) (first x : Offer) (i : ℕ) → offers ≡ first ∷ rest → i < length rest → x ≡ get_or rest i x → take (i + 1 + 1) offers ≡ take (i + 1) offers ++ x ∷ []
front_more offers rest first x i split within is =
    let here : get_or offers (i + 1) x ≡ x = ap (λ o. get_or o (i + 1) x) split ∙ rw add-one (sym is) in
    take_more offers (i + 1) x (omega (arith, ap length split)) ∙ ap (λ y. take (i + 1) offers ++ y ∷ []) here

pub unbeaten_kept : (offers rest : List Offer) (first x w : Offer) (i : ℕ) → offers ≡ first ∷ rest → i < length rest → x ≡ get_or rest i x → IsUnbeaten (take (i + 1) offers) w → beats x w ≡ false → IsUnbeaten (take (i + 1 + 1) offers) w
unbeaten_kept offers rest first x w i split within is unbeaten h =
    subst (λ front. IsUnbeaten front w) (sym (front_more offers rest first x i split within is)) (unbeaten_more (take (i + 1) offers) w x unbeaten h)

pub unbeaten_replaced : (offers rest : List Offer) (first x w : Offer) (i : ℕ) → offers ≡ first ∷ rest → i < length rest → x ≡ get_or rest i x → IsUnbeaten (take (i + 1) offers) w → beats x w ≡ true → IsUnbeaten (take (i + 1 + 1) offers) x
unbeaten_replaced offers rest first x w i split within is unbeaten h =
    subst (λ front. IsUnbeaten front x) (sym (front_more offers rest first x i split within is)) (unbeaten_new (take (i + 1) offers) w x unbeaten h)

-- at the end of the list
pub winner_at_end : (offers : List Offer) (w : Offer) (i : ℕ) → length offers ≤ i → IsUnbeaten (take i offers) w → winner offers ≡ Some w
winner_at_end offers w i past unbeaten = winner_from_unbeaten offers w (subst (λ front. IsUnbeaten front w) (take_all i offers past) unbeaten)

-- where each offer has terms that it meets, so has the winner
pub winner_is_fit : (offers : List Offer) (terms : List Terms) (o : Offer) → list_all (is_fit terms) offers ≡ true → winner offers ≡ Some o → is_fit terms o ≡ true
winner_is_fit offers terms o fit won =
    let (among, unbeaten) = unbeaten_from_winner offers o won in
    All-contains (λ o. is_fit terms o ≡ true) offers o (AllPass-from_list_all (is_fit terms) offers fit) among

-- the terms of an offer that meets them
pub terms_of_fit : (terms : List Terms) (o : Offer) → is_fit terms o ≡ true → (t : Terms) × (slice_get terms o.pool ≡ Some t) × (t.floor ≤ o.bid)
terms_of_fit terms o fit = by_cases terms o (slice_get terms o.pool) refl fit
  where
    by_cases : (terms : List Terms) (o : Offer) (t : Option Terms) → slice_get terms o.pool ≡ t → option_map_or (λ (t : Terms). nat_le t.floor o.bid) t false ≡ true → (t : Terms) × (slice_get terms o.pool ≡ Some t) × (t.floor ≤ o.bid)
    by_cases terms o None is fit = absurd (false≢true fit)
    by_cases terms o (Some t) is fit = (t, is, leb-true t.floor o.bid fit)

pub outcome_at : (offers : List Offer) (terms : List Terms) (o : Offer) (t : Terms) → winner offers ≡ Some o → slice_get terms o.pool ≡ Some t → outcome offers terms ≡ Some (win_by offers o t)
outcome_at offers terms o t won is =
    ap (option_and_then (λ (o : Offer). option_map (λ t. win_by offers o t) (slice_get terms o.pool))) won ∙ ap (option_map (λ t. win_by offers o t)) is
