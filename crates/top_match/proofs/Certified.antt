-- A certificate that is gone through without a fault is that of the best, and that of the best is.
use Rattle.std.proofs.Common.{◌≡◌, ℕ, zero, suc, ◌+◌, ◌-◌, ◌<◌, ◌≤◌, ◌==◌, ◌&&◌, ◌||◌, ◌⊎◌, inl, inr, nat_le, List, [], ◌∷◌, ◌++◌, Bool, true, false, cond, Option, Some, None, is_none, count_by, drop, length, map, slice_get, take, refl, sym, ◌∙◌, ap, subst, arith}
use Rattle.std.specs.List.{cons_option, enumerate_from, filter_map, list_all, list_any}
use Rattle.std.specs.Option.{option_map_or}
use Rattle.std.proofs.Math.Seq.{take-append_seam}
use Rattle.std.proofs.lemmas.Bool.{and_from, and_parts, cases_Bool, cases_lt, eq-eqb, eqb-false, eqb-true, false≢true, le-leb, leb-true, ne_eqb}
use Rattle.std.proofs.lemmas.List.{length-drop, length-map, length-take, take-append-drop, take_all}
use Rattle.std.proofs.lemmas.List.FromFn.{length-enumerate_from}
use Rattle.std.proofs.lemmas.Option.{same_Some, slice_get_within}
use Rattle.target_expr.specs.declared.attr.Attr.{Attr}
use Rattle.target_expr.specs.Kept.{rise}
use Rattle.cnf_match.specs.Conjunctive.{Cnf, clauses_hold, first_false, score_of}
use Rattle.cnf_match.proofs.Members.{Has, any_has, found_has, has_any, has_either, has_found, has_left, has_mapped, has_right, mapped_has}
use Rattle.cnf_match.proofs.Single.{counted}
use Rattle.top_match.specs.declared.scored.Mark.{Mark}
use Rattle.top_match.specs.declared.scored.Mark.TheVariants.{Chosen, False, Later}
use Rattle.top_match.specs.declared.scored.Scored.{Scored}
use Rattle.top_match.specs.Certificate.{is_chosen, mark_of, marks_of, reason}
use Rattle.top_match.specs.Checking.{are_right, has_score, is_behind, is_certified, is_right, is_right_at, is_shown, last_of, says_chosen}
use Rattle.top_match.specs.Choosing.{item_at}
use Rattle.top_match.specs.Top.{all_scored, in_order, is_before, scored, top_list}
use Rattle.top_match.proofs.Order.{Ordered, before_on, front, has_ordered, in_order_ordered, not_before_itself, one_order, ordered_from_rise, ordered_has, rise_from_ordered}
use Rattle.top_match.proofs.Pigeon.{Distinct, has_all, no_longer}
use Rattle.top_match.proofs.Places.{all_enumerated, all_from_has, all_from_places, all_has, enumerated_has, got_has, item_placed, item_there, mapped_at, mapped_same, none_is, opened, placed, within_at}
use Rattle.top_match.proofs.Reasons.{holds_is}
use Rattle.top_match.proofs.Sorted.{scored_apart}

abbrev Pairs : Type 0
Pairs = List (Attr × List ℕ)

none_some : {X : Type 0} (x : X) → None ≡ Some x → ⊥
none_some x e = cc

-- ---- an expression that is true

scored_as : (s : Scored) (n m : ℕ) → s.number ≡ n → s.score ≡ m → s ≡ record { number = n; score = m }
scored_as s n m e f = (λ i. record { number = e i; score = f i })

-- it stands at the place k
abbrev IsTrueAt : List Cnf → Pairs → Scored → Type 0
IsTrueAt es a t = (k : ℕ) × (e : Cnf) × (slice_get es k ≡ Some e) × (is_none (first_false a e.clauses) ≡ true) × (t ≡ record { number = 1 + k; score = score_of a e.weights })

true_scored : (es : List Cnf) (a : Pairs) (t : Scored) → Has t (all_scored es a) → IsTrueAt es a t
true_scored es a t h =
    let (q, among, is) = found_has (scored a) (enumerate_from 1 es) t h in
    let (k, e, there, same) = placed 1 es q among in
    by k e there (clauses_hold a e.clauses) refl (ap (scored a) (sym same) ∙ is)
  where
    by : (k : ℕ) (e : Cnf) → slice_get es k ≡ Some e → (b : Bool) → clauses_hold a e.clauses ≡ b → cond b (Some (record { number = 1 + k; score = score_of a e.weights })) None ≡ Some t → IsTrueAt es a t
    by k e there true holds is = (k, e, there, sym (holds_is a e) ∙ holds, sym (same_Some (record { number = 1 + k; score = score_of a e.weights }) t is))
    by k e there false holds is = absurd (none_some t is)

scored_true : (es : List Cnf) (a : Pairs) (k : ℕ) (e : Cnf) → slice_get es k ≡ Some e → is_none (first_false a e.clauses) ≡ true → Has (record { number = 1 + k; score = score_of a e.weights }) (all_scored es a)
scored_true es a k e there none =
    let s : Scored = record { number = 1 + k; score = score_of a e.weights } in
    has_found (scored a) (enumerate_from 1 es) (1 + k, e) s (enumerated_has 1 es k e there) (ap (λ b. cond b (Some s) None) (holds_is a e ∙ none))

-- ---- the numbers that are marked

abbrev marked_number : ℕ × Mark → Option ℕ
marked_number (n, m) = cond (says_chosen m) (Some n) None

abbrev marked : ℕ → List Mark → List ℕ
marked s marks = filter_map marked_number (enumerate_from s marks)

marked_count : (s : ℕ) (marks : List Mark) → length (marked s marks) ≡ count_by says_chosen marks
marked_count s [] = refl
marked_count s (m ∷ marks) = by (says_chosen m) (marked_count (s + 1) marks) ∙ sym (counted says_chosen m marks)
  where
    by : (b : Bool) → length (marked (s + 1) marks) ≡ count_by says_chosen marks → length (cons_option (cond b (Some s) None) (marked (s + 1) marks)) ≡ cond b 1 0 + count_by says_chosen marks
    by true later = omega (arith, later)
    by false later = omega (arith, later)

said : (m : Mark) → says_chosen m ≡ true → m ≡ Chosen
said Chosen h = refl
said (False clause) h = absurd (false≢true h)
said (Later score) h = absurd (false≢true h)

marked_place : (s : ℕ) (marks : List Mark) (n : ℕ) → Has n (marked s marks) → (k : ℕ) × (slice_get marks k ≡ Some Chosen) × (n ≡ s + k)
marked_place s marks n h =
    let (q, among, is) = found_has marked_number (enumerate_from s marks) n h in
    let (k, m, there, same) = placed s marks q among in
    by k m there (says_chosen m) refl (ap marked_number (sym same) ∙ is)
  where
    by : (k : ℕ) (m : Mark) → slice_get marks k ≡ Some m → (b : Bool) → says_chosen m ≡ b → cond b (Some (s + k)) None ≡ Some n → (k : ℕ) × (slice_get marks k ≡ Some Chosen) × (n ≡ s + k)
    by k m there true so is = (k, there ∙ ap Some (said m so), sym (same_Some (s + k) n is))
    by k m there false so is = absurd (none_some n is)

place_marked : (marks : List Mark) (k : ℕ) → slice_get marks k ≡ Some Chosen → Has (1 + k) (marked 1 marks)
place_marked marks k there = has_found marked_number (enumerate_from 1 marks) (1 + k, Chosen) (1 + k) (enumerated_has 1 marks k Chosen there) refl

marked_distinct : (s : ℕ) (marks : List Mark) → Distinct (marked s marks)
marked_distinct s [] = tt
marked_distinct s (m ∷ marks) = by (says_chosen m) (marked_distinct (s + 1) marks)
  where
    by : (b : Bool) → Distinct (marked (s + 1) marks) → Distinct (cons_option (cond b (Some s) None) (marked (s + 1) marks))
    by true later = (λ h. let (k, there, is) = marked_place (s + 1) marks s h in omega (arith, is), later)
    by false later = later

-- ---- the numbers that are chosen

abbrev numbers : List Scored → List ℕ
numbers ss = map (λ (s : Scored). s.number) ss

chosen_has : (ss : List Scored) (n : ℕ) → is_chosen ss n ≡ true → (s : Scored) × Has s ss × (s.number ≡ n)
chosen_has ss n h = let (s, among, is) = any_has (λ (s : Scored). s.number == n) ss h in (s, among, eqb-true s.number n is)

has_chosen : (ss : List Scored) (s : Scored) (n : ℕ) → Has s ss → s.number ≡ n → is_chosen ss n ≡ true
has_chosen ss s n h is = has_any (λ (t : Scored). t.number == n) ss s h (eq-eqb s.number n is)

distinct_numbers : (ss : List Scored) → Ordered ss → ((s t : Scored) → Has s ss → Has t ss → s.number ≡ t.number → s ≡ t) → Distinct (numbers ss)
distinct_numbers [] o one = tt
distinct_numbers (s ∷ ss) o one = (λ h. again h, distinct_numbers ss o.1 (λ t u j k. one t u (inr j) (inr k)))
  where
    again : Has s.number (numbers ss) → ⊥
    again h =
        let (t, among, is) = mapped_has (λ (u : Scored). u.number) ss s.number h in
        not_before_itself t (subst (λ (u : Scored). is_before u t ≡ true) (one s t (inl refl) (inr among) (sym is)) (o.0 t among))

-- it is marked, and has the score of its expression
abbrev IsShown : List Cnf → Pairs → List Mark → Scored → Type 0
IsShown es a marks s = (k : ℕ) × (e : Cnf) × (s.number ≡ 1 + k) × (slice_get marks k ≡ Some Chosen) × (slice_get es k ≡ Some e) × (s.score ≡ score_of a e.weights)

shown_from : (es : List Cnf) (a : Pairs) (marks : List Mark) (s : Scored) → is_shown es a marks s ≡ true → IsShown es a marks s
shown_from es a marks s h =
    let parts = and_parts (option_map_or says_chosen (item_at marks s.number) false) (option_map_or (λ (e : Cnf). s.score == score_of a e.weights) (item_at es s.number) false) h in
    let (m, at, says) = opened says_chosen (item_at marks s.number) parts.0 in
    let (e, of, is) = opened (λ (e : Cnf). s.score == score_of a e.weights) (item_at es s.number) parts.1 in
    let (k, number, there) = item_placed marks s.number m at in
    (k, e, number, there ∙ ap Some (said m says), sym (item_there es s.number k number) ∙ of, eqb-true s.score (score_of a e.weights) is)

one_shown : (es : List Cnf) (a : Pairs) (marks : List Mark) (s t : Scored) → IsShown es a marks s → IsShown es a marks t → s.number ≡ t.number → s ≡ t
one_shown es a marks s t (k, e, number, marked_s, there, score) (j, d, its_number, marked_t, its_place, its_score) same =
    let place : k ≡ j = omega (arith, number, its_number, same) in
    let one : e ≡ d = same_Some e d (sym there ∙ ap (slice_get es) place ∙ its_place) in
    let scores : s.score ≡ t.score = score ∙ ap (λ (x : Cnf). score_of a x.weights) one ∙ sym its_score in
    (λ i. record { number = same i; score = scores i })

module _ (es : List Cnf) (a : Pairs) (chosen : List Scored) (marks : List Mark) (order : Ordered chosen) (shown : (s : Scored) → Has s chosen → IsShown es a marks s) where
  shown_distinct : Distinct (numbers chosen)
  shown_distinct = distinct_numbers chosen order (λ s t j k. one_shown es a marks s t (shown s j) (shown t k))

  shown_marked : (n : ℕ) → Has n (numbers chosen) → Has n (marked 1 marks)
  shown_marked n h =
      let (s, among, is) = mapped_has (λ (u : Scored). u.number) chosen n h in
      let (k, e, number, at, there, score) = shown s among in
      let same : 1 + k ≡ n = omega (arith, number, is) in
      subst (λ (m : ℕ). Has m (marked 1 marks)) same (place_marked marks k at)

  marked_where_chosen : (k : ℕ) → is_chosen chosen (1 + k) ≡ true → slice_get marks k ≡ Some Chosen
  marked_where_chosen k h =
      let (s, among, is) = chosen_has chosen (1 + k) h in
      let (j, e, number, at, there, score) = shown s among in
      let same : k ≡ j = omega (arith, number, is) in
      ap (slice_get marks) same ∙ at

  chosen_where_marked : count_by says_chosen marks ≡ length chosen → (k : ℕ) → slice_get marks k ≡ Some Chosen → is_chosen chosen (1 + k) ≡ true
  chosen_where_marked count k at =
      let few : length (marked 1 marks) ≤ length (numbers chosen) = omega (arith, marked_count 1 marks, count, length-map chosen (λ (u : Scored). u.number)) in
      let among = has_all (numbers chosen) (marked 1 marks) shown_distinct shown_marked few (1 + k) (place_marked marks k at) in
      let (s, in_chosen, is) = mapped_has (λ (u : Scored). u.number) chosen (1 + k) among in
      has_chosen chosen s (1 + k) in_chosen is

-- ---- behind the last one is behind all

last_further : (s u : Scored) (ss : List Scored) → last_of (s ∷ u ∷ ss) ≡ last_of (u ∷ ss)
last_further s u ss =
    let next : length (s ∷ u ∷ ss) - 1 ≡ suc (length (u ∷ ss) - 1) = omega arith in
    ap (slice_get (s ∷ u ∷ ss)) next

behind_all : (ss : List Scored) → Ordered ss → (t : Scored) → is_behind (last_of ss) t ≡ true → (w : Scored) → Has w ss → is_before w t ≡ true
behind_all [] o t h w k = absurd k
behind_all (s ∷ []) o t h w (inl e) = subst (λ (v : Scored). is_before v t ≡ true) (sym e) h
behind_all (s ∷ []) o t h w (inr k) = absurd k
behind_all (s ∷ u ∷ ss) o t h w k = by (behind_all (u ∷ ss) o.1 t (ap (λ l. is_behind l t) (sym (last_further s u ss)) ∙ h)) k
  where
    by : ((v : Scored) → Has v (u ∷ ss) → is_before v t ≡ true) → Has w (s ∷ u ∷ ss) → is_before w t ≡ true
    by later (inl e) = subst (λ (v : Scored). is_before v t ≡ true) (sym e) (before_on s u t (o.0 u (inl refl)) (later u (inl refl)))
    by later (inr j) = later w j

-- ---- a mark that is right

right_there : (es : List Cnf) (a : Pairs) (full : Bool) (last : Option Scored) (marks : List Mark) (k : ℕ) (m : Mark) (e : Cnf)
    → are_right es a full last marks ≡ true → slice_get marks k ≡ Some m → slice_get es k ≡ Some e → is_right a full last m (1 + k, e) ≡ true
right_there es a full last marks k m e h at there =
    let start : 0 + k ≡ k = omega arith in
    let next : k + 1 ≡ 1 + k = omega arith in
    let here : option_map_or (λ (x : Cnf). is_right a full last m (k + 1, x)) (slice_get es k) false ≡ true =
    subst (λ j. option_map_or (λ (x : Cnf). is_right a full last m (j + 1, x)) (slice_get es j) false ≡ true) start (all_enumerated (is_right_at es a full last) 0 marks k m h at) in
    subst (λ (j : ℕ). is_right a full last m (j, e) ≡ true) next (sym (ap (λ (o : Option Cnf). option_map_or (λ (x : Cnf). is_right a full last m (k + 1, x)) o false) there) ∙ here)

right_place : (es : List Cnf) (a : Pairs) (full : Bool) (last : Option Scored) (k : ℕ) (m : Mark) (e : Cnf) → slice_get es k ≡ Some e → is_right a full last m (1 + k, e) ≡ true → is_right_at es a full last (0 + k, m) ≡ true
right_place es a full last k m e there h =
    let start : k ≡ 0 + k = omega arith in
    let next : 1 + k ≡ k + 1 = omega arith in
    subst (λ j. option_map_or (λ (x : Cnf). is_right a full last m (j + 1, x)) (slice_get es j) false ≡ true) start
    (ap (λ (o : Option Cnf). option_map_or (λ (x : Cnf). is_right a full last m (k + 1, x)) o false) there ∙ subst (λ (j : ℕ). is_right a full last m (j, e) ≡ true) next h)

not_false_too : (p : ℕ → Bool) (o : Option ℕ) → is_none o ≡ true → option_map_or p o false ≡ true → ⊥
not_false_too p None none h = false≢true h
not_false_too p (Some n) none h = false≢true none

-- ---- what is gone through is the certificate

module _ (es : List Cnf) (a : Pairs) (n : ℕ) (chosen : List Scored) (marks : List Mark) (h : is_certified es a n chosen marks ≡ true) where
  abbrev full : Bool
  full = length chosen == n

  abbrev best : List Scored
  best = in_order (all_scored es a)

  long : length marks ≡ length es
  long = eqb-true (length marks) (length es) (and_parts _ _ (and_parts _ _ (and_parts _ _ (and_parts _ _ (and_parts _ _ h).0).0).0).0).0

  few : length chosen ≤ n
  few = leb-true (length chosen) n (and_parts _ _ (and_parts _ _ (and_parts _ _ (and_parts _ _ (and_parts _ _ h).0).0).0).0).1

  order : Ordered chosen
  order = ordered_from_rise chosen (and_parts _ _ (and_parts _ _ (and_parts _ _ (and_parts _ _ h).0).0).0).1

  shown : (s : Scored) → Has s chosen → IsShown es a marks s
  shown s k = shown_from es a marks s (all_has (is_shown es a marks) chosen (and_parts _ _ (and_parts _ _ (and_parts _ _ h).0).0).1 s k)

  right : are_right es a full (last_of chosen) marks ≡ true
  right = (and_parts _ _ (and_parts _ _ h).0).1

  count : count_by says_chosen marks ≡ length chosen
  count = eqb-true (count_by says_chosen marks) (length chosen) (and_parts _ _ h).1

  in_best : (s : Scored) → Has s chosen → Has s best
  in_best s among =
      let (k, e, number, at, there, score) = shown s among in
      let none = right_there es a full (last_of chosen) marks k Chosen e right at there in
      has_ordered (all_scored es a) s (subst (λ (z : Scored). Has z (all_scored es a)) (sym (scored_as s (1 + k) (score_of a e.weights) number score)) (scored_true es a k e there none))

  abbrev IsLater : Scored → Type 0
  IsLater t = (full ≡ true) × ((w : Scored) → Has w chosen → is_before w t ≡ true)

  of_best : (t : Scored) → Has t best → Has t chosen ⊎ IsLater t
  of_best t among =
      let (k, e, there, none, is) = true_scored es a t (ordered_has (all_scored es a) t among) in
      let below : k < length marks = omega (arith, long, slice_get_within es k e there) in
      let (m, at) = within_at marks k below in
      by k e there none is m at (right_there es a full (last_of chosen) marks k m e right at there)
    where
      by : (k : ℕ) (e : Cnf) → slice_get es k ≡ Some e → is_none (first_false a e.clauses) ≡ true → t ≡ record { number = 1 + k; score = score_of a e.weights }
          → (m : Mark) → slice_get marks k ≡ Some m → is_right a full (last_of chosen) m (1 + k, e) ≡ true → Has t chosen ⊎ IsLater t
      by k e there none is Chosen at r =
          let (s, in_chosen, number) = chosen_has chosen (1 + k) (chosen_where_marked es a chosen marks order shown count k at) in
          let same : t ≡ s = one_shown es a marks t s (k, e, ap (λ (x : Scored). x.number) is, at, there, ap (λ (x : Scored). x.score) is) (shown s in_chosen) (ap (λ (x : Scored). x.number) is ∙ sym number) in
          inl (subst (λ (z : Scored). Has z chosen) (sym same) in_chosen)
      by k e there none is (False clause) at r = absurd (not_false_too (λ c. c == clause) (first_false a e.clauses) none r)
      by k e there none is (Later score) at r =
          let parts = and_parts (has_score a e score && full) (is_behind (last_of chosen) (record { number = 1 + k; score = score })) r in
          let front_parts = and_parts (has_score a e score) full parts.0 in
          let same : score ≡ score_of a e.weights = eqb-true score (score_of a e.weights) (and_parts (is_none (first_false a e.clauses)) (score == score_of a e.weights) front_parts.0).1 in
          let behind : is_behind (last_of chosen) t ≡ true = subst (λ (z : Scored). is_behind (last_of chosen) z ≡ true) (ap (λ v. record { number = 1 + k; score = v }) same ∙ sym is) parts.1 in
          inr (front_parts.1, behind_all chosen order t behind)

  best_ordered : Ordered best
  best_ordered = in_order_ordered (all_scored es a) (scored_apart es a)

  chosen_is : chosen ≡ top_list es a n
  chosen_is = elim (cases_Bool full) [
    | inl so ↦
        let (rest, is) = front chosen best order best_ordered in_best (λ z k. either z (of_best z k)) in
        let size : length chosen ≡ n = eqb-true (length chosen) n so in
        sym (ap (take n) is ∙ ap (λ m. take m (chosen ++ rest)) (sym size) ∙ take-append_seam chosen rest)
    | inr so ↦
        let same : chosen ≡ best = one_order chosen best order best_ordered in_best (λ z k. only z so (of_best z k)) in
        same ∙ sym (take_all n best (omega (arith, few, ap length same)))
  ]
    where
      either : (z : Scored) → Has z chosen ⊎ IsLater z → Has z chosen ⊎ ((w : Scored) → Has w chosen → is_before w z ≡ true)
      either z (inl k) = inl k
      either z (inr later) = inr later.1

      only : (z : Scored) → full ≡ false → Has z chosen ⊎ IsLater z → Has z chosen
      only z so (inl k) = k
      only z so (inr later) = absurd (false≢true (sym so ∙ later.0))

  unchosen : (k : ℕ) (m : Mark) → slice_get marks k ≡ Some m → says_chosen m ≡ false → is_chosen chosen (1 + k) ≡ false
  unchosen k m at other = elim (cases_Bool (is_chosen chosen (1 + k))) [
    | inl so ↦
        let same : Chosen ≡ m = same_Some Chosen m (sym (marked_where_chosen es a chosen marks order shown k so) ∙ at) in
        absurd (false≢true (sym other ∙ ap says_chosen (sym same)))
    | inr not_so ↦ not_so
  ]

  each_mark : (k : ℕ) (m : Mark) (e : Cnf) → slice_get marks k ≡ Some m → slice_get es k ≡ Some e → m ≡ mark_of a chosen (1 + k, e)
  each_mark k m e at there = by m at (right_there es a full (last_of chosen) marks k m e right at there)
    where
      by : (m : Mark) → slice_get marks k ≡ Some m → is_right a full (last_of chosen) m (1 + k, e) ≡ true → m ≡ mark_of a chosen (1 + k, e)
      by Chosen at r = sym (ap (λ b. cond b Chosen (reason a e)) (chosen_where_marked es a chosen marks order shown count k at))
      by (False clause) at r =
          let (c, first, is) = opened (λ c. c == clause) (first_false a e.clauses) r in
          sym (ap (λ b. cond b Chosen (reason a e)) (unchosen k (False clause) at refl)
          ∙ ap (λ o. option_map_or False o (Later (score_of a e.weights))) first ∙ ap False (eqb-true c clause is))
      by (Later score) at r =
          let parts = and_parts (has_score a e score && full) (is_behind (last_of chosen) (record { number = 1 + k; score = score })) r in
          let its_score = and_parts (is_none (first_false a e.clauses)) (score == score_of a e.weights) (and_parts (has_score a e score) full parts.0).0 in
          sym (ap (λ b. cond b Chosen (reason a e)) (unchosen k (Later score) at refl)
          ∙ ap (λ o. option_map_or False o (Later (score_of a e.weights))) (none_is (first_false a e.clauses) its_score.0) ∙ ap Later (sym (eqb-true score (score_of a e.weights) its_score.1)))

  marks_are : marks ≡ marks_of es a chosen
  marks_are = mapped_same (mark_of a chosen) 1 marks es long each_mark

  pub certified_is : (chosen ≡ top_list es a n) × (marks ≡ marks_of es a chosen)
  certified_is = (chosen_is, marks_are)

-- ---- the certificate of the best is gone through

ordered_parts : (xs ys : List Scored) → Ordered (xs ++ ys) → (w u : Scored) → Has w xs → Has u ys → is_before w u ≡ true
ordered_parts [] ys o w u h k = absurd h
ordered_parts (x ∷ xs) ys o w u (inl e) k = subst (λ (v : Scored). is_before v u ≡ true) (sym e) (o.0 u (has_right xs ys u k))
ordered_parts (x ∷ xs) ys o w u (inr h) k = ordered_parts xs ys o.1 w u h k

ordered_front : (xs ys : List Scored) → Ordered (xs ++ ys) → Ordered xs
ordered_front [] ys o = tt
ordered_front (x ∷ xs) ys o = (λ t h. o.0 t (has_left xs ys t h), ordered_front xs ys o.1)

shown_so : (es : List Cnf) (a : Pairs) (marks : List Mark) (s : Scored) → IsShown es a marks s → is_shown es a marks s ≡ true
shown_so es a marks s (k, e, number, at, there, score) =
    and_from (option_map_or says_chosen (item_at marks s.number) false) (option_map_or (λ (x : Cnf). s.score == score_of a x.weights) (item_at es s.number) false)
    (ap (λ o. option_map_or says_chosen o false) (item_there marks s.number k number ∙ at))
    (ap (λ (o : Option Cnf). option_map_or (λ (x : Cnf). s.score == score_of a x.weights) o false) (item_there es s.number k number ∙ there) ∙ eq-eqb s.score (score_of a e.weights) score)

module _ (es : List Cnf) (a : Pairs) (n : ℕ) where
  abbrev all_best : List Scored
  all_best = in_order (all_scored es a)

  abbrev chosen_best : List Scored
  chosen_best = take n all_best

  abbrev left_out : List Scored
  left_out = drop n all_best

  abbrev its_marks : List Mark
  its_marks = marks_of es a chosen_best

  cut : chosen_best ++ left_out ≡ all_best
  cut = take-append-drop n all_best

  cut_ordered : Ordered (chosen_best ++ left_out)
  cut_ordered = subst Ordered (sym cut) (in_order_ordered (all_scored es a) (scored_apart es a))

  chosen_true : (s : Scored) → Has s chosen_best → IsTrueAt es a s
  chosen_true s h = true_scored es a s (ordered_has (all_scored es a) s (subst (λ (l : List Scored). Has s l) cut (has_left chosen_best left_out s h)))

  its_length : length its_marks ≡ length es
  its_length = omega (arith, length-map (enumerate_from 1 es) (mark_of a chosen_best), length-enumerate_from 1 es)

  chosen_shown : (s : Scored) → Has s chosen_best → IsShown es a its_marks s
  chosen_shown s h =
      let (k, e, there, none, is) = chosen_true s h in
      let number : s.number ≡ 1 + k = ap (λ (x : Scored). x.number) is in
      (k, e, number, mapped_at (mark_of a chosen_best) 1 es k e there ∙ ap (λ b. Some (cond b Chosen (reason a e))) (has_chosen chosen_best s (1 + k) h number), there, ap (λ (x : Scored). x.score) is)

  -- one that is true and not chosen is left out
  left_out_has : (k : ℕ) (e : Cnf) → slice_get es k ≡ Some e → is_none (first_false a e.clauses) ≡ true → is_chosen chosen_best (1 + k) ≡ false
      → Has (record { number = 1 + k; score = score_of a e.weights }) left_out
  left_out_has k e there none other =
      let t : Scored = record { number = 1 + k; score = score_of a e.weights } in
      let among : Has t (chosen_best ++ left_out) = subst (λ (l : List Scored). Has t l) (sym cut) (has_ordered (all_scored es a) t (scored_true es a k e there none)) in
      elim (has_either chosen_best left_out t among) [
        | inl in_chosen ↦ absurd (false≢true (sym other ∙ has_chosen chosen_best t (1 + k) in_chosen refl))
        | inr out ↦ out
      ]

  some_left : (ss : List Scored) (t : Scored) → Has t ss → 0 < length ss
  some_left [] t h = absurd h
  some_left (s ∷ ss) t h = omega arith

  full_where_left : (t : Scored) → Has t left_out → length chosen_best ≡ n
  full_where_left t h = omega (arith, some_left left_out t h, length-drop n all_best, length-take n all_best)

  behind_where_left : (t : Scored) → Has t left_out → is_behind (last_of chosen_best) t ≡ true
  behind_where_left t h = by (last_of chosen_best) refl
    where
      by : (o : Option Scored) → last_of chosen_best ≡ o → is_behind o t ≡ true
      by None is = refl
      by (Some w) is = ordered_parts chosen_best left_out cut_ordered w t (got_has chosen_best (length chosen_best - 1) w is) h

  mark_right : (k : ℕ) (e : Cnf) → slice_get es k ≡ Some e → is_right a (length chosen_best == n) (last_of chosen_best) (mark_of a chosen_best (1 + k, e)) (1 + k, e) ≡ true
  mark_right k e there = by (is_chosen chosen_best (1 + k)) (first_false a e.clauses) refl refl
    where
      by : (b : Bool) (o : Option ℕ) → is_chosen chosen_best (1 + k) ≡ b → first_false a e.clauses ≡ o
          → is_right a (length chosen_best == n) (last_of chosen_best) (cond b Chosen (option_map_or False o (Later (score_of a e.weights)))) (1 + k, e) ≡ true
      by true o so first =
          let (s, among, number) = chosen_has chosen_best (1 + k) so in
          let (j, d, its_place, none, is) = chosen_true s among in
          let same : k ≡ j = omega (arith, number, ap (λ (x : Scored). x.number) is) in
          let one : e ≡ d = same_Some e d (sym there ∙ ap (slice_get es) same ∙ its_place) in
          ap (λ (x : Cnf). is_none (first_false a x.clauses)) one ∙ none
      by false (Some c) so first = ap (λ p. option_map_or (λ x. x == c) p false) first ∙ eq-eqb c c refl
      by false None so first =
          let none : is_none (first_false a e.clauses) ≡ true = ap is_none first in
          let out = left_out_has k e there none so in
          let t : Scored = record { number = 1 + k; score = score_of a e.weights } in
          and_from _ _ (and_from _ _ (and_from _ _ none (eq-eqb (score_of a e.weights) (score_of a e.weights) refl)) (eq-eqb (length chosen_best) n (full_where_left t out))) (behind_where_left t out)

  all_right : are_right es a (length chosen_best == n) (last_of chosen_best) its_marks ≡ true
  all_right = all_from_places (is_right_at es a (length chosen_best == n) (last_of chosen_best)) 0 its_marks each
    where
      each : (k : ℕ) (m : Mark) → slice_get its_marks k ≡ Some m → is_right_at es a (length chosen_best == n) (last_of chosen_best) (0 + k, m) ≡ true
      each k m at =
          let (e, there) = within_at es k (omega (arith, slice_get_within its_marks k m at, its_length)) in
          let is : mark_of a chosen_best (1 + k, e) ≡ m = same_Some (mark_of a chosen_best (1 + k, e)) m (sym (mapped_at (mark_of a chosen_best) 1 es k e there) ∙ at) in
          right_place es a (length chosen_best == n) (last_of chosen_best) k m e there
          (subst (λ (x : Mark). is_right a (length chosen_best == n) (last_of chosen_best) x (1 + k, e) ≡ true) is (mark_right k e there))

  -- the mark says chosen exactly where it is
  marked_chosen : (k : ℕ) → slice_get its_marks k ≡ Some Chosen → is_chosen chosen_best (1 + k) ≡ true
  marked_chosen k at =
      let (e, there) = within_at es k (omega (arith, slice_get_within its_marks k Chosen at, its_length)) in
      let is : mark_of a chosen_best (1 + k, e) ≡ Chosen = same_Some (mark_of a chosen_best (1 + k, e)) Chosen (sym (mapped_at (mark_of a chosen_best) 1 es k e there) ∙ at) in
      by e (is_chosen chosen_best (1 + k)) (first_false a e.clauses) is
    where
      by : (e : Cnf) (b : Bool) (o : Option ℕ) → cond b Chosen (option_map_or False o (Later (score_of a e.weights))) ≡ Chosen → b ≡ true
      by e true o is = refl
      by e false None is = absurd (false≢true (ap says_chosen is))
      by e false (Some c) is = absurd (false≢true (ap says_chosen is))

  same_count : count_by says_chosen its_marks ≡ length chosen_best
  same_count =
      let order = ordered_front chosen_best left_out cut_ordered in
      let no_more = no_longer (marked 1 its_marks) (numbers chosen_best) (marked_distinct 1 its_marks) among in
      let no_less = no_longer (numbers chosen_best) (marked 1 its_marks) (shown_distinct es a chosen_best its_marks order chosen_shown) (shown_marked es a chosen_best its_marks order chosen_shown) in
      omega (arith, no_more, no_less, marked_count 1 its_marks, length-map chosen_best (λ (u : Scored). u.number))
    where
      among : (m : ℕ) → Has m (marked 1 its_marks) → Has m (numbers chosen_best)
      among m h =
          let (k, at, is) = marked_place 1 its_marks m h in
          let (s, in_chosen, number) = chosen_has chosen_best (1 + k) (marked_chosen k at) in
          subst (λ (x : ℕ). Has x (numbers chosen_best)) (number ∙ sym is) (has_mapped (λ (u : Scored). u.number) chosen_best s in_chosen)

  best_certified : is_certified es a n chosen_best its_marks ≡ true
  best_certified =
      let size : length chosen_best ≤ n = omega (arith, length-take n all_best) in
      and_from _ _ (and_from _ _ (and_from _ _ (and_from _ _ (and_from _ _
      (eq-eqb (length its_marks) (length es) its_length)
      (le-leb (length chosen_best) n size))
      (rise_from_ordered chosen_best (ordered_front chosen_best left_out cut_ordered)))
      (all_from_has (is_shown es a its_marks) chosen_best (λ s h. shown_so es a its_marks s (chosen_shown s h))))
      all_right)
      (eq-eqb (count_by says_chosen its_marks) (length chosen_best) same_count)

pub top_certified : (es : List Cnf) (a : Pairs) (n : ℕ) (chosen : List Scored) (marks : List Mark) → chosen ≡ top_list es a n → marks ≡ marks_of es a chosen → is_certified es a n chosen marks ≡ true
top_certified es a n chosen marks best its =
    ap (is_certified es a n chosen) its ∙ ap (λ (s : List Scored). is_certified es a n s (marks_of es a s)) best ∙ best_certified es a n
