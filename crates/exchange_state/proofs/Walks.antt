-- Live campaigns in the order of their numbers, walked along with the numbers of those that are true.
use Rattle.std.proofs.Common.{◌≡◌, ℕ, zero, suc, ◌+◌, ◌<◌, ◌≤◌, ◌==◌, inl, inr, List, [], ◌∷◌, ◌++◌, append_assoc, append-nil, Bool, true, false, cond, drop, filter, flat_map, get_or, length, map, nat_lt, slice_get, take, Option, Some, None, refl, sym, ◌∙◌, ap, subst, arith}
use Rattle.std.specs.List.Sorted.{IsNonDecreasingBy}
use Rattle.std.proofs.lemmas.Bool.{cases_lt, eqb-true, false≢true, le-leb, leb-false, lt-leb, ltb-true}
use Rattle.std.proofs.lemmas.Bool.Decides.{nat_tests}
use Rattle.std.proofs.lemmas.List.{drop_all, drop_more, get_or-take, length-take-le}
use Rattle.assign.specs.Rows.{pairs_of}
use Rattle.auction_core.specs.Found.{candidates_among, candidates_by, is_true_of}
use Rattle.campaign_store.specs.declared.listed.LiveRecord.{LiveRecord}
use Rattle.clearing.specs.declared.Offer.{Offer}
use Rattle.conj_index.specs.Campaigns.{DoRise, numbers_of}
use Rattle.conj_index.specs.Find.{true_under}
use Rattle.conj_index.proofs.Members.{Has, Up, filter_has, has_mapped, mapped_has, up_from_increasing}
use Rattle.exchange_state.specs.Finding.{IsPlaceOf, at_head, is_at, behind_of, candidates_at, from_campaign}
use Rattle.index_versions.specs.Versions.{campaigns_of}
use Rattle.index_versions.proofs.Present.{increasing_from_up}
use Rattle.rtb_types.specs.declared.request.BidRequest.{BidRequest}
use Rattle.rtb_types.specs.declared.request.Imp.{Imp}
use Rattle.target_expr.specs.declared.pred.Pred.{Pred}
use Rattle.target_expr.specs.Truth.{holds}

-- ---- numbers

abbrev pub numbers : List LiveRecord → List ℕ
numbers live = numbers_of (campaigns_of live)

apart : (x y : ℕ) → x < y → (x == y) ≡ false
apart x y lt = grind (arith, nat_tests)

apart_back : (x y : ℕ) → y < x → (x == y) ≡ false
apart_back x y lt = grind (arith, nat_tests)

same : (x y : ℕ) → x ≡ y → (x == y) ≡ true
same x y e = grind (arith, nat_tests)

abbrev pub num : LiveRecord → ℕ
num c = c.number

-- the k-th behind the first has a number that is k higher or more
rise_far : (live : List LiveRecord) (c d : LiveRecord) (k : ℕ) → Up (numbers (c ∷ live)) → k < length (c ∷ live) → num c + k ≤ num (get_or (c ∷ live) k d)
rise_far live c d zero up within = omega arith
rise_far [] c d (suc k) up within = absurd (omega (arith, within))
rise_far (x ∷ live) c d (suc k) up within =
    let first : num c < num x = up.0 x.number (inl refl) in
    let far = rise_far live x d k up.1 (omega (arith, within)) in
    omega (arith, first, far)

rise_by : (live : List LiveRecord) (i j : ℕ) (d : LiveRecord) → Up (numbers live) → i ≤ j → j < length live → num (get_or live i d) ≤ num (get_or live j d)
rise_by [] i j d up le within = absurd (omega (arith, within))
rise_by (c ∷ live) zero j d up le within = let far = rise_far live c d j up within in omega (arith, far)
rise_by (c ∷ live) (suc i) zero d up le within = absurd (omega (arith, le))
rise_by (c ∷ live) (suc i) (suc j) d up le within = rise_by live i j d up.1 (omega (arith, le)) (omega (arith, within))

pub numbers_rise : (live : List LiveRecord) → DoRise (campaigns_of live) → IsNonDecreasingBy (λ (c : LiveRecord). c.number) live
numbers_rise live rise = λ i j d le within. rise_by live i j d (up_from_increasing (numbers live) rise) le within

front_has : (w : ℕ) (live : List LiveRecord) (z : ℕ) → Has z (numbers (take w live)) → Has z (numbers live)
front_has zero live z h = absurd h
front_has (suc w) [] z h = absurd h
front_has (suc w) (c ∷ live) z (inl e) = inl e
front_has (suc w) (c ∷ live) z (inr h) = inr (front_has w live z h)

front_up : (w : ℕ) (live : List LiveRecord) → Up (numbers live) → Up (numbers (take w live))
front_up zero live up = tt
front_up (suc w) [] up = tt
front_up (suc w) (c ∷ live) up = ((λ z h. up.0 z (front_has w live z h)), front_up w live up.1)

pub front_rises : (w : ℕ) (live : List LiveRecord) → DoRise (campaigns_of live) → DoRise (campaigns_of (take w live))
front_rises w live rise = increasing_from_up (numbers (take w live)) (front_up w live (up_from_increasing (numbers live) rise))

-- ---- the place of a number

not_below : (m n : ℕ) → n ≤ m → nat_lt m n ≡ false
not_below m n le = lt-leb (suc m) n (omega (arith, le))

-- a place among the first w is one among all, where the number is not further than that
place_among_all : (n w place : ℕ) (c : LiveRecord) (live : List LiveRecord) → DoRise (campaigns_of (c ∷ live)) → w ≤ length (c ∷ live) → (w < length (c ∷ live) → n < num c + w) → place ≤ w → IsPlaceOf n (take w (c ∷ live)) place
    → IsPlaceOf n (c ∷ live) place
place_among_all n w place c live rise there far inside at = (
  (λ k d from to. subst (λ (e : LiveRecord). nat_lt e.number n ≡ true) (get_or-take w (c ∷ live) k d (omega (arith, to, inside))) (at.0 k d from to)),
  behind,
)
  where
    behind : (k : ℕ) (d : LiveRecord) → place ≤ k → k < length (c ∷ live) → nat_lt (num (get_or (c ∷ live) k d)) n ≡ false
    behind k d from to =
        elim (cases_lt k w) [
          | inl lt ↦ subst (λ (e : LiveRecord). nat_lt e.number n ≡ false) (get_or-take w (c ∷ live) k d lt) (at.1 k d from (subst (λ m. k < m) (sym (length-take-le w (c ∷ live) there)) lt))
          | inr le ↦
              let beyond : n < num c + w = far (omega (arith, le, to)) in
              let high = rise_far live c d k (up_from_increasing (numbers (c ∷ live)) rise) to in
              not_below (num (get_or (c ∷ live) k d)) n (omega (arith, beyond, high, le))
        ]

pub place_near : (n w place : ℕ) (live : List LiveRecord) → DoRise (campaigns_of live) → w < length live → ((c : LiveRecord) → slice_get live 0 ≡ Some c → n < num c + w) → place ≤ w → IsPlaceOf n (take w live) place → IsPlaceOf n live place
place_near n w place [] rise there far inside at = absurd (omega (arith, there))
place_near n w place (c ∷ live) rise there far inside at = place_among_all n w place c live rise (omega (arith, there)) (λ lt. far c refl) inside at

-- one that stands at a place has that place

at_has : (n place : ℕ) (live : List LiveRecord) → is_at n live place ≡ true → Has n (numbers live)
at_has n zero [] e = absurd (false≢true e)
at_has n (suc place) [] e = absurd (false≢true e)
at_has n zero (c ∷ live) e = inl (sym (eqb-true c.number n e))
at_has n (suc place) (c ∷ live) e = inr (at_has n place live e)

place_up : (n place : ℕ) (live : List LiveRecord) → Up (numbers live) → is_at n live place ≡ true → (place ≤ length live) × IsPlaceOf n live place
place_up n zero [] up e = absurd (false≢true e)
place_up n (suc place) [] up e = absurd (false≢true e)
place_up n zero (c ∷ live) up e =
    let here = eqb-true c.number n e in
    (omega arith, ((λ k d from to. absurd (omega (arith, to))), (λ k d from to. not_below (num (get_or (c ∷ live) k d)) n (let far = rise_far live c d k up to in omega (arith, far, here)))))
place_up n (suc place) (c ∷ live) up e =
    let (inside, (before, behind)) = place_up n place live up.1 e in
    let first : c.number < n = up.0 n (at_has n place live e) in
    (omega (arith, inside), (below before first, above behind))
  where
    below : ((k : ℕ) (d : LiveRecord) → 0 ≤ k → k < place → nat_lt (num (get_or live k d)) n ≡ true) → c.number < n → (k : ℕ) (d : LiveRecord) → 0 ≤ k → k < suc place → nat_lt (num (get_or (c ∷ live) k d)) n ≡ true
    below before first zero d from to = le-leb (suc c.number) n first
    below before first (suc k) d from to = before k d (omega arith) (omega (arith, to))

    above : ((k : ℕ) (d : LiveRecord) → place ≤ k → k < length live → nat_lt (num (get_or live k d)) n ≡ false) → (k : ℕ) (d : LiveRecord) → suc place ≤ k → k < length (c ∷ live) → nat_lt (num (get_or (c ∷ live) k d)) n ≡ false
    above behind zero d from to = absurd (omega (arith, from))
    above behind (suc k) d from to = behind k d (omega (arith, from)) (omega (arith, to))

pub place_found : (n place : ℕ) (live : List LiveRecord) → DoRise (campaigns_of live) → is_at n live place ≡ true → IsPlaceOf n live place
place_found n place live rise e = (place_up n place live (up_from_increasing (numbers live) rise) e).1

pub place_inside : (n place : ℕ) (live : List LiveRecord) → is_at n live place ≡ true → place ≤ length live
place_inside n zero live e = omega arith
place_inside n (suc place) [] e = absurd (false≢true e)
place_inside n (suc place) (c ∷ live) e = omega (arith, place_inside n place live e)

not_there : (n : ℕ) (live : List LiveRecord) → ((z : ℕ) → Has z (numbers live) → n < z) → from_campaign n live ≡ None
not_there n [] above = refl
not_there n (c ∷ live) above =
    ap (λ b. cond b (Some (c, live)) (from_campaign n live)) (apart_back c.number n (above c.number (inl refl))) ∙ not_there n live (λ z h. above z (inr h))

found_up : (n place : ℕ) (live : List LiveRecord) → Up (numbers live) → IsPlaceOf n live place → from_campaign n live ≡ at_head n (drop place live)
found_up n zero [] up at = refl
found_up n (suc k) [] up at = refl
found_up n zero (c ∷ live) up at =
    let not_less = leb-false (suc c.number) n (at.1 0 c (omega arith) (omega arith)) in
    let first : n ≤ c.number = omega (arith, not_less) in
    ap (λ o. cond (c.number == n) (Some (c, live)) o) (not_there n live (λ z h. let above = up.0 z h in omega (arith, first, above)))
found_up n (suc k) (c ∷ live) up at =
    let below : c.number < n = ltb-true c.number n (at.0 0 c (omega arith) (omega arith)) in
    ap (λ b. cond b (Some (c, live)) (from_campaign n live)) (apart c.number n below)
    ∙ found_up n k live up.1 ((λ j d from to. at.0 (suc j) d (omega arith) (omega (arith, to))), (λ j d from to. at.1 (suc j) d (omega (arith, from)) (omega (arith, to))))

pub found_at_place : (n place : ℕ) (live : List LiveRecord) → DoRise (campaigns_of live) → IsPlaceOf n live place → from_campaign n live ≡ at_head n (drop place live)
found_at_place n place live rise at = found_up n place live (up_from_increasing (numbers live) rise) at

-- ---- one number more

module _ (r : BidRequest) (i : Imp) where
  -- the numbers of those that are true
  abbrev pub trues : List LiveRecord → List ℕ
  trues live = true_under (pairs_of r i) (campaigns_of live)

  true_has : (live : List LiveRecord) (z : ℕ) → Has z (trues live) → Has z (numbers live)
  true_has live z h =
      let (p, has, is) = mapped_has (λ (q : ℕ × List (List Pred)). q.0) (filter (λ (q : ℕ × List (List Pred)). holds (pairs_of r i) q.1) (campaigns_of live)) z h in
      subst (λ n. Has n (numbers live)) is
      (has_mapped (λ (q : ℕ × List (List Pred)). q.0) (campaigns_of live) p (filter_has (λ (q : ℕ × List (List Pred)). holds (pairs_of r i) q.1) (campaigns_of live) p has).0)

  one_true : (n : ℕ) (ns : List ℕ) (live : List LiveRecord) → Up (numbers live) → trues live ≡ n ∷ ns
      → (d : LiveRecord) × (more : List LiveRecord) × (from_campaign n live ≡ Some (d, more)) × (trues more ≡ ns) × (candidates_among live r i ≡ candidates_by r i d ++ candidates_among more r i) × Up (numbers more)
  one_true n ns [] up e = absurd (cc)
  one_true n ns (c ∷ live) up e = by (is_true_of r i c) (λ f. one_true n ns live up.1 f) e
    where
      held : List (ℕ × List (List Pred))
      held = filter (λ (q : ℕ × List (List Pred)). holds (pairs_of r i) q.1) (campaigns_of live)

      kept : List LiveRecord
      kept = filter (is_true_of r i) live

      by : (b : Bool)
          → (trues live ≡ n ∷ ns
          → (d : LiveRecord) × (more : List LiveRecord) × (from_campaign n live ≡ Some (d, more)) × (trues more ≡ ns) × (candidates_among live r i ≡ candidates_by r i d ++ candidates_among more r i) × Up (numbers more))
          → map (λ (q : ℕ × List (List Pred)). q.0) (cond b ((c.number, c.entry.expr) ∷ held) held) ≡ n ∷ ns
          → (d : LiveRecord) × (more : List LiveRecord) × (from_campaign n (c ∷ live) ≡ Some (d, more)) × (trues more ≡ ns) × (flat_map (candidates_by r i) (cond b (c ∷ kept) kept) ≡ candidates_by r i d ++ candidates_among more r i) × Up (numbers more)
      by true later f =
          let head : c.number ≡ n = cc in
          let tail : trues live ≡ ns = cc in
          (c, live, ap (λ b. cond b (Some (c, live)) (from_campaign n live)) (same c.number n head), tail, refl, up.1)
      by false later f =
          let (d, more, at, rest, all, upper) = later f in
          let above : c.number < n = up.0 n (true_has live n (subst (Has n) (sym f) (inl refl))) in
          (d, more, ap (λ b. cond b (Some (c, live)) (from_campaign n live)) (apart c.number n above) ∙ at, rest, all, upper)

  none_true : (live : List LiveRecord) → trues live ≡ [] → candidates_among live r i ≡ []
  none_true [] e = refl
  none_true (c ∷ live) e = by (is_true_of r i c) (λ f. none_true live f) e
    where
      held : List (ℕ × List (List Pred))
      held = filter (λ (q : ℕ × List (List Pred)). holds (pairs_of r i) q.1) (campaigns_of live)

      kept : List LiveRecord
      kept = filter (is_true_of r i) live

      by : (b : Bool) → (trues live ≡ [] → candidates_among live r i ≡ []) → map (λ (q : ℕ × List (List Pred)). q.0) (cond b ((c.number, c.entry.expr) ∷ held) held) ≡ [] → flat_map (candidates_by r i) (cond b (c ∷ kept) kept) ≡ []
      by true later f = absurd (cc)
      by false later f = later f

  -- what is left of the campaigns and of the numbers, and the candidates so far
  pub record IsWalked (live rest : List LiveRecord) (left : List ℕ) (offers : List Offer) : Type 0 where
    pub numbers_left : trues rest ≡ left
    pub all : offers ++ candidates_among rest r i ≡ candidates_among live r i
    pub rise : DoRise (campaigns_of rest)

  pub walked_more : (live rest next : List LiveRecord) (ns : List ℕ) (k : ℕ) (old new : List Offer) → k < length ns → IsWalked live rest (drop k ns) old
      → new ≡ old ++ candidates_at r i (from_campaign (get_or ns k 0) rest) → next ≡ behind_of (from_campaign (get_or ns k 0) rest) → IsWalked live next (drop (k + 1) ns) new
  walked_more live rest next ns k old new within w pushed left =
      let (d, more, at, rest_, all, up) = one_true (get_or ns k 0) (drop (k + 1) ns) rest (up_from_increasing (numbers rest) w.rise) (w.numbers_left ∙ drop_more ns k 0 within) in
      let next_is : next ≡ more = left ∙ ap behind_of at in
      let new_is : new ≡ old ++ candidates_by r i d = pushed ∙ ap (λ o. old ++ candidates_at r i o) at in
      record {
        numbers_left = ap trues next_is ∙ rest_;
        all = ap (λ (l : List LiveRecord). new ++ candidates_among l r i) next_is ∙ ap (λ (os : List Offer). os ++ candidates_among more r i) new_is
            ∙ append_assoc old (candidates_by r i d) (candidates_among more r i) ∙ ap (λ (os : List Offer). old ++ os) (sym all) ∙ w.all;
        rise = subst (λ (l : List LiveRecord). DoRise (campaigns_of l)) (sym next_is) (increasing_from_up (numbers more) up);
      }

  pub walked_all : (live rest : List LiveRecord) (ns : List ℕ) (k : ℕ) (offers : List Offer) → length ns ≤ k → IsWalked live rest (drop k ns) offers → offers ≡ candidates_among live r i
  walked_all live rest ns k offers end w =
      sym (append-nil offers) ∙ ap (λ (os : List Offer). offers ++ os) (sym (none_true rest (w.numbers_left ∙ drop_all k ns end))) ∙ w.all

-- ---- two impressions that the same campaigns are true of, and of which each has the same candidates

some_same : {A : Type 0} (a b : A) → Some a ≡ Some b → a ≡ b
some_same a b e = cc

among_numbers : (r : BidRequest) (i j : Imp) → ((c : LiveRecord) → candidates_by r j c ≡ candidates_by r i c) → (ns : List ℕ) (live : List LiveRecord) → Up (numbers live) → trues r i live ≡ ns → trues r j live ≡ ns
    → candidates_among live r j ≡ candidates_among live r i
among_numbers r i j alike [] live up here there = none_true r j live there ∙ sym (none_true r i live here)
among_numbers r i j alike (n ∷ ns) live up here there =
    let (d, more, at, rest, all, upper) = one_true r i n ns live up here in
    let (e, left, found, others, those, higher) = one_true r j n ns live up there in
    let same : (e, left) ≡ (d, more) = some_same (e, left) (d, more) (sym found ∙ at) in
    let behind : left ≡ more = ap (λ (p : LiveRecord × List LiveRecord). p.1) same in
    those
    ∙ ap (λ (p : LiveRecord × List LiveRecord). candidates_by r j p.0 ++ candidates_among p.1 r j) same
    ∙ ap (λ (os : List Offer). os ++ candidates_among more r j) (alike d)
    ∙ ap (λ (os : List Offer). candidates_by r i d ++ os) (among_numbers r i j alike ns more upper rest (subst (λ (l : List LiveRecord). trues r j l ≡ ns) behind others))
    ∙ sym all

pub same_among : (r : BidRequest) (i j : Imp) (live : List LiveRecord) (ns : List ℕ) → DoRise (campaigns_of live) → ((c : LiveRecord) → candidates_by r j c ≡ candidates_by r i c) → ns ≡ trues r i live → ns ≡ trues r j live
    → candidates_among live r j ≡ candidates_among live r i
same_among r i j live ns rise alike here there = among_numbers r i j alike ns live (up_from_increasing (numbers live) rise) (sym here) (sym there)
