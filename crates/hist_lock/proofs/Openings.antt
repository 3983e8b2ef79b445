-- A lock that is made keeps the rule.
use Rattle.std.proofs.Common.{◌≡◌, ◌⊎◌, ℕ, zero, suc, List, [], ◌∷◌, get_or, set, replicate, refl, sym, ap, ◌∙◌, subst, ⊎_elim, inl, inr, arith}
use Rattle.std.specs.Prelude.{Option, Some, None}
use mathlib.Core.Option.{some, none, some-injective, some-ne-none}
use mathlib.Core.Option as maybe
use lib.ListN.{get_elem?}
use lib.Seq.{set-get_or}
use Rattle.atomic_table.specs.Table.{State, Me, step, takes, gives, Allows, opening}
use Rattle.hist_lock.specs.declared.view.View.{View}
use Rattle.hist_lock.specs.declared.view.Stage.TheVariants.{Fresh, Filling}
use Rattle.hist_lock.specs.Rule.{fresh, Auxiliary, Agrees, Running, Starting, LockRule}
use Rattle.hist_lock.specs.Steps.{first_view, staged, filling, begun}
use Rattle.hist_lock.proofs.Moves.{only_at, only_set}

module _ {S O E : Type 0} (stands : O → S → List E → Type 0) (worker : E → ℕ) where
  abbrev V : Type 0
  V = View O E

  abbrev St : Type 0
  St = State (Option S) V

  abbrev H : Type 0
  H = List (maybe.Option (Option S))

  abbrev M : Type 0
  M = Me (Option S) V

  abbrev F : Type 0
  F = Auxiliary O E

  abbrev Run : St → Type 0
  Run = Running stands worker

  abbrev Rule : St → Type 0
  Rule = LockRule stands worker

  -- How a lock begins.
  pub opens : Rule (opening (0 ∷ 0 ∷ 0 ∷ []) (replicate 1 None) fresh)
  opens = inl (fresh, refl, refl, inl (refl, refl))

  starting : (s : St) → Rule s → (id : ℕ) (v : V) → get_elem? s.views id ≡ some v → (v.stage ≡ Fresh) ⊎ (v.stage ≡ Filling) → Starting stands worker s
  starting s k id v at is = ⊎_elim (λ (b : Starting stands worker s). b)
      (λ (r : Run s). let fit = r.each_seat id v at in absurd (⊎_elim (λ (e : v.stage ≡ Fresh). subst (Agrees worker r.f s.homes id v) e fit) (λ (e : v.stage ≡ Filling). subst (Agrees worker r.f s.homes id v) e fit) is)) k

  fills_with : (slots id : ℕ) → Allows Rule slots id (fresh, []) 2 (λ x. x) (filling (step slots 2 0 0 none) (fresh, []))
  fills_with slots id s k _ at _ =
      let b = starting s k id fresh at (inl refl) in
      let same : b.0 ≡ fresh = only_at b.0 fresh id (subst (λ (vs : List V). get_elem? vs id ≡ some fresh) b.2 at) in
      let w : V = staged Filling fresh in
      let home : s.homes ≡ some None ∷ [] = ⊎_elim (λ t. t.1) (λ (t : (b.0.stage ≡ Filling) × (s.homes ≡ none ∷ [])). let z : Fresh ≡ Filling = ap (λ (u : V). u.stage) (sym same) ∙ t.0 in absurd (cc z)) b.3 in (
        w,
        takes 0 None,
        ap (λ (hs : H). get_elem? hs 0) home,
        inl (
          w,
          set-get_or s.words 2 0 ∙ b.1,
          ap (λ (vs : List V). set vs id w) b.2 ∙ only_set b.0 fresh w id (subst (λ (vs : List V). get_elem? vs id ≡ some fresh) b.2 at),
          inr (refl, ap (λ (hs : H). set hs 0 none) home),
        ),
        refl,
      )

  pub fills : (slots id : ℕ) (me : M) → me ≡ (fresh, []) → Allows Rule slots id me 2 (λ x. x) (filling (step slots 2 0 0 none) me)
  fills slots id me is = subst (λ (m : M). Allows Rule slots id m 2 (λ x. x) (filling (step slots 2 0 0 none) m)) (sym is) (fills_with slots id)

  abbrev first_auxiliary : O → F
  first_auxiliary o = record { origin = o; log = []; drawn = 0; served = 0; made = 1; out = 0; ended = []; seat_of_ticket = λ _. 0; seat_of_worker = λ _. 0 }

  begins_with : (starts : O → Type 0) (slots id : ℕ) (o : O) (x : S) → starts o → stands o x []
      → Allows Rule slots id (staged Filling fresh, (0, Some x) ∷ []) 2 (λ y. y) (begun starts (step slots 2 0 0 none) (staged Filling fresh, (0, Some x) ∷ []))
  begins_with starts slots id o x said means s k _ at _ =
      let v : V = staged Filling fresh in
      let b = starting s k id v at (inr refl) in
      let at' = subst (λ (vs : List V). get_elem? vs id ≡ some v) b.2 at in
      let same : b.0 ≡ v = only_at b.0 v id at' in
      let w : V = first_view o in
      let away : s.homes ≡ none ∷ [] = ⊎_elim (λ (t : (b.0.stage ≡ Fresh) × (s.homes ≡ some None ∷ [])). let z : Filling ≡ Fresh = ap (λ (u : V). u.stage) (sym same) ∙ t.0 in absurd (cc z)) (λ t. t.1) b.3 in
      let views : set s.views id w ≡ w ∷ [] = ap (λ (vs : List V). set vs id w) b.2 ∙ only_set b.0 v w id at' in
      let homes : set s.homes 0 (some (Some x)) ≡ some (Some x) ∷ [] = ap (λ (hs : H). set hs 0 (some (Some x))) away in
      let words : set s.words 2 (get_or s.words 2 0) ≡ 0 ∷ 0 ∷ 0 ∷ [] = set-get_or s.words 2 0 ∙ b.1 in (
        w,
        gives,
        tt,
        subst Rule (λ i. record { words = sym words i; homes = sym homes i; views = sym views i }) (inr (begun_run o x means)),
        (o, said, refl),
      )
    where
      one_seat : (o : O) (homes : H) (i : ℕ) (v : V) → get_elem? (first_view o ∷ []) i ≡ some v → Agrees worker (first_auxiliary o) homes i v v.stage
      one_seat o homes zero v e = subst (λ (u : V). Agrees worker (first_auxiliary o) homes 0 u u.stage) (some-injective (first_view o) v e)
          (record { origin = refl; number = omega arith; seat_of_worker = refl; knows = ([], refl, refl); made = λ _. refl; ended = λ _. refl }, (λ _. refl))
      one_seat o homes (suc i) v e = absurd (some-ne-none v (sym e))

      begun_run : (o : O) (x : S) → stands o x [] → Run record { words = 0 ∷ 0 ∷ 0 ∷ []; homes = some (Some x) ∷ []; views = first_view o ∷ [] }
      begun_run o x means = record {
        f = first_auxiliary o;
        words = refl;
        few = omega arith;
        behind = omega arith;
        value = inl (x, refl, means, omega arith);
        each_seat = one_seat o (some (Some x) ∷ []);
        all_out = refl;
        known = (0, first_view o, refl, refl, refl);
        named = λ _ _. refl;
        each_ended = λ k p e. absurd (some-ne-none p (sym e));
        once = λ i j d e at at' same. absurd (some-ne-none d (sym at));
      }

  pub begins : (starts : O → Type 0) (slots id : ℕ) (me : M) (x : S) → me ≡ (staged Filling fresh, (0, Some x) ∷ []) → (o : O) × starts o × stands o x []
      → Allows Rule slots id me 2 (λ y. y) (begun starts (step slots 2 0 0 none) me)
  begins starts slots id me x is held =
      subst (λ (m : M). Allows Rule slots id m 2 (λ y. y) (begun starts (step slots 2 0 0 none) m)) (sym is) (begins_with starts slots id held.0 x held.1 held.2)
