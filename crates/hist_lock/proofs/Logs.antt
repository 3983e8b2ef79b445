-- Lists of entries, and how many seats are out.
use Rattle.std.proofs.Common.{◌≡◌, ◌≢◌, ◌⊎◌, ℕ, zero, suc, ◌+◌, ◌≤◌, Bool, true, false, List, [], ◌∷◌, ◌++◌, length, set, refl, sym, ap, ◌∙◌, ⊎_elim, inl, inr, arith, append_assoc, length-append, ne_eqb, eq-eqb}
use Rattle.std.proofs.lemmas.List.{append-nil}
use Rattle.std.specs.Prelude.{if◌then◌else◌, ◌==◌}
use mathlib.Core.Option.{some, some-injective, some-ne-none}
use mathlib.Core.List.{IsPrefix}
use lib.ListN.{get_elem?}
use Rattle.hist_lock.specs.declared.view.View.{View}
use Rattle.hist_lock.specs.Entries.{entries_of, KnowsOwn}
use Rattle.hist_lock.specs.Rule.{weight, live}

module _ {E : Type 0} (worker : E → ℕ) (w : ℕ) where
  kept_first : (b : Bool) (e : E) (xs ys zs : List E) → xs ≡ ys ++ zs → (if b then e ∷ xs else xs) ≡ (if b then e ∷ ys else ys) ++ zs
  kept_first true e xs ys zs p = ap (λ l. e ∷ l) p
  kept_first false e xs ys zs p = p

  pub entries_of-append : (xs ys : List E) → entries_of worker w (xs ++ ys) ≡ entries_of worker w xs ++ entries_of worker w ys
  entries_of-append [] ys = refl
  entries_of-append (x ∷ xs) ys = kept_first (worker x == w) x (entries_of worker w (xs ++ ys)) (entries_of worker w xs) (entries_of worker w ys) (entries_of-append xs ys)

  pub entries_of-other : (e : E) → worker e ≢ w → entries_of worker w (e ∷ []) ≡ []
  entries_of-other e ne = ap (λ (b : Bool). if b then e ∷ [] else []) (ne_eqb (worker e) w ne)

  pub entries_of-own : (e : E) → worker e ≡ w → entries_of worker w (e ∷ []) ≡ e ∷ []
  entries_of-own e is = ap (λ (b : Bool). if b then e ∷ [] else []) (eq-eqb (worker e) w is)

  pub entries_of-snoc : (xs : List E) (e : E) → entries_of worker w xs ≡ [] → worker e ≢ w → entries_of worker w (xs ++ e ∷ []) ≡ []
  entries_of-snoc xs e none ne = entries_of-append xs (e ∷ []) ∙ (λ i. none i ++ entries_of-other e ne i)

  pub knows-self : (log : List E) → KnowsOwn worker w log log
  knows-self log = ([], sym (append-nil log), refl)

  pub knows-add : (seen log : List E) (e : E) → KnowsOwn worker w seen log → worker e ≢ w → KnowsOwn worker w seen (log ++ e ∷ [])
  knows-add seen log e k ne = (k.0 ++ e ∷ [], ap (λ l. l ++ e ∷ []) k.1 ∙ append_assoc seen k.0 (e ∷ []), entries_of-snoc k.0 e k.2 ne)

  pub knows-entries : (seen log : List E) → KnowsOwn worker w seen log → entries_of worker w log ≡ entries_of worker w seen
  knows-entries seen log k = ap (entries_of worker w) k.1 ∙ (entries_of-append seen k.0 ∙ (ap (λ l. entries_of worker w seen ++ l) k.2 ∙ append-nil (entries_of worker w seen)))

  no_parts : (xs ys : List E) → xs ++ ys ≡ [] → (xs ≡ []) × (ys ≡ [])
  no_parts [] ys p = (refl, p)
  no_parts (x ∷ xs) ys p = absurd (cc p)

  -- what no entry of the whole names, none of its beginning and none of its rest does
  pub none-parts : (xs ys : List E) → entries_of worker w (xs ++ ys) ≡ [] → (entries_of worker w xs ≡ []) × (entries_of worker w ys ≡ [])
  none-parts xs ys p = no_parts (entries_of worker w xs) (entries_of worker w ys) (sym (entries_of-append xs ys) ∙ p)

pub prefix-snoc : {E : Type 0} (xs ys : List E) (e : E) → IsPrefix xs ys → IsPrefix xs (ys ++ e ∷ [])
prefix-snoc xs ys e p = (p.0 ++ e ∷ [], sym (append_assoc xs p.0 (e ∷ [])) ∙ ap (λ l. l ++ e ∷ []) p.1)

pub set_at : {A : Type 0} (vs : List A) (i : ℕ) (v w : A) → get_elem? vs i ≡ some v → get_elem? (set vs i w) i ≡ some w
set_at [] i v w e = absurd (some-ne-none v (sym e))
set_at (x ∷ xs) zero v w e = refl
set_at (x ∷ xs) (suc i) v w e = set_at xs i v w e

module _ {O E : Type 0} where
  pub live-set : (vs : List (View O E)) (i : ℕ) (v w : View O E) → get_elem? vs i ≡ some v → live (set vs i w) + weight v.stage ≡ live vs + weight w.stage
  live-set [] i v w e = absurd (some-ne-none v (sym e))
  live-set (x ∷ xs) zero v w e = let k : weight x.stage ≡ weight v.stage = ap (λ (u : View O E). weight u.stage) (some-injective x v e) in omega arith
  live-set (x ∷ xs) (suc i) v w e = let k = live-set xs i v w e in omega arith

  pub live-snoc : (vs : List (View O E)) (w : View O E) → live (vs ++ w ∷ []) ≡ live vs + weight w.stage
  live-snoc [] w = omega arith
  live-snoc (x ∷ xs) w = let k = live-snoc xs w in omega arith

  pub live-at : (vs : List (View O E)) (i : ℕ) (v : View O E) → get_elem? vs i ≡ some v → weight v.stage ≤ live vs
  live-at [] i v e = absurd (some-ne-none v (sym e))
  live-at (x ∷ xs) zero v e = let k : weight x.stage ≡ weight v.stage = ap (λ (u : View O E). weight u.stage) (some-injective x v e) in omega arith
  live-at (x ∷ xs) (suc i) v e = let k = live-at xs i v e in omega arith

  -- where one seat is live, two that are live are one
  pub live-one : (vs : List (View O E)) (i j : ℕ) (v u : View O E) → get_elem? vs i ≡ some v → get_elem? vs j ≡ some u → weight v.stage ≡ 1 → weight u.stage ≡ 1 → live vs ≡ 1 → i ≡ j
  live-one [] i j v u a b p q one = absurd (some-ne-none v (sym a))
  live-one (x ∷ xs) zero zero v u a b p q one = refl
  live-one (x ∷ xs) zero (suc j) v u a b p q one =
      let k : weight x.stage ≡ weight v.stage = ap (λ (y : View O E). weight y.stage) (some-injective x v a) in let m = live-at xs j u b in absurd (omega arith)
  live-one (x ∷ xs) (suc i) zero v u a b p q one =
      let k : weight x.stage ≡ weight u.stage = ap (λ (y : View O E). weight y.stage) (some-injective x u b) in let m = live-at xs i v a in absurd (omega arith)
  live-one (x ∷ xs) (suc i) (suc j) v u a b p q one = let m = live-at xs i v a in ap suc (live-one xs i j v u a b p q (omega arith))

pub at_end : {A : Type 0} (l : List A) (a b : A) (j : ℕ) → get_elem? (l ++ a ∷ []) j ≡ some b → (get_elem? l j ≡ some b) ⊎ ((j ≡ length l) × (a ≡ b))
at_end [] a b zero e = inr (refl, some-injective a b e)
at_end [] a b (suc j) e = absurd (some-ne-none b (sym e))
at_end (x ∷ xs) a b zero e = inl e
at_end (x ∷ xs) a b (suc j) e = ⊎_elim (λ t. inl t) (λ t. inr (let k = t.0 in omega arith, t.1)) (at_end xs a b j e)

-- of two beginnings of one list the shorter begins the longer
pub overtakes : {E : Type 0} (a b p q : List E) → a ++ p ≡ b ++ q → length a ≤ length b → (mid : List E) × (b ≡ a ++ mid) × (p ≡ mid ++ q)
overtakes [] b p q e le = (b, refl, e)
overtakes (x ∷ xs) [] p q e le = absurd (omega arith)
overtakes (x ∷ xs) (y ∷ ys) p q e le =
    let heads : x ≡ y = cc e in
    let tails : xs ++ p ≡ ys ++ q = cc e in
    let r = overtakes xs ys p q tails (omega arith) in (r.0, cc (heads, r.1), r.2)

-- a beginning as long as the whole is the whole
pub whole : {E : Type 0} (a log p : List E) → log ≡ a ++ p → length log ≤ length a → a ≡ log
whole a log p e le =
    let n : length log ≡ length a + length p = ap length e ∙ length-append a p in
    let r = overtakes log a [] p (append-nil log ∙ e) le in
    let k : length a ≡ length log + length r.0 = ap length r.1 ∙ length-append log r.0 in
    r.1 ∙ ap (λ l. log ++ l) (none_left r.0 (omega arith)) ∙ append-nil log
  where
    none_left : {E : Type 0} (l : List E) → length l ≡ 0 → l ≡ []
    none_left [] z = refl
    none_left (x ∷ xs) z = absurd (omega arith)
