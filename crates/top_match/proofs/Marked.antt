-- The marks after one more is chosen.
use Rattle.std.proofs.Common.{◌≡◌, ℕ, zero, suc, ◌+◌, ◌-◌, ◌<◌, ◌≤◌, ◌==◌, ◌||◌, inl, inr, List, [], ◌∷◌, ◌++◌, Bool, true, false, cond, map, set, refl, sym, ◌∙◌, ap, arith, append_assoc}
use Rattle.std.specs.List.{enumerate_from, fold, list_any}
use Rattle.std.proofs.lemmas.Bool.{cases_Bool, eq-eqb, eqb-false, eqb-true, ne_eqb}
use Rattle.std.proofs.lemmas.List.{append-nil}
use Rattle.std.proofs.lemmas.List.Folds.{list_any-append}
use Rattle.target_expr.specs.declared.attr.Attr.{Attr}
use Rattle.cnf_match.specs.Conjunctive.{Cnf}
use Rattle.top_match.specs.declared.scored.Mark.{Mark}
use Rattle.top_match.specs.declared.scored.Mark.TheVariants.{Chosen}
use Rattle.top_match.specs.declared.scored.Scored.{Scored}
use Rattle.top_match.specs.Certificate.{is_chosen, mark_of, marks_of, reason}
use Rattle.top_match.specs.Choosing.{choose}

abbrev Pairs : Type 0
Pairs = List (Attr × List ℕ)

or_false : (a b : Bool) → b ≡ false → (a || (b || false)) ≡ a
or_false true b h = refl
or_false false true h = h
or_false false false h = refl

or_true : (a b : Bool) → b ≡ true → (a || (b || false)) ≡ true
or_true true b h = refl
or_true false true h = refl
or_true false false h = h

one_more : (chosen : List Scored) (s : Scored) (n : ℕ) → is_chosen (chosen ++ s ∷ []) n ≡ (is_chosen chosen n || ((s.number == n) || false))
one_more chosen s n = list_any-append (λ (t : Scored). t.number == n) chosen (s ∷ [])

mark_other : (a : Pairs) (chosen : List Scored) (s : Scored) (n : ℕ) (e : Cnf) → (s.number ≡ n → ⊥) → mark_of a (chosen ++ s ∷ []) (n, e) ≡ mark_of a chosen (n, e)
mark_other a chosen s n e other = ap (λ b. cond b Chosen (reason a e)) (one_more chosen s n ∙ or_false (is_chosen chosen n) (s.number == n) (ne_eqb s.number n other))

mark_this : (a : Pairs) (chosen : List Scored) (s : Scored) (n : ℕ) (e : Cnf) → s.number ≡ n → mark_of a (chosen ++ s ∷ []) (n, e) ≡ Chosen
mark_this a chosen s n e same = ap (λ b. cond b Chosen (reason a e)) (one_more chosen s n ∙ or_true (is_chosen chosen n) (s.number == n) (eq-eqb s.number n same))

others : (a : Pairs) (chosen : List Scored) (s : Scored) (n : ℕ) (es : List Cnf) → s.number < n → map (mark_of a (chosen ++ s ∷ [])) (enumerate_from n es) ≡ map (mark_of a chosen) (enumerate_from n es)
others a chosen s n [] below = refl
others a chosen s n (e ∷ es) below =
    ap (λ m. m ∷ map (mark_of a (chosen ++ s ∷ [])) (enumerate_from (n + 1) es)) (mark_other a chosen s n e (λ same. omega (arith, same, below)))
    ∙ ap (λ l. mark_of a chosen (n, e) ∷ l) (others a chosen s (n + 1) es (omega (arith, below)))

set_one : (a : Pairs) (chosen : List Scored) (s : Scored) (n k : ℕ) (es : List Cnf) → s.number ≡ n + k
    → set (map (mark_of a chosen) (enumerate_from n es)) k Chosen ≡ map (mark_of a (chosen ++ s ∷ [])) (enumerate_from n es)
set_one a chosen s n k [] is = refl
set_one a chosen s n zero (e ∷ es) is =
    ap (λ l. Chosen ∷ l) (sym (others a chosen s (n + 1) es (omega (arith, is))))
    ∙ ap (λ m. m ∷ map (mark_of a (chosen ++ s ∷ [])) (enumerate_from (n + 1) es)) (sym (mark_this a chosen s n e (omega (arith, is))))
set_one a chosen s n (suc k) (e ∷ es) is =
    ap (λ l. mark_of a chosen (n, e) ∷ l) (set_one a chosen s (n + 1) k es (omega (arith, is)))
    ∙ ap (λ m. m ∷ map (mark_of a (chosen ++ s ∷ [])) (enumerate_from (n + 1) es)) (sym (mark_other a chosen s n e (λ same. omega (arith, same, is))))

one_chosen : (es : List Cnf) (a : Pairs) (chosen : List Scored) (s : Scored) → choose (marks_of es a chosen) s ≡ marks_of es a (chosen ++ s ∷ [])
one_chosen es a chosen s =
    elim (cases_Bool (s.number == 0)) [
      | inl is ↦
          let none : s.number ≡ 0 = eqb-true s.number 0 is in
          ap (λ b. cond b (marks_of es a chosen) (set (marks_of es a chosen) (s.number - 1) Chosen)) is ∙ sym (others a chosen s 1 es (omega (arith, none)))
      | inr is ↦
          ap (λ b. cond b (marks_of es a chosen) (set (marks_of es a chosen) (s.number - 1) Chosen)) is ∙ set_one a chosen s 1 (s.number - 1) es (counted s.number (eqb-false s.number 0 is))
    ]
  where
    counted : (n : ℕ) → (n ≡ 0 → ⊥) → n ≡ 1 + (n - 1)
    counted zero some = absurd (some refl)
    counted (suc n) some = omega arith

all_chosen : (es : List Cnf) (a : Pairs) (chosen rest : List Scored) → fold choose (marks_of es a chosen) rest ≡ marks_of es a (chosen ++ rest)
all_chosen es a chosen [] = ap (marks_of es a) (sym (append-nil chosen))
all_chosen es a chosen (s ∷ rest) =
    ap (λ m. fold choose m rest) (one_chosen es a chosen s) ∙ all_chosen es a (chosen ++ s ∷ []) rest ∙ ap (marks_of es a) (append_assoc chosen (s ∷ []) rest)

unmarked : (a : Pairs) (n : ℕ) (es : List Cnf) → map (reason a) es ≡ map (mark_of a []) (enumerate_from n es)
unmarked a n [] = refl
unmarked a n (e ∷ es) = ap (λ l. reason a e ∷ l) (unmarked a (n + 1) es)

pub marks_are : (es : List Cnf) (a : Pairs) (chosen : List Scored) → fold choose (map (reason a) es) chosen ≡ marks_of es a chosen
marks_are es a chosen = ap (λ m. fold choose m chosen) (unmarked a 1 es) ∙ all_chosen es a [] chosen
