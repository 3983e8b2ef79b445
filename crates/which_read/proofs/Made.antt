-- Expressions that are made and judged while they are read.
use Rattle.std.proofs.Common.{◌≡◌, ℕ, ◌+◌, ◌<◌, List, [], ◌∷◌, ◌++◌, map, take, length, get_or, Option, None, Some, Ok, true, false, is_some, inr, refl, sym, ap, arith, ◌∙◌, subst}
use Rattle.std.specs.Prelude.{Result}
use Rattle.std.proofs.lemmas.Bool.{false≢true}
use Rattle.std.proofs.lemmas.List.{length-map, length-take-le, map_push}
use Rattle.json_fields.specs.Answers.{Answers, map_ok}
use Rattle.json_fields.specs.Readings.{each_at, each_in, give, with_faults, ◌>>◌}
use Rattle.json_fields.proofs.Each.{each_many, each_none, each_push, read_more}
use Rattle.exact_json.specs.Tree.{Tree}
use Rattle.target_expr.specs.declared.attr.Attr.{Attr}
use Rattle.top_match.specs.Certificate.{reason}
use Rattle.top_match.specs.declared.scored.Mark.{Mark}
use Rattle.which_read.specs.declared.expressions.Judging.{Judging}
use Rattle.which_read.specs.declared.fault.WhichFault.{WhichFault}
use Rattle.which_read.specs.declared.request.Judged.{Judged}
use Rattle.which_read.specs.Made.{judged_from, judged_in, unless_fault, unless_first, with_next}
use Rattle.which_read.specs.Request.{Written, expression_at, made_of, making_faults}

abbrev Pairs : Type 0
Pairs = List (Attr × List ℕ)

pub none_judged : (a : Pairs) (g : Judging) → g.reasons.items ≡ [] → g.fault ≡ None → judged_in g ≡ judged_from a []
unfolding judged_from
none_judged a g none right =
    ap (λ o. unless_fault o g.reasons.items) right ∙ ap Ok none ∙ sym (ap (λ fs. unless_first fs (map (reason a) (map made_of []))) (each_none making_faults))

one_more : (a : Pairs) (i : ℕ) (w : Written) (fs : List WhichFault) (ms : List Mark) → with_next a i w (unless_first fs ms) ≡ unless_first (fs ++ making_faults i w) (ms ++ reason a (made_of w) ∷ [])
one_more a i w [] ms = refl
one_more a i w (f ∷ fs) ms = refl

reasons_push : (a : Pairs) (ws : List Written) (w : Written) → map (reason a) (map made_of (ws ++ w ∷ [])) ≡ map (reason a) (map made_of ws) ++ reason a (made_of w) ∷ []
reasons_push a ws w = ap (map (reason a)) (map_push made_of ws w) ∙ map_push (reason a) (map made_of ws) (made_of w)

judged_push : (a : Pairs) (ws : List Written) (w : Written) → with_next a (length ws) w (judged_from a ws) ≡ judged_from a (ws ++ w ∷ [])
unfolding judged_from
judged_push a ws w =
    one_more a (length ws) w (each_at making_faults ws) (map (reason a) (map made_of ws))
    ∙ ap (λ fs. unless_first fs (map (reason a) (map made_of ws) ++ reason a (made_of w) ∷ [])) (sym (each_push making_faults ws w))
    ∙ ap (unless_first (each_at making_faults (ws ++ w ∷ []))) (sym (reasons_push a ws w))

-- the one at place k is judged too
pub judged_more : {V : Type 0} (a : Pairs) (v : V → Tree) (vs : List V) (k : ℕ) (x : V) → k < length vs → x ≡ get_or vs k x
    → with_next a k (expression_at k (v x)).value (judged_from a (each_in expression_at (map v (take k vs))).value) ≡ judged_from a (each_in expression_at (map v (take (k + 1) vs))).value
judged_more a v vs k x h is =
    let front = (each_in expression_at (map v (take k vs))).value in
    let next = (expression_at k (v x)).value in
    let long : length front ≡ k = each_many expression_at (map v (take k vs)) ∙ length-map (take k vs) v ∙ length-take-le k vs (omega (arith, h)) in
    ap (λ n. with_next a n next (judged_from a front)) (sym long) ∙ judged_push a front next ∙ ap (judged_from a) (read_more expression_at v vs k x front next h is refl refl)

-- nothing more is made behind a fault
pub still_faulty : (a : Pairs) (i : ℕ) (w : Written) (g : Judging) → is_some g.fault ≡ true → judged_in g ≡ with_next a i w (judged_in g)
still_faulty a i w g h = by g.fault g.reasons.items h
  where
    by : (o : Option WhichFault) (ms : List Mark) → is_some o ≡ true → unless_fault o ms ≡ with_next a i w (unless_fault o ms)
    by None ms e = absurd (false≢true e)
    by (Some f) ms e = refl

-- before the first fault
pub next_of_right : (a : Pairs) (i : ℕ) (w : Written) (g : Judging) → g.fault ≡ None → with_next a i w (judged_in g) ≡ unless_first (making_faults i w) (g.reasons.items ++ reason a (made_of w) ∷ [])
next_of_right a i w g h = ap (λ o. with_next a i w (unless_fault o g.reasons.items)) h

pub no_fault : (o : Option WhichFault) → is_some o ≡ false → o ≡ None
no_fault None h = refl
no_fault (Some f) h = absurd (false≢true (sym h))

-- ---- a request of what is judged

abbrev pub asked : ℕ → List Mark → Judged
asked n ms = record { n = n; reasons = ms }

answers_first : {A B : Type 0} (g : A → B) (fs : List WhichFault) (x : A) → Answers WhichFault.Memory (fs >> give (g x)) (map_ok g (unless_first fs x))
answers_first g [] x = (refl, refl)
answers_first g (f ∷ fs) x = record { first = inr (fs ++ [], refl) }

pub asked_right : (n : ℕ) (a : Pairs) (ws : List Written) → Answers WhichFault.Memory (each_at making_faults ws >> give (asked n (map (reason a) (map made_of ws)))) (map_ok (asked n) (judged_from a ws))
unfolding judged_from
asked_right n a ws = answers_first (asked n) (each_at making_faults ws) (map (reason a) (map made_of ws))

-- ---- what one call answers

pub clean : {A : Type 0} (fs : List WhichFault) (x y : A) (r : Result A WhichFault) → fs ≡ [] → x ≡ y → Answers WhichFault.Memory (give x) r → Answers WhichFault.Memory (with_faults fs y) r
clean fs x y r none same h =
    subst (λ gs. Answers WhichFault.Memory (with_faults gs y) r) (sym none) (subst (λ z. Answers WhichFault.Memory (give z) r) same h)
