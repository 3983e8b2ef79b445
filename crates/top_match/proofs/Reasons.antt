-- What the reasons of all expressions say of those that are true.
use Rattle.std.proofs.Common.{◌≡◌, ℕ, ◌+◌, ◌<◌, ◌≤◌, not, List, [], ◌∷◌, ◌++◌, Bool, true, false, cond, Option, Some, None, is_none, is_some, length, get_or, map, take, refl, sym, ◌∙◌, ap, arith}
use Rattle.std.specs.Prelude.{option_map}
use Rattle.std.specs.List.{cons_option, enumerate_from, filter_map}
use Rattle.std.specs.Option.{option_map_or}
use Rattle.std.proofs.lemmas.Bool.{false≢true}
use Rattle.std.proofs.lemmas.List.{map-append, take_all}
use Rattle.std.proofs.lemmas.List.FromFn.{get_or-enumerate_from, length-enumerate_from}
use Rattle.target_expr.specs.declared.attr.Attr.{Attr}
use Rattle.cnf_match.specs.Conjunctive.{Cnf, clause_holds, clauses_hold, first_false, score_of}
use Rattle.cnf_match.proofs.Lists.{all_where_none}
use Rattle.cnf_match.proofs.Turns.{found_step}
use Rattle.top_match.specs.declared.rank.Rank.{Rank}
use Rattle.top_match.specs.declared.scored.Mark.{Mark}
use Rattle.top_match.specs.declared.scored.Mark.TheVariants.{False, Later}
use Rattle.top_match.specs.declared.scored.Scored.{Scored}
use Rattle.top_match.specs.Certificate.{reason}
use Rattle.top_match.specs.Choosing.{scored_by, scored_of}
use Rattle.top_match.specs.Top.{all_scored, scored}
use Rattle.top_match.proofs.Sorted.{mapped_option}

abbrev Pairs : Type 0
Pairs = List (Attr × List ℕ)

as_none : (o : Option ℕ) → not (is_some o) ≡ is_none o
as_none None = refl
as_none (Some n) = refl

pub holds_is : (a : Pairs) (e : Cnf) → clauses_hold a e.clauses ≡ is_none (first_false a e.clauses)
holds_is a e = all_where_none (clause_holds a) e.clauses ∙ as_none (first_false a e.clauses)

-- ---- the reason of one expression

by_reason : (a : Pairs) (n : ℕ) (e : Cnf) → scored_by (n, reason a e) ≡ scored a (n, e)
by_reason a n e = by (first_false a e.clauses) (clauses_hold a e.clauses) (holds_is a e)
  where
    by : (o : Option ℕ) (b : Bool) → b ≡ is_none o → scored_by (n, option_map_or False o (Later (score_of a e.weights))) ≡ cond b (Some (record { number = n; score = score_of a e.weights })) None
    by None true h = refl
    by None false h = absurd (false≢true h)
    by (Some c) true h = absurd (false≢true (sym h))
    by (Some c) false h = refl

from_reasons : (a : Pairs) (n : ℕ) (es : List Cnf) → filter_map scored_by (enumerate_from n (map (reason a) es)) ≡ filter_map (scored a) (enumerate_from n es)
from_reasons a n [] = refl
from_reasons a n (e ∷ es) =
    ap (λ o. cons_option o (filter_map scored_by (enumerate_from (n + 1) (map (reason a) es)))) (by_reason a n e)
    ∙ ap (cons_option (scored a (n, e))) (from_reasons a (n + 1) es)

pub reasons_are : (es : List Cnf) (a : Pairs) (reasons : List Mark) (ss : List Scored) → ss ≡ filter_map scored_by (enumerate_from 1 reasons) → reasons ≡ map (reason a) es → ss ≡ all_scored es a
reasons_are es a reasons ss are is = are ∙ ap (λ l. filter_map scored_by (enumerate_from 1 l)) is ∙ from_reasons a 1 es

-- ---- the loop

next : (marks : List Mark) (i : ℕ) (d : Mark) → i < length marks → (i + 1, get_or marks i d) ≡ get_or (enumerate_from 1 marks) i (i, d)
next marks i d h =
    let first : i + 1 ≡ 1 + i = omega arith in
    ap (λ (n : ℕ). (n, get_or marks i d)) first ∙ sym (get_or-enumerate_from 1 marks i (i, d) h)

pub ranks_more : (marks : List Mark) (i : ℕ) (d : Mark) (old new : List Rank) (o : Option Rank) → i < length marks → new ≡ old ++ cons_option o []
    → map scored_of old ≡ filter_map scored_by (take i (enumerate_from 1 marks)) → option_map scored_of o ≡ scored_by (i + 1, get_or marks i d)
    → map scored_of new ≡ filter_map scored_by (take (i + 1) (enumerate_from 1 marks))
ranks_more marks i d old new o h pushed was is =
    found_step scored_by (enumerate_from 1 marks) [] (map scored_of old) (map scored_of new) i (i, d) (option_map scored_of o)
    (omega (arith, h, length-enumerate_from 1 marks))
    (ap (map scored_of) pushed ∙ map-append scored_of old (cons_option o []) ∙ ap (λ l. map scored_of old ++ l) (mapped_option scored_of o))
    was (is ∙ ap scored_by (next marks i d h))

pub ranks_all : (marks : List Mark) (i : ℕ) (ss : List Scored) → length marks ≤ i → ss ≡ filter_map scored_by (take i (enumerate_from 1 marks)) → ss ≡ filter_map scored_by (enumerate_from 1 marks)
ranks_all marks i ss h was = was ∙ ap (filter_map scored_by) (take_all i (enumerate_from 1 marks) (omega (arith, h, length-enumerate_from 1 marks)))
