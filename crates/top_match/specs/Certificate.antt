-- Why each expression is among the chosen ones, or is not.
use Rattle.std.specs.Prelude.{ℕ, ◌==◌, List, map, Bool, if◌then◌else◌}
use Rattle.std.specs.List.{enumerate_from, list_any}
use Rattle.std.specs.Option.{option_map_or}
use Rattle.target_expr.specs.declared.attr.Attr.{Attr}
use Rattle.cnf_match.specs.Conjunctive.{Cnf, first_false, score_of}
use Rattle.top_match.specs.declared.scored.Mark.{Mark}
use Rattle.top_match.specs.declared.scored.Mark.TheVariants.{Chosen, False, Later}
use Rattle.top_match.specs.declared.scored.Scored.{Scored}

abbrev pub is_chosen : List Scored → ℕ → Bool
is_chosen chosen n = list_any (λ (s : Scored). s.number == n) chosen

-- of one that is not chosen: its first clause that is false, or else its score
abbrev pub reason : List (Attr × List ℕ) → Cnf → Mark
reason a e = option_map_or False (first_false a e.clauses) (Later (score_of a e.weights))

abbrev pub mark_of : List (Attr × List ℕ) → List Scored → ℕ × Cnf → Mark
mark_of a chosen (n, e) = if is_chosen chosen n then Chosen else reason a e

-- the mark of each expression
abbrev pub marks_of : List Cnf → List (Attr × List ℕ) → List Scored → List Mark
marks_of es a chosen = map (mark_of a chosen) (enumerate_from 1 es)
