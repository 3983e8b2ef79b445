-- What a check goes through, which the crate's private clauses cite: each place of the certificate once.
use Rattle.std.specs.Prelude.{ℕ, ◌+◌, ◌-◌, ◌==◌, ◌&&◌, nat_le, List, length, count_by, slice_get, Bool, true, false, is_none, Option}
use Rattle.std.specs.List.{enumerate_from, list_all}
use Rattle.std.specs.Option.{option_map_or}
use Rattle.target_expr.specs.declared.attr.Attr.{Attr}
use Rattle.target_expr.specs.Kept.{rise}
use Rattle.cnf_match.specs.Conjunctive.{Cnf, first_false, score_of}
use Rattle.top_match.specs.declared.scored.Mark.{Mark}
use Rattle.top_match.specs.declared.scored.Mark.TheVariants.{Chosen, False, Later}
use Rattle.top_match.specs.declared.scored.Scored.{Scored}
use Rattle.top_match.specs.Choosing.{item_at}
use Rattle.top_match.specs.Top.{is_before}

abbrev pub says_chosen : Mark → Bool
says_chosen Chosen = true
says_chosen (False clause) = false
says_chosen (Later score) = false

-- the chosen one is marked so, and its score is that of its expression
abbrev pub is_shown : List Cnf → List (Attr × List ℕ) → List Mark → Scored → Bool
is_shown es a marks s = option_map_or says_chosen (item_at marks s.number) false
    && option_map_or (λ (e : Cnf). s.score == score_of a e.weights) (item_at es s.number) false

-- it comes behind the last of these, where there is one
abbrev pub is_behind : Option Scored → Scored → Bool
is_behind last s = option_map_or (λ (t : Scored). is_before t s) last true

-- it is true, and its score is this
abbrev pub has_score : List (Attr × List ℕ) → Cnf → ℕ → Bool
has_score a e score = is_none (first_false a e.clauses) && (score == score_of a e.weights)

-- the mark of the expression with the number is right; more may be chosen where it is not full
abbrev pub is_right : List (Attr × List ℕ) → Bool → Option Scored → Mark → ℕ × Cnf → Bool
is_right a full last Chosen (n, e) = is_none (first_false a e.clauses)
is_right a full last (False clause) (n, e) = option_map_or (λ c. c == clause) (first_false a e.clauses) false
is_right a full last (Later score) (n, e) = has_score a e score && full && is_behind last (record { number = n; score = score })

-- the mark at the place is
abbrev pub is_right_at : List Cnf → List (Attr × List ℕ) → Bool → Option Scored → ℕ × Mark → Bool
is_right_at es a full last (i, m) = option_map_or (λ (e : Cnf). is_right a full last m (i + 1, e)) (slice_get es i) false

abbrev pub are_right : List Cnf → List (Attr × List ℕ) → Bool → Option Scored → List Mark → Bool
are_right es a full last marks = list_all (is_right_at es a full last) (enumerate_from 0 marks)

abbrev pub last_of : List Scored → Option Scored
last_of ss = slice_get ss (length ss - 1)

abbrev pub is_certified : List Cnf → List (Attr × List ℕ) → ℕ → List Scored → List Mark → Bool
is_certified es a n chosen marks = (length marks == length es) && nat_le (length chosen) n && rise is_before chosen
    && list_all (is_shown es a marks) chosen && are_right es a (length chosen == n) (last_of chosen) marks
    && (count_by says_chosen marks == length chosen)
