-- The expressions that are true under an assignment, best first.
use Rattle.std.specs.Prelude.{ℕ, ◌==◌, ◌&&◌, ◌||◌, nat_lt, List, [], ◌∷◌, take, Bool, if◌then◌else◌, Option, Some, None}
use Rattle.std.specs.List.{enumerate_from, filter_map}
use Rattle.target_expr.specs.declared.attr.Attr.{Attr}
use Rattle.cnf_match.specs.Conjunctive.{Cnf, clauses_hold, score_of}
use Rattle.top_match.specs.declared.scored.Scored.{Scored}

-- an expression that is true, with its number and its score
abbrev pub scored : List (Attr × List ℕ) → ℕ × Cnf → Option Scored
scored a (n, e) = if clauses_hold a e.clauses then Some (record { number = n; score = score_of a e.weights }) else None

-- all that are, by number from 1 on
abbrev pub all_scored : List Cnf → List (Attr × List ℕ) → List Scored
all_scored es a = filter_map (scored a) (enumerate_from 1 es)

-- the greater score comes first, and of equal scores the smaller number
abbrev pub is_before : Scored → Scored → Bool
is_before s t = nat_lt t.score s.score || ((s.score == t.score) && nat_lt s.number t.number)

-- put at its place among those that are in order
abbrev pub put_in : Scored → List Scored → List Scored
put_in s [] = s ∷ []
put_in s (t ∷ ts) = if is_before s t then s ∷ t ∷ ts else t ∷ put_in s ts

abbrev pub in_order : List Scored → List Scored
in_order [] = []
in_order (s ∷ ss) = put_in s (in_order ss)

-- the best n
abbrev pub top_list : List Cnf → List (Attr × List ℕ) → ℕ → List Scored
top_list es a n = take n (in_order (all_scored es a))
