-- How the best are chosen and marked, which the crate's private clauses cite.
use Rattle.std.specs.Prelude.{ℕ, ◌-◌, ◌==◌, List, set, slice_get, if◌then◌else◌, Option, Some, None, option_map}
use Rattle.std.specs.Ordering.{nat_cmp, ordering_then}
use Rattle.std.specs.declared.cmp.Ordering.{Ordering}
use Rattle.target_expr.specs.declared.attr.Attr.{Attr}
use Rattle.cnf_match.specs.Conjunctive.{Cnf, score_of}
use Rattle.top_match.specs.declared.rank.Rank.{Rank}
use Rattle.top_match.specs.declared.scored.Mark.{Mark}
use Rattle.top_match.specs.declared.scored.Mark.TheVariants.{Chosen, False, Later}
use Rattle.top_match.specs.declared.scored.Scored.{Scored}

-- the item with the number, from 1 on
abbrev pub item_at : {X : Type 0} → List X → ℕ → Option X
item_at xs n = if n == 0 then None else slice_get xs (n - 1)

-- the expression with the number, and its score
abbrev pub scored_at : List Cnf → List (Attr × List ℕ) → ℕ → Option Scored
scored_at es a n = option_map (λ (e : Cnf). record { number = n; score = score_of a e.weights }) (item_at es n)

-- what the reason of the expression with the number says of it, where it is true
abbrev pub scored_by : ℕ × Mark → Option Scored
scored_by (n, Chosen) = None
scored_by (n, False clause) = None
scored_by (n, Later score) = Some (record { number = n; score = score })

abbrev pub scored_of : Rank → Scored
scored_of r = record { number = r.number; score = r.score.0 }

-- the least of two ranks comes first
abbrev pub rank_cmp : Rank → Rank → Ordering
rank_cmp x y = ordering_then (nat_cmp y.score.0 x.score.0) (nat_cmp x.number y.number)

-- the marks after one more is chosen
abbrev pub choose : List Mark → Scored → List Mark
choose marks s = if s.number == 0 then marks else set marks (s.number - 1) Chosen
