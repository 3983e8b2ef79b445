-- Only private clauses cite this file. The campaigns that values reach.
use Rattle.std.specs.Prelude.{ℕ, ◌&&◌, List, Bool, filter, map}
use Rattle.std.specs.List.{enumerate_from}
use Rattle.plain_exchange.specs.State.{Campaign, State}
use Rattle.target_expr.specs.declared.attr.Attr.{Attr}
use Rattle.target_expr.specs.Truth.{holds}

-- the campaign is live, and its expression is true of the values
abbrev pub is_open_to : List (Attr × List ℕ) → Campaign → Bool
is_open_to values c = c.live && holds values c.expr

-- the numbers of those campaigns, rising
abbrev pub open_to : List (Attr × List ℕ) → State → List ℕ
open_to values s = map (λ (p : ℕ × Campaign). p.0) (filter (λ (p : ℕ × Campaign). is_open_to values p.1) (enumerate_from 1 s.campaigns))
