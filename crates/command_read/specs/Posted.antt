-- What a campaign that is posted is for. Only private clauses cite this.
use Rattle.std.specs.Prelude.{ℕ, List, Option, Some, None}
use Rattle.campaign.specs.declared.parts.FactParts.{FactParts}
use Rattle.plain_exchange.specs.declared.commands.Act.{Act}
use Rattle.plain_exchange.specs.declared.commands.Act.TheVariants as act
use Rattle.target_expr.specs.declared.pred.Pred.{Pred}

-- added, or in place of the campaign of a number
abbrev pub add_or_change : Option ℕ → FactParts → List (List Pred) → Act
add_or_change None = act.Add
add_or_change (Some n) = act.Change n
