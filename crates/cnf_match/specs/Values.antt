-- The values of a predicate, as they were written or in memory of their own. Only `Values` itself cites this file.
use Rattle.std.specs.Prelude.{ℕ, List}
use Rattle.cnf_match.specs.declared.values.Kept.{Kept}
use Rattle.cnf_match.specs.declared.values.Kept.TheVariants as kept

abbrev pub values_of : Kept → List (List ℕ)
values_of (kept.Written texts) = texts
values_of (kept.Sorted texts) = texts
