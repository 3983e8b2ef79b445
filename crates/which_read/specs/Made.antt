-- Cited by private functions alone: what is made and judged of expressions as they are written, while they are read.
use Rattle.std.specs.Prelude.{ℕ, List, [], ◌∷◌, ◌++◌, map, Option, None, Some, Result, Ok, Err}
use Rattle.target_expr.specs.declared.attr.Attr.{Attr}
use Rattle.json_fields.specs.Readings.{each_at}
use Rattle.top_match.specs.Certificate.{reason}
use Rattle.top_match.specs.declared.scored.Mark.{Mark}
use Rattle.which_read.specs.declared.expressions.Judging.{Judging}
use Rattle.which_read.specs.declared.fault.WhichFault.{WhichFault}
use Rattle.which_read.specs.Request.{Written, made_of, making_faults}

-- the value where there is no fault, else the first
abbrev pub unless_first : {A : Type 0} → List WhichFault → A → Result A WhichFault
unless_first [] x = Ok x
unless_first (f ∷ fs) x = Err f

-- the reasons of the expressions that are written so, or the first fault of making one
unfoldable pub judged_from : List (Attr × List ℕ) → List Written → Result (List Mark) WhichFault
judged_from a ws = unless_first (each_at making_faults ws) (map (reason a) (map made_of ws))

-- the same with one more, written so at place i
abbrev pub with_next : List (Attr × List ℕ) → ℕ → Written → Result (List Mark) WhichFault → Result (List Mark) WhichFault
with_next a i w (Ok reasons) = unless_first (making_faults i w) (reasons ++ reason a (made_of w) ∷ [])
with_next a i w (Err f) = Err f

abbrev pub unless_fault : {A : Type 0} → Option WhichFault → A → Result A WhichFault
unless_fault None x = Ok x
unless_fault (Some f) x = Err f

-- what is judged so far
abbrev pub judged_in : Judging → Result (List Mark) WhichFault
judged_in judging = unless_fault judging.fault judging.reasons.items
