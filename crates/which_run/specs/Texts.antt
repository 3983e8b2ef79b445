-- How the answer to a request for the best expressions is written, and how a refusal.
use Rattle.std.specs.Prelude.{ℕ, List, [], ◌∷◌, codes, decimal, map}
use Rattle.json_out.specs.Strings.{string_text}
use Rattle.json_out.specs.Texts.{array_text, object_text}
use Rattle.cnf_match.specs.declared.fault.CnfFault.{CnfFault}
use Rattle.refusal_text.specs.Refusals.{error_text, error_with, field_text}
use Rattle.top_match.specs.declared.scored.Mark.{Mark}
use Rattle.top_match.specs.declared.scored.Scored.{Scored}
use Rattle.which_read.specs.Paths.{which_path}
use Rattle.which_read.specs.declared.fault.WhichFault.{WhichFault}

-- ---- the answer

-- one of the best: its number, and its score
abbrev pub scored_text : Scored → List ℕ
scored_text s = object_text ((codes "expression", decimal s.number) ∷ (codes "score", decimal s.score) ∷ [])

-- a number under a name
abbrev pub one_text : List ℕ → ℕ → List ℕ
one_text name n = object_text ((name, decimal n) ∷ [])

-- why an expression is among the best, or is not
abbrev pub mark_text : Mark → List ℕ
mark_text Mark.Chosen = string_text (codes "chosen")
mark_text (Mark.False clause) = one_text (codes "false") clause
mark_text (Mark.Later score) = one_text (codes "score") score

-- the best, in their order, and the mark of each expression
unfoldable pub best_text : List Scored → List Mark → List ℕ
best_text best marks = object_text ((codes "top", array_text (map scored_text best)) ∷ (codes "proof", array_text (map mark_text marks)) ∷ [])

-- ---- refusals

-- what is wrong with the expression of the number, from 1 on, by the places of the clause and of the predicate in it,
-- from 0 on
abbrev pub predicate_text : List ℕ → ℕ → ℕ → ℕ → List ℕ
predicate_text word n i j = error_with word ((codes "expression", decimal n) ∷ (codes "clause", decimal i) ∷ (codes "predicate", decimal j) ∷ [])

abbrev pub clause_text : List ℕ → ℕ → ℕ → List ℕ
clause_text word n i = error_with word ((codes "expression", decimal n) ∷ (codes "clause", decimal i) ∷ [])

-- by the place of the weight, from 0 on
abbrev pub weight_text : ℕ → ℕ → List ℕ
weight_text n i = error_with (codes "weight") ((codes "expression", decimal n) ∷ (codes "at", decimal i) ∷ [])

abbrev pub cnf_fault_text : ℕ → CnfFault → List ℕ
cnf_fault_text n (CnfFault.TooMany i j) = predicate_text (codes "too-many") n i j
cnf_fault_text n (CnfFault.EmptyClause i) = clause_text (codes "empty-clause") n i
cnf_fault_text n (CnfFault.UnknownAttr i j) = predicate_text (codes "unknown-attr") n i j
cnf_fault_text n (CnfFault.EmptyList i j) = predicate_text (codes "empty-list") n i j
cnf_fault_text n (CnfFault.Weight i) = weight_text n i
cnf_fault_text n CnfFault.Memory = []

-- a JSON text that is no request; want of memory has no text
abbrev pub which_fault_text : WhichFault → List ℕ
which_fault_text WhichFault.NotObject = error_text (codes "not-object")
which_fault_text (WhichFault.Missing field) = field_text (codes "missing") (which_path field)
which_fault_text (WhichFault.WrongType field) = field_text (codes "wrong-type") (which_path field)
which_fault_text (WhichFault.Range field) = field_text (codes "range") (which_path field)
which_fault_text (WhichFault.Expression number fault) = cnf_fault_text number fault
which_fault_text WhichFault.Memory = []
