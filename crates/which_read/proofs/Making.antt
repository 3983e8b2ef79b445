-- The faults of the expressions that are made.
use Rattle.std.proofs.Common.{◌≡◌, ℕ, List, [], ◌∷◌, map, Some, inl, inr, refl, ap}
use Rattle.json_fields.specs.Answers.{IsFirst}
use Rattle.cnf_match.specs.declared.fault.CnfFault.{CnfFault}
use Rattle.cnf_match.specs.Making.{IsFirstUnlessMemory, first_of}
use Rattle.which_read.specs.declared.fault.WhichFault.{WhichFault}
use Rattle.which_read.specs.Request.{fault_of_making}

first_there : (fs : List CnfFault) (f : CnfFault) → first_of fs ≡ Some f → (rest : List CnfFault) × (fs ≡ f ∷ rest)
first_there [] f e = cc
first_there (g ∷ fs) f e = (fs, let same : g ≡ f = cc in ap (λ h. h ∷ fs) same)

first_at : (i : ℕ) (fs : List CnfFault) (f : CnfFault) → first_of fs ≡ Some f → IsFirst WhichFault.Memory (map (WhichFault.Expression i) fs) (WhichFault.Expression i f)
first_at i fs f e = let (rest, is) = first_there fs f e in record { first = inr (map (WhichFault.Expression i) rest, ap (map (WhichFault.Expression i)) is) }

pub making_first : (i : ℕ) (fs : List CnfFault) (f : CnfFault) → IsFirstUnlessMemory fs f → IsFirst WhichFault.Memory (map (WhichFault.Expression i) fs) (fault_of_making i f)
making_first i fs CnfFault.Memory h = record { first = inl refl }
making_first i fs (CnfFault.TooMany j k) h = first_at i fs (CnfFault.TooMany j k) h
making_first i fs (CnfFault.EmptyClause j) h = first_at i fs (CnfFault.EmptyClause j) h
making_first i fs (CnfFault.UnknownAttr j k) h = first_at i fs (CnfFault.UnknownAttr j k) h
making_first i fs (CnfFault.EmptyList j k) h = first_at i fs (CnfFault.EmptyList j k) h
making_first i fs (CnfFault.Weight at) h = first_at i fs (CnfFault.Weight at) h
