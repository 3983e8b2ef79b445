-- Expressions in conjunctive form as they are written, their faults, and how they are kept.
use Rattle.std.specs.Prelude.{ℕ, ◌≡◌, ◌==◌, ◌&&◌, ◌||◌, nat_lt, true, List, [], ◌∷◌, ◌++◌, ◌+◌, ◌-◌, ◌*◌, ◌%◌, length, take, map, get_or, Bool, if◌then◌else◌, Option, Some, is_none, option_map, find, Result, Ok, Err}
use Rattle.std.specs.List.{list_any, flat_map, filter_map, enumerate_from}
use Rattle.std.specs.Str.{bytes_eq}
use Rattle.target_expr.specs.declared.pred.Pred.{Pred}
use Rattle.target_expr.specs.declared.pred.RawPred.{RawPred}
use Rattle.target_expr.specs.Attributes.{attr_named}
use Rattle.target_expr.specs.Kept.{is_too_much, keep_pred}
use Rattle.cnf_match.specs.declared.fault.CnfFault.{CnfFault}
use Rattle.cnf_match.specs.declared.fault.CnfFault.TheVariants as fault
use Rattle.cnf_match.specs.declared.weight.RawWeight.{RawWeight}
use Rattle.cnf_match.specs.declared.weight.Weight.{Weight}
use Rattle.cnf_match.specs.Conjunctive.{Cnf}

-- ---- faults, in the order of reading

abbrev pub fault_where : Bool → CnfFault → List CnfFault
fault_where b f = if b then f ∷ [] else []

-- of the predicate p at place j of the clause at place i
abbrev pub pred_faults : ℕ → ℕ × RawPred → List CnfFault
pred_faults i (j, p) = fault_where (is_none (attr_named p.attr)) (fault.UnknownAttr i j)
    ++ fault_where (length p.values == 0) (fault.EmptyList i j)
    ++ fault_where (is_too_much p) (fault.TooMany i j)

-- of the clause c at place i
abbrev pub clause_faults : ℕ × List RawPred → List CnfFault
clause_faults (i, c) = fault_where (length c == 0) (fault.EmptyClause i)
    ++ fault_where (nat_lt 16 (length c)) (fault.TooMany i 0)
    ++ flat_map (pred_faults i) (enumerate_from 0 c)

-- the two weigh the same value of the same attribute
abbrev pub same_pair : RawWeight → RawWeight → Bool
same_pair v w = bytes_eq v.attr w.attr && bytes_eq v.value w.value

-- it names no attribute, or its value is too long, or it is too great
abbrev pub is_refused : RawWeight → Bool
is_refused w = is_none (attr_named w.attr) || nat_lt 255 (length w.value) || nat_lt 1000000 w.weight

-- behind these it is the 65th, or refused, or of a pair that was weighed before
abbrev pub is_wrong : List RawWeight → RawWeight → Bool
is_wrong earlier w = (length earlier == 64) || is_refused w || list_any (λ v. same_pair v w) earlier

abbrev pub weight_fault : List RawWeight → ℕ × RawWeight → List CnfFault
weight_fault ws (i, w) = fault_where (is_wrong (take i ws) w) (fault.Weight i)

abbrev pub weight_faults : List RawWeight → List CnfFault
weight_faults ws = flat_map (weight_fault ws) (enumerate_from 0 ws)

abbrev pub clauses_faults : List (List RawPred) → List CnfFault
clauses_faults raw = fault_where (nat_lt 16 (length raw)) (fault.TooMany 0 0) ++ flat_map clause_faults (enumerate_from 0 raw)

abbrev pub faults : List (List RawPred) → List RawWeight → List CnfFault
faults raw ws = clauses_faults raw ++ weight_faults ws

abbrev pub first_of : List CnfFault → Option CnfFault
first_of fs = find (λ _. true) fs

-- the fault is the first of these, or want of memory
abbrev pub IsFirstUnlessMemory : List CnfFault → CnfFault → Type 0
IsFirstUnlessMemory fs fault.Memory = Unit {0}
IsFirstUnlessMemory fs f = first_of fs ≡ Some f

-- the last byte, which private clauses cite
abbrev pub end_of : List ℕ → ℕ
end_of text = get_or text (length text - 1) 0

-- what two weights of one pair have in common, which private clauses cite
abbrev pub mark_of : RawWeight → ℕ
mark_of w = (end_of w.attr * 5 + end_of w.value) % 64

-- both, unless memory was refused for one, which private clauses cite
abbrev pub both_of : {A B E : Type 0} → Result A E → Result B E → Result (A × B) E
both_of (Ok a) (Ok b) = Ok (a, b)
both_of (Ok a) (Err e) = Err e
both_of (Err e) second = Err e

-- ---- what is kept

-- the predicate with its values in byte order, each once
abbrev pub kept_pred : RawPred → Option Pred
kept_pred p = option_map (λ a. keep_pred a p) (attr_named p.attr)

abbrev pub keep_clause : List RawPred → List Pred
keep_clause c = filter_map kept_pred c

abbrev pub kept_weight : RawWeight → Option Weight
kept_weight w = option_map (λ a. record { attr = a; value = w.value; weight = w.weight }) (attr_named w.attr)

-- the clauses and the weights in their order
abbrev pub keep : List (List RawPred) → List RawWeight → Cnf
keep raw ws = record { clauses = map keep_clause raw; weights = filter_map kept_weight ws }
