-- Expressions as they are written, their faults, and how they are kept.
use Rattle.std.specs.Prelude.{ℕ, ◌==◌, ◌&&◌, ◌||◌, nat_lt, nat_le, List, [], ◌∷◌, ◌++◌, length, take, map, ◌≡◌, Bool, true, if◌then◌else◌, Option, Some, is_none, option_map, find}
use Rattle.std.specs.List.{list_all, list_any, flat_map, filter_map, enumerate_from}
use Rattle.std.specs.Str.{bytes_eq}
use Rattle.std.specs.Ordering.{nat_cmp, is_lt}
use Rattle.std.specs.declared.cmp.Ordering.{Ordering}
use Rattle.std.specs.declared.cmp.Ordering.TheVariants.{Less, Equal, Greater}
use Rattle.std.specs.Cmp.Lexicographic.{slice_cmp}
use Rattle.target_expr.specs.declared.attr.Attr.{Attr}
use Rattle.target_expr.specs.declared.fault.ExprFault.{ExprFault}
use Rattle.target_expr.specs.declared.fault.ExprFault.TheVariants.{NoConjunction, EmptyList, AttrTwice, TooMany, UnknownAttr, Memory}
use Rattle.target_expr.specs.declared.pred.RawPred.{RawPred}
use Rattle.target_expr.specs.declared.pred.Pred.{Pred}
use Rattle.target_expr.specs.Attributes.{attributes, name_of, attr_named, number_of}

-- ---- faults, in the order of reading

abbrev pub fault_where : Bool → ExprFault → List ExprFault
fault_where b f = if b then f ∷ [] else []

-- more values than the limit as they are written, or one that is too long
abbrev pub is_too_much : RawPred → Bool
is_too_much p = nat_lt 256 (length p.values) || list_any (λ v. nat_lt 255 (length v)) p.values

-- of the predicate p at place j of the conjunction c, which stands at place i
abbrev pub pred_faults : ℕ → List RawPred → ℕ × RawPred → List ExprFault
pred_faults i c (j, p) = fault_where (is_none (attr_named p.attr)) (UnknownAttr i j)
    ++ fault_where (list_any (λ (q : RawPred). bytes_eq q.attr p.attr) (take j c)) (AttrTwice i j)
    ++ fault_where (length p.values == 0) (EmptyList i j)
    ++ fault_where (is_too_much p) (TooMany i j)

-- of the conjunction c at place i
abbrev pub conjunction_faults : ℕ × List RawPred → List ExprFault
conjunction_faults (i, c) = fault_where (nat_lt 16 (length c)) (TooMany i 0)
    ++ flat_map (pred_faults i c) (enumerate_from 0 c)

abbrev pub faults : List (List RawPred) → List ExprFault
faults raw = fault_where (length raw == 0) NoConjunction
    ++ fault_where (nat_lt 64 (length raw)) (TooMany 0 0)
    ++ flat_map conjunction_faults (enumerate_from 0 raw)

abbrev pub first_of : List ExprFault → Option ExprFault
first_of fs = find (λ _. true) fs

-- ---- what is kept

-- one of three, by an order
abbrev pub by_order : {A : Type 0} → Ordering → A → A → A → A
by_order Less x y z = x
by_order Equal x y z = y
by_order Greater x y z = z

-- the text among others that stand in byte order, at its place, and once
abbrev pub put_in : List ℕ → List (List ℕ) → List (List ℕ)
put_in t [] = t ∷ []
put_in t (x ∷ xs) = by_order (slice_cmp nat_cmp t x) (t ∷ x ∷ xs) (x ∷ xs) (x ∷ put_in t xs)

-- the texts in byte order, each once
abbrev pub in_order : List (List ℕ) → List (List ℕ)
in_order [] = []
in_order (t ∷ ts) = put_in t (in_order ts)

abbrev pub keep_pred : Attr → RawPred → Pred
keep_pred a p = record { attr = a; negated = p.negated; values = in_order p.values }

-- the predicate of the attribute, where the conjunction has one
abbrev pub keep_at : List RawPred → Attr → Option Pred
keep_at c a = option_map (keep_pred a) (find (λ (p : RawPred). bytes_eq p.attr (name_of a)) c)

-- the predicates of these attributes
abbrev pub keep_in : List RawPred → List Attr → List Pred
keep_in c attrs = filter_map (keep_at c) attrs

-- the predicates in the order of the table of attributes
abbrev pub keep_conjunction : List RawPred → List Pred
keep_conjunction c = keep_in c attributes

abbrev pub keep : List (List RawPred) → List (List Pred)
keep raw = map keep_conjunction raw

-- ---- what every kept expression is

-- each is below the next
abbrev pub rise : {A : Type 0} → (A → A → Bool) → List A → Bool
rise below [] = true
rise below (x ∷ []) = true
rise below (x ∷ y ∷ xs) = below x y && rise below (y ∷ xs)

abbrev pub text_below : List ℕ → List ℕ → Bool
text_below a b = is_lt (slice_cmp nat_cmp a b)

abbrev pub attr_below : Pred → Pred → Bool
attr_below p q = nat_lt (number_of p.attr) (number_of q.attr)

-- 1 to 256 values of at most 255 bytes, in byte order and each once
abbrev pub is_kept_pred : Pred → Bool
is_kept_pred p = nat_lt 0 (length p.values) && nat_le (length p.values) 256
    && list_all (λ v. nat_le (length v) 255) p.values && rise text_below p.values

-- at most 16 predicates, in the order of their attributes, none twice
abbrev pub is_kept_conjunction : List Pred → Bool
is_kept_conjunction c = nat_le (length c) 16 && list_all is_kept_pred c && rise attr_below c

-- 1 to 64 conjunctions
abbrev pub is_kept : List (List Pred) → Bool
is_kept e = nat_lt 0 (length e) && nat_le (length e) 64 && list_all is_kept_conjunction e

-- the fault is the first of these, or want of memory
abbrev pub IsFirstUnlessMemory : List ExprFault → ExprFault → Type 0
IsFirstUnlessMemory fs Memory = Unit {0}
IsFirstUnlessMemory fs f = first_of fs ≡ Some f
