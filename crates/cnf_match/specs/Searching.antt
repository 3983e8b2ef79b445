-- What is left of the counts of negated predicates behind the entries that are read, which the crate's private clauses
-- cite. A clause is true where something is left of its count.
use Rattle.std.specs.Prelude.{ℕ, ◌+◌, ◌*◌, ◌-◌, ◌==◌, ◌&&◌, nat_lt, nat_le, List, length, take, drop, set, get_or, Bool, if◌then◌else◌, Option, Some, None}
use Rattle.std.specs.List.{fold, list_all}
use Rattle.cnf_match.specs.declared.index.Entry.{Entry}

-- the place of the entry's clause
abbrev pub place_of : Entry → ℕ
place_of e = e.expression * 16 + e.clause

-- a plain predicate makes its clause true for good, a negated one is one less that does
abbrev pub marked : Bool → ℕ → ℕ
marked negated n = if negated then (if n == 255 then 255 else n - 1) else 255

abbrev pub mark : List ℕ → Entry → List ℕ
mark left e = set left (place_of e) (marked e.negated (get_or left (place_of e) 0))

abbrev pub mark_all : List ℕ → List Entry → List ℕ
mark_all left es = fold mark left es

-- all sixteen places of the expression at place n are above 0
abbrev pub is_left : List ℕ → ℕ → Bool
is_left left n = nat_le (n * 16 + 16) (length left) && list_all (nat_lt 0) (take 16 (drop (n * 16) left))

-- its number, where it is true and a number fits
abbrev pub number_left : List ℕ → ℕ → Option ℕ
number_left left n = if is_left left n && nat_lt n 4294967295 then Some (n + 1) else None
