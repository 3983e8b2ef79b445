-- Lists of entries, each of which names a worker.
use mathlib.Core.Option.{some}
use lib.ListN.{get_elem?}
use Rattle.std.specs.Prelude.{◌≡◌, ℕ, ◌==◌, if◌then◌else◌, nat_le, List, [], ◌∷◌, ◌++◌, length}

-- the entries of the worker w, in order
abbrev pub entries_of : {E : Type 0} → (E → ℕ) → ℕ → List E → List E
entries_of worker w [] = []
entries_of worker w (e ∷ es) = if worker e == w then e ∷ entries_of worker w es else entries_of worker w es

-- `seen` begins the whole list, and has all that is of worker w
abbrev pub KnowsOwn : {E : Type 0} → (E → ℕ) → ℕ → List E → List E → Type 0
KnowsOwn worker w seen log = (rest : List _) × (log ≡ seen ++ rest) × (entries_of worker w rest ≡ [])

-- of two lists the longer, and the second where they are as long
abbrev pub longer : {E : Type 0} → List E → List E → List E
longer a b = if nat_le (length a) (length b) then b else a

abbrev pub shorter : {E : Type 0} → List E → List E → List E
shorter a b = if nat_le (length a) (length b) then a else b

-- of lists by worker: no worker is named twice
abbrev pub NamesOnce : {E : Type 0} → List (ℕ × List E) → Type 0
NamesOnce ended = (i j : ℕ) (d e : ℕ × List _) → get_elem? ended i ≡ some d → get_elem? ended j ≡ some e → d.0 ≡ e.0 → i ≡ j
