-- The order of the entries of a posting list (Whang et al. 2009, section 4: lists are sorted by the
-- conjunction's number).
use Rattle.std.specs.Prelude.{ℕ, ◌≡◌, ◌+◌, ◌-◌, ◌*◌, ◌<◌, List, if◌then◌else◌, true, length, get_or}
use Rattle.postings.specs.declared.entry.Entry.{Entry}
use Rattle.postings.specs.declared.fault.BuildFault.{BuildFault}
use Rattle.postings.specs.declared.fault.BuildFault.TheVariants.{NotSorted, Repeated, Memory}

-- entries stand by number, and of one number the negated one stands first
abbrev pub rank_of : Entry → ℕ
rank_of e = 2 * e.id + (if e.negated then 0 else 1)

-- the entry at the place, or the least entry past the end
abbrev pub entry_at : List Entry → ℕ → Entry
entry_at es i = get_or es i (record { id = 0; negated = true })

-- each of the first `n` entries but the first is above the one before it
abbrev pub RisesTo : List Entry → ℕ → Type 0
RisesTo es n = (i : ℕ) → i + 1 < n → rank_of (entry_at es i) < rank_of (entry_at es (i + 1))

abbrev pub IsRising : List Entry → Type 0
IsRising es = RisesTo es (length es)

-- the entry at `n` is the first that is not above the one before it, and it is below that one
abbrev pub IsFirstBelow : List Entry → ℕ → Type 0
IsFirstBelow es n = (0 < n) × (n < length es) × RisesTo es n × (rank_of (entry_at es n) < rank_of (entry_at es (n - 1)))

-- the entry at `n` is the first that is not above the one before it, and it equals that one
abbrev pub IsFirstEqual : List Entry → ℕ → Type 0
IsFirstEqual es n = (0 < n) × (n < length es) × RisesTo es n × (entry_at es n ≡ entry_at es (n - 1))

abbrev pub explains : List Entry → BuildFault → Type 0
explains es (NotSorted n) = IsFirstBelow es n
explains es (Repeated n) = IsFirstEqual es n
explains es Memory = ⊥
