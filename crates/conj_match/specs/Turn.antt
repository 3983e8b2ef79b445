-- One turn of a match over its cursors, which the crate's private clauses cite.
use Rattle.std.specs.Prelude.{ℕ, Bool, false, nat_le}
use Rattle.std.specs.Option.{option_map_or}
use Rattle.postings.specs.declared.entry.Entry.{Entry}
use Rattle.conj_match.specs.Place.{Place, current}

-- the cursor shows an entry whose number is at most `id`
abbrev pub reaches : ℕ → Place → Bool
reaches id c = option_map_or (λ (e : Entry). nat_le e.id id) (current c) false
