-- A book has as many campaigns after a change.
use Rattle.std.proofs.Common.{◌≡◌, ap, ◌∙◌, ℕ, List, get_or, set, length, Result, Ok, Err, OnOk, OnErr}
use Rattle.std.proofs.lemmas.List.{length-set}
use Rattle.budget_book.specs.Book.{Funds}

-- a budget of 0, of which nothing is gone
abbrev some_funds : Funds
some_funds = record { budget = 0; gone = record { spent = 0; billed = 0; lost = 0; expired = 0 } }

pub set_length : {X E : Type 0} (r : Result X E) (new old : List Funds) (i b : ℕ)
    → OnOk r ((d : Funds) → new ≡ set old i (record (get_or old i d) { budget = b })) → OnErr r (new ≡ old) → length new ≡ length old
set_length (Ok x) new old i b changed same = ap length (changed some_funds) ∙ length-set old i _
set_length (Err e) new old i b changed same = ap length same
