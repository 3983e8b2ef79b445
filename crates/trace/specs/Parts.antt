-- The parts of an entry and of a header, one behind the other. Only private clauses cite this file.
use Rattle.std.specs.Prelude.{ℕ, ◌≤◌, List, ◌++◌, false, Option, Some, None}
use Rattle.byte_fields.specs.Codes.{BeginsAt, BothValid, both_bytes}
use Rattle.byte_fields.specs.Encodings.{FitsEight, FitsFour, IsShort, eight_bytes, four_bytes, text_bytes}
use Rattle.trace.specs.Traces.{mark}
use Rattle.trace.specs.declared.entry.Entry.{Entry}
use Rattle.trace.specs.declared.header.Header.{Header}

-- ---- a header

-- the mark stands at the place, and this is the place behind it; or it does not
abbrev pub IsMarkAt : List ℕ → ℕ → Option ℕ → Type 0
IsMarkAt bytes place None = (next : ℕ) → BeginsAt bytes place mark next → ⊥
IsMarkAt bytes place (Some next) = BeginsAt bytes place mark next

abbrev pub IsTtl : ℕ → Type 0
IsTtl n = (1 ≤ n) × (n ≤ 31536000000)

abbrev pub ttl_bytes : ℕ → List ℕ
ttl_bytes n = mark ++ eight_bytes n

abbrev pub IsPair : ℕ × List ℕ → Type 0
IsPair = BothValid IsTtl IsShort

abbrev pub pair_bytes : ℕ × List ℕ → List ℕ
pair_bytes = both_bytes ttl_bytes text_bytes

abbrev pub header_from : ℕ × List ℕ → Header
header_from p = record { ttl = p.0; public = p.1 }

-- ---- an entry

abbrev pub IsAsked : ℕ × List ℕ → Type 0
IsAsked = BothValid FitsEight IsShort

abbrev pub asked_bytes : ℕ × List ℕ → List ℕ
asked_bytes = both_bytes eight_bytes text_bytes

abbrev pub IsSent : (ℕ × List ℕ) × List ℕ → Type 0
IsSent = BothValid IsAsked IsShort

abbrev pub sent_bytes : (ℕ × List ℕ) × List ℕ → List ℕ
sent_bytes = both_bytes asked_bytes text_bytes

abbrev pub IsFull : ((ℕ × List ℕ) × List ℕ) × List ℕ → Type 0
IsFull = BothValid IsSent IsShort

abbrev pub full_bytes : ((ℕ × List ℕ) × List ℕ) × List ℕ → List ℕ
full_bytes = both_bytes sent_bytes text_bytes

abbrev pub IsTold : (((ℕ × List ℕ) × List ℕ) × List ℕ) × ℕ → Type 0
IsTold = BothValid IsFull FitsFour

abbrev pub told_bytes : (((ℕ × List ℕ) × List ℕ) × List ℕ) × ℕ → List ℕ
told_bytes = both_bytes full_bytes four_bytes

abbrev pub Parts : Type 0
Parts = ((((ℕ × List ℕ) × List ℕ) × List ℕ) × ℕ) × List ℕ

abbrev pub AreParts : Parts → Type 0
AreParts = BothValid IsTold IsShort

abbrev pub parts_bytes : Parts → List ℕ
parts_bytes = both_bytes told_bytes text_bytes

abbrev pub entry_from : Parts → Entry
entry_from p = record { moment = p.0.0.0.0.0; message = record { method = p.0.0.0.0.1; target = p.0.0.0.1; body = p.0.0.1; closes = false }; status = p.0.1; answer = p.1 }
