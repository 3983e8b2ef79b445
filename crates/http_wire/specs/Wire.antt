-- What is decided of the bytes at the front of a stream (RFC 9112).
use Rattle.std.specs.Prelude.{◌≡◌, ℕ, ◌+◌, ◌<◌, ◌≤◌, ◌⊎◌, List, [], length, map, slice_range, Result, Ok, Err}
use Rattle.httparse.specs.Grammar.{LineEnd, print_blank, RequestHead, ReadsRequest}
use Rattle.httparse.specs.Spans.{name_and_value}
use Rattle.http_wire.specs.declared.refusal.Refusal.{Refusal}
use Rattle.http_wire.specs.declared.refusal.Refusal.TheVariants as refusal
use Rattle.http_wire.specs.declared.message.Message.{Message}
use Rattle.http_wire.specs.declared.message.Step.{Step}
use Rattle.http_wire.specs.declared.message.Step.TheVariants.{Need, Got, Refused}
use Rattle.http_wire.specs.Heads.{most_head, lines_in, HasHead, HasNoHead}
use Rattle.http_wire.specs.Rules.{Field, body_length, closes}
use Rattle.http_wire.specs.Words.{status_of, word_of}

abbrev pub most_fields : ℕ
most_fields = 64

-- the bytes are this head of the grammar
pub record IsAccepted (head : List ℕ) (h : RequestHead) : Type 0 where
  pub reads : ReadsRequest head h []
  pub few : length h.fields ≤ most_fields

abbrev pub fields_of : RequestHead → List Field
fields_of h = map name_and_value h.fields

-- what a head decides: the refusal, or the head and where the body begins and ends
pub data Opening : Type 0 where
  refused : Refusal → Opening
  begun : RequestHead → ℕ → ℕ → Opening

abbrev pub opening : RequestHead → ℕ → Result ℕ Refusal → Opening
opening h at (Err r) = refused r
opening h at (Ok n) = begun h at (at + n)

-- What is decided of a head with this place behind it. Its lines are that of the request, those of the
-- fields and the empty one.
abbrev pub HeadOpens : List ℕ → ℕ → Opening → Type 0
HeadOpens head at o =
    ((most_fields + 2 < lines_in head) × (o ≡ refused refusal.HeadTooLarge))
    ⊎ (((lines_in head ≤ most_fields + 2) × ((h : RequestHead) → IsAccepted head h → ⊥) × (o ≡ refused refusal.Head))
    ⊎ ((h : RequestHead) × (lines_in head ≤ most_fields + 2) × IsAccepted head h × (o ≡ opening h at (body_length (fields_of h)))))

-- what is decided without the body: nothing, where the head has not ended and may still end
abbrev pub Opens : List ℕ → Opening → Type 0
Opens bytes o =
    ((most_head ≤ length bytes) × HasNoHead bytes × (o ≡ refused refusal.HeadTooLarge))
    ⊎ ((blank : List LineEnd) × (head : List ℕ) × (rest : List ℕ) × HasHead bytes blank head rest × HeadOpens head (length (print_blank blank) + length head) o)

abbrev pub message_of : RequestHead → List ℕ → Message
message_of h body = record { method = h.method; target = h.target; body = body; closes = closes h.minor (fields_of h) }

-- The bytes begin with this message, of so many bytes, or with what is refused so, whatever follows.
abbrev pub Decides : List ℕ → Step → Type 0
Decides bytes Need = ⊥
Decides bytes (Got message used) =
    (h : RequestHead) × (from : ℕ) × Opens bytes (begun h from used) × (used ≤ length bytes) × (message ≡ message_of h (slice_range bytes from used))
Decides bytes (Refused status word) = (r : Refusal) × Opens bytes (refused r) × (status ≡ status_of r) × (word ≡ word_of r)

-- More bytes are needed exactly where nothing is decided.
abbrev pub Reads : List ℕ → Step → Type 0
Reads bytes Need = (s : Step) → Decides bytes s → ⊥
Reads bytes (Got message used) = Decides bytes (Got message used)
Reads bytes (Refused status word) = Decides bytes (Refused status word)

-- how many bytes there are at least before something is decided: the whole message, or one more
abbrev pub IsLeast : List ℕ → ℕ → Type 0
IsLeast bytes n =
    ((h : RequestHead) × (from : ℕ) × (to : ℕ) × Opens bytes (begun h from to) × (n ≡ to))
    ⊎ (((h : RequestHead) (from to : ℕ) → Opens bytes (begun h from to) → ⊥) × (n ≡ length bytes + 1))

-- how many of the bytes stand outside the body of a message
abbrev pub IsOutside : List ℕ → ℕ → Type 0
IsOutside bytes n =
    ((h : RequestHead) × (from : ℕ) × (to : ℕ) × Opens bytes (begun h from to) × (n ≡ from))
    ⊎ (((h : RequestHead) (from to : ℕ) → Opens bytes (begun h from to) → ⊥) × (n ≡ length bytes))
