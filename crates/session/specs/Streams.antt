-- The messages of a whole stream of bytes, and how it ends (RFC 9112, sections 9.3 and 9.6).
use Rattle.std.specs.Prelude.{◌≡◌, ℕ, ◌+◌, ◌==◌, ◌||◌, Bool, true, false, List, [], ◌∷◌, drop, MatchBool}
use Rattle.httparse.specs.Grammar.{LineEnd, print_blank}
use Rattle.http_wire.specs.declared.message.Message.{Message}
use Rattle.http_wire.specs.declared.message.Step.{Step}
use Rattle.http_wire.specs.declared.message.Step.TheVariants.{Got, Refused}
use Rattle.http_wire.specs.Wire.{Decides}
use Rattle.session.specs.declared.link_end.LinkEnd.{LinkEnd}
use Rattle.session.specs.declared.link_end.LinkEnd.TheVariants as link

-- the most messages of a link
abbrev pub most_messages : ℕ
most_messages = 10000

-- The link ends after this message, which is number n.
abbrev pub is_last : ℕ → Message → Bool
is_last n message = message.closes || (n == most_messages)

-- empty lines alone: no message has begun
abbrev pub IsBlank : List ℕ → Type 0
IsBlank rest = (blank : List LineEnd) × (rest ≡ print_blank blank)

abbrev pub IsUndecided : List ℕ → Type 0
IsUndecided bytes = (step : Step) → Decides bytes step → ⊥

-- how a stream ends of which these bytes are left, none of them a message
abbrev pub EndsAt : List ℕ → LinkEnd → Type 0
EndsAt bytes link.Done = IsUndecided bytes × IsBlank bytes
EndsAt bytes (link.Cut left) = IsUndecided bytes × (IsBlank bytes → ⊥) × (left ≡ bytes)
EndsAt bytes (link.Refused status) = (word : List ℕ) × Decides bytes (Refused status word)
EndsAt bytes link.Asked = ⊥
EndsAt bytes link.Spent = ⊥
EndsAt bytes link.LinkFailed = ⊥
EndsAt bytes link.NoMemory = ⊥

-- how it ends after its last message
abbrev pub EndsAfter : Message → LinkEnd → Type 0
EndsAfter message link.Asked = message.closes ≡ true
EndsAfter message link.Spent = message.closes ≡ false
EndsAfter message link.Done = ⊥
EndsAfter message (link.Cut left) = ⊥
EndsAfter message (link.Refused status) = ⊥
EndsAfter message link.LinkFailed = ⊥
EndsAfter message link.NoMemory = ⊥

-- The stream has these messages and ends so; n messages came before.
abbrev pub HasMessages : ℕ → List ℕ → List Message → LinkEnd → Type 0
HasMessages n bytes [] end = EndsAt bytes end
HasMessages n bytes (message ∷ messages) end =
    (used : ℕ) × Decides bytes (Got message used)
    × MatchBool (is_last (n + 1) message) ((messages ≡ []) × EndsAfter message end) (HasMessages (n + 1) (drop used bytes) messages end)

-- The bytes alone decide such an end; a link that fails and want of memory can come at any place.
abbrev pub IsOfBytes : LinkEnd → Type 0
IsOfBytes end = ((end ≡ link.LinkFailed) → ⊥) × ((end ≡ link.NoMemory) → ⊥)
