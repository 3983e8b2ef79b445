-- What one message takes from a link, and how the conversation stands between two. Private: only the crate's own
-- functions cite this file.
use Rattle.std.specs.Prelude.{◌≡◌, ℕ, ◌+◌, ◌*◌, ◌≤◌, ◌⊎◌, true, false, Some, None, List, ◌++◌, length, drop, Option, ⊤}
use Rattle.std.specs.Io.KnownBytes.{Appends, Consumes}
use Rattle.rtb_io.specs.Fronts.{AppendsFront}
use Rattle.httparse.specs.Grammar.{RequestHead}
use Rattle.http_wire.specs.declared.message.Message.{Message}
use Rattle.http_wire.specs.declared.message.Step.TheVariants.{Got, Refused}
use Rattle.http_wire.specs.Wire.{Decides, IsOutside, Opens, begun}
use Rattle.session.specs.declared.receive.Received.{Received}
use Rattle.session.specs.declared.receive.Received.TheVariants as received
use Rattle.session.specs.declared.receive.More.{More}
use Rattle.session.specs.declared.receive.More.TheVariants as more
use Rattle.session.specs.declared.link_end.LinkEnd.{LinkEnd}
use Rattle.session.specs.declared.link_end.LinkEnd.TheVariants as link
use Rattle.session.specs.Streams.{IsBlank, is_last, most_messages}
use Rattle.session.specs.Talk.{IsOver, IsText, GoesOn, Talks, Turn, bodies, memory_closes, refusal_closes, texts}
use Rattle.session.specs.declared.service.Given.{Given}

-- more bytes are held, and the link gave them
pub record Grows (left left' : Option (List ℕ)) (held now : List ℕ) : Type 0 where
  pub came : List ℕ
  pub received : Consumes left left' came
  pub now_is : now ≡ held ++ came

abbrev pub IsMore : Option (List ℕ) → List ℕ → ℕ → More → Type 0
IsMore left now least more.Enough = least ≤ length now
IsMore left now least more.Ended = IsOver left now
IsMore left now least more.Failed = ⊤

-- The steps so far are paid by the bytes outside the body, or by those and one more where the body has come.
abbrev pub IsPaid : ℕ → List ℕ → Type 0
IsPaid steps held =
    ((n : ℕ) → IsOutside held n → steps ≤ n)
    ⊎ ((h : RequestHead) × (from : ℕ) × (to : ℕ) × Opens held (begun h from to) × (to ≤ length held) × (steps ≤ from + 1))

abbrev pub Costs : ℕ → List ℕ → Type 0
Costs steps held = (n : ℕ) → IsOutside held n → steps ≤ n + 2

-- all : what was held and what came, as far as it was needed
abbrev pub IsGiven : Option (List ℕ) → List ℕ → List ℕ → ℕ → Received → Type 0
IsGiven left all now steps (received.Message message) = (used : ℕ) × Decides all (Got message used) × (now ≡ drop used all) × (steps + length message.body ≤ used + 2)
IsGiven left all now steps (received.Refused status word) = Decides all (Refused status word) × (now ≡ all) × Costs steps all
IsGiven left all now steps received.Ended = IsOver left all × (now ≡ all) × Costs steps all
IsGiven left all now steps received.Failed = (now ≡ all) × Costs steps all
IsGiven left all now steps received.Memory = (now ≡ all) × Costs steps all

pub record IsReceived (left left' : Option (List ℕ)) (held now : List ℕ) (steps : ℕ) (r : Received) : Type 0 where
  pub all : List ℕ
  pub grows : Grows left left' held all
  pub given : IsGiven left' all now steps r

-- what is sent behind the last text, and how the link ends then
abbrev pub IsTail : ℕ → List ℕ → List ℕ → LinkEnd → Type 0
IsTail status word tail (link.Refused s) = (s ≡ status) × (tail ≡ refusal_closes status word)
IsTail status word tail link.NoMemory = tail ≡ memory_closes
IsTail status word tail link.LinkFailed = (tail ≡ memory_closes) ⊎ (tail ≡ refusal_closes status word)
IsTail status word tail link.Done = ⊥
IsTail status word tail (link.Cut over) = ⊥
IsTail status word tail link.Asked = ⊥
IsTail status word tail link.Spent = ⊥

-- all of the text was sent, or a front of it where the link failed
abbrev pub SendsTail : Option (List ℕ) → Option (List ℕ) → List ℕ → LinkEnd → Type 0
SendsTail old new tail link.LinkFailed = AppendsFront old new tail
SendsTail old new tail link.Done = Appends old new tail
SendsTail old new tail (link.Cut over) = Appends old new tail
SendsTail old new tail (link.Refused status) = Appends old new tail
SendsTail old new tail link.Asked = Appends old new tail
SendsTail old new tail link.Spent = Appends old new tail
SendsTail old new tail link.NoMemory = Appends old new tail

abbrev pub IsMemoryEnd : LinkEnd → Type 0
IsMemoryEnd end = (end ≡ link.NoMemory) ⊎ (end ≡ link.LinkFailed)

-- nothing more comes
abbrev pub IsEnd : List ℕ → LinkEnd → Type 0
IsEnd rest link.Done = IsBlank rest
IsEnd rest (link.Cut over) = (IsBlank rest → ⊥) × (over ≡ rest)
IsEnd rest link.NoMemory = ⊤
IsEnd rest (link.Refused s) = ⊥
IsEnd rest link.LinkFailed = ⊥
IsEnd rest link.Asked = ⊥
IsEnd rest link.Spent = ⊥

-- how one message was answered as number n: none where the link goes on
abbrev pub TurnEnds : Message → ℕ → Option (List ℕ) → Option (List ℕ) → List ℕ → Option LinkEnd → Type 0
TurnEnds message n sent sent' text None = (is_last n message ≡ false) × Appends sent sent' text
TurnEnds message n sent sent' text (Some link.Asked) = (message.closes ≡ true) × Appends sent sent' text
TurnEnds message n sent sent' text (Some link.Spent) = (message.closes ≡ false) × (n ≡ most_messages) × Appends sent sent' text
TurnEnds message n sent sent' text (Some link.LinkFailed) = AppendsFront sent sent' text
TurnEnds message n sent sent' text (Some link.Done) = ⊥
TurnEnds message n sent sent' text (Some (link.Cut over)) = ⊥
TurnEnds message n sent sent' text (Some (link.Refused s)) = ⊥
TurnEnds message n sent sent' text (Some link.NoMemory) = ⊥

module _ {S : Type 0} (Answers : S → Message → Given → S → Type 0) where
  pub record IsTurn (before : S) (message : Message) (n : ℕ) (after : S) (sent sent' : Option (List ℕ)) (r : Option LinkEnd) : Type 0 where
    pub given : Given
    pub text : List ℕ
    pub answers : Answers before message given after
    pub text_is : IsText given (is_last n message) text
    pub ends_so : TurnEnds message n sent sent' text r

  -- so many messages were taken and answered, and none ended the link
  pub record Talking (before after : S) (left left' sent sent' : Option (List ℕ)) (held : List ℕ) (number steps : ℕ) : Type 0 where
    pub came : List ℕ
    pub turns : List Turn
    pub received : Consumes left left' came
    pub talks : Talks Answers 0 before came turns after held
    pub goes : GoesOn 0 turns
    pub count : length turns ≡ number
    pub went : Appends sent sent' (texts turns)
    pub cost : steps + bodies turns + length held ≤ length came + 2 * number
