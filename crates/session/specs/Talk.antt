-- A conversation over one link: the messages that were taken, what the service gave for them, and what was sent.
use Rattle.std.specs.Prelude.{◌≡◌, ℕ, ◌+◌, ◌*◌, ◌≤◌, ◌⊎◌, Bool, true, false, List, [], ◌∷◌, ◌++◌, length, map, drop, flat_map, Option, Some, ⊤}
use Rattle.std.specs.Io.KnownBytes.{Appends, Consumes, IsAtEnd}
use Rattle.rtb_io.specs.Fronts.{AppendsFront}
use Rattle.http_wire.specs.declared.message.Message.{Message}
use Rattle.http_wire.specs.declared.message.Step.TheVariants.{Got, Refused}
use Rattle.http_wire.specs.Answers.{IsWritable, answer_text, error_answer, memory_answer, store_failed_answer}
use Rattle.http_wire.specs.Wire.{Decides, IsOutside}
use Rattle.session.specs.declared.service.Given.{Given}
use Rattle.session.specs.declared.service.Given.TheVariants as given
use Rattle.session.specs.declared.link_end.LinkEnd.{LinkEnd}
use Rattle.session.specs.declared.link_end.LinkEnd.TheVariants as link
use Rattle.session.specs.Streams.{HasMessages, IsBlank, IsOfBytes, IsUndecided, is_last, most_messages}

-- What a service gives can be written.
abbrev pub IsGivable : Given → Type 0
IsGivable (given.Text answer entered) = IsWritable answer
IsGivable given.StoreFailed = ⊤
IsGivable given.Memory = ⊤
IsGivable given.MemoryLate = ⊤

-- The text of what was given. Where an answer's text finds no memory, that is told in its place.
abbrev pub IsText : Given → Bool → List ℕ → Type 0
IsText (given.Text answer entered) closes text = (text ≡ answer_text answer closes) ⊎ (text ≡ answer_text (memory_answer entered) closes)
IsText given.StoreFailed closes text = text ≡ answer_text store_failed_answer closes
IsText given.Memory closes text = text ≡ answer_text (memory_answer false) closes
IsText given.MemoryLate closes text = text ≡ answer_text (memory_answer true) closes

-- a message that was taken, what the service gave for it, and the text of that
pub record Turn : Type 0 where
  pub message : Message
  pub given : Given
  pub text : List ℕ

abbrev pub messages : List Turn → List Message
messages turns = map (λ (turn : Turn). turn.message) turns

abbrev pub texts : List Turn → List ℕ
texts turns = flat_map (λ turn. turn.text) turns

-- how many bytes their bodies have
abbrev pub bodies : List Turn → ℕ
bodies [] = 0
bodies (turn ∷ turns) = length turn.message.body + bodies turns

-- none of these ends the link; n messages came before them
abbrev pub GoesOn : ℕ → List Turn → Type 0
GoesOn n [] = ⊤
GoesOn n (turn ∷ turns) = (is_last (n + 1) turn.message ≡ false) × GoesOn (n + 1) turns

-- the last of these ends the link, and none before it does
abbrev pub EndsWith : List Turn → Turn → Type 0
EndsWith turns last = (front : List Turn) × (turns ≡ front ++ last ∷ []) × GoesOn 0 front

module _ {S : Type 0} (Answers : S → Message → Given → S → Type 0) where
  -- The bytes are these messages and then the rest, and they led the service so; n messages came before.
  abbrev pub Talks : ℕ → S → List ℕ → List Turn → S → List ℕ → Type 0
  Talks n before bytes [] after rest = (after ≡ before) × (rest ≡ bytes)
  Talks n before bytes (turn ∷ turns) after rest =
      (mid : S) × (used : ℕ) × Decides bytes (Got turn.message used) × Answers before turn.message turn.given mid
      × IsText turn.given (is_last (n + 1) turn.message) turn.text × Talks (n + 1) mid (drop used bytes) turns after rest

abbrev pub refusal_closes : ℕ → List ℕ → List ℕ
refusal_closes status word = answer_text (error_answer status word) true

abbrev pub memory_closes : List ℕ
memory_closes = answer_text (memory_answer false) true

-- nothing more is decided, and nothing more comes
abbrev pub IsOver : Option (List ℕ) → List ℕ → Type 0
IsOver left rest = IsAtEnd left × IsUndecided rest

-- Why the link ended: what is left to receive, the messages taken, the bytes behind them, and what is sent behind
-- their texts.
abbrev pub EndsSo : Option (List ℕ) → List Turn → List ℕ → List ℕ → LinkEnd → Type 0
EndsSo left turns rest tail link.Done = GoesOn 0 turns × IsOver left rest × IsBlank rest × (tail ≡ [])
EndsSo left turns rest tail (link.Cut over) = GoesOn 0 turns × IsOver left rest × (IsBlank rest → ⊥) × (over ≡ rest) × (tail ≡ [])
EndsSo left turns rest tail (link.Refused status) = GoesOn 0 turns × ((word : List ℕ) × Decides rest (Refused status word) × (tail ≡ refusal_closes status word))
EndsSo left turns rest tail link.Asked = ((last : Turn) × EndsWith turns last × (last.message.closes ≡ true)) × (tail ≡ [])
EndsSo left turns rest tail link.Spent = ((last : Turn) × EndsWith turns last × (last.message.closes ≡ false)) × (length turns ≡ most_messages) × (tail ≡ [])
EndsSo left turns rest tail link.NoMemory = GoesOn 0 turns × ((tail ≡ []) ⊎ (tail ≡ memory_closes))
EndsSo left turns rest tail link.LinkFailed = (GoesOn 0 turns ⊎ ((last : Turn) × EndsWith turns last))
    × ((tail ≡ []) ⊎ ((tail ≡ memory_closes) ⊎ ((status : ℕ) × (word : List ℕ) × Decides rest (Refused status word) × (tail ≡ refusal_closes status word))))

-- The texts of these turns and the tail, where the link failed: all were sent whole but for the last one that it was
-- sent, of which a front went. That is the tail, or the text of the last turn where nothing comes behind it.
pub data BreaksOff (old new : Option (List ℕ)) (turns : List Turn) (tail : List ℕ) : Type 0 where
  in_tail : (mid : Option (List ℕ)) → Appends old mid (texts turns) → AppendsFront mid new tail → BreaksOff old new turns tail
  in_turn : (front : List Turn) (last : Turn) (mid : Option (List ℕ)) → turns ≡ front ++ last ∷ [] → tail ≡ [] → Appends old mid (texts front) → AppendsFront mid new last.text → BreaksOff old new turns tail

-- The texts of the turns and the tail were sent, or the link failed.
abbrev pub Sends : Option (List ℕ) → Option (List ℕ) → List Turn → List ℕ → LinkEnd → Type 0
Sends old new turns tail link.LinkFailed = BreaksOff old new turns tail
Sends old new turns tail link.Done = Appends old new (texts turns ++ tail)
Sends old new turns tail (link.Cut over) = Appends old new (texts turns ++ tail)
Sends old new turns tail (link.Refused status) = Appends old new (texts turns ++ tail)
Sends old new turns tail link.Asked = Appends old new (texts turns ++ tail)
Sends old new turns tail link.Spent = Appends old new (texts turns ++ tail)
Sends old new turns tail link.NoMemory = Appends old new (texts turns ++ tail)

-- What came begins with the messages of the turns, whatever follows; they led the service, and what was sent is
-- their texts and a tail. Where the link tells its bytes, and they alone decided the end, the messages and the end
-- are those of all its bytes. Each step beyond two a message and two more was paid by a byte outside the bodies.
pub record IsServed {S : Type 0} (Answers : S → Message → Given → S → Type 0) (before after : S) (left left' sent sent' : Option (List ℕ)) (steps : ℕ) (end : LinkEnd) : Type 0 where
  pub came : List ℕ
  pub turns : List Turn
  pub rest : List ℕ
  pub tail : List ℕ
  pub received : Consumes left left' came
  pub talks : (more : List ℕ) → Talks Answers 0 before (came ++ more) turns after (rest ++ more)
  pub went : Sends sent sent' turns tail end
  pub ends_so : EndsSo left' turns rest tail end
  pub stream : (all : List ℕ) → left ≡ Some all → IsOfBytes end → HasMessages 0 all (messages turns) end
  pub cost : (h n : ℕ) → IsOutside rest n → h + bodies turns + length rest ≡ length came + n → steps ≤ h + 2 * length turns + 2
