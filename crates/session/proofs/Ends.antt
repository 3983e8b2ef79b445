-- The messages and the end of a whole stream: those of a conversation, and that there is one list and one end.
use Rattle.std.proofs.Common.{◌≡◌, ℕ, ◌+◌, ◌==◌, ◌||◌, Bool, true, false, List, [], ◌∷◌, ◌++◌, length, drop, Option, Some, None, refl, sym, ap, subst, ◌∙◌, length-append, arith}
use Rattle.std.specs.Prelude.{MatchBool}
use Rattle.std.specs.Io.KnownBytes.{Consumes}
use Rattle.std.proofs.lemmas.List.{append-nil}
use Rattle.http_wire.specs.declared.message.Message.{Message}
use Rattle.http_wire.specs.declared.message.Step.TheVariants.{Got, Refused}
use Rattle.http_wire.specs.Wire.{Decides}
use Rattle.http_wire.proofs.Openings.{decides_once, decides_stays}
use Rattle.session.specs.declared.link_end.LinkEnd.{LinkEnd}
use Rattle.session.specs.declared.link_end.LinkEnd.TheVariants as link
use Rattle.session.specs.declared.service.Given.{Given}
use Rattle.session.specs.Streams.{EndsAfter, EndsAt, HasMessages, IsOfBytes, is_last, most_messages}
use Rattle.session.specs.Talk.{EndsSo, EndsWith, GoesOn, Talks, Turn, messages}
use Rattle.session.proofs.Talks.{talks_on}

match_true : (P Q : Type 0) (t : Bool) → t ≡ true → P → MatchBool t P Q
match_true P Q true e p = p
match_true P Q false e p = cc

match_false : (P Q : Type 0) (t : Bool) → t ≡ false → Q → MatchBool t P Q
match_false P Q true e q = cc
match_false P Q false e q = q

or_true : (t : Bool) → (t || true) ≡ true
or_true true = refl
or_true false = refl

-- ---- one list, and one end

ends_once : (bytes : List ℕ) (d e : LinkEnd) → EndsAt bytes d → EndsAt bytes e → d ≡ e
ends_once bytes link.Done link.Done x y = refl
ends_once bytes link.Done (link.Cut b) x y = absurd (y.1 x.1)
ends_once bytes link.Done (link.Refused t) x (word, y) = absurd (x.0 (Refused t word) y)
ends_once bytes link.Done link.Asked x y = absurd y
ends_once bytes link.Done link.Spent x y = absurd y
ends_once bytes link.Done link.LinkFailed x y = absurd y
ends_once bytes link.Done link.NoMemory x y = absurd y
ends_once bytes (link.Cut a) link.Done x y = absurd (x.1 y.1)
ends_once bytes (link.Cut a) (link.Cut b) x y = ap (λ k. link.Cut k) (x.2 ∙ sym y.2)
ends_once bytes (link.Cut a) (link.Refused t) x (word, y) = absurd (x.0 (Refused t word) y)
ends_once bytes (link.Cut a) link.Asked x y = absurd y
ends_once bytes (link.Cut a) link.Spent x y = absurd y
ends_once bytes (link.Cut a) link.LinkFailed x y = absurd y
ends_once bytes (link.Cut a) link.NoMemory x y = absurd y
ends_once bytes (link.Refused s) link.Done (word, x) y = absurd (y.0 (Refused s word) x)
ends_once bytes (link.Refused s) (link.Cut b) (word, x) y = absurd (y.0 (Refused s word) x)
ends_once bytes (link.Refused s) (link.Refused t) (word, x) (other, y) =
    let same = decides_once bytes (Refused s word) (Refused t other) x y in
    let one : s ≡ t = cc in
    ap (λ k. link.Refused k) one
ends_once bytes (link.Refused s) link.Asked x y = absurd y
ends_once bytes (link.Refused s) link.Spent x y = absurd y
ends_once bytes (link.Refused s) link.LinkFailed x y = absurd y
ends_once bytes (link.Refused s) link.NoMemory x y = absurd y
ends_once bytes link.Asked e x y = absurd x
ends_once bytes link.Spent e x y = absurd x
ends_once bytes link.LinkFailed e x y = absurd x
ends_once bytes link.NoMemory e x y = absurd x

after_once : (m : Message) (d e : LinkEnd) → EndsAfter m d → EndsAfter m e → d ≡ e
after_once m link.Asked link.Asked x y = refl
after_once m link.Asked link.Spent x y = cc
after_once m link.Spent link.Asked x y = cc
after_once m link.Spent link.Spent x y = refl
after_once m link.Asked link.Done x y = absurd y
after_once m link.Asked (link.Cut b) x y = absurd y
after_once m link.Asked (link.Refused t) x y = absurd y
after_once m link.Asked link.LinkFailed x y = absurd y
after_once m link.Asked link.NoMemory x y = absurd y
after_once m link.Spent link.Done x y = absurd y
after_once m link.Spent (link.Cut b) x y = absurd y
after_once m link.Spent (link.Refused t) x y = absurd y
after_once m link.Spent link.LinkFailed x y = absurd y
after_once m link.Spent link.NoMemory x y = absurd y
after_once m link.Done e x y = absurd x
after_once m (link.Cut a) e x y = absurd x
after_once m (link.Refused s) e x y = absurd x
after_once m link.LinkFailed e x y = absurd x
after_once m link.NoMemory e x y = absurd x

no_message : (bytes : List ℕ) (d : LinkEnd) (m : Message) (used : ℕ) → EndsAt bytes d → Decides bytes (Got m used) → ⊥
no_message bytes link.Done m used x y = x.0 (Got m used) y
no_message bytes (link.Cut a) m used x y = x.0 (Got m used) y
no_message bytes (link.Refused s) m used (word, x) y = let same = decides_once bytes (Refused s word) (Got m used) x y in cc
no_message bytes link.Asked m used x y = x
no_message bytes link.Spent m used x y = x
no_message bytes link.LinkFailed m used x y = x
no_message bytes link.NoMemory m used x y = x

both_ways : (t : Bool) (ms ns : List Message) (m : Message) (d e : LinkEnd) (P Q : Type 0) → MatchBool t ((ms ≡ []) × EndsAfter m d) P → MatchBool t ((ns ≡ []) × EndsAfter m e) Q
    → (P → Q → (ms ≡ ns) × (d ≡ e)) → (ms ≡ ns) × (d ≡ e)
both_ways true ms ns m d e P Q x y more = (x.0 ∙ sym y.0, after_once m d e x.1 y.1)
both_ways false ms ns m d e P Q x y more = more x y

-- what is said behind the first message
abbrev Behind : ℕ → List ℕ → Message → ℕ → List Message → LinkEnd → Type 0
Behind n bytes m used ms end = MatchBool (is_last (n + 1) m) ((ms ≡ []) × EndsAfter m end) (HasMessages (n + 1) (drop used bytes) ms end)

goes_behind : (n : ℕ) (bytes : List ℕ) (m : Message) (used : ℕ) (ms : List Message) (end : LinkEnd) → is_last (n + 1) m ≡ false → HasMessages (n + 1) (drop used bytes) ms end → Behind n bytes m used ms end
goes_behind n bytes m used ms end e more = match_false ((ms ≡ []) × EndsAfter m end) (HasMessages (n + 1) (drop used bytes) ms end) (is_last (n + 1) m) e more

ends_behind : (n : ℕ) (bytes : List ℕ) (m : Message) (used : ℕ) (ms : List Message) (end : LinkEnd) → is_last (n + 1) m ≡ true → ms ≡ [] → EndsAfter m end → Behind n bytes m used ms end
ends_behind n bytes m used ms end e none so = match_true ((ms ≡ []) × EndsAfter m end) (HasMessages (n + 1) (drop used bytes) ms end) (is_last (n + 1) m) e (none, so)

pub messages_once : (n : ℕ) (bytes : List ℕ) (ms ns : List Message) (d e : LinkEnd) → HasMessages n bytes ms d → HasMessages n bytes ns e → (ms ≡ ns) × (d ≡ e)
messages_once n bytes [] [] d e x y = (refl, ends_once bytes d e x y)
messages_once n bytes [] (k ∷ ns) d e x (size, other, rest) = absurd (no_message bytes d k size x other)
messages_once n bytes (m ∷ ms) [] d e (used, decides, more) y = absurd (no_message bytes e m used y decides)
messages_once n bytes (m ∷ ms) (k ∷ ns) d e (used, decides, more) (size, other, rest) =
    let same = decides_once bytes (Got m used) (Got k size) decides other in
    let one : m ≡ k = cc in
    let sizes : used ≡ size = cc in
    let here : Behind n bytes m used ns e = subst (λ s. Behind n bytes m s ns e) (sym sizes) (subst (λ z. Behind n bytes z size ns e) (sym one) rest) in
    let tails : (ms ≡ ns) × (d ≡ e) = both_ways (is_last (n + 1) m) ms ns m d e (HasMessages (n + 1) (drop used bytes) ms d) (HasMessages (n + 1) (drop used bytes) ns e) more here (λ x y. messages_once (n + 1) (drop used bytes) ms ns d e x y) in
    (ap (λ z. z ∷ ms) one ∙ ap (λ z. k ∷ z) tails.0, tails.1)

-- ---- the stream of a conversation

module _ {S : Type 0} (Answers : S → Message → Given → S → Type 0) where
  goes_to_end : (n : ℕ) (before : S) (bytes : List ℕ) (turns : List Turn) (after : S) (rest : List ℕ) (end : LinkEnd)
      → Talks Answers n before bytes turns after rest → GoesOn n turns → EndsAt rest end → HasMessages n bytes (messages turns) end
  goes_to_end n before bytes [] after rest end (same, is) goes at = subst (λ k. EndsAt k end) is at
  goes_to_end n before bytes (turn ∷ turns) after rest end (mid, used, decides, answers, text, talks) goes at =
      (used, decides, goes_behind n bytes turn.message used (messages turns) end goes.0 (goes_to_end (n + 1) mid (drop used bytes) turns after rest end talks goes.1 at))

  goes_to_last : (n : ℕ) (before : S) (bytes : List ℕ) (front : List Turn) (last : Turn) (after : S) (rest : List ℕ) (end : LinkEnd)
      → Talks Answers n before bytes (front ++ last ∷ []) after rest → GoesOn n front → is_last (n + length front + 1) last.message ≡ true → EndsAfter last.message end
      → HasMessages n bytes (messages (front ++ last ∷ [])) end
  goes_to_last n before bytes [] last after rest end (mid, used, decides, answers, text, talks) goes is so =
      let number : n + 1 ≡ n + 0 + 1 = omega arith in
      (used, decides, ends_behind n bytes last.message used [] end (ap (λ k. is_last k last.message) number ∙ is) refl so)
  goes_to_last n before bytes (turn ∷ front) last after rest end (mid, used, decides, answers, text, talks) goes is so =
      let number : n + 1 + length front + 1 ≡ n + length (turn ∷ front) + 1 = omega arith in
      let behind = goes_to_last (n + 1) mid (drop used bytes) front last after rest end talks goes.1 (ap (λ k. is_last k last.message) number ∙ is) so in
      (used, decides, goes_behind n bytes turn.message used (messages (front ++ last ∷ [])) end goes.0 behind)

  by_last : (before after : S) (came left : List ℕ) (turns : List Turn) (rest : List ℕ) (last : Turn) (end : LinkEnd)
      → Talks Answers 0 before came turns after rest → EndsWith turns last → is_last (length turns) last.message ≡ true → EndsAfter last.message end
      → HasMessages 0 (came ++ left) (messages turns) end
  by_last before after came left turns rest last end talks (front, e, goes) is so =
      let size : length turns ≡ 0 + length front + 1 = omega (arith, ap length e, length-append front (last ∷ [])) in
      let here = subst (λ (k : List Turn). Talks Answers 0 before (came ++ left) k after (rest ++ left)) e (talks_on Answers 0 before came left turns after rest talks) in
      subst (λ (k : List Turn). HasMessages 0 (came ++ left) (messages k) end) (sym e)
      (goes_to_last 0 before (came ++ left) front last after (rest ++ left) end here goes (ap (λ k. is_last k last.message) (sym size) ∙ is) so)

  -- the link was at its end
  by_end : (before after : S) (came left : List ℕ) (turns : List Turn) (rest : List ℕ) (end : LinkEnd)
      → Talks Answers 0 before came turns after rest → GoesOn 0 turns → left ≡ [] → EndsAt rest end → HasMessages 0 (came ++ left) (messages turns) end
  by_end before after came left turns rest end talks goes none at =
      subst (λ (k : List ℕ). HasMessages 0 k (messages turns) end) (sym (ap (λ k. came ++ k) none ∙ append-nil came)) (goes_to_end 0 before came turns after rest end talks goes at)

  of_all : (before after : S) (came left : List ℕ) (turns : List Turn) (rest tail : List ℕ) (end : LinkEnd)
      → Talks Answers 0 before came turns after rest → EndsSo (Some left) turns rest tail end → IsOfBytes end → HasMessages 0 (came ++ left) (messages turns) end
  of_all before after came left turns rest tail link.Done talks so of = by_end before after came left turns rest link.Done talks so.0 so.1.0 (so.1.1, so.2)
  of_all before after came left turns rest tail (link.Cut over) talks so of = by_end before after came left turns rest (link.Cut over) talks so.0 so.1.0 (so.1.1, so.2, so.3)
  of_all before after came left turns rest tail (link.Refused status) talks (goes, (word, decides, is)) of =
      goes_to_end 0 before (came ++ left) turns after (rest ++ left) (link.Refused status) (talks_on Answers 0 before came left turns after rest talks) goes (word, decides_stays rest left (Refused status word) decides)
  of_all before after came left turns rest tail link.Asked talks ((last, ends, closes), is) of =
      by_last before after came left turns rest last link.Asked talks ends (ap (λ t. t || (length turns == most_messages)) closes) closes
  of_all before after came left turns rest tail link.Spent talks ((last, ends, closes), most, is) of =
      by_last before after came left turns rest last link.Spent talks ends (ap (λ k. last.message.closes || (k == most_messages)) most ∙ or_true last.message.closes) closes
  of_all before after came left turns rest tail link.LinkFailed talks so of = absurd (of.0 refl)
  of_all before after came left turns rest tail link.NoMemory talks so of = absurd (of.1 refl)

  pub stream_of : (before after : S) (left left' : Option (List ℕ)) (came : List ℕ) (turns : List Turn) (rest tail : List ℕ) (end : LinkEnd)
      → Consumes left left' came → Talks Answers 0 before came turns after rest → EndsSo left' turns rest tail end
      → (all : List ℕ) → left ≡ Some all → IsOfBytes end → HasMessages 0 all (messages turns) end
  stream_of before after None left' came turns rest tail end received talks so all e of = cc
  stream_of before after (Some xs) None came turns rest tail end received talks so all e of = absurd received
  stream_of before after (Some xs) (Some ys) came turns rest tail end received talks so all e of =
      let same : xs ≡ all = cc in
      subst (λ (k : List ℕ). HasMessages 0 k (messages turns) end) (sym received ∙ same) (of_all before after came ys turns rest tail end talks so of)
