-- From the answers of a service to what came of the messages of a link.
use Rattle.std.proofs.Common.{◌≡◌, inl, ℕ, ◌+◌, List, [], ◌∷◌, ◌++◌, drop, false, refl, sym, ◌∙◌, ap, subst, Option, Some, None}
use Rattle.std.specs.Prelude.{IfSome, option_map, slice_get}
use Rattle.address_keys.specs.declared.keys.Keys.{Keys}
use Rattle.door_worker.specs.Answers.{Answered}
use Rattle.door_worker.specs.Doors.{HasTalk, IsNow, TakesMoments}
use Rattle.door_worker.specs.Languages.{Any, Language, rtb}
use Rattle.door_worker.specs.Working.{AnswersBy, AnswersOne, KeepsLinks, SameLinks, Talked, Works, moments_of}
use Rattle.door_worker.proofs.Answering.{answers_none, answers_one, answers_then}
use Rattle.door_worker.proofs.Going.{free_is, known_then}
use Rattle.exchange_shared.specs.Seats.{Seat}
use Rattle.http_wire.specs.declared.message.Message.{Message}
use Rattle.link_door.specs.Doors.{Held, later, with_later}
use Rattle.link_door.specs.declared.link.Link.{Ghosts}
use Rattle.rtb_base.specs.Faults.{RisesOnlyWhere}
use Rattle.session.specs.declared.link_end.LinkEnd.{LinkEnd}
use Rattle.session.specs.declared.link_end.LinkEnd.TheVariants.{LinkFailed}
use Rattle.session.specs.declared.service.Given.{Given}
use Rattle.session.specs.Talk.{IsServed, Talks, Turn}

-- ---- what a door holds while moments are taken

links_same : {L : Type 0} (o : Option (Held L)) → KeepsLinks o o
links_same None = tt
links_same (Some h) = (h, refl, record { left = refl; served = refl; out = refl })

links_then : {L : Type 0} (a b c : Option (Held L)) → KeepsLinks a b → KeepsLinks b c → KeepsLinks a c
links_then None b c p q = tt
links_then {L} (Some h) b c (k, e, s) q =
    let r : (m : Held L) × (c ≡ Some m) × SameLinks k m = subst (λ o. KeepsLinks o c) e q in
    (r.0, r.1, record { left = r.2.left ∙ s.left; served = r.2.served ∙ s.served; out = r.2.out ∙ s.out })

moment_taken : {L : Type 0} (a b : Option (Held L)) → b ≡ option_map with_later a → KeepsLinks a b
moment_taken None b e = tt
moment_taken (Some h) b e = (with_later h, e, record { left = refl; served = refl; out = refl })

moments_later : {L : Type 0} (a b : Option (Held L)) → b ≡ option_map with_later a → moments_of b ≡ option_map later (moments_of a)
moments_later {L} None b e = ap moments_of e
moments_later {L} (Some h) b e = ap moments_of e

pub moment_now : {L : Type 0} (a : Option (Held L)) (moment : ℕ) → IfSome a (λ h. slice_get h.moments 0 ≡ Some moment) → IsNow (moments_of a) moment
moment_now None moment is = tt
moment_now (Some h) moment is = is

-- ---- messages

-- what the addresses of notices begin with, and the keys
abbrev pub Spoken : Type 0
Spoken = List ℕ × Keys

abbrev pub spoken : Spoken → Language
spoken said = rtb said.0 said.1

module _ {S L : Type 0} (A : S → Message → Given → S → Type 0) (p : S → Spoken) (seat : S → Option Seat) (h : S → Option (Held L))
    (works : (s : S) (m : Message) (g : Given) (t : S) → A s m g t → Works (spoken (p s)) (seat s) (h s) m g (seat t) (h t))
    (same : (s : S) (m : Message) (g : Given) (t : S) → A s m g t → p t ≡ p s) where
  talked_none : (language : Language) (x y : S) (s : Seat) → seat x ≡ Some s → s.turn ≡ false → y ≡ x → Talked language [] s (h x) (seat y) (h y)
  talked_none language x y s is free e = subst (λ (z : S). Talked language [] s (h x) (seat z) (h z)) (sym e) (record {
    all = [];
    turns_are = refl;
    now = s;
    seat_is = is;
    answers = answers_none language s free;
    known = inl refl;
    moments = refl;
    links = links_same (h x);
  })

  talked_then : (language : Language) (turn : Turn) (turns : List Turn) (x y z : S) (s t : Seat) (w : Works language (seat x) (h x) turn.message turn.given (seat y) (h y)) → AnswersOne language w.moment s turn.message turn.given t
      → Talked language turns t (h y) (seat z) (h z) → Talked language (turn ∷ turns) s (h x) (seat z) (h z)
  talked_then language turn turns x y z s t w one more =
      let a : Answered = record { turn = turn; moment = w.moment; call = one.call } in
      record {
        all = a ∷ more.all;
        turns_are = ap (λ l. turn ∷ l) more.turns_are;
        now = more.now;
        seat_is = more.seat_is;
        answers = answers_then language (a ∷ []) more.all s t more.now (answers_one language turn.text w.moment turn.message turn.given s t one) more.answers more.known;
        known = known_then s t more.now one.known more.known;
        moments = (w.now, subst (λ (ms : Option (List ℕ)). TakesMoments ms more.all (moments_of (h z))) (moments_later (h x) (h y) w.held_is) more.moments);
        links = links_then (h x) (h y) (h z) (moment_taken (h x) (h y) w.held_is) more.links;
      }

  by_seat : (language : Language) (moment : ℕ) (o : Option Seat) (s : Seat) (m : Message) (g : Given) (o' : Option Seat) → o ≡ Some s → AnswersBy language moment o m g o' → (t : Seat) × (o' ≡ Some t) × AnswersOne language moment s m g t
  by_seat language moment o s m g o' is a = subst (λ (x : Option Seat). AnswersBy language moment x m g o') is a

  talked : (said : Spoken) (turns : List Turn) (k : ℕ) (x z : S) (s : Seat) (bytes rest : List ℕ) → p x ≡ said → seat x ≡ Some s → s.turn ≡ false → Talks A k x bytes turns z rest → Talked (spoken said) turns s (h x) (seat z) (h z)
  talked said [] k x z s bytes rest e is free talk = talked_none (spoken said) x z s is free talk.0
  talked said (turn ∷ turns) k x z s bytes rest e is free (y, used, decides, answers, text, more) =
      let w : Works (spoken said) (seat x) (h x) turn.message turn.given (seat y) (h y) = subst (λ (q : Spoken). Works (spoken q) (seat x) (h x) turn.message turn.given (seat y) (h y)) e (works x turn.message turn.given y answers) in
      let b = by_seat (spoken said) w.moment (seat x) s turn.message turn.given (seat y) is w.answers in
      talked_then (spoken said) turn turns x y z s b.0 w b.2
      (talked said turns (k + 1) y z b.0 (drop used bytes) rest (same x turn.message turn.given y answers ∙ e) b.1 (free_is _ _ s b.0 b.2.goes) more)

  pub served_talked : (x z : S) (s : Seat) (left left' sent sent' : Option (List ℕ)) (steps : ℕ) (end : LinkEnd) → seat x ≡ Some s → s.turn ≡ false
      → (i : IsServed A x z left left' sent sent' steps end) → Talked (spoken (p x)) i.turns s (h x) (seat z) (h z)
  served_talked x z s left left' sent sent' steps end is free i = talked (p x) i.turns 0 x z s (i.came ++ []) (i.rest ++ []) refl is free (i.talks [])

-- what every answer keeps, a conversation keeps
module _ {S F : Type 0} (A : S → Message → Given → S → Type 0) (f : S → F) (same : (s : S) (m : Message) (g : Given) (t : S) → A s m g t → f t ≡ f s) where
  kept : (turns : List Turn) (k : ℕ) (x z : S) (bytes rest : List ℕ) → Talks A k x bytes turns z rest → f z ≡ f x
  kept [] k x z bytes rest talk = ap f talk.0
  kept (turn ∷ turns) k x z bytes rest (y, used, decides, answers, text, more) = kept turns (k + 1) y z (drop used bytes) rest more ∙ same x turn.message turn.given y answers

  pub served_kept : (x z : S) (left left' sent sent' : Option (List ℕ)) (steps : ℕ) (end : LinkEnd) → IsServed A x z left left' sent sent' steps end → f z ≡ f x
  served_kept x z left left' sent sent' steps end i = kept i.turns 0 x z (i.came ++ []) (i.rest ++ []) (i.talks [])

-- the bytes of a conversation, whatever answered
module _ {S : Type 0} (A : S → Message → Given → S → Type 0) where
  any_talks : (turns : List Turn) (k : ℕ) (x z : S) (bytes rest : List ℕ) → Talks A k x bytes turns z rest → Talks Any k tt bytes turns tt rest
  any_talks [] k x z bytes rest talk = (refl, talk.1)
  any_talks (turn ∷ turns) k x z bytes rest (y, used, decides, answers, text, more) = (tt, used, decides, tt, text, any_talks turns (k + 1) y z (drop used bytes) rest more)

  pub any_served : (x z : S) (left left' sent sent' : Option (List ℕ)) (steps : ℕ) (end : LinkEnd) → IsServed A x z left left' sent sent' steps end → IsServed Any tt tt left left' sent sent' steps end
  any_served x z left left' sent sent' steps end i = record {
    came = i.came;
    turns = i.turns;
    rest = i.rest;
    tail = i.tail;
    received = i.received;
    talks = λ more. any_talks i.turns 0 x z (i.came ++ more) (i.rest ++ more) (i.talks more);
    went = i.went;
    ends_so = i.ends_so;
    stream = i.stream;
    cost = i.cost;
  }

-- ---- the same, of the conversation at hand

module _ {S : Type 0} {A : S → Message → Given → S → Type 0} {x z : S} {left left' sent sent' : Option (List ℕ)} {steps : ℕ} {end : LinkEnd} (i : IsServed A x z left left' sent sent' steps end) where
  pub keeps : {F : Type 0} (f : S → F) → ((s : S) (m : Message) (g : Given) (t : S) → A s m g t → f t ≡ f s) → f z ≡ f x
  keeps f same = served_kept A f same x z left left' sent sent' steps end i

  pub talked_by : {L : Type 0} (p : S → Spoken) (seat : S → Option Seat) (h : S → Option (Held L)) → ((s : S) (m : Message) (g : Given) (t : S) → A s m g t → Works (spoken (p s)) (seat s) (h s) m g (seat t) (h t))
      → ((s : S) (m : Message) (g : Given) (t : S) → A s m g t → p t ≡ p s) → (s : Seat) → seat x ≡ Some s → s.turn ≡ false → Talked (spoken (p x)) i.turns s (h x) (seat z) (h z)
  talked_by p seat h works same s is free = served_talked A p seat h works same x z s left left' sent sent' steps end is free i

pub has_talk : {L : Type 0} (K : Ghosts L) (said : Spoken) {S : Type 0} {A : S → Message → Given → S → Type 0} {x z : S} (link after : L) (steps : ℕ) (end : LinkEnd)
    → (i : IsServed A x z (K.left link) (K.left after) (K.sent link) (K.sent after) steps end) → RisesOnlyWhere (end ≡ LinkFailed) (K.faults link) (K.faults after) → HasTalk K (spoken said) link after i.turns
unfolding any_served
has_talk K said {S} {A} {x} {z} link after steps end i cause = record {
  end = end;
  talk = record { steps = steps; served = any_served A x z (K.left link) (K.left after) (K.sent link) (K.sent after) steps end i; turns_are = refl };
  cause = cause;
}
