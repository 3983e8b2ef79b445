-- How a conversation goes on, and how it ends.
use Rattle.std.proofs.Common.{◌≡◌, ℕ, ◌+◌, ◌*◌, ◌-◌, ◌<◌, ◌≤◌, ◌==◌, ◌||◌, inl, inr, not, Bool, true, false, List, [], ◌∷◌, ◌++◌, length, drop, Option, Some, None, refl, sym, ap, subst, ◌∙◌, length-append, arith}
use Rattle.std.specs.List.{list_any}
use Rattle.std.specs.Io.KnownBytes.{Appends, Consumes}
use Rattle.std.proofs.KnownBytes.{Appends-trans, Consumes-trans}
use Rattle.std.proofs.lemmas.List.{append-nil, length-drop}
use Rattle.std.proofs.lemmas.Bool.{cases_lt, eq-eqb}
use Rattle.rtb_io.specs.Fronts.{AppendsFront}
use Rattle.http_wire.specs.declared.message.Message.{Message}
use Rattle.http_wire.specs.declared.message.Step.TheVariants.{Got, Refused}
use Rattle.http_wire.specs.declared.refusal.Refusal.{Refusal}
use Rattle.http_wire.specs.declared.refusal.Refusal.TheVariants as refusal
use Rattle.http_wire.specs.Answers.{IsWritable, error_answer, statuses}
use Rattle.http_wire.specs.Wire.{Decides}
use Rattle.http_wire.specs.Words.{status_of}
use Rattle.session.specs.declared.link_end.LinkEnd.{LinkEnd}
use Rattle.session.specs.declared.link_end.LinkEnd.TheVariants as link
use Rattle.session.specs.declared.service.Given.{Given}
use Rattle.session.specs.declared.receive.Received.TheVariants as received
use Rattle.session.specs.Receives.{Costs, Grows, IsReceived, IsEnd, IsMemoryEnd, IsTail, IsTurn, SendsTail, Talking, TurnEnds}
use Rattle.session.specs.Streams.{is_last, most_messages}
use Rattle.session.specs.Talk.{EndsSo, GoesOn, IsOver, IsServed, Sends, Talks, Turn, in_tail, in_turn, bodies, memory_closes, refusal_closes, texts}
use Rattle.session.proofs.Ends.{stream_of}
use Rattle.session.proofs.Talks.{bodies_more, goes_more, talks_more, talks_on, texts_more}

pub memory_tail : (status : ℕ) (word : List ℕ) (end : LinkEnd) → IsMemoryEnd end → IsTail status word memory_closes end
memory_tail status word end (inl e) = subst (λ k. IsTail status word memory_closes k) (sym e) refl
memory_tail status word end (inr e) = subst (λ k. IsTail status word memory_closes k) (sym e) (inl refl)

-- ---- refusals can be written

plain_error : (status : ℕ) (word : List ℕ) → list_any (λ n. n == status) statuses ≡ true → (status == 405) ≡ false → (status ≡ 204 → ⊥) → (status ≡ 405 → ⊥) → IsWritable (error_answer status word)
plain_error status word known other a b = record {
  status = known;
  allow = ap not (sym other);
  no_content = λ e. absurd (a e);
  not_allowed = λ e. absurd (b e);
}

refusal_writable : (r : Refusal) (word : List ℕ) → IsWritable (error_answer (status_of r) word)
refusal_writable refusal.HeadTooLarge word = plain_error 431 word refl refl (λ e. omega (arith, e)) (λ e. omega (arith, e))
refusal_writable refusal.Head word = plain_error 400 word refl refl (λ e. omega (arith, e)) (λ e. omega (arith, e))
refusal_writable refusal.TransferEncoding word = plain_error 501 word refl refl (λ e. omega (arith, e)) (λ e. omega (arith, e))
refusal_writable refusal.ContentLength word = plain_error 400 word refl refl (λ e. omega (arith, e)) (λ e. omega (arith, e))
refusal_writable refusal.BodyTooLarge word = plain_error 413 word refl refl (λ e. omega (arith, e)) (λ e. omega (arith, e))
refusal_writable refusal.ContentEncoding word = plain_error 415 word refl refl (λ e. omega (arith, e)) (λ e. omega (arith, e))

pub decided_writable : (bytes : List ℕ) (status : ℕ) (word : List ℕ) → Decides bytes (Refused status word) → IsWritable (error_answer status word)
decided_writable bytes status word (r, opens, s, w) = subst (λ k. IsWritable (error_answer k word)) (sym s) (refusal_writable r word)

-- ---- what is sent

appends_none : (a : Option (List ℕ)) → Appends a a []
appends_none None = tt
appends_none (Some x) = sym (append-nil x)

sends_more : (a b c : Option (List ℕ)) (turns : List Turn) (tail : List ℕ) (end : LinkEnd) → Appends a b (texts turns) → SendsTail b c tail end → Sends a c turns tail end
sends_more a b c turns tail link.Done p q = Appends-trans _ _ _ _ _ p q
sends_more a b c turns tail (link.Cut over) p q = Appends-trans _ _ _ _ _ p q
sends_more a b c turns tail (link.Refused s) p q = Appends-trans _ _ _ _ _ p q
sends_more a b c turns tail link.Asked p q = Appends-trans _ _ _ _ _ p q
sends_more a b c turns tail link.Spent p q = Appends-trans _ _ _ _ _ p q
sends_more a b c turns tail link.NoMemory p q = Appends-trans _ _ _ _ _ p q
sends_more a b c turns tail link.LinkFailed p q = in_tail b p q

consumes_none : (a : Option (List ℕ)) → Consumes a a []
consumes_none None = tt
consumes_none (Some x) = refl

front_none : (a : Option (List ℕ)) → AppendsFront a a []
front_none a = record { front = []; rest = []; parts = refl; went = appends_none a }

sends_none : (a : Option (List ℕ)) (end : LinkEnd) → SendsTail a a [] end
sends_none a link.Done = appends_none a
sends_none a (link.Cut over) = appends_none a
sends_none a (link.Refused s) = appends_none a
sends_none a link.Asked = appends_none a
sends_none a link.Spent = appends_none a
sends_none a link.NoMemory = appends_none a
sends_none a link.LinkFailed = front_none a

-- ---- why the link ends

pub over_so : (left : Option (List ℕ)) (turns : List Turn) (rest : List ℕ) (end : LinkEnd) → GoesOn 0 turns → IsOver left rest → IsEnd rest end → EndsSo left turns rest [] end
over_so left turns rest link.Done goes over is = (goes, over, is, refl)
over_so left turns rest (link.Cut held) goes over is = (goes, over, is.0, is.1, refl)
over_so left turns rest (link.Refused s) goes over is = absurd is
over_so left turns rest link.Asked goes over is = absurd is
over_so left turns rest link.Spent goes over is = absurd is
over_so left turns rest link.NoMemory goes over is = (goes, inl refl)
over_so left turns rest link.LinkFailed goes over is = absurd is

pub memory_so : (left : Option (List ℕ)) (turns : List Turn) (rest : List ℕ) (end : LinkEnd) → GoesOn 0 turns → IsMemoryEnd end → EndsSo left turns rest memory_closes end
memory_so left turns rest end goes (inl e) = subst (λ k. EndsSo left turns rest memory_closes k) (sym e) (goes, inr refl)
memory_so left turns rest end goes (inr e) = subst (λ k. EndsSo left turns rest memory_closes k) (sym e) (inl goes, inr (inl refl))

pub refused_so : (left : Option (List ℕ)) (turns : List Turn) (rest : List ℕ) (status : ℕ) (word tail : List ℕ) (end : LinkEnd) → GoesOn 0 turns → Decides rest (Refused status word) → IsTail status word tail end → EndsSo left turns rest tail end
refused_so left turns rest status word tail link.Done goes decides is = absurd is
refused_so left turns rest status word tail (link.Cut held) goes decides is = absurd is
refused_so left turns rest status word tail (link.Refused s) goes decides is =
    (goes, (word, subst (λ k. Decides rest (Refused k word)) (sym is.0) decides, is.1 ∙ ap (λ k. refusal_closes k word) (sym is.0)))
refused_so left turns rest status word tail link.Asked goes decides is = absurd is
refused_so left turns rest status word tail link.Spent goes decides is = absurd is
refused_so left turns rest status word tail link.NoMemory goes decides is = (goes, inr is)
refused_so left turns rest status word tail link.LinkFailed goes decides (inl is) = (inl goes, inr (inl is))
refused_so left turns rest status word tail link.LinkFailed goes decides (inr is) = (inl goes, inr (inr (status, word, decides, is)))

or_false : (t u : Bool) → (t || u) ≡ false → u ≡ false
or_false true u e = cc
or_false false u e = e

pub still_few : (n : ℕ) (m : Message) → n < 10000 → is_last (n + 1) m ≡ false → n + 1 < 10000
still_few n m few e =
    elim (cases_lt (n + 1) 10000) [
      | inl less ↦ less
      | inr more ↦ (
          let same : n + 1 ≡ 10000 = omega arith in
          let wrong : ◌≡◌ {A = Bool} true false = sym (eq-eqb (n + 1) 10000 same) ∙ or_false m.closes (n + 1 == most_messages) e in
          cc)
    ]

pub ticks_join : (a b c : ℕ) → a ≤ b → b ≤ c → (b - a) + (c - b) ≡ c - a
ticks_join a b c h k = omega arith

module _ {S : Type 0} (Answers : S → Message → Given → S → Type 0) where
  pub at_first : (s : S) (left sent : Option (List ℕ)) (held : List ℕ) (steps : ℕ) → held ≡ [] → Talking Answers s s left left sent sent held 0 (steps - steps)
  at_first s left sent held steps e = record {
    came = [];
    turns = [];
    received = consumes_none left;
    talks = (refl, e);
    goes = tt;
    count = refl;
    went = appends_none sent;
    cost = omega (arith, ap length e);
  }

  pub held_more : (before after : S) (left mid left' sent sent' : Option (List ℕ)) (held all : List ℕ) (number steps : ℕ)
      → Talking Answers before after left mid sent sent' held number steps → Grows mid left' held all → Talking Answers before after left left' sent sent' all number steps
  held_more before after left mid left' sent sent' held all number steps t g = record {
    came = t.came ++ g.came;
    turns = t.turns;
    received = Consumes-trans _ _ _ _ _ t.received g.received;
    talks = subst (λ k. Talks Answers 0 before (t.came ++ g.came) t.turns after k) (sym g.now_is) (talks_on Answers 0 before t.came g.came t.turns after held t.talks);
    goes = t.goes;
    count = t.count;
    went = t.went;
    cost = omega (arith, t.cost, ap length g.now_is, length-append held g.came, length-append t.came g.came);
  }

  -- the end of a conversation behind whole messages
  pub finish : (before after : S) (left left' sent mid sent' : Option (List ℕ)) (all : List ℕ) (number steps more : ℕ) (tail : List ℕ) (end : LinkEnd)
      → Talking Answers before after left left' sent mid all number steps → Costs more all → ((turns : List Turn) → GoesOn 0 turns → EndsSo left' turns all tail end) → SendsTail mid sent' tail end
      → IsServed Answers before after left left' sent sent' (steps + more) end
  finish before after left left' sent mid sent' all number steps more tail end t costs so sends = record {
    came = t.came;
    turns = t.turns;
    rest = all;
    tail = tail;
    received = t.received;
    talks = λ behind. talks_on Answers 0 before t.came behind t.turns after all t.talks;
    went = sends_more sent mid sent' t.turns tail end t.went sends;
    ends_so = so t.turns t.goes;
    stream = stream_of Answers before after left left' t.came t.turns all tail end t.received t.talks (so t.turns t.goes);
    cost = λ h n out e. omega (arith, t.cost, costs n out, e, t.count);
  }

  pub finish_plain : (before after : S) (left left' sent mid : Option (List ℕ)) (all : List ℕ) (number steps more : ℕ) (end : LinkEnd)
      → Talking Answers before after left left' sent mid all number steps → Costs more all → ((turns : List Turn) → GoesOn 0 turns → EndsSo left' turns all [] end)
      → IsServed Answers before after left left' sent mid (steps + more) end
  finish_plain before after left left' sent mid all number steps more end t costs so =
      finish before after left left' sent mid mid all number steps more [] end t costs so (sends_none mid end)

  pub arrive : (before after : S) (left mid left' sent sent1 sent2 : Option (List ℕ)) (held all : List ℕ) (number steps : ℕ)
      → Talking Answers before after left mid sent sent1 held number steps → Grows mid left' held all → sent2 ≡ sent1 → Talking Answers before after left left' sent sent2 all number steps
  arrive before after left mid left' sent sent1 sent2 held all number steps t g e =
      subst (λ k. Talking Answers before after left left' sent k all number steps) (sym e) (held_more before after left mid left' sent sent1 held all number steps t g)

  turn_of : (message : Message) (given : Given) (text : List ℕ) → Turn
  turn_of message given text = record { message = message; given = given; text = text }

  -- what one more message costs
  turn_cost : (before mid : S) (left left' sent sent1 : Option (List ℕ)) (all : List ℕ) (number steps more used : ℕ) (turn : Turn) (t : Talking Answers before mid left left' sent sent1 all number steps)
      → Decides all (Got turn.message used) → more + length turn.message.body ≤ used + 2
      → (steps + more) + bodies (t.turns ++ turn ∷ []) + length (drop used all) ≤ length t.came + 2 * (number + 1)
  turn_cost before mid left left' sent sent1 all number steps more used turn t decides one =
      let split : length all ≡ used + length (drop used all) = omega (arith, length-drop used all, decides.3) in
      omega (arith, t.cost, bodies_more t.turns turn, one, split)

  pub turn_goes : (before mid after : S) (left left' sent sent1 sent2 : Option (List ℕ)) (all now : List ℕ) (number steps more used : ℕ) (message : Message)
      → Talking Answers before mid left left' sent sent1 all number steps → Decides all (Got message used) → now ≡ drop used all → more + length message.body ≤ used + 2
      → IsTurn Answers mid message (number + 1) after sent1 sent2 None → Talking Answers before after left left' sent sent2 now (number + 1) (steps + more)
  turn_goes before mid after left left' sent sent1 sent2 all now number steps more used message t decides is one turn =
      let this : Turn = record { message = message; given = turn.given; text = turn.text } in
      let place : number + 1 ≡ 0 + length t.turns + 1 = omega (arith, t.count) in
      record {
        came = t.came;
        turns = t.turns ++ this ∷ [];
        received = t.received;
        talks = subst (λ k. Talks Answers 0 before t.came (t.turns ++ this ∷ []) after k) (sym is)
            (talks_more Answers 0 before t.came t.turns mid all this after used (number + 1) place t.talks decides turn.answers turn.text_is);
        goes = goes_more 0 t.turns this (number + 1) place t.goes turn.ends_so.0;
        count = length-append t.turns (this ∷ []) ∙ ap (λ k. k + 1) t.count;
        went = subst (λ k. Appends sent sent2 k) (sym (texts_more t.turns this)) (Appends-trans _ _ _ _ _ t.went turn.ends_so.1);
        cost = omega (arith, turn_cost before mid left left' sent sent1 all number steps more used this t decides one, ap length is);
      }

  all_sent : (a b c : Option (List ℕ)) (turns : List Turn) (turn : Turn) → Appends a b (texts turns) → Appends b c turn.text → Appends a c (texts (turns ++ turn ∷ []) ++ [])
  all_sent a b c turns turn p q = subst (λ k. Appends a c k) (sym (append-nil (texts (turns ++ turn ∷ [])) ∙ texts_more turns turn)) (Appends-trans _ _ _ _ _ p q)

  turn_sends : (a b c : Option (List ℕ)) (turns : List Turn) (turn : Turn) (n : ℕ) (end : LinkEnd) → Appends a b (texts turns) → TurnEnds turn.message n b c turn.text (Some end) → Sends a c (turns ++ turn ∷ []) [] end
  turn_sends a b c turns turn n link.Done p q = absurd q
  turn_sends a b c turns turn n (link.Cut held) p q = absurd q
  turn_sends a b c turns turn n (link.Refused s) p q = absurd q
  turn_sends a b c turns turn n link.Asked p q = all_sent a b c turns turn p q.1
  turn_sends a b c turns turn n link.Spent p q = all_sent a b c turns turn p q.2
  turn_sends a b c turns turn n link.NoMemory p q = absurd q
  turn_sends a b c turns turn n link.LinkFailed p q = in_turn turns turn b refl refl p q

  turn_so : (left b c : Option (List ℕ)) (turns : List Turn) (turn : Turn) (rest : List ℕ) (n : ℕ) (end : LinkEnd) → GoesOn 0 turns → n ≡ length turns + 1 → TurnEnds turn.message n b c turn.text (Some end) → EndsSo left (turns ++ turn ∷ []) rest [] end
  turn_so left b c turns turn rest n link.Done goes e q = absurd q
  turn_so left b c turns turn rest n (link.Cut held) goes e q = absurd q
  turn_so left b c turns turn rest n (link.Refused s) goes e q = absurd q
  turn_so left b c turns turn rest n link.Asked goes e q = ((turn, (turns, refl, goes), q.0), refl)
  turn_so left b c turns turn rest n link.Spent goes e q = ((turn, (turns, refl, goes), q.0), (length-append turns (turn ∷ []) ∙ sym e ∙ q.1), refl)
  turn_so left b c turns turn rest n link.NoMemory goes e q = absurd q
  turn_so left b c turns turn rest n link.LinkFailed goes e q = (inr (turn, (turns, refl, goes)), inl refl)

  pub turn_ends : (before mid after : S) (left left' sent sent1 sent2 : Option (List ℕ)) (all now : List ℕ) (number steps more used : ℕ) (message : Message) (end : LinkEnd)
      → Talking Answers before mid left left' sent sent1 all number steps → Decides all (Got message used) → now ≡ drop used all → more + length message.body ≤ used + 2
      → IsTurn Answers mid message (number + 1) after sent1 sent2 (Some end) → IsServed Answers before after left left' sent sent2 (steps + more) end
  turn_ends before mid after left left' sent sent1 sent2 all now number steps more used message end t decides is one turn =
      let this : Turn = record { message = message; given = turn.given; text = turn.text } in
      let place : number + 1 ≡ 0 + length t.turns + 1 = omega (arith, t.count) in
      let count : number + 1 ≡ length t.turns + 1 = omega (arith, t.count) in
      let talks = talks_more Answers 0 before t.came t.turns mid all this after used (number + 1) place t.talks decides turn.answers turn.text_is in
      let so = turn_so left' sent1 sent2 t.turns this (drop used all) (number + 1) end t.goes count turn.ends_so in
      record {
        came = t.came;
        turns = t.turns ++ this ∷ [];
        rest = drop used all;
        tail = [];
        received = t.received;
        talks = λ behind. talks_on Answers 0 before t.came behind (t.turns ++ this ∷ []) after (drop used all) talks;
        went = turn_sends sent sent1 sent2 t.turns this (number + 1) end t.went turn.ends_so;
        ends_so = so;
        stream = stream_of Answers before after left left' t.came (t.turns ++ this ∷ []) (drop used all) [] end t.received talks so;
        cost = λ h n out e. omega (arith, turn_cost before mid left left' sent sent1 all number steps more used this t decides one, e, length-append t.turns (this ∷ []), t.count);
      }

  -- ---- the turns of the loop: `a` steps at first, `b` when the turn began, `c` after its message

  pub goes_on : (before mid after : S) (left l1 l2 l3 sent s1 s2 s3 : Option (List ℕ)) (held now : List ℕ) (number a b c : ℕ) (message : Message)
      → Talking Answers before mid left l1 sent s1 held number (b - a) → IsReceived l1 l2 held now (c - b) (received.Message message) → s2 ≡ s1
      → IsTurn Answers mid message (number + 1) after s2 s3 None → l3 ≡ l2 → a ≤ b → b ≤ c → Talking Answers before after left l3 sent s3 now (number + 1) (c - a)
  goes_on before mid after left l1 l2 l3 sent s1 s2 s3 held now number a b c message t r e turn le h k =
      let (used, decides, is, one) = r.given in
      let here = arrive before mid left l1 l2 sent s1 s2 held r.all number (b - a) t r.grows e in
      let next = turn_goes before mid after left l2 sent s2 s3 r.all now number (b - a) (c - b) used message here decides is one turn in
      subst (λ z. Talking Answers before after left l3 sent s3 now (number + 1) z) (ticks_join a b c h k)
      (subst (λ z. Talking Answers before after left z sent s3 now (number + 1) (b - a + (c - b))) (sym le) next)

  pub stops : (before mid after : S) (left l1 l2 l3 sent s1 s2 s3 : Option (List ℕ)) (held now : List ℕ) (number a b c : ℕ) (message : Message) (end : LinkEnd)
      → Talking Answers before mid left l1 sent s1 held number (b - a) → IsReceived l1 l2 held now (c - b) (received.Message message) → s2 ≡ s1
      → IsTurn Answers mid message (number + 1) after s2 s3 (Some end) → l3 ≡ l2 → a ≤ b → b ≤ c → IsServed Answers before after left l3 sent s3 (c - a) end
  stops before mid after left l1 l2 l3 sent s1 s2 s3 held now number a b c message end t r e turn le h k =
      let (used, decides, is, one) = r.given in
      let here = arrive before mid left l1 l2 sent s1 s2 held r.all number (b - a) t r.grows e in
      let last = turn_ends before mid after left l2 sent s2 s3 r.all now number (b - a) (c - b) used message end here decides is one turn in
      subst (λ z. IsServed Answers before after left l3 sent s3 z end) (ticks_join a b c h k)
      (subst (λ z. IsServed Answers before after left z sent s3 (b - a + (c - b)) end) (sym le) last)

  pub refuses : (before mid : S) (left l1 l2 l3 sent s1 s2 s3 : Option (List ℕ)) (held now : List ℕ) (number a b c status : ℕ) (word tail : List ℕ) (end : LinkEnd)
      → Talking Answers before mid left l1 sent s1 held number (b - a) → IsReceived l1 l2 held now (c - b) (received.Refused status word) → s2 ≡ s1
      → IsTail status word tail end → SendsTail s2 s3 tail end → l3 ≡ l2 → a ≤ b → b ≤ c → IsServed Answers before mid left l3 sent s3 (c - a) end
  refuses before mid left l1 l2 l3 sent s1 s2 s3 held now number a b c status word tail end t r e is sends le h k =
      let (decides, same, costs) = r.given in
      let here = arrive before mid left l1 l2 sent s1 s2 held r.all number (b - a) t r.grows e in
      let last = finish before mid left l2 sent s2 s3 r.all number (b - a) (c - b) tail end here costs (λ turns goes. refused_so l2 turns r.all status word tail end goes decides is) sends in
      subst (λ z. IsServed Answers before mid left l3 sent s3 z end) (ticks_join a b c h k)
      (subst (λ z. IsServed Answers before mid left z sent s3 (b - a + (c - b)) end) (sym le) last)

  pub over : (before mid : S) (left l1 l2 sent s1 s2 : Option (List ℕ)) (held now : List ℕ) (number a b c : ℕ) (end : LinkEnd)
      → Talking Answers before mid left l1 sent s1 held number (b - a) → IsReceived l1 l2 held now (c - b) received.Ended → s2 ≡ s1
      → IsEnd now end → a ≤ b → b ≤ c → IsServed Answers before mid left l2 sent s2 (c - a) end
  over before mid left l1 l2 sent s1 s2 held now number a b c end t r e is h k =
      let (ended, same, costs) = r.given in
      let here = arrive before mid left l1 l2 sent s1 s2 held r.all number (b - a) t r.grows e in
      let last = finish_plain before mid left l2 sent s2 r.all number (b - a) (c - b) end here costs (λ turns goes. over_so l2 turns r.all end goes ended (subst (λ z. IsEnd z end) same is)) in
      subst (λ z. IsServed Answers before mid left l2 sent s2 z end) (ticks_join a b c h k) last

  pub fails : (before mid : S) (left l1 l2 sent s1 s2 : Option (List ℕ)) (held now : List ℕ) (number a b c : ℕ)
      → Talking Answers before mid left l1 sent s1 held number (b - a) → IsReceived l1 l2 held now (c - b) received.Failed → s2 ≡ s1
      → a ≤ b → b ≤ c → IsServed Answers before mid left l2 sent s2 (c - a) link.LinkFailed
  fails before mid left l1 l2 sent s1 s2 held now number a b c t r e h k =
      let (same, costs) = r.given in
      let here = arrive before mid left l1 l2 sent s1 s2 held r.all number (b - a) t r.grows e in
      let last = finish_plain before mid left l2 sent s2 r.all number (b - a) (c - b) link.LinkFailed here costs (λ turns goes. (inl goes, inl refl)) in
      subst (λ z. IsServed Answers before mid left l2 sent s2 z link.LinkFailed) (ticks_join a b c h k) last

  pub starves : (before mid : S) (left l1 l2 l3 sent s1 s2 s3 : Option (List ℕ)) (held now : List ℕ) (number a b c : ℕ) (end : LinkEnd)
      → Talking Answers before mid left l1 sent s1 held number (b - a) → IsReceived l1 l2 held now (c - b) received.Memory → s2 ≡ s1
      → IsMemoryEnd end → SendsTail s2 s3 memory_closes end → l3 ≡ l2 → a ≤ b → b ≤ c → IsServed Answers before mid left l3 sent s3 (c - a) end
  starves before mid left l1 l2 l3 sent s1 s2 s3 held now number a b c end t r e is sends le h k =
      let (same, costs) = r.given in
      let here = arrive before mid left l1 l2 sent s1 s2 held r.all number (b - a) t r.grows e in
      let last = finish before mid left l2 sent s2 s3 r.all number (b - a) (c - b) memory_closes end here costs (λ turns goes. memory_so l2 turns r.all end goes is) sends in
      subst (λ z. IsServed Answers before mid left l3 sent s3 z end) (ticks_join a b c h k)
      (subst (λ z. IsServed Answers before mid left z sent s3 (b - a + (c - b)) end) (sym le) last)

  -- a conversation that took nothing
  pub none_served : (s : S) (left sent : Option (List ℕ)) (steps : ℕ) → IsServed Answers s s left left sent sent (steps - steps) link.NoMemory
  none_served s left sent steps = record {
    came = [];
    turns = [];
    rest = [];
    tail = [];
    received = consumes_none left;
    talks = λ behind. (refl, refl);
    went = appends_none sent;
    ends_so = (tt, inl refl);
    stream = λ all e of. absurd (of.1 refl);
    cost = λ h n out e. omega arith;
  }
