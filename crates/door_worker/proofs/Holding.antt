-- Links of a door in a row.
use Rattle.std.proofs.Common.{◌≡◌, inl, ℕ, ◌+◌, ◌-◌, ◌<◌, cond, false, List, [], ◌∷◌, ◌++◌, map, refl, sym, ◌∙◌, ap, subst, arith, append_assoc, Option, Some, None, Ok, Err}
use Rattle.std.specs.Prelude.{option_map}
use Rattle.std.proofs.lemmas.Bool.{le-leb}
use Rattle.std.proofs.lemmas.List.{append-nil, map-append}
use Rattle.door_worker.specs.Answers.{Answered, Answers}
use Rattle.door_worker.specs.Doors.{AreHeld, HasTalk, HaveTalks, IsHeld, LeavesNone, ServesDoor, TakesMoments}
use Rattle.door_worker.specs.Languages.{Language}
use Rattle.door_worker.specs.Working.{IsAt, IsKnown, KeepsLinks, Post, ServesAt, Talked, moments_of}
use Rattle.door_worker.proofs.Answering.{answers_none, answers_then}
use Rattle.door_worker.proofs.Going.{free_is, known_then}
use Rattle.exchange_shared.specs.Seats.{Seat}
use Rattle.link_door.specs.Doors.{GivesLink, Held, with_served}
use Rattle.link_door.specs.declared.link.Link.{Ghosts}
use Rattle.plain_exchange.proofs.Each.{some_same}
use Rattle.rtb_base.specs.Faults.{RisesOnlyWhere}
use Rattle.session.specs.Talk.{Turn}

-- a link that was given comes back
back_held : {L : Type 0} (link : L) (k : Held L) → 0 < k.out → with_served link k ≡ record k { served = k.served ++ link ∷ []; out = k.out - 1 }
back_held {L} link k lt = ap (λ b. cond b (record k { served = k.served ++ link ∷ []; out = k.out - 1 }) k) (le-leb 1 k.out lt)

moments_then : (l m : List Answered) (a b c : Option (List ℕ)) → TakesMoments a l b → TakesMoments b m c → TakesMoments a (l ++ m) c
moments_then [] m a b c p q = subst (λ (x : Option (List ℕ)). TakesMoments x m c) p q
moments_then (x ∷ l) m a b c p q = (p.0, moments_then l m (option_map _ a) b c p.1 q)

module _ {L : Type 0} (K : Ghosts L) (language : Language) where
  talks_then : (links more after further : List L) (l m : List Turn) → HaveTalks K language links after l → HaveTalks K language more further m → HaveTalks K language (links ++ more) (after ++ further) (l ++ m)
  talks_then [] more [] further l m p q = subst (λ (t : List Turn). HaveTalks K language more further (t ++ m)) (sym p) q
  talks_then (link ∷ links) more (back ∷ after) further l m (own, rest, is, talk, p) q =
      (own, rest ++ m, ap (λ t. t ++ m) is ∙ append_assoc own rest m, talk, talks_then links more after further rest m p q)
  talks_then [] more (back ∷ after) further l m p q = absurd p
  talks_then (link ∷ links) more [] further l m p q = absurd p

  held_none : (h : Held L) → IsHeld K language [] h h
  held_none h = record { given = []; back = []; left = refl; came_back = sym (append-nil h.served); talks = refl; moments = refl }

  held_then : (l m : List Answered) (h k j : Held L) → IsHeld K language l h k → IsHeld K language m k j → IsHeld K language (l ++ m) h j
  held_then l m h k j a b = record {
    given = a.given ++ b.given;
    back = a.back ++ b.back;
    left = a.left ∙ ap (λ x. a.given ++ x) b.left ∙ sym (append_assoc a.given b.given j.left);
    came_back = b.came_back ∙ ap (λ x. x ++ b.back) a.came_back ∙ append_assoc h.served a.back b.back;
    talks = subst (λ (t : List Turn). HaveTalks K language (a.given ++ b.given) (a.back ++ b.back) t) (sym (map-append (λ (x : Answered). x.turn) l m))
        (talks_then a.given b.given a.back b.back (map (λ (x : Answered). x.turn) l) (map (λ (x : Answered). x.turn) m) a.talks b.talks);
    moments = moments_then l m (Some h.moments) (Some k.moments) (Some j.moments) a.moments b.moments;
  }

  are_none : (o : Option (Held L)) → AreHeld K language [] o o
  are_none None = tt
  are_none (Some h) = (h, refl, held_none h)

  are_then : (l m : List Answered) (a b c : Option (Held L)) → AreHeld K language l a b → AreHeld K language m b c → AreHeld K language (l ++ m) a c
  are_then l m None b c p q = tt
  are_then l m (Some h) b c (k, e, s) q = behind (subst (λ o. AreHeld K language m o c) e q)
    where
      behind : AreHeld K language m (Some k) c → AreHeld K language (l ++ m) (Some h) c
      behind (j, f, t) = (j, f, held_then l m h k j s t)

  -- a link was given, served and taken back
  one_held : (E : Type 0) (all : List Answered) (turns : List Turn) (a b c d : Option (Held L)) (link back : L) → GivesLink {E = E} a b (Ok (Some link)) → map (λ (x : Answered). x.turn) all ≡ turns → HasTalk K language link back turns
      → TakesMoments (moments_of b) all (moments_of c) → KeepsLinks b c → d ≡ option_map (with_served back) c → AreHeld K language all a d
  one_held E all turns None b c d link back gives are talk moments keeps is = tt
  one_held E all turns (Some h) b c d link back (rest, first, now) are talk moments keeps is =
      behind (subst (λ o. KeepsLinks o c) now keeps) (subst (λ o. TakesMoments (moments_of o) all (moments_of c)) now moments)
    where
      behind : KeepsLinks (Some (record h { left = rest; out = h.out + 1 })) c → TakesMoments (Some h.moments) all (moments_of c) → AreHeld K language all (Some h) d
      behind (k, e, s) ms =
          let out : k.out ≡ h.out + 1 = s.out in
          let some : 0 < k.out = omega (arith, out) in
          let k' : Held L = record k { served = k.served ++ back ∷ []; out = k.out - 1 } in (
            k',
            is ∙ ap (option_map (with_served back)) e ∙ ap (λ (x : Held L). Some x) (back_held back k some),
            record {
              given = link ∷ [];
              back = back ∷ [];
              left = first.0 ∙ ap (λ x. link ∷ x) (sym s.left);
              came_back = ap (λ x. x ++ back ∷ []) s.served;
              talks = (turns, [], are ∙ sym (append-nil turns), talk, refl);
              moments = subst (λ (o : Option (Held L)). TakesMoments (Some h.moments) all (moments_of o)) e ms;
            },
          )

  -- ---- a door

  pub door_none : (s : Seat) (o : Option (Held L)) → s.turn ≡ false → ServesDoor K language s o s o
  door_none s o free = record { all = []; answers = answers_none language s free; door = are_none o }

  -- what was served, and whether anything falls along the list then
  pub door_then : (s t u : Seat) (a b c : Option (Held L)) → ServesDoor K language s a t b → ServesDoor K language t b u c → IsKnown t u → ServesDoor K language s a u c
  door_then s t u a b c p q known = record {
    all = p.all ++ q.all;
    answers = answers_then language p.all q.all s t u p.answers q.answers known;
    door = are_then p.all q.all a b c p.door q.door;
  }

  pub one_served : (E : Type 0) (turns : List Turn) (s t : Seat) (seat : Option Seat) (a b c d : Option (Held L)) (link back : L) → GivesLink {E = E} a b (Ok (Some link)) → (talked : Talked language turns s b seat c) → seat ≡ Some t
      → HasTalk K language link back turns → d ≡ option_map (with_served back) c → ServesDoor K language s a t d
  one_served E turns s t seat a b c d link back gives talked is talk back_is = record {
    all = talked.all;
    answers = subst (λ (u : Seat). Answers language talked.all s u) (some_is talked.now t (sym talked.seat_is ∙ is)) talked.answers;
    door = one_held E talked.all turns a b c d link back gives talked.turns_are talk talked.moments talked.links back_is;
  }
    where
      some_is : (x y : Seat) → ◌≡◌ {A = Option Seat} (Some x) (Some y) → x ≡ y
      some_is x y e = cc e

  -- none was left
  pub none_served : (E : Type 0) (s : Seat) (a b : Option (Held L)) → s.turn ≡ false → GivesLink {E = E} a b (Ok None) → ServesDoor K language s a s b
  none_served E s a b free gives = record { all = []; answers = answers_none language s free; door = none_held a gives }
    where
      none_held : (a : Option (Held L)) → GivesLink {E = E} a b (Ok None) → AreHeld K language [] a b
      none_held None gives = tt
      none_held (Some h) (rest, first, is) = (
        record h { left = rest; out = h.out + 0 },
        is,
        record { given = []; back = []; left = first.0; came_back = sym (append-nil h.served); talks = refl; moments = refl },
      )

  -- the door failed
  pub failed_served : {E : Type 0} (s : Seat) (a b : Option (Held L)) (e : E) → s.turn ≡ false → GivesLink a b (Err e) → ServesDoor K language s a s b
  failed_served {E} s a b e free gives = record { all = []; answers = answers_none language s free; door = failed_held a gives }
    where
      failed_held : (a : Option (Held L)) → GivesLink {E = E} a b (Err e) → AreHeld K language [] a b
      failed_held None gives = tt
      failed_held (Some h) is = subst (AreHeld K language [] (Some h)) (sym is) (are_none (Some h))

pub none_left : {L : Type 0} (E : Type 0) (a b : Option (Held L)) → GivesLink {E = E} a b (Ok None) → LeavesNone a b
none_left E None b gives = tt
none_left E (Some h) b (rest, first, is) = (record h { left = rest; out = h.out + 0 }, is, first.1 refl)

module _ {L : Type 0} (K : Ghosts L) (language : Language) where
  pub leaves_then : (s t : Seat) (a b c : Option (Held L)) → ServesDoor K language s a t b → LeavesNone b c → LeavesNone a c
  leaves_then s t a b c p q = behind a p.door
    where
      behind : (a : Option (Held L)) → AreHeld K language p.all a b → LeavesNone a c
      behind None d = tt
      behind (Some h) (k, e, x) = subst (λ o. LeavesNone o c) e q

-- ---- a worker at a door

module _ {L : Type 0} (K : Ghosts L) (language : Language) where
  pub serves_none : (p : Post) (held : Option (Held L)) → IsAt p → ServesAt K language p held p held
  serves_none p held at = record { seat = at.seat; has = at.has; now = at.seat; has_now = at.has; served = door_none K language at.seat held at.free; known = inl refl }

  pub serves_then : (p q r : Post) (a b c : Option (Held L)) → ServesAt K language p a q b → ServesAt K language q b r c → ServesAt K language p a r c
  serves_then p q r a b c x y =
      let same : y.seat ≡ x.now = cc (y.has, x.has_now) in
      let known : IsKnown x.now y.now = subst (λ (s : Seat). IsKnown s y.now) same y.known in
      record {
        seat = x.seat;
        has = x.has;
        now = y.now;
        has_now = y.has_now;
        served = door_then K language x.seat x.now y.now a b c x.served (subst (λ (s : Seat). ServesDoor K language s b y.now c) same y.served) known;
        known = known_then x.seat x.now y.now x.known known;
      }

  pub at_now : (p q : Post) (a b : Option (Held L)) → ServesAt K language p a q b → IsAt q
  at_now p q a b x = record { seat = x.now; has = x.has_now; free = free_is _ _ x.seat x.now x.served.answers.goes }

  pub leaves_at : (p q : Post) (a b c : Option (Held L)) → ServesAt K language p a q b → LeavesNone b c → LeavesNone a c
  leaves_at p q a b c x l = leaves_then K language x.seat x.now a b c x.served l

-- a cause behind an option, where the count was the same before
pub rises_some : {A : Type 0} (x y : A) (a b m : ℕ) → b ≡ a → RisesOnlyWhere (◌≡◌ {A = Option A} (Some x) (Some y)) b m → RisesOnlyWhere (x ≡ y) a m
rises_some {A} x y a b m e h = subst (λ k. RisesOnlyWhere (x ≡ y) k m) e (h.0, (λ is. h.1 (ap (λ (z : A). Some z) is)), (λ other. h.2 (λ is. other (some_same x y is))))
