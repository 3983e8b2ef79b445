-- Links of a door in a row.
use Rattle.std.proofs.Common.{◌≡◌, ◌+◌, ◌-◌, ◌<◌, cond, List, [], ◌∷◌, ◌++◌, refl, sym, ◌∙◌, ap, subst, arith, append_assoc, Option, Some, None, Ok, Err}
use Rattle.std.specs.Prelude.{option_map}
use Rattle.std.proofs.lemmas.Bool.{le-leb}
use Rattle.std.proofs.lemmas.List.{append-nil}
use Rattle.follower.specs.Doors.{AreHeld, Follows, HasTalk, HaveTalks, IsHeld, LeavesNone, ServesReports}
use Rattle.follower.specs.declared.follower.Follower.{Follower}
use Rattle.follower.proofs.Following.{follows_none, follows_then, of_talks}
use Rattle.link_door.specs.Doors.{GivesLink, Held, with_served}
use Rattle.link_door.specs.declared.link.Link.{Ghosts as LinkGhosts}
use Rattle.rtb_disk.specs.declared.disk.Disk.{Ghosts as DiskGhosts}
use Rattle.session.specs.Talk.{Turn}

-- a link that was given comes back
back_held : {L : Type 0} (link : L) (k : Held L) → 0 < k.out → with_served link k ≡ record k { served = k.served ++ link ∷ []; out = k.out - 1 }
back_held {L} link k lt = ap (λ b. cond b (record k { served = k.served ++ link ∷ []; out = k.out - 1 }) k) (le-leb 1 k.out lt)

module _ {D L : Type 0} (G : DiskGhosts D) (K : LinkGhosts L) where
  talks_then : (links more after further : List L) (l m : List Turn) (f g h : Follower D) → HaveTalks G K links after l f g → HaveTalks G K more further m g h → HaveTalks G K (links ++ more) (after ++ further) (l ++ m) f h
  talks_then [] more [] further l m f g h (none, same) q =
      subst (λ (t : List Turn). HaveTalks G K more further (t ++ m) f h) (sym none) (subst (λ (x : Follower D). HaveTalks G K more further m x h) same q)
  talks_then (link ∷ links) more (back ∷ after) further l m f g h (mid, own, rest, is, talk, p) q =
      (mid, own, rest ++ m, ap (λ t. t ++ m) is ∙ append_assoc own rest m, talk, talks_then links more after further rest m mid g h p q)
  talks_then [] more (back ∷ after) further l m f g h p q = absurd p
  talks_then (link ∷ links) more [] further l m f g h p q = absurd p

  held_none : (o : Held L) (f : Follower D) → IsHeld G K [] o o f f
  held_none o f = record { given = []; back = []; left = refl; came_back = sym (append-nil o.served); talks = (refl, refl); moments = refl; out = refl }

  held_then : (l m : List Turn) (o k j : Held L) (f g h : Follower D) → IsHeld G K l o k f g → IsHeld G K m k j g h → IsHeld G K (l ++ m) o j f h
  held_then l m o k j f g h a b = record {
    given = a.given ++ b.given;
    back = a.back ++ b.back;
    left = a.left ∙ ap (λ x. a.given ++ x) b.left ∙ sym (append_assoc a.given b.given j.left);
    came_back = b.came_back ∙ ap (λ x. x ++ b.back) a.came_back ∙ append_assoc o.served a.back b.back;
    talks = talks_then a.given b.given a.back b.back l m f g h a.talks b.talks;
    moments = b.moments ∙ a.moments;
    out = b.out ∙ a.out;
  }

  are_none : (o : Option (Held L)) (f : Follower D) → AreHeld G K [] o o f f
  are_none None f = tt
  are_none (Some o) f = (o, refl, held_none o f)

  are_then : (l m : List Turn) (a b c : Option (Held L)) (f g h : Follower D) → AreHeld G K l a b f g → AreHeld G K m b c g h → AreHeld G K (l ++ m) a c f h
  are_then l m None b c f g h p q = tt
  are_then l m (Some o) b c f g h (k, e, s) q = behind (subst (λ x. AreHeld G K m x c g h) e q)
    where
      behind : AreHeld G K m (Some k) c g h → AreHeld G K (l ++ m) (Some o) c f h
      behind (j, e', t) = (j, e', held_then l m o k j f g h s t)

  -- a link was given, served and taken back
  one_held : (E : Type 0) (turns : List Turn) (f g : Follower D) (a b d : Option (Held L)) (link back : L) → GivesLink {E = E} a b (Ok (Some link)) → HasTalk G K link back turns f g → d ≡ option_map (with_served back) b → AreHeld G K turns a d f g
  one_held E turns f g None b d link back gives talk is = tt
  one_held E turns f g (Some o) b d link back (rest, first, now) talk is =
      let k : Held L = record o { left = rest; out = o.out + 1 } in
      let k' : Held L = record k { served = k.served ++ back ∷ []; out = k.out - 1 } in (
        k',
        is ∙ ap (option_map (with_served back)) now ∙ ap (λ (x : Held L). Some x) (back_held back k (omega arith)),
        record {
          given = link ∷ [];
          back = back ∷ [];
          left = first.0;
          came_back = refl;
          talks = (g, turns, [], sym (append-nil turns), talk, (refl, refl));
          moments = refl;
          out = omega arith;
        },
      )

  -- ---- a door

  pub serves_none : (f : Follower D) (o : Option (Held L)) → ServesReports G K f o f o
  serves_none f o = record { turns = []; door = are_none o f; follows = follows_none G f }

  pub serves_then : (f g h : Follower D) (a b c : Option (Held L)) → ServesReports G K f a g b → ServesReports G K g b h c → ServesReports G K f a h c
  serves_then f g h a b c p q = record {
    turns = p.turns ++ q.turns;
    door = are_then p.turns q.turns a b c f g h p.door q.door;
    follows = follows_then G p.turns q.turns f g h p.follows q.follows;
  }

  pub one_served : (E : Type 0) (turns : List Turn) (f g : Follower D) (a b d : Option (Held L)) (link back : L) → GivesLink {E = E} a b (Ok (Some link)) → HasTalk G K link back turns f g → d ≡ option_map (with_served back) b → ServesReports G K f a g d
  one_served E turns f g a b d link back gives talk is = record {
    turns = turns;
    door = one_held E turns f g a b d link back gives talk is;
    follows = subst (λ (t : List Turn). Follows G t f g) talk.turns_are (of_talks G 0 f g (talk.served.came ++ []) (talk.served.rest ++ []) talk.served.turns (talk.served.talks []));
  }

  -- none was left
  pub none_served : (E : Type 0) (f : Follower D) (a b : Option (Held L)) → GivesLink {E = E} a b (Ok None) → ServesReports G K f a f b
  none_served E f a b gives = record { turns = []; door = none_held a gives; follows = follows_none G f }
    where
      none_held : (a : Option (Held L)) → GivesLink {E = E} a b (Ok None) → AreHeld G K [] a b f f
      none_held None gives = tt
      none_held (Some o) (rest, first, is) = (
        record o { left = rest; out = o.out + 0 },
        is,
        record { given = []; back = []; left = first.0; came_back = sym (append-nil o.served); talks = (refl, refl); moments = refl; out = omega arith },
      )

  -- the door failed
  pub failed_served : {E : Type 0} (f : Follower D) (a b : Option (Held L)) (e : E) → GivesLink a b (Err e) → ServesReports G K f a f b
  failed_served {E} f a b e gives = record { turns = []; door = failed_held a gives; follows = follows_none G f }
    where
      failed_held : (a : Option (Held L)) → GivesLink {E = E} a b (Err e) → AreHeld G K [] a b f f
      failed_held None gives = tt
      failed_held (Some o) is = subst (λ x. AreHeld G K [] (Some o) x f f) (sym is) (are_none (Some o) f)

  pub leaves_then : (f g : Follower D) (a b c : Option (Held L)) → ServesReports G K f a g b → LeavesNone b c → LeavesNone a c
  leaves_then f g a b c p q = behind a p.door
    where
      behind : (a : Option (Held L)) → AreHeld G K p.turns a b f g → LeavesNone a c
      behind None d = tt
      behind (Some o) (k, e, x) = subst (λ o. LeavesNone o c) e q

pub none_left : {L : Type 0} (E : Type 0) (a b : Option (Held L)) → GivesLink {E = E} a b (Ok None) → LeavesNone a b
none_left E None b gives = tt
none_left E (Some o) b (rest, first, is) = (record o { left = rest; out = o.out + 0 }, is, first.1 refl)
