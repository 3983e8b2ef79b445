-- One door, served with one seat.
use Rattle.std.specs.Prelude.{◌≡◌, ℕ, List, [], ◌∷◌, ◌++◌, map, option_map, slice_get, Option, None, Some, ⊤}
use Rattle.door_worker.specs.Answers.{Answered, Answers}
use Rattle.door_worker.specs.Languages.{Language}
use Rattle.exchange_shared.specs.Seats.{Seat}
use Rattle.link_door.specs.Doors.{Held, later}
use Rattle.link_door.specs.declared.link.Link.{Ghosts}
use Rattle.rtb_base.specs.Faults.{RisesOnlyWhere}
use Rattle.session.specs.declared.link_end.LinkEnd.{LinkEnd}
use Rattle.session.specs.declared.link_end.LinkEnd.TheVariants.{LinkFailed}
use Rattle.session.specs.Talk.{Turn}

-- ---- moments

-- this is the first of the moments, where they are told
abbrev pub IsNow : Option (List ℕ) → ℕ → Type 0
IsNow None moment = ⊤
IsNow (Some moments) moment = slice_get moments 0 ≡ Some moment

-- each message was taken up at the next moment: the nth at the nth
abbrev pub TakesMoments : Option (List ℕ) → List Answered → Option (List ℕ) → Type 0
TakesMoments moments [] after = after ≡ moments
TakesMoments moments (a ∷ all) after = IsNow moments a.moment × TakesMoments (option_map later moments) all after

-- ---- links

module _ {L : Type 0} (K : Ghosts L) (language : Language) where
  -- On this link came the messages of these turns, and what was sent is the texts of what was given for them, up to the
  -- link's end.
  pub record HasTalk (link after : L) (turns : List Turn) : Type 0 where
    pub end : LinkEnd
    pub talk : language.Carries (K.left link) (K.left after) (K.sent link) (K.sent after) turns end
    pub cause : RisesOnlyWhere (end ≡ LinkFailed) (K.faults link) (K.faults after)

  -- the same of each of these links, one after the other, which were then those
  abbrev pub HaveTalks : List L → List L → List Turn → Type 0
  HaveTalks [] [] turns = turns ≡ []
  HaveTalks (link ∷ links) (after ∷ afters) turns =
      (own : List Turn) × (more : List Turn) × (turns ≡ own ++ more) × HasTalk link after own × HaveTalks links afters more
  HaveTalks [] (after ∷ afters) turns = ⊥
  HaveTalks (link ∷ links) [] turns = ⊥

  -- The first links that were left were served in their order, and came back in it; the messages are those that came on
  -- them, each at the door's next moment.
  pub record IsHeld (all : List Answered) (held after : Held L) : Type 0 where
    pub given : List L
    pub back : List L
    pub left : held.left ≡ given ++ after.left
    pub came_back : after.served ≡ held.served ++ back
    pub talks : HaveTalks given back (map (λ (a : Answered). a.turn) all)
    pub moments : TakesMoments (Some held.moments) all (Some after.moments)

  -- the same of a door that may tell what it holds
  abbrev pub AreHeld : List Answered → Option (Held L) → Option (Held L) → Type 0
  AreHeld all None after = ⊤
  AreHeld all (Some held) after = (h : Held L) × (after ≡ Some h) × IsHeld all held h

  -- Messages came on the links of the door, and were answered by the worker of the seat s, which is t now.
  pub record ServesDoor (s : Seat) (held : Option (Held L)) (t : Seat) (after : Option (Held L)) : Type 0 where
    pub all : List Answered
    pub answers : Answers language all s t
    pub door : AreHeld all held after

-- no link is left of those that the door told before
abbrev pub LeavesNone : {L : Type 0} → Option (Held L) → Option (Held L) → Type 0
LeavesNone None after = ⊤
LeavesNone {L} (Some held) after = (h : Held L) × (after ≡ Some h) × (h.left ≡ [])
