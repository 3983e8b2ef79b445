-- One door, at which a follower reports.
use Rattle.std.specs.Prelude.{◌≡◌, ◌≤◌, ℕ, Bool, true, false, List, [], ◌∷◌, ◌++◌, count_by, Option, None, Some, ⊤}
use Rattle.follower.specs.Following.{GoesOn, IsWithin}
use Rattle.follower.specs.Reporting.{IsAnswer}
use Rattle.follower.specs.declared.follower.Follower.{Follower}
use Rattle.link_door.specs.Doors.{Held}
use Rattle.link_door.specs.declared.link.Link.{Ghosts as LinkGhosts}
use Rattle.rtb_base.specs.Faults.{RisesOnlyWhere, RoseBy}
use Rattle.rtb_disk.specs.declared.disk.Disk.{Ghosts as DiskGhosts}
use Rattle.session.specs.declared.link_end.LinkEnd.{LinkEnd}
use Rattle.session.specs.declared.link_end.LinkEnd.TheVariants.{LinkFailed}
use Rattle.session.specs.declared.service.Given.{Given}
use Rattle.session.specs.declared.service.Given.TheVariants as given
use Rattle.session.specs.Talk.{IsServed, Turn}

abbrev pub is_store_failed : Given → Bool
is_store_failed (given.Text answer entered) = false
is_store_failed given.StoreFailed = true
is_store_failed given.Memory = false
is_store_failed given.MemoryLate = false

-- how many were told that the store failed
abbrev pub store_failed : List Turn → ℕ
store_failed turns = count_by (λ (turn : Turn). is_store_failed turn.given) turns

-- What the messages of these turns came to: effects are carried out behind those of before, of a told disk the first that
-- it says, and each failed call of the disk that was told is counted. Nothing is written.
pub record Follows {D : Type 0} (G : DiskGhosts D) (turns : List Turn) (f f' : Follower D) : Type 0 where
  pub goes : GoesOn f f'
  pub within : (G.store f.disk).told ≡ true → IsWithin (G.store f.disk).reads f → IsWithin (G.store f.disk).reads f'
  pub same : G.store f'.disk ≡ G.store f.disk
  pub failed : RoseBy (store_failed turns) (G.faults f.disk) (G.faults f'.disk)
  pub rose : G.faults f.disk ≤ G.faults f'.disk

module _ {D L : Type 0} (G : DiskGhosts D) (K : LinkGhosts L) where
  -- On this link came the messages of these turns, and what was sent is the texts of what the follower gave for them, up
  -- to the link's end.
  pub record HasTalk (link after : L) (turns : List Turn) (f f' : Follower D) : Type 0 where
    pub steps : ℕ
    pub end : LinkEnd
    pub served : IsServed (IsAnswer G) f f' (K.left link) (K.left after) (K.sent link) (K.sent after) steps end
    pub turns_are : served.turns ≡ turns
    pub cause : RisesOnlyWhere (end ≡ LinkFailed) (K.faults link) (K.faults after)

  -- the same of each of these links, one after the other, which were then those
  abbrev pub HaveTalks : List L → List L → List Turn → Follower D → Follower D → Type 0
  HaveTalks [] [] turns f f' = (turns ≡ []) × (f' ≡ f)
  HaveTalks (link ∷ links) (after ∷ afters) turns f f' =
      (mid : Follower D) × (own : List Turn) × (more : List Turn) × (turns ≡ own ++ more) × HasTalk link after own f mid × HaveTalks links afters more mid f'
  HaveTalks [] (after ∷ afters) turns f f' = ⊥
  HaveTalks (link ∷ links) [] turns f f' = ⊥

  -- The first links that were left were served in their order, and came back in it. No moment was taken.
  pub record IsHeld (turns : List Turn) (held after : Held L) (f f' : Follower D) : Type 0 where
    pub given : List L
    pub back : List L
    pub left : held.left ≡ given ++ after.left
    pub came_back : after.served ≡ held.served ++ back
    pub talks : HaveTalks given back turns f f'
    pub moments : after.moments ≡ held.moments
    pub out : after.out ≡ held.out

  -- the same of a door that may tell what it holds
  abbrev pub AreHeld : List Turn → Option (Held L) → Option (Held L) → Follower D → Follower D → Type 0
  AreHeld turns None after f f' = ⊤
  AreHeld turns (Some held) after f f' = (h : Held L) × (after ≡ Some h) × IsHeld turns held h f f'

  -- Messages came on the links of the door, and were answered by the follower f, which is f' now.
  pub record ServesReports (f : Follower D) (held : Option (Held L)) (f' : Follower D) (after : Option (Held L)) : Type 0 where
    pub turns : List Turn
    pub door : AreHeld turns held after f f'
    pub follows : Follows G turns f f'

-- no link is left of those that the door told before
abbrev pub LeavesNone : {L : Type 0} → Option (Held L) → Option (Held L) → Type 0
LeavesNone None after = ⊤
LeavesNone {L} (Some held) after = (h : Held L) × (after ≡ Some h) × (h.left ≡ [])
