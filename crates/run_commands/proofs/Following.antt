-- A journal that is written anew beside who writes it, from call to call.
use Rattle.std.proofs.Common.{◌≡◌, ◌≢◌, ◌∙◌, ℕ, List, [], ◌∷◌, ◌++◌, Bool, true, false, Option, None, Some, Result, Ok, Err, refl, sym, ap, subst}
use Rattle.std.specs.Prelude.{MatchBool, MatchResult}
use Rattle.std.specs.Option.{option_to_list}
use Rattle.compaction.specs.Beside.{BeginsBeside, EndsBeside, Follows, IsUnderWay, Stands, disk_beside, faults_beside}
use Rattle.compaction.specs.declared.beside.Beside.{Beside}
use Rattle.compaction.specs.declared.fault.CompactionFault.{CompactionFault}
use Rattle.compaction.specs.declared.fault.CompactionFault.TheVariants.{NotRead, WriteFailed}
use Rattle.journal_file.specs.declared.faults.JournalFault.TheVariants as journal
use Rattle.link_door.specs.Worlds.{AsksAgain, HandsOut}
use Rattle.link_door.specs.declared.asked.Asked.TheVariants as asked_for
use Rattle.link_door.specs.declared.world.World.{Ghosts as WorldGhosts}
use Rattle.rtb_base.specs.Faults.{CountsErrors, RisesOnlyWhere}
use Rattle.rtb_disk.specs.Stores.{Store}
use Rattle.rtb_disk.specs.declared.disk.Disk.{Ghosts as DiskGhosts}
use Rattle.rtb_num.specs.declared.streams.Failed.{Failed}
use Rattle.run_commands.specs.Beside.{ArePassed, EndsBehind, GivesFreed, GivesNoFreed, IsBroken, IsEnded, IsLeft, RunsBeside, Waits, begun, broken, freed, no_file, no_journal, not_begun, not_freed, turn, untold}
use Rattle.run_commands.specs.Turns.{Followed, IsStarted, Turned}
use Rattle.run_words.specs.declared.compact.CompactOptions.{CompactOptions}

-- ---- the world

hands_nothing : {Item : Type 0} (left : Option (List Item)) → HandsOut left left []
hands_nothing None = tt
hands_nothing (Some old) = (old, refl, refl)

hands_on : {Item : Type 0} (a b c : Option (List Item)) → HandsOut a b [] → HandsOut b c [] → HandsOut a c []
hands_on None b c p q = tt
hands_on (Some old) b c p q =
    let next = subst (λ l. HandsOut l c []) p.2 q in
    (next.0, p.1 ∙ next.1, next.2)

module _ {World Door Disk Link : Type 0} (W : WorldGhosts World Door Disk Link) where
  pub waits_none : (w : World) → Waits W w w
  waits_none w = record { asked = refl; disks = hands_nothing (W.disks_left w); doors = refl; keys = refl; faults = refl }

  pub waits_then : (a b c : World) → Waits W a b → Waits W b c → Waits W a c
  waits_then a b c p q = record {
    asked = q.asked ∙ p.asked;
    disks = hands_on (W.disks_left a) (W.disks_left b) (W.disks_left c) p.disks q.disks;
    doors = q.doors ∙ p.doors;
    keys = q.keys ∙ p.keys;
    faults = q.faults ∙ p.faults;
  }

  pub freed_then : (path : List ℕ) (a b c : World) (disk : Disk) → Waits W a b → GivesFreed W path b c disk → GivesFreed W path a c disk
  freed_then path a b c disk p h = record { between = h.between; waits = waits_then a b h.between p h.waits; gives = h.gives }

  pub not_freed_then : (path : List ℕ) (a b c : World) → Waits W a b → GivesNoFreed W path b c → GivesNoFreed W path a c
  not_freed_then path a b c p h = record { between = h.between; waits = waits_then a b h.between p h.waits; none = h.none }

  module _ {G : DiskGhosts Disk} (path : List ℕ) (keep : ℕ) (first into : Disk) (w w' : World) (from' : Disk) (b' : Beside Disk G) where
    -- what a call comes to where the journal was followed before it
    pub turned : (r : Result (Option Disk) Failed) → MatchResult r (λ disk. HandsOut (W.disks_left w) (W.disks_left w') (option_to_list disk)) (λ _. W.disks_left w' ≡ W.disks_left w)
        → W.doors_left w' ≡ W.doors_left w → W.keys_left w' ≡ W.keys_left w → AsksAgain (W.asked w) (W.asked w') (asked_for.DiskWhenFree path turn) r → CountsErrors (W.faults w) (W.faults w') r
        → IsStarted keep first from' into b' → Turned W path keep first into w w' from' b' (Ok r)
    turned (Ok None) disks doors keys asks cause started = (record { asked = asks; disks = disks; doors = doors; keys = keys; faults = cause }, started)
    turned (Ok (Some disk)) disks doors keys asks cause started =
        (record { between = w; waits = waits_none w; gives = record { asked = asks; disks = disks; doors = doors; keys = keys; faults = cause } }, started)
    turned (Err e) disks doors keys asks cause started =
        (record { between = w; waits = waits_none w; none = record { asked = asks; disks = disks; doors = doors; keys = keys; faults = cause.1 } }, started)

-- ---- the disks

module _ {Disk : Type 0} {G : DiskGhosts Disk} (keep : ℕ) (first from into : Disk) (b : Beside Disk G) where
  pub begins_started : BeginsBeside {G = G} keep first from into (Ok b) → G.store from ≡ G.store first → G.faults from ≡ G.faults first → faults_beside b ≡ G.faults into → IsStarted keep first from into b
  begins_started begins same read write = record {
    way = λ told. (let h = begins told in (h.0, h.1, h.2));
    unwritten = same;
    read = read;
    write = write;
  }

  pub left : IsStarted keep first from into b → IsLeft G first from into (disk_beside b)
  left s = record {
    file = λ told. (let on = s.way told in on.2.stands.unfinished);
    unwritten = s.unwritten;
    read = s.read;
    write = s.write;
  }

  passed_by : (passed written : List (List ℕ)) (store : Store) → IsUnderWay keep passed written first store from b → ArePassed G keep first from passed written
  passed_by passed written store u = record { state = b.core.state; moves = u.stands.moves; told = u.told; shows = u.shows }

  module _ (from' : Disk) (b' : Beside Disk G) where
    pub goes_on : IsStarted keep first from into b
        → ((k : ℕ) (passed written : List (List ℕ)) (d : Disk) (store : Store) → IsUnderWay k passed written d store from b → Follows k passed written d store from from' b' (Ok tt))
        → G.store from' ≡ G.store from → G.faults from' ≡ G.faults from → faults_beside b' ≡ faults_beside b → IsStarted keep first from' into b'
    goes_on s follows same read write = record {
      way = λ told. (let on = s.way told in let h = follows keep on.0 on.1 first (G.store into) on.2 in (on.0 ++ h.0, on.1 ++ h.0, h.1));
      unwritten = same ∙ s.unwritten;
      read = read ∙ s.read;
      write = write ∙ s.write;
    }

    pub breaks : (fault : CompactionFault) → IsStarted keep first from into b
        → ((k : ℕ) (passed written : List (List ℕ)) (d : Disk) (store : Store) → IsUnderWay k passed written d store from b → Follows k passed written d store from from' b' (Err fault))
        → G.store from' ≡ G.store from → RisesOnlyWhere (fault ≡ NotRead journal.DiskFailed) (G.faults from) (G.faults from')
        → RisesOnlyWhere (fault ≡ WriteFailed) (faults_beside b) (faults_beside b') → IsBroken G keep first from' into (disk_beside b') fault
    breaks fault s follows same read write = record {
      stops = λ told. (let on = s.way told in let h = follows keep on.0 on.1 first (G.store into) on.2 in (on.0, on.1, from, passed_by on.0 on.1 (G.store into) on.2, h));
      unwritten = same ∙ s.unwritten;
      read_cause = subst (λ n. RisesOnlyWhere (fault ≡ NotRead journal.DiskFailed) n (G.faults from')) s.read read;
      write_cause = subst (λ n. RisesOnlyWhere (fault ≡ WriteFailed) n (faults_beside b')) s.write write;
    }

  pub ended : (last last' into' : Disk) (line line' : List ℕ) (done : Result Unit CompactionFault) → IsStarted keep first from into b
      → ((k : ℕ) (passed written : List (List ℕ)) (store : Store) → Stands k passed written store b → EndsBeside G k passed written last last' store (G.store into') line line' done)
      → line ≡ [] → G.store last' ≡ G.store last → RisesOnlyWhere (done ≡ Err (NotRead journal.DiskFailed)) (G.faults last) (G.faults last')
      → RisesOnlyWhere (done ≡ Err WriteFailed) (faults_beside b) (G.faults into') → IsEnded G keep first from into into' last last' line' done
  ended last last' into' line line' done s ends empty same read write = record {
    ends = λ told. (let on = s.way told in (
      on.0,
      on.1,
      passed_by on.0 on.1 (G.store into) on.2,
      subst (λ l. EndsBeside G keep on.0 on.1 last last' (G.store into) (G.store into') l line' done) empty (ends keep on.0 on.1 (G.store into) on.2.stands),
    ));
    unwritten = s.unwritten;
    last_unwritten = same;
    read = s.read;
    read_cause = read;
    write_cause = subst (λ n. RisesOnlyWhere (done ≡ Err WriteFailed) n (G.faults into')) s.write write;
  }

-- what is said of an error holds of its fault
pub rises_by_fault : (fault that : CompactionFault) (n m : ℕ) → RisesOnlyWhere (◌≡◌ {A = Result Unit CompactionFault} (Err fault) (Err that)) n m → RisesOnlyWhere (fault ≡ that) n m
rises_by_fault fault that n m h = (h.0, λ e. h.1 (ap Err e), λ other. h.2 (λ e. other (cc e)))

-- ---- doors and keys

module _ {World Door Disk Link : Type 0} (W : WorldGhosts World Door Disk Link) (G : DiskGhosts Disk) (o : CompactOptions) where
  doors_behind : (w w' : World) (from from' into into' : Disk) (a a' : Option (List ℕ)) (code : ℕ) (last : Option Disk) → EndsBehind W G o w w' from from' into into' a a' code last → W.doors_left w' ≡ W.doors_left w
  doors_behind w w' from from' into into' a a' code last (untold is p q r s) = ap W.doors_left is
  doors_behind w w' from from' into into' a a' code last (broken b p waits q f r s) = waits.doors
  doors_behind w w' from from' into into' a a' code last (not_freed b p none q r s) = none.none.doors ∙ none.waits.doors
  doors_behind w w' from from' into into' a a' code last (freed b p d d' given q line done r s) = given.gives.doors ∙ given.waits.doors

  keys_behind : (w w' : World) (from from' into into' : Disk) (a a' : Option (List ℕ)) (code : ℕ) (last : Option Disk) → EndsBehind W G o w w' from from' into into' a a' code last → W.keys_left w' ≡ W.keys_left w
  keys_behind w w' from from' into into' a a' code last (untold is p q r s) = ap W.keys_left is
  keys_behind w w' from from' into into' a a' code last (broken b p waits q f r s) = waits.keys
  keys_behind w w' from from' into into' a a' code last (not_freed b p none q r s) = none.none.keys ∙ none.waits.keys
  keys_behind w w' from from' into into' a a' code last (freed b p d d' given q line done r s) = given.gives.keys ∙ given.waits.keys

  pub doors_beside : (w w' : World) (a a' : Option (List ℕ)) (code : ℕ) (back other last : Option Disk) → RunsBeside W G o w w' a a' code back other last → W.doors_left w' ≡ W.doors_left w
  doors_beside w w' a a' code back other last (no_journal none p q r s) = none.doors
  doors_beside w w' a a' code back other last (no_file from between gives none p q r s) = none.doors ∙ gives.doors
  doors_beside w w' a a' code back other last (not_begun from from' into into' between gives file p q r f s t) = file.doors ∙ gives.doors
  doors_beside w w' a a' code back other last (begun from from' into into' between opened gives file p q ends) =
      doors_behind opened w' from from' into into' a a' code last ends ∙ (file.doors ∙ gives.doors)

  pub keys_beside : (w w' : World) (a a' : Option (List ℕ)) (code : ℕ) (back other last : Option Disk) → RunsBeside W G o w w' a a' code back other last → W.keys_left w' ≡ W.keys_left w
  keys_beside w w' a a' code back other last (no_journal none p q r s) = none.keys
  keys_beside w w' a a' code back other last (no_file from between gives none p q r s) = none.keys ∙ gives.keys
  keys_beside w w' a a' code back other last (not_begun from from' into into' between gives file p q r f s t) = file.keys ∙ gives.keys
  keys_beside w w' a a' code back other last (begun from from' into into' between opened gives file p q ends) =
      keys_behind opened w' from from' into into' a a' code last ends ∙ (file.keys ∙ gives.keys)

pub where_true : (A B : Type 0) (b : Bool) → b ≡ true → A → MatchBool b A B
where_true A B b is h = subst (λ x. MatchBool x A B) (sym is) h

pub where_false : (A B : Type 0) (b : Bool) → b ≡ false → B → MatchBool b A B
where_false A B b is h = subst (λ x. MatchBool x A B) (sym is) h
