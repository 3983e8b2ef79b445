-- All that a run comes to, by what its words ask for. Only private clauses cite this file.
use Rattle.std.specs.Prelude.{◌≡◌, ◌⊎◌, ℕ, List, Option, None, Some, true}
use Rattle.link_door.specs.declared.door.Door.{Ghosts as DoorGhosts}
use Rattle.link_door.specs.declared.link.Link.{Ghosts as LinkGhosts}
use Rattle.link_door.specs.declared.world.World.{Ghosts as WorldGhosts}
use Rattle.rtb_disk.specs.declared.disk.Disk.{Ghosts as DiskGhosts}
use Rattle.run_words.specs.declared.audit.AuditOptions.{AuditOptions}
use Rattle.run_words.specs.declared.commands.CommandLine.{CommandLine}
use Rattle.run_words.specs.declared.commands.CommandLine.TheVariants as line
use Rattle.run_words.specs.declared.compact.CompactOptions.{CompactOptions}
use Rattle.run_words.specs.declared.follow.FollowOptions.{FollowOptions}
use Rattle.run_words.specs.declared.make.MakeOptions.{MakeOptions}
use Rattle.run_words.specs.declared.recover.RecoverOptions.{RecoverOptions}
use Rattle.run_words.specs.declared.serve.ServeOptions.{ServeOptions}
use Rattle.exchange_run.specs.Run.{Asked, Back, IsAudit, IsCompaction, IsFollowing, IsMaking, IsPlanning, IsQuestion, IsRecovery, IsServing, IsShown, IsStarved, IsTrying, IsUnnamed, names_try, other, sale, words_of}

module _ {World Disk Door Link : Type 0} (W : WorldGhosts World Door Disk Link) (G : DiskGhosts Disk) (H : DoorGhosts Door Link) (K : LinkGhosts Link)
    (w w' : World) (left left' : Option (List ℕ)) (faults faults' : ℕ) (written written' : Option (List ℕ)) (code : ℕ) (back : Back Door Disk) where
  -- what is read by `clap`
  abbrev pub IsOfLine : CommandLine → Type 0
  IsOfLine (line.Serve options) = IsServing W G H K w w' written written' code back options
  IsOfLine (line.Recover options) = IsRecovery W G H K w w' written written' code back options ⊎ IsStarved w w' back written written' code
  IsOfLine (line.Compact options) = IsCompaction W G H K w w' written written' code back options ⊎ IsStarved w w' back written written' code
  IsOfLine (line.Follow options) = IsFollowing W G H K w w' written written' code back options ⊎ IsStarved w w' back written written' code
  IsOfLine line.Which = IsPlanning w w' written written' code back left left' faults faults'
  IsOfLine (line.Audit options) = IsAudit W G H K w w' written written' code back left left' faults faults' options
  IsOfLine (line.Make options) = IsMaking w w' written written' code back options
  IsOfLine (line.Help topic) = IsShown w w' written written' code back
  IsOfLine line.Version = IsShown w w' written written' code back

  -- words that do not name `try` ask for no sale
  abbrev pub IsOfAsked : Option Asked → Type 0
  IsOfAsked None = IsUnnamed w w' written written' code back
  IsOfAsked (Some (sale campaigns)) = ⊥
  IsOfAsked (Some (other l)) = IsOfLine l

  -- a clause for each command
  pub record IsOfWords (words : List (List ℕ)) : Type 0 where
    pub tries : names_try words ≡ true → IsTrying w w' written written' code back left left' faults faults' words
    pub serves : (options : ServeOptions) → words_of words ≡ Some (other (line.Serve options)) → IsServing W G H K w w' written written' code back options
    pub recovers : (options : RecoverOptions) → words_of words ≡ Some (other (line.Recover options)) → IsRecovery W G H K w w' written written' code back options ⊎ IsStarved w w' back written written' code
    pub compacts : (options : CompactOptions) → words_of words ≡ Some (other (line.Compact options)) → IsCompaction W G H K w w' written written' code back options ⊎ IsStarved w w' back written written' code
    pub follows : (options : FollowOptions) → words_of words ≡ Some (other (line.Follow options)) → IsFollowing W G H K w w' written written' code back options ⊎ IsStarved w w' back written written' code
    pub plans : words_of words ≡ Some (other line.Which) → IsPlanning w w' written written' code back left left' faults faults'
    pub audits : (options : AuditOptions) → words_of words ≡ Some (other (line.Audit options)) → IsAudit W G H K w w' written written' code back left left' faults faults' options
    pub makes : (options : MakeOptions) → words_of words ≡ Some (other (line.Make options)) → IsMaking w w' written written' code back options
    pub shows : (asked : CommandLine) → IsQuestion asked → words_of words ≡ Some (other asked) → IsShown w w' written written' code back
    pub unnamed : words_of words ≡ None → IsUnnamed w w' written written' code back
