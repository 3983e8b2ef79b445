-- What the words of `rtbx` ask for, and what a run of them comes to.
use Rattle.std.specs.Prelude.{◌≡◌, ◌≢◌, ◌⊎◌, ◌&&◌, ◌||◌, not, ℕ, List, [], ◌∷◌, Bool, true, false, Option, None, Some, if◌then◌else◌, option_map, codes}
use Rattle.std.specs.Str.{bytes_eq}
use Rattle.link_door.specs.declared.door.Door.{Ghosts as DoorGhosts}
use Rattle.link_door.specs.declared.link.Link.{Ghosts as LinkGhosts}
use Rattle.link_door.specs.declared.world.World.{Ghosts as WorldGhosts}
use Rattle.rtb_disk.specs.declared.disk.Disk.{Ghosts as DiskGhosts}
use Rattle.rtb_io.specs.Statuses.{code_of}
use Rattle.rtb_io.specs.declared.status.Status.TheVariants as status
use Rattle.run_commands.specs.Audit.{RunsAudit}
use Rattle.run_commands.specs.Beside.{Compacts}
use Rattle.run_commands.specs.Endings.{Ends, EndsBy}
use Rattle.run_commands.specs.Follow.{Follows}
use Rattle.run_commands.specs.Make.{RunsMake}
use Rattle.run_commands.specs.Recover.{Recovers}
use Rattle.run_commands.specs.Serve.{Serves}
use Rattle.run_words.specs.CommandLines.{command_line, is_question}
use Rattle.run_words.specs.declared.audit.AuditOptions.{AuditOptions}
use Rattle.run_words.specs.declared.commands.CommandLine.{CommandLine}
use Rattle.run_words.specs.declared.commands.CommandLine.TheVariants as line
use Rattle.run_words.specs.declared.compact.CompactOptions.{CompactOptions}
use Rattle.run_words.specs.declared.follow.FollowOptions.{FollowOptions}
use Rattle.run_words.specs.declared.make.MakeOptions.{MakeOptions}
use Rattle.run_words.specs.declared.recover.RecoverOptions.{RecoverOptions}
use Rattle.run_words.specs.declared.serve.ServeOptions.{ServeOptions}
use Rattle.worker_pool.specs.Pools.{History}
use Rattle.exchange_run.specs.Answer.{HalfTold, Told}
use Rattle.exchange_run.specs.Plan.{Plans}
use Rattle.exchange_run.specs.Words.{Campaign, command_of}

-- ---- the words

-- what words ask for: a sale to campaigns, or what is read by `clap`
pub data Asked : Type 0 where
  sale : List Campaign → Asked
  other : CommandLine → Asked

-- `try` with its campaigns: nothing is asked about it
abbrev pub names_try : List (List ℕ) → Bool
names_try [] = false
names_try (name ∷ words) = bytes_eq name (codes "try") && not (is_question words)

-- what the words ask for, where they are of a command
abbrev pub words_of : List (List ℕ) → Option Asked
words_of words = if names_try words then option_map sale (command_of words) else option_map other (command_line words)

-- ---- the run

-- `try`, by what it read, whether the source failed, and what it wrote
pub record Tries (words : List (List ℕ)) (left left' : Option (List ℕ)) (faults faults' : ℕ) (written written' : Option (List ℕ)) (code : ℕ) : Type 0 where
  pub told : code ≢ code_of status.NotWritten → Told words left left' faults faults' written written' code
  pub half_told : code ≡ code_of status.NotWritten → HalfTold words left left' faults faults' written written'

-- a text was written, of which nothing is claimed, or memory was wanting for it
abbrev pub Shows : Option (List ℕ) → Option (List ℕ) → ℕ → Type 0
Shows written written' code = ((text : List ℕ) × Ends status.Done text written written' code) ⊎ EndsBy status.Memory written written' code

-- `--help` or `--version` was asked
abbrev pub IsQuestion : CommandLine → Type 0
IsQuestion (line.Serve options) = ⊥
IsQuestion (line.Recover options) = ⊥
IsQuestion (line.Compact options) = ⊥
IsQuestion (line.Follow options) = ⊥
IsQuestion line.Which = ⊥
IsQuestion (line.Audit options) = ⊥
IsQuestion (line.Make options) = ⊥
IsQuestion (line.Help topic) = Unit {0}
IsQuestion line.Version = Unit {0}

-- `which` was asked
abbrev pub is_which : CommandLine → Bool
is_which (line.Serve options) = false
is_which (line.Recover options) = false
is_which (line.Compact options) = false
is_which (line.Follow options) = false
is_which line.Which = true
is_which (line.Audit options) = false
is_which (line.Make options) = false
is_which (line.Help topic) = false
is_which line.Version = false

-- `audit` was asked
abbrev pub is_audit : CommandLine → Bool
is_audit (line.Serve options) = false
is_audit (line.Recover options) = false
is_audit (line.Compact options) = false
is_audit (line.Follow options) = false
is_audit line.Which = false
is_audit (line.Audit options) = true
is_audit (line.Make options) = false
is_audit (line.Help topic) = false
is_audit line.Version = false

abbrev pub asks_which : Option Asked → Bool
asks_which None = false
asks_which (Some (sale campaigns)) = false
asks_which (Some (other line)) = is_which line

abbrev pub asks_audit : Option Asked → Bool
asks_audit None = false
asks_audit (Some (sale campaigns)) = false
asks_audit (Some (other line)) = is_audit line

-- the commands that read the source
abbrev pub takes_input : List (List ℕ) → Bool
takes_input words = names_try words || (asks_which (words_of words) || asks_audit (words_of words))

-- all that comes back to the caller beside the status
pub record Back (Door Disk : Type 0) : Type 0 where
  pub doors : List Door
  pub disk : Option Disk
  pub other : Option Disk
  pub last : Option Disk
  pub past : Option History

abbrev pub nothing : {Door Disk : Type 0} → Back Door Disk
nothing = record { doors = []; disk = None; other = None; last = None; past = None }

-- nothing was asked of the world, and nothing comes back
pub record IsApart {World Door Disk : Type 0} (w w' : World) (back : Back Door Disk) : Type 0 where
  pub world : w' ≡ w
  pub none : back ≡ nothing

-- memory was short for the words
pub record IsStarved {World Door Disk : Type 0} (w w' : World) (back : Back Door Disk) (written written' : Option (List ℕ)) (code : ℕ) : Type 0 where
  pub apart : IsApart w w' back
  pub ends : EndsBy status.Memory written written' code

-- ---- each command, from the world w to the world w'

module _ {World Disk Door Link : Type 0} (W : WorldGhosts World Door Disk Link) (G : DiskGhosts Disk) (H : DoorGhosts Door Link) (K : LinkGhosts Link)
    (w w' : World) (written written' : Option (List ℕ)) (code : ℕ) (back : Back Door Disk) where
  pub record IsServing (options : ServeOptions) : Type 0 where
    pub one_disk : back.other ≡ None
    pub no_last : back.last ≡ None
    pub serves : Serves W G H K options w w' written written' code back.doors back.disk back.past

  -- no door was asked for, and no key
  pub record IsRecovery (options : RecoverOptions) : Type 0 where
    pub doors_left : W.doors_left w' ≡ W.doors_left w
    pub keys_left : W.keys_left w' ≡ W.keys_left w
    pub no_doors : back.doors ≡ []
    pub one_disk : back.other ≡ None
    pub no_last : back.last ≡ None
    pub no_past : back.past ≡ None
    pub recovers : Recovers G options.journal (W.asked w) (W.asked w') (W.disks_left w) (W.disks_left w') (W.faults w) (W.faults w') written written' code back.disk

  pub record IsCompaction (options : CompactOptions) : Type 0 where
    pub doors_left : W.doors_left w' ≡ W.doors_left w
    pub keys_left : W.keys_left w' ≡ W.keys_left w
    pub no_doors : back.doors ≡ []
    pub no_past : back.past ≡ None
    pub compacts : Compacts W G options w w' written written' code back.disk back.other back.last

  pub record IsFollowing (options : FollowOptions) : Type 0 where
    pub one_disk : back.other ≡ None
    pub no_last : back.last ≡ None
    pub no_past : back.past ≡ None
    pub follows : Follows W G H K options w w' written written' code back.doors back.disk

  -- with what the source has, and its count of faults
  pub record IsAudit (left left' : Option (List ℕ)) (faults faults' : ℕ) (options : AuditOptions) : Type 0 where
    pub no_doors : back.doors ≡ []
    pub one_disk : back.other ≡ None
    pub no_last : back.last ≡ None
    pub no_past : back.past ≡ None
    pub audits : RunsAudit W G options w w' left left' faults faults' written written' code back.disk

-- The others ask for nothing of the world.
module _ {World Disk Door : Type 0} (w w' : World) (written written' : Option (List ℕ)) (code : ℕ) (back : Back Door Disk) where
  pub record IsMaking (options : MakeOptions) : Type 0 where
    pub apart : IsApart w w' back
    pub makes : RunsMake options written written' code

  pub record IsPlanning (left left' : Option (List ℕ)) (faults faults' : ℕ) : Type 0 where
    pub apart : IsApart w w' back
    pub plans : Plans left left' faults faults' written written' code

  pub record IsTrying (left left' : Option (List ℕ)) (faults faults' : ℕ) (words : List (List ℕ)) : Type 0 where
    pub apart : IsApart w w' back
    pub tries : Tries words left left' faults faults' written written' code

  pub record IsShown : Type 0 where
    pub apart : IsApart w w' back
    pub shown : Shows written written' code

  -- words that are of no command
  pub record IsUnnamed : Type 0 where
    pub apart : IsApart w w' back
    pub ends : EndsBy status.Usage written written' code ⊎ EndsBy status.Memory written written' code
