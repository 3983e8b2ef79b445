-- What a world gave, from the world before to the one after.
use Rattle.std.specs.Prelude.{◌≡◌, ◌<◌, ◌≤◌, ℕ, Bool, true, if◌then◌else◌, List, [], ◌∷◌, ◌++◌, length, Option, Some, None, IsSome}
use Rattle.address_keys.specs.Tokens.{key_of}
use Rattle.address_keys.specs.declared.keys.Keys.{Keys}
use Rattle.link_door.specs.Worlds.{AsksAtMost, HandsOut}
use Rattle.link_door.specs.declared.asked.Asked.{Asked}
use Rattle.link_door.specs.declared.asked.Asked.TheVariants as asked_for
use Rattle.link_door.specs.declared.world.World.{Ghosts}
use Rattle.link_door.specs.declared.world.WorldFault.{WorldFault}
use Rattle.link_door.specs.declared.world.WorldFault.TheVariants as fault
use Rattle.rtb_base.specs.Faults.{Rose}
use Rattle.rtb_disk.specs.Stores.{Store}
use Rattle.rtb_disk.specs.declared.disk.Disk.{Ghosts as DiskGhosts}

-- the world failed, and its count rose, or memory was refused
abbrev pub HasFailed : WorldFault → ℕ → ℕ → Type 0
HasFailed fault.Failed count count' = Rose count count'
HasFailed fault.Memory count count' = count' ≡ count

-- where the disk is told, it has something in it
abbrev pub IsThere : Store → Type 0
IsThere store = store.told ≡ true → 0 < length store.reads

-- What a world is asked for where the journal with this name is to be served: one that is there, where it has to be, and
-- else one that is made where it is missing.
abbrev pub journal_asked : Bool → List ℕ → Asked
journal_asked existing path = if existing then asked_for.DiskThere path else asked_for.Disk path

module _ {World Door Disk Link : Type 0} (W : Ghosts World Door Disk Link) where
  -- it was asked for that, and gave this disk
  pub record Gives (what : Asked) (w w' : World) (disk : Disk) : Type 0 where
    pub asked : W.asked w' ≡ W.asked w ++ what ∷ []
    pub disks : HandsOut (W.disks_left w) (W.disks_left w') (disk ∷ [])
    pub doors : W.doors_left w' ≡ W.doors_left w
    pub keys : W.keys_left w' ≡ W.keys_left w
    pub faults : W.faults w' ≡ W.faults w

  -- it was asked for that, or for nothing, and gave none
  pub record GivesNone (what : Asked) (w w' : World) : Type 0 where
    pub asked : AsksAtMost (W.asked w) (W.asked w') what
    pub disks : W.disks_left w' ≡ W.disks_left w
    pub doors : W.doors_left w' ≡ W.doors_left w
    pub keys : W.keys_left w' ≡ W.keys_left w
    pub faults : Rose (W.faults w) (W.faults w')

  -- this disk for the journal that is served; where it has to be there, it has something in it
  pub record GivesJournal (G : DiskGhosts Disk) (existing : Bool) (path : List ℕ) (w w' : World) (disk : Disk) : Type 0 where
    pub gives : Gives (journal_asked existing path) w w' disk
    pub there : existing ≡ true → IsThere (G.store disk)

  abbrev pub GivesNoJournal : Bool → List ℕ → World → World → Type 0
  GivesNoJournal existing path = GivesNone (journal_asked existing path)

  -- the disk with this name, where there is one, to be read alone
  abbrev pub GivesDiskToRead : List ℕ → World → World → Disk → Type 0
  GivesDiskToRead path = Gives (asked_for.DiskToRead path)

  abbrev pub GivesNoDiskToRead : List ℕ → World → World → Type 0
  GivesNoDiskToRead path = GivesNone (asked_for.DiskToRead path)

  -- it was asked for so many doors at the address, whose links wait so long for their peers, and gave these
  pub record GivesDoors (address : List ℕ) (n patience : ℕ) (w w' : World) (doors : List Door) : Type 0 where
    pub count : length doors ≡ n
    pub asked : W.asked w' ≡ W.asked w ++ asked_for.Doors address n patience ∷ []
    pub doors_are : HandsOut (W.doors_left w) (W.doors_left w') doors
    pub disks : W.disks_left w' ≡ W.disks_left w
    pub keys : W.keys_left w' ≡ W.keys_left w
    pub faults : W.faults w' ≡ W.faults w

  -- it was asked for them, or for nothing, and gave none
  pub record GivesNoDoors (address : List ℕ) (n patience : ℕ) (w w' : World) (fault : WorldFault) : Type 0 where
    pub asked : AsksAtMost (W.asked w) (W.asked w') (asked_for.Doors address n patience)
    pub doors : W.doors_left w' ≡ W.doors_left w
    pub disks : W.disks_left w' ≡ W.disks_left w
    pub keys : W.keys_left w' ≡ W.keys_left w
    pub faults : HasFailed fault (W.faults w) (W.faults w')

  -- it was asked for the key with this name, and gave this text
  pub record GivesText (path : List ℕ) (w w' : World) (text : List ℕ) : Type 0 where
    pub asked : W.asked w' ≡ W.asked w ++ asked_for.Key path ∷ []
    pub keys : HandsOut (W.keys_left w) (W.keys_left w') (text ∷ [])
    pub most : length text ≤ 65
    pub disks : W.disks_left w' ≡ W.disks_left w
    pub doors : W.doors_left w' ≡ W.doors_left w
    pub faults : W.faults w' ≡ W.faults w

  -- where a key is named, its text is one
  abbrev pub GivesKey : Option (List ℕ) → World → World → Option (List ℕ) → Type 0
  GivesKey None w w' key = (w' ≡ w) × (key ≡ None)
  GivesKey (Some path) w w' key = (text : List ℕ) × GivesText path w w' text × (key_of text ≡ key) × IsSome key

  -- no text was given, or one that is no key
  pub data GivesNoKey (path : List ℕ) (w w' : World) : Type 0 where
    failed : GivesNone (asked_for.Key path) w w' → GivesNoKey path w w'
    unfit : (text : List ℕ) → GivesText path w w' text → key_of text ≡ None → GivesNoKey path w w'

  -- the keys that are named: the key, and behind it the former one
  pub record GivesKeys (key former : Option (List ℕ)) (w w' : World) (keys : Keys) : Type 0 where
    pub between : World
    pub first : GivesKey key w between keys.key
    pub second : GivesKey former between w' keys.former

  -- one of them is none
  pub data GivesNoKeys (key former : Option (List ℕ)) (w w' : World) : Type 0 where
    first : (path : List ℕ) → key ≡ Some path → GivesNoKey path w w' → GivesNoKeys key former w w'
    second : (path : List ℕ) (between : World) (k : Option (List ℕ)) → former ≡ Some path → GivesKey key w between k → GivesNoKey path between w' → GivesNoKeys key former w w'
