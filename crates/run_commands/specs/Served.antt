-- What comes of an exchange that is opened from a disk, and of the doors that it serves, in one history.
use Rattle.std.specs.Prelude.{◌≡◌, List, ◌++◌, map, true}
use Rattle.address_keys.specs.declared.keys.Keys.{Keys}
use Rattle.door_worker.specs.Languages.{rtb}
use Rattle.exchange_shared.specs.Opening.{IsOriginOver}
use Rattle.exchange_shared.specs.Seats.{IsOrdered}
use Rattle.exchange_state.specs.Standing.{SaysFront, SaysSomeSince}
use Rattle.exchange_state.specs.Tickets.{IsLegalFrom, effects_after}
use Rattle.exchange_state.specs.Views.{calls, failures, faults_told}
use Rattle.link_door.specs.declared.door.Door.{Ghosts as DoorGhosts}
use Rattle.link_door.specs.declared.link.Link.{Ghosts as LinkGhosts}
use Rattle.plain_exchange.specs.declared.settings.Settings.{Settings}
use Rattle.recovery.specs.Texts.{HasText}
use Rattle.rtb_base.specs.Faults.{RoseBy}
use Rattle.rtb_disk.specs.Stores.{EachImage, Store}
use Rattle.rtb_disk.specs.declared.disk.Disk.{Ghosts as DiskGhosts}
use Rattle.run_words.specs.declared.serve.ServeOptions.{ServeOptions}
use Rattle.worker_pool.specs.Pools.{AreServed, History, KeepsBudgets}

-- for how long a sale is held, and how many are kept in the list
abbrev pub settings_of : ServeOptions → Settings
settings_of options = record { ttl = options.ttl; limit = options.sales }

-- a crash now leaves the effects that the exchange was opened with, and all that came since
abbrev pub IsWritten : Store → History → Type 0
IsWritten store past = past.origin.told ≡ true → EachImage (λ image. HasText image (past.origin.effects ++ effects_after past.origin (calls past.seen))) store.now

module _ {Disk Door Link : Type 0} (G : DiskGhosts Disk) (H : DoorGhosts Door Link) (K : LinkGhosts Link) (options : ServeOptions) (keys : Keys) where
  -- Between the disk as it was handed out and as it comes back there is one history. It begins with what the disk says,
  -- each reply is that of an exchange of one thread at its place, and budgets hold at every place. The messages of each
  -- door are the calls of its worker, in order. A crash now leaves what the exchange was opened with and a front of the
  -- effects that came since, which has each that is durable; at each moment since the opening it left such a front. The disk's
  -- count rose by each write that failed, and is what the history tells last.
  pub record IsServed (disk disk' : Disk) (doors doors' : List Door) (past : History) : Type 0 where
    pub begins : IsOriginOver (G.store disk) (G.faults disk) (settings_of options) past.origin
    pub legal : IsLegalFrom past.origin (calls past.seen)
    pub budgets : KeepsBudgets past
    pub order : IsOrdered past.origin past.seen
    pub answers : AreServed K (rtb options.public keys) past (map H.held doors) (map H.held doors')
    pub crash : past.origin.told ≡ true → EachImage (SaysFront past.origin past.seen) (G.store disk').now
    pub since : past.origin.told ≡ true → SaysSomeSince past.origin past.seen (G.store disk')
    pub faults : G.faults disk' ≡ faults_told past.origin past.seen
    pub failed : RoseBy (failures past.seen) (G.faults disk) (G.faults disk')
