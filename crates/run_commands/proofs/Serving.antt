-- What comes of an exchange that was opened, and of doors that were served.
use Rattle.std.proofs.Common.{◌≡◌, ◌∙◌, ℕ, ◌≤◌, List, [], ◌++◌, Option, true, ap, arith, length, map, subst, sym}
use Rattle.std.specs.Io.KnownBytes.{Appends}
use Rattle.std.proofs.lemmas.List.{take_all}
use Rattle.address_keys.specs.declared.keys.Keys.{Keys}
use Rattle.door_worker.specs.Languages.{rtb}
use Rattle.exchange_shared.specs.Opening.{IsOriginOver}
use Rattle.exchange_shared.specs.Seats.{IsOrdered}
use Rattle.exchange_state.proofs.Rising.{faults_later, rising_front}
use Rattle.exchange_state.specs.Standing.{SaysFront, SaysSomeSince}
use Rattle.exchange_state.specs.Tickets.{IsLegalFrom, effects_after}
use Rattle.exchange_state.specs.Views.{IsRising, calls, failures, faults_told, mine, stable}
use Rattle.exchange_state.specs.declared.entries.Entry.{Entry}
use Rattle.exchange_state.specs.declared.entries.Origin.{Origin}
use Rattle.link_door.specs.declared.door.Door.{Ghosts as DoorGhosts}
use Rattle.link_door.specs.declared.link.Link.{Ghosts as LinkGhosts}
use Rattle.plain_exchange.specs.declared.changes.Effect.{Effect}
use Rattle.recovery.specs.Texts.{HasText}
use Rattle.rtb_base.specs.Faults.{Rose, RoseBy}
use Rattle.rtb_disk.specs.Stores.{EachImage, Store}
use Rattle.rtb_disk.specs.declared.disk.Disk.{Ghosts as DiskGhosts}
use Rattle.run_commands.specs.Serve.{EndsBehind, IsIdle, IsRun, first_line}
use Rattle.run_commands.specs.Served.{IsWritten, settings_of}
use Rattle.run_commands.proofs.Tokens.{of_doors}
use Rattle.run_words.specs.declared.serve.ServeOptions.{ServeOptions}
use Rattle.worker_pool.specs.Pools.{AreServed, BreaksOff, EndsAs, History, KeepsBudgets, LeaveAs}
use Rattle.worker_pool.specs.declared.pool.PoolEnd.{PoolEnd}
use Rattle.worker_pool.specs.declared.pool.PoolEnd.TheVariants as ending

-- the crash of a disk leaves a front of the effects
abbrev pub SaysFronts : Store → History → Type 0
SaysFronts store past = past.origin.told ≡ true → EachImage (SaysFront past.origin past.seen) store.now

-- so it did at each moment since it was opened
abbrev pub SaysSomes : Store → History → Type 0
SaysSomes store past = past.origin.told ≡ true → SaysSomeSince past.origin past.seen store

-- where all effects are durable, the front is all
whole : (o : Origin) (l : List Entry) (image : List ℕ) → stable l ≡ length (effects_after o (calls l)) → SaysFront o l image → HasText image (o.effects ++ effects_after o (calls l))
whole o l image all says =
    let n : length (effects_after o (calls l)) ≤ says.count = omega (arith, all, says.durable) in
    subst (λ (more : List Effect). HasText image (o.effects ++ more)) (take_all says.count (effects_after o (calls l)) n) says.text

pub written : (store : Store) (past : History) → SaysFronts store past → stable past.seen ≡ length (effects_after past.origin (calls past.seen)) → IsWritten store past
written store past crash all = λ told image is. whole past.origin past.seen image all (crash told image is)

-- the count rose in the last write, so it rose since the exchange was opened
rose_then : (first before now : ℕ) → first ≤ before → Rose before now → Rose first now
rose_then first before now le rose = omega (arith, le, rose)

rose_since : (past : History) → BreaksOff past → IsRising past.origin past.seen → Rose past.origin.faults (faults_told past.origin past.seen)
rose_since past b rising =
    let whole : IsRising past.origin (b.front ++ b.behind) = subst (IsRising past.origin) b.split rising in
    rose_then past.origin.faults (faults_told past.origin b.front) (faults_told past.origin past.seen) (faults_later past.origin [] b.front (rising_front past.origin b.front b.behind whole)) b.rose

module _ {Disk Door Link : Type 0} (G : DiskGhosts Disk) (H : DoorGhosts Door Link) (K : LinkGhosts Link) (options : ServeOptions) (keys : Keys) where
  pub is_idle : (disk disk' : Disk) (o : Origin) (past : History) → IsOriginOver (G.store disk) (G.faults disk) (settings_of options) o → past.origin ≡ o → past.seen ≡ []
      → IsLegalFrom past.origin (calls past.seen) → KeepsBudgets past → IsOrdered past.origin past.seen → SaysFronts (G.store disk') past → SaysSomes (G.store disk') past → G.faults disk' ≡ faults_told past.origin past.seen → RoseBy (failures past.seen) past.origin.faults (G.faults disk')
      → IsIdle G H K options keys disk disk' past
  is_idle disk disk' o past begins origin none legal budgets order crash since faults counted = record {
    served = record {
      begins = subst (λ (x : Origin). IsOriginOver (G.store disk) (G.faults disk) (settings_of options) x) (sym origin) begins;
      legal = legal;
      budgets = budgets;
      order = order;
      answers = record { alls = []; each = tt; others = λ w le. ap (λ (l : List Entry). mine w (calls l)) none; few = omega arith };
      crash = crash;
      since = since;
      faults = faults;
      failed = subst (λ (n : ℕ). RoseBy (failures past.seen) n (G.faults disk')) (ap (λ (x : Origin). x.faults) origin ∙ begins.faults_are) counted;
    };
    untouched = none;
  }

  pub is_run : (disk disk' : Disk) (doors doors' : List Door) (o : Origin) (past : History) (end : PoolEnd) (before announced written' : Option (List ℕ)) (code : ℕ)
      → IsOriginOver (G.store disk) (G.faults disk) (settings_of options) o → past.origin ≡ o → IsLegalFrom past.origin (calls past.seen) → KeepsBudgets past → IsOrdered past.origin past.seen
      → AreServed K (rtb options.public keys) past (map H.held doors) (map H.held doors') → SaysFronts (G.store disk') past → SaysSomes (G.store disk') past → G.faults disk' ≡ faults_told past.origin past.seen → RoseBy (failures past.seen) past.origin.faults (G.faults disk')
      → LeaveAs H.faults H.held doors doors' end → EndsAs past (map H.faults doors) (map H.faults doors') end
      → Appends before announced (first_line options) → EndsBehind end announced written' code
      → IsRun G H K options keys disk disk' doors doors' past before written' code
  is_run disk disk' doors doors' o past end before announced written' code begins origin legal budgets order answers crash since faults counted left why line ends = record {
    served = record {
      begins = subst (λ (x : Origin). IsOriginOver (G.store disk) (G.faults disk) (settings_of options) x) (sym origin) begins;
      legal = legal;
      budgets = budgets;
      order = order;
      answers = answers;
      crash = crash;
      since = since;
      faults = faults;
      failed = subst (λ (n : ℕ). RoseBy (failures past.seen) n (G.faults disk')) (ap (λ (x : Origin). x.faults) origin ∙ begins.faults_are) counted;
    };
    tokens = λ some. of_doors options.public keys K past 0 answers.alls (map H.held doors) (map H.held doors') some answers.each;
    end = end;
    why = why;
    left = left;
    last = λ is. written (G.store disk') past crash (subst (λ (e : PoolEnd). EndsAs past (map H.faults doors) (map H.faults doors') e) is why).1;
    broke = λ is.
        let breaks = (subst (λ (e : PoolEnd). EndsAs past (map H.faults doors) (map H.faults doors') e) is why).1 in
        let first : past.origin.faults ≡ G.faults disk = ap (λ (x : Origin). x.faults) origin ∙ begins.faults_are in
        subst (λ (n : ℕ). Rose n (G.faults disk')) first (subst (λ (n : ℕ). Rose past.origin.faults n) (sym faults) (rose_since past breaks order.rising));
    announced = announced;
    line = line;
    ends = ends;
  }
