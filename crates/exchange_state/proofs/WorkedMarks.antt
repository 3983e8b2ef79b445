-- Worked cases, by evaluation: the marks of a journal whose first append fails.
use Rattle.std.proofs.Common.{◌≡◌, ℕ, List, [], ◌∷◌, ◌++◌, length, map, refl, arith, true, false, Some, None}
use Rattle.byte_fields.specs.Encodings.{eight_bytes, four_bytes}
use Rattle.effects.specs.Bytes.{effects_bytes}
use Rattle.exchange_state.specs.declared.entries.Entry.{Entry}
use Rattle.exchange_state.specs.declared.entries.Origin.{Origin}
use Rattle.exchange_state.specs.Standing.{between}
use Rattle.exchange_state.specs.Tickets.{IsLegalFrom, effects_after, opening}
use Rattle.exchange_state.specs.Views.{AreInTurn, IsRising, block_end, called, calls, failed, failures, faults_told, is_behind, mine, out, put, stable, taken}
use Rattle.plain_exchange.specs.declared.changes.Change.TheVariants as change
use Rattle.plain_exchange.specs.declared.changes.Effect.{Effect}
use Rattle.plain_exchange.specs.declared.commands.Act.TheVariants as act
use Rattle.plain_exchange.specs.declared.commands.Command.TheVariants as command
use Rattle.plain_exchange.specs.declared.commands.Reply.TheVariants as reply
use Rattle.plain_exchange.proofs.Samples.{shoes_facts, wants_all}

-- the exchange was opened with one campaign
abbrev with_one : Origin
with_one = record { effects = (record { moment = 1000; change = change.Added shoes_facts wants_all }) ∷ []; settings = record { ttl = 300000; limit = 4194304 }; faults = 0; told = true; moments = 0 }

-- ---- the list, entry by entry

-- worker 1 pauses the campaign and takes the journal
abbrev asked : List Entry
asked = called 1 (command.Act (act.Pause 1)) 1000 (reply.Paused 1) ∷ taken 1 1 false 0 ∷ []

-- worker 2 resumes it meanwhile, and the append of worker 1 fails
abbrev failed_once : List Entry
failed_once = asked ++ called 2 (command.Act (act.Resume 1)) 1000 (reply.Resumed 1) ∷ put 1 false 0 1 ∷ []

-- worker 1 takes the journal again, with the same block, and repairs it
abbrev repaired : List Entry
repaired = failed_once ++ taken 1 1 true 1 ∷ put 1 true 1 1 ∷ []

-- worker 2 writes what it resumed
abbrev all_written : List Entry
all_written = repaired ++ taken 2 2 false 1 ∷ put 2 true 2 1 ∷ []

-- ---- what the list tells

-- how many effects are placed and how many are durable, the end of the last block, and the failures told
abbrev numbers : List Entry → List ℕ
numbers l = length (effects_after with_one (calls l)) ∷ stable l ∷ block_end l ∷ faults_told with_one l ∷ failures l ∷ []

each_time : map numbers (asked ∷ failed_once ∷ repaired ∷ all_written ∷ []) ≡ (1 ∷ 0 ∷ 1 ∷ 0 ∷ 0 ∷ []) ∷ (2 ∷ 0 ∷ 1 ∷ 1 ∷ 1 ∷ []) ∷ (2 ∷ 1 ∷ 1 ∷ 1 ∷ 1 ∷ []) ∷ (2 ∷ 2 ∷ 2 ∷ 1 ∷ 1 ∷ []) ∷ []
unfolding effects_after opening
each_time = refl

-- who has the journal, and whether a block is behind
who_has : map out (asked ∷ failed_once ∷ repaired ∷ []) ≡ Some (record { worker = 1; upto = 1; again = false; faults = 0 }) ∷ None ∷ None ∷ []
who_has = refl

behind : map is_behind (asked ∷ failed_once ∷ repaired ∷ all_written ∷ []) ≡ false ∷ true ∷ false ∷ false ∷ []
behind = refl

of_workers : (failed all_written 1 ∷ failed all_written 2 ∷ length (mine 1 (calls all_written)) ∷ length (mine 2 (calls all_written)) ∷ []) ≡ (1 ∷ 0 ∷ 1 ∷ 1 ∷ [])
of_workers = refl

-- the block that failed is that of the pause alone, also once the resumption is placed
abbrev block_of : List Entry → List Effect
block_of l = between with_one (calls l) (stable l) (block_end l)

same_block : map block_of (asked ∷ failed_once ∷ []) ≡ ((record { moment = 1000; change = change.Paused 1 }) ∷ []) ∷ ((record { moment = 1000; change = change.Paused 1 }) ∷ []) ∷ []
unfolding effects_after opening
same_block = refl

block_size : length (effects_bytes (block_of asked)) ≡ 13
unfolding eight_bytes four_bytes effects_after opening
block_size = refl

-- and what is left for worker 2 is the resumption
left : between with_one (calls repaired) (stable repaired) 2 ≡ (record { moment = 1000; change = change.Resumed 1 }) ∷ []
unfolding effects_after opening
left = refl

-- ---- and it is a list that a state may stand for

legal : IsLegalFrom with_one (calls all_written)
unfolding IsLegalFrom opening
legal = (refl, (refl, tt))

in_turn : AreInTurn None all_written
in_turn = (
  tt,
  (
    refl,
    (
      tt,
      (
        (record { worker = 1; upto = 1; again = false; faults = 0 }, refl, refl),
        (refl, ((record { worker = 1; upto = 1; again = true; faults = 1 }, refl, refl), (refl, ((record { worker = 2; upto = 2; again = false; faults = 1 }, refl, refl), tt)))),
      ),
    ),
  ),
)

rising : IsRising with_one all_written
rising = record {
  faults_rise = (omega arith, (omega arith, (omega arith, (omega arith, (omega arith, (omega arith, (omega arith, (omega arith, tt))))))));
  stable_rises = (omega arith, (omega arith, (omega arith, (omega arith, (omega arith, (omega arith, (omega arith, (omega arith, tt))))))));
  published_rises = (omega arith, (omega arith, (omega arith, (omega arith, (omega arith, (omega arith, (omega arith, (omega arith, tt))))))));
}
