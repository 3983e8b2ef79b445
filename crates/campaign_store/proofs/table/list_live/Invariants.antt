use Rattle.std.proofs.Common.{◌≡◌, take}
use Rattle.std.specs.List.{enumerate_from, flat_map}
use Rattle.campaign_store.specs.Table.{live_record}
use Rattle.campaign_store.proofs.table.list_live.Given as goal

abbrev pub invariant-loop-place : goal.invariant-loop-place
invariant-loop-place l = l.live.items ≡ flat_map live_record (take l.place (enumerate_from 1 l.campaigns))
