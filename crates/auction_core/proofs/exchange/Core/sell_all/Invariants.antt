use Rattle.std.proofs.Common.{◌≡◌, ◌≤◌, length}
use Rattle.std.specs.Option.{option_copied}
use Rattle.auction_core.specs.Putting.{keys_for}
use Rattle.plain_exchange.specs.Effects.{with_items}
use Rattle.auction_core.proofs.exchange.Core.sell_all.Given as goal

abbrev pub invariant-loop-item : goal.invariant-loop-item
invariant-loop-item l = record {
  sold : with_items l.fn.moment (option_copied l.fn.user) l.rest l.self.state ≡ with_items l.fn.moment (option_copied l.fn.user) l.fn.items l.fn.self.state;
  keys : l.keys.items ≡ keys_for (option_copied l.fn.user) l.rest;
  settings : l.self.settings ≡ l.fn.self.settings;
  edits : l.self.edits ≡ l.fn.self.edits;
  room : length l.rest ≤ l.self.sale_room;
}

abbrev pub decreases-loop-item : goal.decreases-loop-item
decreases-loop-item l = length l.rest
