use Rattle.std.proofs.Common.{arith, sym, ◌∙◌, ap, length}
use Rattle.std.specs.Option.{option_copied}
use Rattle.plain_exchange.specs.Effects.{with_items}
use Rattle.auction_core.proofs.Selling.{key_taken, sold_first}
use Rattle.auction_core.proofs.exchange.Core.sell_all.Goals as goal

pub loop-item-preserved : goal.loop-item-preserved
loop-item-preserved c =
    let user = option_copied c.args.user in
    let front = c.in-Some.ensures.cases.0 in
    let (to, rest) = key_taken user c.loop-item.rest.now c.in-Some.item.now c.in-Some.more.now c.loop-item.keys.items c.pop.new.self.items c.pop.result _ front c.loop-item.invariant.keys c.pop.ensures.items (sym c.loop-item.keys.ok.0) c.pop.ensures.variant.1 in
    let many = ap length front in
    record {
      sold = sold_first c.args.moment user c.pop.result c.loop-item.rest.now c.in-Some.item.now c.in-Some.more.now c.loop-item.self.state c.hold.new.self.state (with_items c.args.moment user c.args.items.now c.args.self.now.state)
          front c.loop-item.invariant.sold c.requires.fits to c.hold.ensures.state;
      keys = rest;
      settings = c.hold.ensures.rest.settings ∙ c.loop-item.invariant.settings;
      edits = omega (arith, c.hold.ensures.rest.edited, c.loop-item.invariant.edits);
      room = omega (arith, c.hold.ensures.rest.sale_room, c.loop-item.invariant.room, many);
    }
