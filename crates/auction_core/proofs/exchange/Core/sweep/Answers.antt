use Rattle.std.proofs.Common.{◌∙◌}
use Rattle.plain_exchange.specs.State.{swept}
use Rattle.plain_exchange.proofs.Keeping.{swept_kept}
use Rattle.auction_core.proofs.Stating.{core_of, here}
use Rattle.auction_core.proofs.exchange.Core.sweep.Goals as goal

pub invariant_of-self : goal.invariant_of-self
invariant_of-self c =
    let i = c.self.inside in
    let s = here i.table.campaigns i.book.campaigns i.book.sales in
    core_of i.table.campaigns c.sweep.new.self.campaigns c.sweep.new.self.sales (swept c.args.moment s) c.self.invariant.listing (c.sweep.ensures.campaigns ∙ c.self.invariant.funding) c.sweep.ensures.sales (swept_kept c.args.moment s c.self.invariant.consistent)
