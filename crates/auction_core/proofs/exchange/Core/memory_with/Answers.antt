use Rattle.auction_core.proofs.Leading.{can_put, few_in_fit}
use Rattle.auction_core.proofs.exchange.Core.memory_with.Goals as goal

pub make_ready-requires : goal.make_ready-requires
make_ready-requires c = record { few = few_in_fit c.args.effect.now c.args.self.now.state c.requires.fits }

pub returns-clause-ready : goal.returns-clause-ready
returns-clause-ready c = can_put c.args.effect.now c.args.self.now c.make_ready.new.self c.make_ready.result c.requires.fits c.make_ready.ensures.rooms.state c.requires.few c.make_ready.ensures.memory c.make_ready.ensures.room
