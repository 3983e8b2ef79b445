use Rattle.std.proofs.Common.{refl}
use Rattle.auction_core.proofs.prepare_campaigns.look_outcome.Goals as goal

pub returns : goal.returns
returns c = λ m s. record { reply = refl; change = refl }
