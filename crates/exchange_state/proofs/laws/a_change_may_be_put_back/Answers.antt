use Rattle.exchange_state.proofs.Changing.{change_done}
use Rattle.exchange_state.proofs.laws.a_change_may_be_put_back.Goals as goal

pub returns : goal.returns
returns g c = change_done
