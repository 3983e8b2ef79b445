use Rattle.exchange_state.proofs.Later.{tried_done}
use Rattle.exchange_state.proofs.laws.an_errand_may_be_put_back.Goals as goal

pub returns : goal.returns
returns g c = tried_done
