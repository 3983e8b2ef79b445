use Rattle.conj_index.proofs.Rising.{entries_rise, zeros_rise}
use Rattle.conj_index.proofs.laws.posting_lists_rise.Goals as goal

pub returns : goal.returns
returns c = record { lists = entries_rise; zero = zeros_rise }
