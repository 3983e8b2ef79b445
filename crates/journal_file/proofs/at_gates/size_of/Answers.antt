use Rattle.journal_file.proofs.GateLemmas.{no_size}
use Rattle.journal_file.proofs.at_gates.size_of.Goals as goal

pub returns-in-None : goal.returns-in-None
returns-in-None c = no_size c.args.bytes.now c.in-None.ensures
