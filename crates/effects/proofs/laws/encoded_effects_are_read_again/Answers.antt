use Rattle.effects.proofs.Sequences.{only_these}
use Rattle.effects.proofs.laws.encoded_effects_are_read_again.Goals as goal

pub returns : goal.returns
returns c = only_these
