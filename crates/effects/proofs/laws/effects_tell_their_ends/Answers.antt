use Rattle.effects.proofs.Sequences.{effect_code}
use Rattle.effects.proofs.laws.effects_tell_their_ends.Goals as goal

pub returns : goal.returns
returns c = effect_code
