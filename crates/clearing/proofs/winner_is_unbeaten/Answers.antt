use Rattle.clearing.proofs.Winner.{unbeaten_from_winner}
use Rattle.clearing.proofs.winner_is_unbeaten.Goals as goal

pub returns : goal.returns
returns c = unbeaten_from_winner
