use Rattle.journal_file.proofs.PieceLemmas.{filled}
use Rattle.journal_file.proofs.piece.Piece.fill.Goals as goal

pub returns-clause-held : goal.returns-clause-held
returns-clause-held g c = λ told. filled c.args.place c.in_ok-self.field-0 _ _ c.in_ok-self.ensures.bound (c.in_ok-self.ensures.bytes told)
