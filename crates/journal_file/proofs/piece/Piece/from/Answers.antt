use Rattle.std.proofs.Common.{arith, rules}
use Rattle.journal_file.proofs.PieceLemmas.{part_there}
use Rattle.journal_file.proofs.piece.Piece.from.Goals as goal

pub returns-in-Some-clause-front : goal.returns-in-Some-clause-front
returns-in-Some-clause-front c = λ reads held.
    let self = c.args.self.now in
    part_there self.place c.args.place c.in-Some.n self.count reads self.bytes (omega (arith, c.in-Some.ensures.0, c.in-Some.ensures.1)) (omega (arith, c.if-n-self.true)) (search rules) held
