use Rattle.std.proofs.Common.{refl, arith}
use Rattle.journal_file.proofs.PieceLemmas.{block_there, next_inside, next_small}
use Rattle.journal_file.proofs.piece.Piece.block.Goals as goal

pub overflow_add-result-in-Some : goal.overflow_add-result-in-Some
overflow_add-result-in-Some c = omega (arith, next_small c.args.gate c.in-Some.payload.now c.from.result.now (c.from.ensures.bound c.requires.low) c.in-Some.ensures)

pub returns-in_ok-extend-in-Some-clause-block : goal.returns-in_ok-extend-in-Some-clause-block
returns-in_ok-extend-in-Some-clause-block c = λ reads held.
    (c.in-Some.payload.now, block_there c.args.gate c.in-Some.payload.now c.from.result.now reads (c.from.ensures.front reads held) c.in-Some.ensures, refl, c.in_ok-extend-in-Some.ensures.ok)

pub returns-in_ok-extend-in-Some-clause-inside : goal.returns-in_ok-extend-in-Some-clause-inside
returns-in_ok-extend-in-Some-clause-inside c = λ reads held.
    next_inside c.args.gate c.in-Some.payload.now reads (block_there c.args.gate c.in-Some.payload.now c.from.result.now reads (c.from.ensures.front reads held) c.in-Some.ensures)

pub returns-in_ok-extend-in-Some-clause-bound : goal.returns-in_ok-extend-in-Some-clause-bound
returns-in_ok-extend-in-Some-clause-bound c = next_small c.args.gate c.in-Some.payload.now c.from.result.now (c.from.ensures.bound c.requires.low) c.in-Some.ensures
