use Rattle.std.proofs.Common.{◌∙◌, sym, arith}
use Rattle.follower.proofs.Pieces.{block_long, payload_whole}
use Rattle.follower.proofs.piece.payload_of.Goals as goal

pub returns-clause-block : goal.returns-clause-block
returns-clause-block c = payload_whole c.args.bytes.now c.in_ok-size.size c.in_ok-size.start (sym c.is_open.ensures ∙ c.if-not-is_open.false) c.in_ok-size.ensures.1 c.if-size-rest.false

pub returns-clause-inside : goal.returns-clause-inside
returns-clause-inside c =
    omega (arith, block_long _ c.args.bytes.now (payload_whole c.args.bytes.now c.in_ok-size.size c.in_ok-size.start (sym c.is_open.ensures ∙ c.if-not-is_open.false) c.in_ok-size.ensures.1 c.if-size-rest.false))
