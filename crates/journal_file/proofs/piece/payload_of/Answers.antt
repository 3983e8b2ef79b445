use Rattle.std.proofs.Common.{◌∙◌, sym}
use Rattle.journal_file.proofs.PieceLemmas.{payload_whole}
use Rattle.journal_file.proofs.piece.payload_of.Goals as goal

pub returns : goal.returns
returns c = payload_whole c.args.bytes.now c.in_ok-size.size c.in_ok-size.start (sym c.is_one.ensures ∙ c.if-not-is_one.false) c.in_ok-size.ensures.1 c.if-size-rest.false
