use Rattle.std.proofs.Common.{◌++◌, ◌∙◌, [], ap, get_or}
use Rattle.rtb_num.proofs.Pieces.{one_piece}
use Rattle.rtb_num.proofs.text.append_pieces.Goals as goal

pub loop-piece-preserved : goal.loop-piece-preserved
loop-piece-preserved c =
    let pieces = c.args.pieces.now in
    let k = c.loop-piece.piece-index in
    c.in_ok-extend.ensures.ok
    ∙ ap (λ l. l ++ (get_or pieces k (record { ref_ptr = (0, 0); now = [] })).now) c.loop-piece.invariant
    ∙ one_piece c.args.out.now pieces k (record { ref_ptr = (0, 0); now = [] }) c.loop-piece-test.true
