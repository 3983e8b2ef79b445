use Rattle.std.proofs.Common.{◌-◌, ◌<◌, ◌≤◌, length, ap, arith, length-drop}
use Rattle.std.proofs.lemmas.List.{take_rest}
use Rattle.byte_fields.proofs.texts.text_at.Goals as goal
use Rattle.byte_fields.proofs.Rows.{text_no_length, text_too_short, text_there}

pub returns-in_err-length : goal.returns-in_err-length
returns-in_err-length c =
    rw c.from_residual.ensures (text_no_length c.args.bytes.now c.args.place c.in_err-length.ensures)

pub returns-then-length-rest : goal.returns-then-length-rest
returns-then-length-rest c =
    let bytes = c.args.bytes.now in
    let start = c.in_ok-length.start in
    let short : length bytes - start < c.in_ok-length.length = omega (arith, ap length (take_rest bytes start), length-drop start bytes) in
    text_too_short bytes c.args.place start c.in_ok-length.length c.in_ok-length.ensures short

pub returns : goal.returns
returns c =
    let bytes = c.args.bytes.now in
    let start = c.in_ok-length.start in
    let room : c.in_ok-length.length ≤ length bytes - start = omega (arith, ap length (take_rest bytes start), length-drop start bytes) in
    rw (take_rest bytes start) (text_there bytes c.args.place start c.in_ok-length.length c.in_ok-length.ensures room)
