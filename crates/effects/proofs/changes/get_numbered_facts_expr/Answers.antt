use Rattle.byte_fields.proofs.Codes.{read_no_first}
use Rattle.campaign.proofs.Decoding.{read_paired}
use Rattle.effects.specs.Bodies.{IsNumbered, numbered_bytes}
use Rattle.effects.proofs.PartCodes.{numbered_code}
use Rattle.target_expr.specs.Bytes.{IsEncodable as IsExpr, expr_bytes}
use Rattle.effects.proofs.changes.get_numbered_facts_expr.Goals as goal

pub returns-in_default : goal.returns-in_default
returns-in_default c =
    let none = rw c.in_default.is at c.in_ok-numbered.ensures in
    read_no_first IsNumbered numbered_bytes IsExpr expr_bytes c.args.bytes.now c.args.place none

pub returns : goal.returns
returns c =
    let first = rw c.in-Some.is at c.in_ok-numbered.ensures in
    rw c.paired.ensures (read_paired IsNumbered numbered_bytes IsExpr expr_bytes numbered_code c.args.bytes.now c.args.place c.in-Some.numbered c.in-Some.next c.get_expr.result first c.get_expr.ensures)
