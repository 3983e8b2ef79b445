use Rattle.byte_fields.proofs.Codes.{read_no_first}
use Rattle.campaign.specs.Encoding.{facts_bytes}
use Rattle.campaign.specs.Kept.{IsEncodable as IsUncapped}
use Rattle.campaign.proofs.Decoding.{encodable_code as uncapped_code, read_paired}
use Rattle.target_expr.specs.Bytes.{IsEncodable as IsExpr, expr_bytes}
use Rattle.effects.proofs.changes.get_facts_expr.Goals as goal

pub returns-in_default : goal.returns-in_default
returns-in_default c =
    let none = rw c.in_default.is at c.in_ok-facts.ensures in
    read_no_first IsUncapped facts_bytes IsExpr expr_bytes c.args.bytes.now c.args.place none

pub returns : goal.returns
returns c =
    let first = rw c.in-Some.is at c.in_ok-facts.ensures in
    rw c.paired.ensures (read_paired IsUncapped facts_bytes IsExpr expr_bytes uncapped_code c.args.bytes.now c.args.place c.in-Some.facts c.in-Some.next c.get_expr.result first c.get_expr.ensures)
