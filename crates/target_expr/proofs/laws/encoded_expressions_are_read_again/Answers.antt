use Rattle.byte_fields.proofs.Codes.{read_again}
use Rattle.target_expr.specs.Bytes.{IsEncodable, expr_bytes}
use Rattle.target_expr.proofs.Encoding.{expr_code}
use Rattle.target_expr.proofs.laws.encoded_expressions_are_read_again.Goals as goal

pub returns : goal.returns
returns c = read_again IsEncodable expr_bytes expr_code
