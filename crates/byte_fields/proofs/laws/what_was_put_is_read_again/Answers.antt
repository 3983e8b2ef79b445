use Rattle.byte_fields.specs.Encodings.{IsShort, text_bytes, IsListOf, list_bytes}
use Rattle.byte_fields.proofs.laws.what_was_put_is_read_again.Goals as goal
use Rattle.byte_fields.proofs.Codes.{read_again}
use Rattle.byte_fields.proofs.Rows.{text_code, list_code}

pub returns-clause-text : goal.returns-clause-text
returns-clause-text c = read_again IsShort text_bytes text_code

pub returns-clause-texts : goal.returns-clause-texts
returns-clause-texts c =
    read_again (IsListOf IsShort) (list_bytes text_bytes) (list_code IsShort text_bytes text_code)
