use Rattle.byte_fields.proofs.laws.fields_tell_their_ends.Goals as goal
use Rattle.byte_fields.specs.Encodings.{IsShort, text_bytes}
use Rattle.byte_fields.proofs.Numbers.{four_code, eight_code}
use Rattle.byte_fields.proofs.Rows.{text_code, list_code}

pub returns-clause-four : goal.returns-clause-four
returns-clause-four c = four_code

pub returns-clause-eight : goal.returns-clause-eight
returns-clause-eight c = eight_code

pub returns-clause-text : goal.returns-clause-text
returns-clause-text c = text_code

pub returns-clause-texts : goal.returns-clause-texts
returns-clause-texts c = list_code IsShort text_bytes text_code
