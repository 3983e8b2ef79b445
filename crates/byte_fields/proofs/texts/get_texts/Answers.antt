use Rattle.byte_fields.proofs.texts.get_texts.Goals as goal
use Rattle.byte_fields.proofs.Rows.{text_code}

pub get_list-requires : goal.get_list-requires
get_list-requires c = record { code = text_code }
