use Rattle.std.proofs.Common.{refl}
use Rattle.byte_fields.specs.Encodings.{eight_bytes, four_bytes, text_bytes}
use Rattle.effects.proofs.laws.examples_have_their_bytes.Goals as goal

pub returns-clause-pause : goal.returns-clause-pause
unfolding eight_bytes four_bytes
returns-clause-pause c = refl

pub returns-clause-sale : goal.returns-clause-sale
unfolding eight_bytes four_bytes
returns-clause-sale c = refl

pub returns-clause-sale_to_user : goal.returns-clause-sale_to_user
unfolding eight_bytes four_bytes text_bytes
returns-clause-sale_to_user c = refl

pub returns-clause-forgot : goal.returns-clause-forgot
unfolding eight_bytes
returns-clause-forgot c = refl
