use Rattle.std.proofs.Common.{rules, refl}
use Rattle.run_words.proofs.Utf8.{is_no_text, is_text}
use Rattle.run_words.proofs.texts.text.Goals as goal

pub returns-in-Ok : goal.returns-in-Ok
returns-in-Ok c = (search rules, is_text _ (search rules))

pub returns-in-Err : goal.returns-in-Err
returns-in-Err c = (refl, is_no_text _ (search rules))
