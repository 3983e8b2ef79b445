use Rattle.journal_file.proofs.OneText.{one_text}
use Rattle.journal_file.proofs.laws.image_stands_for_one_list.Goals as goal

pub returns : goal.returns
returns c = λ names ps qs image small a b. one_text names ps qs image small a b
