use Rattle.which_run.specs.Texts.{best_text}
use Rattle.which_run.proofs.answer.best_text.Goals as goal

pub returns : goal.returns
returns c = c.finished.ensures (best_text c.args.best.now c.args.marks.now) c.put_answer-done.ensures.text
