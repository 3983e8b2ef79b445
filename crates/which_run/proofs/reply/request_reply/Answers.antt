use Rattle.std.proofs.Common.{List, ap, false, ℕ}
use Rattle.which_run.specs.Answers.{answer_to}
use Rattle.which_run.specs.declared.reply.Reply.{Reply}
use Rattle.which_run.proofs.reply.request_reply.Goals as goal

abbrev answered : List ℕ → Reply
answered t = record { text = t; refused = false }

pub returns : goal.returns
unfolding answer_to
returns c = λ r is. ap answered (c.in_ok-text.ensures r is)
