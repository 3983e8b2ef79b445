use Rattle.std.proofs.Common.{◌≡◌, IfOk, subst, sym}
use Rattle.std.specs.Option.{option_copied}
use Rattle.rtb_response.specs.Replies.{answer_of}
use Rattle.rtb_response.proofs.reply.write_reply.Goals as goal

pub returns-in-Reported-clause-value : goal.returns-in-Reported-clause-value
returns-in-Reported-clause-value c = subst (λ r. IfOk c.report_reply.result (λ a. a ≡ answer_of (option_copied c.args.request) (option_copied c.args.public) c.args.keys.now r)) (sym c.in-Reported.is) c.report_reply.ensures

pub returns-in-Billed-clause-value : goal.returns-in-Billed-clause-value
returns-in-Billed-clause-value c = subst (λ r. IfOk c.sale_reply.result (λ a. a ≡ answer_of (option_copied c.args.request) (option_copied c.args.public) c.args.keys.now r)) (sym c.in-Billed.is) c.sale_reply.ensures
