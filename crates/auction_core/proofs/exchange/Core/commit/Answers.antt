use Rattle.std.proofs.Common.{◌∙◌, ap}
use Rattle.auction_core.specs.Draft.{answered}
use Rattle.auction_core.proofs.Leading.{stepped}
use Rattle.auction_core.proofs.exchange.Core.commit.Goals as goal

pub returns-clause-state : goal.returns-clause-state
returns-clause-state c = λ command moment is. stepped c.args.self.now.settings moment c.args.self.now.state c.enter.new.self.state command _ (c.as_ref.ensures.value ∙ is.effect) c.enter.ensures.state

pub returns-clause-reply : goal.returns-clause-reply
returns-clause-reply c = λ command moment is.
    c.answer.ensures
    ∙ ap (answered c.args.draft.answer) (stepped c.args.self.now.settings moment c.args.self.now.state c.enter.new.self.state command _ (c.as_ref.ensures.value ∙ is.effect) c.enter.ensures.state)
    ∙ is.reply
