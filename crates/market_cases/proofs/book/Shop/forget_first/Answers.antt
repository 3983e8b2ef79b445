use Rattle.std.proofs.Common.{sym, ap, ◌∙◌, length}
use Rattle.std.proofs.lemmas.List.{length-map}
use Rattle.std.proofs.lemmas.List.FromFn.{length-enumerate_from}
use Rattle.market_cases.proofs.book.Shop.forget_first.Goals as goal

pub invariant_of-self : goal.invariant_of-self
invariant_of-self c = c.self.invariant ∙ sym (ap length c.forget_first.ensures.campaigns ∙ length-map _ _ ∙ length-enumerate_from 1 _ ∙ ap length c.sweep.ensures.campaigns)
