use Rattle.std.proofs.Common.{◌∙◌, ap, subst, sym}
use Rattle.auction_core.specs.Core.{listed}
use Rattle.auction_core.specs.Found.{AreTouched}
use Rattle.exchange_state.specs.Finding.{true_for}
use Rattle.exchange_state.proofs.Founds.{are_touched}
use Rattle.exchange_state.proofs.state.ExchangeState.draft_beside.Goals as goal

pub draft-draft-requires-clause-now : goal.draft-draft-requires-clause-now
draft-draft-requires-clause-now g c =
    let s = c.args.self.now.core.state in
    let r = c.args.asked.now in
    let touched = c.args.touched.now in
    let is = c.as_slice-lists.ensures.value ∙ c.in-Ok.ensures.now ∙ ap (λ cs. true_for touched cs c.request.result.now) c.table.ensures.campaigns ∙ ap (true_for touched (listed s)) c.request.ensures in
    subst (AreTouched s touched r) (sym is) (are_touched s touched r c.requires.rising)
