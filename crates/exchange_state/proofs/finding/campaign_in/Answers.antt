use Rattle.std.proofs.Common.{◌∙◌, ap, sym}
use Rattle.std.proofs.lemmas.List.{take_rest}
use Rattle.exchange_state.specs.Finding.{at_head}
use Rattle.exchange_state.proofs.Walks.{found_at_place}
use Rattle.exchange_state.proofs.finding.campaign_in.Goals as goal

pub returns-clause-value : goal.returns-clause-value
returns-clause-value c = λ rise.
    let n = c.args.n in
    let live = c.args.live.now in
    let place = c.place_of.result in
    c.first_is.ensures.value ∙ ap (at_head n) (take_rest live place) ∙ sym (found_at_place n place live rise (c.place_of.ensures.place rise))
