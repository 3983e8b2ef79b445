use Rattle.exchange_state.specs.Placing.{CarriesOut}
use Rattle.exchange_state.proofs.Committing.{carried_after, same_drafts}
use Rattle.exchange_state.proofs.Small.{ok_map}
use Rattle.plain_exchange.specs.declared.commands.Command.TheVariants.{Auction}
use Rattle.exchange_state.proofs.state.ExchangeState.sell.Goals as goal

pub returns-in-Ok-clause-done : goal.returns-in-Ok-clause-done
returns-in-Ok-clause-done g c =
    let old = c.args.self.now in
    let mid = c.draft_over.new.self in
    let new = c.place.new.self in
    let same = c.draft_over.ensures.same in
    let command = Auction c.args.asked.now in
    let m = c.args.moment in
    ok_map (CarriesOut command m mid new) (CarriesOut command m old new) c.place.result
    (λ s k. carried_after command m old mid new s same k)
    (c.place.ensures.done command m (same_drafts command m old.core mid.core c.in-Ok.draft same.settings same.state c.in-Ok.ensures.draft))
