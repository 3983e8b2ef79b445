use Rattle.std.proofs.Common.{◌≡◌, ◌∙◌, ◌+◌, arith, length, subst, sym, true}
use Rattle.exchange_state.specs.declared.state.ExchangeState.{ExchangeState}
use Rattle.exchange_state.specs.declared.state.Settled.{Settled}
use Rattle.exchange_state.specs.Ahead.{CarriesAhead}
use Rattle.exchange_state.specs.Settling.{Enters}
use Rattle.exchange_state.specs.Standing.{StandsFor, is_ahead}
use Rattle.exchange_state.specs.Tickets.{effects_after}
use Rattle.exchange_state.specs.Views.{calls}
use Rattle.exchange_state.proofs.Changing.{ahead_end, entered_ahead, some_any, some_map}
use Rattle.exchange_state.proofs.Committing.{same_ahead, same_drafts}
use Rattle.exchange_state.proofs.Entering.{same_stands}
use Rattle.exchange_state.proofs.Small.{counts_small}
use Rattle.plain_exchange.specs.declared.commands.Command.TheVariants.{Act}
use Rattle.exchange_state.proofs.state.ExchangeState.enter_ahead.Goals as goal

pub place_ahead-requires-clause-few : goal.place_ahead-requires-clause-few
place_ahead-requires-clause-few g c =
    let s = c.requires.stands in
    let small = counts_small s.origin s.list c.args.self.now s.stands s.short in
    let same = c.draft_simple.ensures.same in
    let e = same.edits_are in
    omega (arith, small.0, e)

pub place_ahead-requires-clause-placed : goal.place_ahead-requires-clause-placed
place_ahead-requires-clause-placed g c =
    let s = c.requires.stands in
    let small = counts_small s.origin s.list c.args.self.now s.stands s.short in
    let same = c.draft_simple.ensures.same in
    let e = same.placed in
    omega (arith, small.1, e)

pub returns-in-Ok-clause-entered : goal.returns-in-Ok-clause-entered
returns-in-Ok-clause-entered g c = λ o l w x.
    let old = c.args.self.now in
    let mid = c.draft_simple.new.self in
    let new = c.place_ahead.new.self in
    let same = c.draft_simple.ensures.same in
    let command = Act c.args.act.now in
    let m = c.args.moment in
    let ahead : is_ahead old ≡ true = sym c.if-not-is_ahead.ensures in
    some_map (CarriesAhead command m mid new) (Enters o l w command m new) c.place_ahead.result
    (λ s k. entered_ahead o l w m command mid new s k (same_ahead old mid same ∙ ahead) (same_stands o l old mid same x))
    (c.place_ahead.ensures.done command m (same_drafts command m old.core mid.core c.in-Ok.draft same.settings same.state c.in-Ok.ensures.draft))

pub returns-in-Ok-clause-ahead : goal.returns-in-Ok-clause-ahead
returns-in-Ok-clause-ahead g c = λ o l t x has.
    let ahead : is_ahead c.args.self.now ≡ true = sym c.if-not-is_ahead.ensures in
    some_any (λ (s : Settled). t.upto ≡ length (effects_after o (calls l)) + 1) c.place_ahead.result (λ s. ahead_end o l c.args.self.now t x ahead has)

pub returns-in-Ok-clause-none : goal.returns-in-Ok-clause-none
returns-in-Ok-clause-none g c = λ o l x none.
    let mid = c.draft_simple.new.self in
    let same = c.draft_simple.ensures.same in
    subst (λ (y : ExchangeState g.row.D.Denot g.D.Disk). StandsFor o y l) (sym (c.place_ahead.ensures.none none)) (same_stands o l c.args.self.now mid same x)
