use Rattle.std.proofs.Common.{◌≡◌, ◌∙◌, ◌+◌, All, ap, arith, option_to_list, subst, sym, Option, true, false}
use Rattle.effects.specs.Bytes.{IsEncodable}
use Rattle.exchange_state.specs.Ahead.{is_idle}
use Rattle.plain_exchange.specs.declared.changes.Effect.{Effect}
use Rattle.plain_exchange.specs.Step.{effect_of}
use Rattle.exchange_state.proofs.Changing.{block_some, idle_home, same_idle, staged, staged_stands}
use Rattle.exchange_state.proofs.Entering.{effect_as, same_stands}
use Rattle.exchange_state.proofs.Small.{counts_small}
use Rattle.exchange_state.specs.Views.{calls}
use Rattle.plain_exchange.specs.declared.commands.Command.TheVariants.{Act}
use Rattle.exchange_state.proofs.state.ExchangeState.stage.Goals as goal

pub errand_ahead-requires-clause-home : goal.errand_ahead-requires-clause-home
errand_ahead-requires-clause-home g c =
    let idle : is_idle c.args.self.now ≡ true = sym c.if-not-is_idle.ensures in
    idle_home c.block_ahead.new.self (same_idle c.args.self.now c.block_ahead.new.self c.block_ahead.ensures.same ∙ idle)

pub errand_ahead-requires-clause-placed : goal.errand_ahead-requires-clause-placed
errand_ahead-requires-clause-placed g c =
    let s = c.requires.stands in
    let small = counts_small s.origin s.list c.args.self.now s.stands s.short in
    let same = c.block_ahead.ensures.same in
    let e = same.placed in
    omega (arith, small.1, e)

pub returns-in-Ok-Some-clause-staged : goal.returns-in-Ok-Some-clause-staged
returns-in-Ok-Some-clause-staged g c = λ o l x.
    let old = c.args.self.now in
    let mid = c.block_ahead.new.self in
    let same = c.block_ahead.ensures.same in
    let command = Act c.args.act.now in
    let m = c.args.moment in
    let made = effect_of old.core.settings m old.core.state command in
    let b = block_some made c.in-Ok-Some.block (sym c.in-Ok-Some.field-0-is ∙ c.in-Ok-Some.ensures.block) in
    let r = c.errand_ahead.result in
    let idle : is_idle old ≡ true = sym c.if-not-is_idle.ensures in
    staged o l command m mid r b.0 (same_idle old mid same ∙ idle) (sym (effect_as o (calls l) command m old.core.settings old.core.state x.settings x.state) ∙ b.1)
    (subst (λ (f : Option Effect). All IsEncodable (option_to_list f)) b.1 c.in-Ok-Some.ensures.encodable)
    c.errand_ahead.ensures.home
    (c.errand_ahead.ensures.errand ∙ ap (λ k. record { journal = r.journal; block = k; upto = mid.placed + 1; again = false }) b.2)
    (same_stands o l old mid same x)

pub returns-in-Ok-Some-clause-stands : goal.returns-in-Ok-Some-clause-stands
returns-in-Ok-Some-clause-stands g c = λ o l w x.
    let old = c.args.self.now in
    let mid = c.block_ahead.new.self in
    let same = c.block_ahead.ensures.same in
    let idle : is_idle old ≡ true = sym c.if-not-is_idle.ensures in
    staged_stands o l w mid c.errand_ahead.new.self c.errand_ahead.result c.in-Ok-Some.block (same_idle old mid same ∙ idle)
    c.errand_ahead.ensures.home c.errand_ahead.ensures.errand c.errand_ahead.ensures.state (same_stands o l old mid same x)
