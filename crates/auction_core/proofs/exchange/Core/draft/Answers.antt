use Rattle.std.proofs.Common.{◌∙◌, ap}
use Rattle.plain_exchange.specs.State.{is_any_due}
use Rattle.auction_core.proofs.Leading.{drafted_is, drafted_ready, edited_once, fitting}
use Rattle.auction_core.proofs.Preparing.{effect_with}
use Rattle.auction_core.proofs.exchange.Core.draft.Goals as goal

pub memory_of-memory-requires : goal.memory_of-memory-requires
memory_of-memory-requires c =
    let (settings, command, is) = c.requires.outcome in
    let m = c.args.moment in
    let s = c.args.self.now.state in
    let leads = c.as_ref.ensures.value ∙ c.effect_of-effect.ensures ∙ ap (effect_with m (is_any_due m s)) is.change in
    record { fits = fitting settings m s command _ leads; few = edited_once settings m s command _ leads }

pub returns-clause-draft : goal.returns-clause-draft
returns-clause-draft c = λ settings command is.
    let m = c.args.moment in
    let s = c.args.self.now.state in
    drafted_is settings m s command c.args.outcome.answer c.effect_of-effect.result c.memory_of-memory.result c.drafted.result c.drafted.ensures (c.effect_of-effect.ensures ∙ ap (effect_with m (is_any_due m s)) is.change) is.reply

pub returns-clause-ready : goal.returns-clause-ready
returns-clause-ready c =
    drafted_ready c.memory_of-memory.new.self c.args.outcome.answer c.effect_of-effect.result _ c.memory_of-memory.result c.drafted.result c.drafted.ensures c.as_ref.ensures.value c.memory_of-memory.ensures.ready
