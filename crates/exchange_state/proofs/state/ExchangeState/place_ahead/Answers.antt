use Rattle.std.proofs.Common.{sym}
use Rattle.exchange_state.proofs.Changing.{carried_ahead}
use Rattle.exchange_state.proofs.state.ExchangeState.place_ahead.Goals as goal

pub returns-in-Ok-clause-done : goal.returns-in-Ok-clause-done
returns-in-Ok-clause-done g c = λ command moment d.
    let e = c.in-Ok.ensures in
    let k = c.commit-settled.ensures in
    carried_ahead command moment c.args.draft c.in-Ok.placing c.args.self.now c.write_effect.new.self c.commit-settled.new.self c.leave_pending.new.self c.commit-settled.result
    (sym c.if-not-has_effect.ensures) d e.placing e.encodable e.pending (k.done command moment) k.rest k.upto k.durable c.leave_pending.ensures
