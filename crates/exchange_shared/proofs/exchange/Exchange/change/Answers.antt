use Rattle.std.proofs.Common.{subst, IfOk, OnErr}
use Rattle.exchange_shared.specs.Errands.{Stages}
use Rattle.exchange_shared.specs.Seats.{Waits, lock_of}
use Rattle.exchange_shared.proofs.Changes.{changes}
use Rattle.exchange_shared.proofs.Seats.{still}
use Rattle.plain_exchange.specs.declared.commands.Command.TheVariants.{Act}
use Rattle.exchange_shared.proofs.exchange.Exchange.change.Goals as goal

pub carry_ahead-seat-requires : goal.carry_ahead-seat-requires
carry_ahead-seat-requires g c =
    let a = subst (λ r. IfOk r (Stages (lock_of c.args.self.now) (Act c.args.act.now) c.args.moment c.args.seat c.stage-seat.result.0)) c.in-Ok-Errand.is c.stage-seat.ensures.staged in
    record { staged = (subst (Stages (lock_of c.args.self.now) (Act c.args.act.now) c.args.moment c.args.seat c.stage-seat.result.0) c.in-Ok-Errand.field-0-is a).0 }

pub returns-in-Ok-Errand-clause-changed : goal.returns-in-Ok-Errand-clause-changed
returns-in-Ok-Errand-clause-changed g c =
    let a = subst (λ r. IfOk r (Stages (lock_of c.args.self.now) (Act c.args.act.now) c.args.moment c.args.seat c.stage-seat.result.0)) c.in-Ok-Errand.is c.stage-seat.ensures.staged in
    let p = subst (Stages (lock_of c.args.self.now) (Act c.args.act.now) c.args.moment c.args.seat c.stage-seat.result.0) c.in-Ok-Errand.field-0-is a in
    changes _ c.args.seat c.stage-seat.result.0 c.carry_ahead-seat.result.0 _ _ c.in-Ok-Errand.errand c.carry_ahead-seat.result.1 p c.carry_ahead-seat.ensures.changed

pub returns-in-Ok-NotAlone-clause-seat : goal.returns-in-Ok-NotAlone-clause-seat
returns-in-Ok-NotAlone-clause-seat g c =
    let a = subst (λ r. IfOk r (Stages (lock_of c.args.self.now) (Act c.args.act.now) c.args.moment c.args.seat c.stage-seat.result.0)) c.in-Ok-NotAlone.is c.stage-seat.ensures.staged in
    let p = subst (Stages (lock_of c.args.self.now) (Act c.args.act.now) c.args.moment c.args.seat c.stage-seat.result.0) c.in-Ok-NotAlone.field-0-is a in
    still _ c.args.seat c.stage-seat.result.0 c.requires.seat p.0

pub returns-in-Err-clause-seat : goal.returns-in-Err-clause-seat
returns-in-Err-clause-seat g c = still _ c.args.seat c.stage-seat.result.0 c.requires.seat (subst (λ r. OnErr r (Waits c.args.seat c.stage-seat.result.0)) c.in-Err.is c.stage-seat.ensures.none)
