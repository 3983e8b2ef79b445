use Rattle.std.proofs.Common.{refl, ap, subst, Err, Ok, Some}
use Rattle.recovery.specs.Turns.{Follows, Led}
use Rattle.recovery.proofs.Walking.{nexts_as, one_block, repeats_as, turn_fails, turn_stops}
use Rattle.recovery.proofs.opening.apply_next.Goals as goal

pub returns-in-Ok-clause-turns : goal.returns-in-Ok-clause-turns
returns-in-Ok-clause-turns g c = λ m.
    let old = c.args.reading.now in
    let new = c.next_block.new.self in
    let out = c.next_block.new.out in
    let h = c.in-Ok-Some.ensures in
    let is = ap Ok c.in-Ok-Some.field-0-is in
    one_block old new c.args.core.now c.apply_block.new.core out c.in-Ok-Some.gate m
    (nexts_as old new c.truncate.new.self out (Ok c.in-Ok-Some.field-0) (Ok (Some c.in-Ok-Some.gate)) c.truncate.ensures is h.next)
    (repeats_as old new c.truncate.new.self out (Ok c.in-Ok-Some.field-0) (Ok (Some c.in-Ok-Some.gate)) c.truncate.ensures is h.again)
    (subst (λ bytes. Led bytes c.args.core.now c.apply_block.new.core) c.as_bytes.ensures.value c.in-Ok.ensures.follows)

pub returns-in-Err-apply_block-clause-turns : goal.returns-in-Err-apply_block-clause-turns
returns-in-Err-apply_block-clause-turns g c = λ m.
    let old = c.args.reading.now in
    let new = c.next_block.new.self in
    let out = c.next_block.new.out in
    let h = c.in-Ok-Some.ensures in
    let is = ap Ok c.in-Ok-Some.field-0-is in
    turn_stops old new c.args.core.now c.apply_block.new.core out c.in-Ok-Some.gate c.in-Err-apply_block.refused m
    (nexts_as old new c.truncate.new.self out (Ok c.in-Ok-Some.field-0) (Ok (Some c.in-Ok-Some.gate)) c.truncate.ensures is h.next)
    (repeats_as old new c.truncate.new.self out (Ok c.in-Ok-Some.field-0) (Ok (Some c.in-Ok-Some.gate)) c.truncate.ensures is h.again)
    h.same
    (subst (λ bytes. Follows c.in-Ok-Some.gate bytes c.args.core.now c.apply_block.new.core (Err c.in-Err-apply_block.refused)) c.as_bytes.ensures.value c.in-Err-apply_block.ensures.follows)

pub returns-in-Err-clause-turns : goal.returns-in-Err-clause-turns
returns-in-Err-clause-turns g c = λ m.
    let old = c.args.reading.now in
    let new = c.next_block.new.self in
    let out = c.next_block.new.out in
    let h = c.in-Err.ensures in
    turn_fails old new c.args.core.now c.args.core.now out c.in-Err.fault m
    (nexts_as old new c.truncate.new.self out (Err c.in-Err.fault) (Err c.in-Err.fault) c.truncate.ensures refl h.next)
    (repeats_as old new c.truncate.new.self out (Err c.in-Err.fault) (Err c.in-Err.fault) c.truncate.ensures refl h.again)
