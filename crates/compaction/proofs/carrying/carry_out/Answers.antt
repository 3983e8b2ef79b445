use Rattle.std.proofs.Common.{All, rules, subst, sym}
use Rattle.effects.specs.Bytes.{IsEncodable}
use Rattle.recovery.proofs.Joining.{led_more}
use Rattle.compaction.proofs.carrying.carry_out.Goals as goal

pub returns-in-Err-Torn-clause-follows : goal.returns-in-Err-Torn-clause-follows
returns-in-Err-Torn-clause-follows c = search rules

pub returns-in-Err-Unfit-clause-follows : goal.returns-in-Err-Unfit-clause-follows
returns-in-Err-Unfit-clause-follows c = search rules

pub returns-in-Ok-done-clause-follows : goal.returns-in-Ok-done-clause-follows
returns-in-Ok-done-clause-follows c = search rules

pub returns-in-Ok-done-clause-led : goal.returns-in-Ok-done-clause-led
returns-in-Ok-done-clause-led c = λ led.
    let each = subst (All IsEncodable) (sym c.as_slice.ensures) c.in-Ok.ensures.value.0 in
    led_more c.as_slice.result.now c.args.core.now c.apply_all-done.new.core each c.in-Ok-done.ensures.after c.in-Ok-done.ensures.edits c.in-Ok-done.ensures.few led
