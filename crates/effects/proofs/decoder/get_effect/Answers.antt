use Rattle.effects.proofs.Sequences.{effect_made, effect_no_change, effect_no_moment}
use Rattle.effects.proofs.decoder.get_effect.Goals as goal

pub returns-in_default : goal.returns-in_default
returns-in_default c = effect_no_moment c.args.bytes.now c.args.place c.in_default.ensures

pub returns-in_default-2 : goal.returns-in_default-2
returns-in_default-2 c =
    let none = rw c.in_default-2.is at c.in_ok-change.ensures in
    effect_no_change c.args.bytes.now c.args.place c.in-Some.moment c.in-Some.next c.in-Some.ensures none

pub returns : goal.returns
returns c =
    let change = rw c.in-Some-2.is at c.in_ok-change.ensures in
    rw c.effect_with.ensures (effect_made c.args.bytes.now c.args.place c.in-Some.moment c.in-Some.next c.in-Some-2.next c.in-Some-2.change c.in-Some.ensures change)
