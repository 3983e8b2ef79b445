use Rattle.std.proofs.Common.{arith, Ok, Err}
use Rattle.std.proofs.lemmas.List.Elements.{All-push}
use Rattle.effects.specs.Bytes.{IsDecoded, IsEncodable}
use Rattle.effects.specs.declared.fault.EffectFault.{EffectFault}
use Rattle.effects.proofs.Sequences.{effects_more, effects_torn, effects_whole, goes_on, only_decoded}
use Rattle.effects.proofs.decoder.decode.Goals as goal

pub loop-place-preserved : goal.loop-place-preserved
loop-place-preserved c =
    let read = rw c.in-Some.is at c.in_ok-effect.ensures in
    rw c.in_ok-push.ensures.ok record {
      valid = All-push IsEncodable c.loop-place.effects c.in-Some.effect c.loop-place.invariant.valid read.0;
      there = effects_more c.args.bytes.now c.loop-place.place c.in-Some.next c.loop-place.effects c.in-Some.effect c.loop-place.invariant.there read.1;
    }

pub loop-place-smaller : goal.loop-place-smaller
loop-place-smaller c =
    let read = rw c.in-Some.is at c.in_ok-effect.ensures in
    omega (arith, goes_on c.args.bytes.now c.loop-place.place c.in-Some.next c.in-Some.effect read.1, c.loop-place-test.true)

pub returns-in_default : goal.returns-in_default
returns-in_default c =
    let none = rw c.in_default.is at c.in_ok-effect.ensures in
    let torn : IsDecoded c.args.bytes.now (Err (EffectFault.Torn c.loop-place.place)) = effects_torn c.args.bytes.now c.loop-place.place c.loop-place.effects c.loop-place.invariant.valid c.loop-place.invariant.there c.loop-place-test.true none in
    record { value = torn; only = only_decoded c.args.bytes.now (Err (EffectFault.Torn c.loop-place.place)) torn }

pub returns : goal.returns
returns c =
    let whole : IsDecoded c.args.bytes.now (Ok c.loop-place.effects) = (c.loop-place.invariant.valid, effects_whole c.args.bytes.now c.loop-place.place c.loop-place.effects c.loop-place.invariant.there c.loop-place-test.false) in
    record { value = whole; only = only_decoded c.args.bytes.now (Ok c.loop-place.effects) whole }
