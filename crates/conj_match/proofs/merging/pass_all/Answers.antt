use Rattle.std.proofs.Common.{◌≡◌, ◌≢◌, ◌<◌, ◌+◌, get_or, length, set, take, ◌∙◌, subst, arith}
use Rattle.std.proofs.lemmas.List.{get_or-set_other, length-set}
use Rattle.conj_match.specs.Merge.{IsLeast, shows_plain}
use Rattle.conj_match.specs.Place.{number_of}
use Rattle.conj_match.proofs.Turn.{any_after, at_most_one, cost_after, count_after, least_after, least_is, passed_after}
use Rattle.conj_match.proofs.merging.pass_all.Goals as goal

pub loop-i-preserved : goal.loop-i-preserved
loop-i-preserved g c =
    let id = c.args.id in
    let old = c.args.cursors.now.items in
    let now = c.loop-i.cursors.items in
    let i = c.loop-i.i in
    let x = c.index_mut.result.now in
    let new = c.visit.new.cursor in
    let before = c.loop-i.invariant in
    let seen = c.visit.ensures in
    let within : i < length now = omega arith in
    let there : i < length old = omega (arith, before.all) in
    let is : x ≡ get_or now i x = c.index_mut.ensures.value in
    record {
      all = length-set now i new ∙ before.all;
      done = passed_after id old now i x new within is before.ahead seen.passed before.done;
      ahead = λ j d h. let other : j ≢ i = omega arith in get_or-set_other now i j new d other ∙ before.ahead j d (omega arith);
      few = omega (arith, seen.plain, at_most_one (shows_plain id x), before.few);
      excluded = any_after id old now i x c.loop-i.turn.is_excluded c.visit.new.self.is_excluded there is before.ahead before.excluded seen.excluded;
      plain = count_after id old now i x c.loop-i.turn.plain c.visit.new.self.plain there is before.ahead before.plain seen.plain;
      least = subst (IsLeast (take (i + 1) (set now i new))) (least_is c.loop-i.turn.least c.visit.new.self.least new seen.number seen.least) (least_after now i new (number_of c.loop-i.turn.least) within before.least);
      cost = omega (arith, cost_after id now i x new c.loop-i.steps c.visit.new.steps within is seen.passed seen.cost, before.cost);
    }
