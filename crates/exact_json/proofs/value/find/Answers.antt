use Rattle.std.proofs.Common.{◌≡◌, Some, length, sym, ap, ◌∙◌, take, arith}
use Rattle.std.proofs.lemmas.List.{take_all}
use Rattle.exact_json.specs.Tree.{get_pair}
use Rattle.exact_json.specs.View.{pairs_of}
use Rattle.exact_json.proofs.Pairs.{last_named, last_other}
use Rattle.exact_json.proofs.value.find.Goals as goal

pub loop-left-init : goal.loop-left-init
loop-left-init c =
    let ms = c.args.members.now in
    record { same = ap (λ l. get_pair c.args.name.now (pairs_of l)) (take_all (length ms) ms (omega arith)); within = omega arith }

pub returns-then-is_named : goal.returns-then-is_named
returns-then-is_named c =
    ap Some c.value_in.ensures
    ∙ sym (last_named c.args.name.now c.args.members.now c.loop-left.left _ c.loop-left-test.true c.loop-left.invariant.within (sym c.is_named.ensures ∙ c.if-is_named.true))
    ∙ c.loop-left.invariant.same

pub loop-left-preserved : goal.loop-left-preserved
loop-left-preserved c =
    let other = last_other c.args.name.now c.args.members.now c.loop-left.left _ c.loop-left-test.true c.loop-left.invariant.within (sym c.is_named.ensures ∙ c.if-is_named.false) in
    record { same = sym other ∙ c.loop-left.invariant.same; within = omega (arith, c.loop-left.invariant.within) }

pub returns : goal.returns
returns c =
    let zero : c.loop-left.left ≡ 0 = omega (arith, c.loop-left-test.false) in
    ap (λ n. get_pair c.args.name.now (pairs_of (take n c.args.members.now))) (sym zero) ∙ c.loop-left.invariant.same
