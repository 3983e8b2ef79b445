use Rattle.std.proofs.Common.{subst}
use Rattle.deal_rules.specs.Named.{MayBeMarked}
use Rattle.deal_rules.proofs.texts.Texts.new.Goals as goal

pub invariant_of-result : goal.invariant_of-result
invariant_of-result c = record {
  sorted = c.in_order-texts.ensures.sorted;
  marked = subst (MayBeMarked c.in_ok-marks.marks.items) c.as_slice.ensures.value c.in_ok-marks.ensures;
}

pub returns : goal.returns
returns c = λ p. c.in_order-texts.ensures.same p
