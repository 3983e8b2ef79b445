use Rattle.std.proofs.Common.{◌∙◌, ap}
use Rattle.postings.specs.Packed.{is_marked}
use Rattle.postings.proofs.Marks.{none_marked}
use Rattle.postings.proofs.packing.marks_of.Goals as goal

pub mark_all-requires-clause-blank : goal.mark_all-requires-clause-blank
mark_all-requires-clause-blank c = λ i.
    ap (λ marks. is_marked marks i) (c.as_mut_slice.ensures.value ∙ c.in_ok-marks.ensures.items_if_clones_equal (λ x h. h)) ∙ none_marked c.div_ceil.result i
