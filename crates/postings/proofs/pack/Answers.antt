use Rattle.std.proofs.Common.{◌∙◌, ap, arith, length, subst, sym}
use Rattle.std.proofs.lemmas.List.{length-map}
use Rattle.postings.specs.Order.{IsRising}
use Rattle.postings.specs.Packed.{id_of, unpack}
use Rattle.postings.proofs.Unpacked.{unpacked_is}
use Rattle.postings.proofs.pack.Goals as goal

pub invariant_of-result : goal.invariant_of-result
invariant_of-result c =
    let es = c.args.entries.now in
    let is = ap (λ ids. unpack ids c.in_ok-marks.marks.items) c.in_ok-ids.ensures ∙ unpacked_is c.in_ok-marks.marks.items es c.in_ok-marks.ensures.marked in
    (subst IsRising (sym is) c.requires, omega (arith, ap length c.in_ok-ids.ensures, length-map es id_of, c.in_ok-marks.ensures.len))

pub returns-clause-value : goal.returns-clause-value
returns-clause-value c =
    ap (λ ids. unpack ids c.in_ok-marks.marks.items) c.in_ok-ids.ensures ∙ unpacked_is c.in_ok-marks.marks.items c.args.entries.now c.in_ok-marks.ensures.marked
