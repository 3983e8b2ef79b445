use Rattle.std.proofs.Common.{arith}
use Rattle.campaign.proofs.facts.Facts.text_bytes.Goals as goal
use Rattle.campaign.proofs.Rules.{rules_of, optional_size}

pub overflow_add-creative : goal.overflow_add-creative
overflow_add-creative c =
    let r = rules_of c.parts-parts.result.now c.parts-parts.ensures.kept.faultless in
    omega arith

pub overflow_add-creative-2 : goal.overflow_add-creative-2
overflow_add-creative-2 c =
    let r = rules_of c.parts-parts.result.now c.parts-parts.ensures.kept.faultless in
    let adid = optional_size c.parts-parts.result.now.adid r.adid_size in
    omega arith

pub lengths-requires-clause-many : goal.lengths-requires-clause-many
lengths-requires-clause-many c = rw c.as_slice.ensures (rules_of c.parts-parts.result.now c.parts-parts.ensures.kept.faultless).cat_texts.few

pub lengths-requires-clause-short : goal.lengths-requires-clause-short
lengths-requires-clause-short c = rw c.as_slice.ensures (rules_of c.parts-parts.result.now c.parts-parts.ensures.kept.faultless).cat_texts.short

pub lengths-requires-2-clause-many : goal.lengths-requires-2-clause-many
lengths-requires-2-clause-many c = rw c.as_slice-2.ensures (rules_of c.parts-parts.result.now c.parts-parts.ensures.kept.faultless).deals_texts.few

pub lengths-requires-2-clause-short : goal.lengths-requires-2-clause-short
lengths-requires-2-clause-short c = rw c.as_slice-2.ensures (rules_of c.parts-parts.result.now c.parts-parts.ensures.kept.faultless).deals_texts.short

pub overflow_add-result : goal.overflow_add-result
overflow_add-result c =
    let r = rules_of c.parts-parts.result.now c.parts-parts.ensures.kept.faultless in
    let adid = optional_size c.parts-parts.result.now.adid r.adid_size in
    omega arith

pub overflow_add-result-2 : goal.overflow_add-result-2
overflow_add-result-2 c =
    let r = rules_of c.parts-parts.result.now c.parts-parts.ensures.kept.faultless in
    let adid = optional_size c.parts-parts.result.now.adid r.adid_size in
    omega arith

pub returns-clause-bound : goal.returns-clause-bound
returns-clause-bound c =
    let r = rules_of c.parts-parts.result.now c.parts-parts.ensures.kept.faultless in
    let adid = optional_size c.parts-parts.result.now.adid r.adid_size in
    omega arith
