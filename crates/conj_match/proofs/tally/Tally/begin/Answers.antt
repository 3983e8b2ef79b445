use Rattle.std.proofs.Common.{◌∙◌, ap, length, arith}
use Rattle.postings.specs.Packed.{is_marked}
use Rattle.postings.proofs.Marks.{none_marked}
use Rattle.conj_match.proofs.Marks.{written_back}
use Rattle.conj_match.proofs.tally.Tally.begin.Goals as goal

pub returns-then-words-len-clause-none : goal.returns-then-words-len-clause-none
returns-then-words-len-clause-none c = λ i.
    let new = c.fill.new.self in
    let old = c.self.inside.hits.items in
    let back = written_back new old c.self.inside.hits.len (omega (arith, c.fill.ensures.len, c.as_mut_slice.ensures.len)) (omega (arith, ap length c.as_mut_slice.ensures.value, c.as_mut_slice.ensures.len)) in
    ap (λ l. is_marked l i) (back ∙ c.fill.ensures.after (λ y h. h)) ∙ none_marked (length c.as_mut_slice.result.now) i

pub returns-clause-none : goal.returns-clause-none
returns-clause-none c = λ i. ap (λ l. is_marked l i) (c.in_ok-hits.ensures.items_if_clones_equal (λ x h. h)) ∙ none_marked c.div_ceil-words.result i
