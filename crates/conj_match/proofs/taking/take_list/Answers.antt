use Rattle.std.proofs.Common.{◌≡◌, ℕ, ◌<◌, ◌==◌, ◌&&◌, ◌++◌, ◌∙◌, ap, cond, length, take, slice_index, subst, sym, refl, arith}
use Rattle.postings.specs.Order.{entry_at}
use Rattle.postings.specs.declared.entry.Entry.{Entry}
use Rattle.postings.proofs.Unpacked.{unpacked_at, unpacked_length}
use Rattle.conj_match.specs.Bits.{AreSet}
use Rattle.conj_match.specs.Tally.{AreTaken, is_hit}
use Rattle.conj_match.proofs.Marks.{entries_end, entry_more, taken_more}
use Rattle.conj_match.proofs.taking.take_list.Goals as goal

pub loop-id-preserved : goal.loop-id-preserved
loop-id-preserved g c =
    let h = c.loop-id.invariant in
    let list = c.args.list.now in
    let ids = c.read-entries.result.ids.now in
    let signs = c.read-entries.result.negated.now in
    let i = c.loop-id.id-index in
    let e = entry_at list i in
    let k = c.args.k in
    let marks = c.take_mark.new.marks in
    let hits = c.take_mark.new.hits in
    let long : length ids ≡ length list = sym (unpacked_length ids signs) ∙ ap length c.read-entries.ensures.value in
    let within : i < length list = omega (arith, c.loop-id-test.true, long) in
    let is : e.id ≡ slice_index ids i = ap (λ l. (entry_at l i).id) (sym c.read-entries.ensures.value) ∙ ap (λ (e : Entry). e.id) (unpacked_at ids signs i c.loop-id-test.true) in
    record {
      marks_len = c.take_mark.ensures.marks_len ∙ h.marks_len;
      hits_len = c.take_mark.ensures.hits_len ∙ h.hits_len;
      taken = λ first found before all taken.
          subst (λ l. AreTaken k first found l marks hits) (entry_more before list i e within refl)
          (taken_more k first found (before ++ take i list) e c.loop-id.marks c.loop-id.hits marks hits c.requires.some (omega (arith, all, h.marks_len)) (omega (arith, h.marks_len, h.hits_len, c.requires.len)) (h.taken first found before all taken)
          (subst (λ n. (j : ℕ) → j < length c.loop-id.marks → slice_index marks j ≡ cond (j == n) 128 (slice_index c.loop-id.marks j)) (sym is) c.take_mark.ensures.marks)
          (subst (λ n. AreSet (λ j. (j == n) && is_hit k (slice_index c.loop-id.marks n)) c.loop-id.hits hits) (sym is) c.take_mark.ensures.hits));
    }

pub returns-clause-taken : goal.returns-clause-taken
returns-clause-taken g c = λ first found before all taken.
    let ids = c.read-entries.result.ids.now in
    let signs = c.read-entries.result.negated.now in
    let long : length ids ≡ length c.args.list.now = sym (unpacked_length ids signs) ∙ ap length c.read-entries.ensures.value in
    subst (λ l. AreTaken c.args.k first found l c.loop-id.marks c.loop-id.hits) (entries_end before c.args.list.now c.loop-id.id-index (omega (arith, c.loop-id-test.false, long)))
    (c.loop-id.invariant.taken first found before all taken)
