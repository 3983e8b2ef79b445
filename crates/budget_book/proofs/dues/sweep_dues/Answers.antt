use Rattle.std.proofs.Common.{heap_items, ◌≡◌, ◌∷◌, length, sym, ◌∙◌, arith}
use Rattle.std.proofs.lemmas.List.Sorted.{length_permutation}
use Rattle.budget_book.specs.Sales.{due_count}
use Rattle.budget_book.proofs.Expiring.{expiry_then}
use Rattle.budget_book.proofs.Waiting.{all_expired, none_due, popped_due}
use Rattle.budget_book.proofs.dues.sweep_dues.Goals as goal

pub expire-count-requires-clause-entry : goal.expire-count-requires-clause-entry
expire-count-requires-clause-entry c = popped_due c.args.forgotten c.loop-entry.rows.items c.in-Some.entry (heap_items c.loop-entry.dues) (heap_items c.take_due.new.dues) c.in-Some.ensures.first.0 c.loop-entry.invariant.dues

pub loop-entry-smaller : goal.loop-entry-smaller
loop-entry-smaller c =
    omega (arith, length_permutation (heap_items c.loop-entry.dues) (c.in-Some.entry ∷ heap_items c.take_due.new.dues) c.in-Some.ensures.first.0)

pub expire-count-requires-clause-known : goal.expire-count-requires-clause-known
expire-count-requires-clause-known c = λ k d w.
    let h = c.loop-entry.invariant.expiry.known (length c.args.accounts.now) c.requires.known k d w in
    (omega (arith, h), omega (arith, h))

pub loop-entry-preserved : goal.loop-entry-preserved
loop-entry-preserved c = record {
  expiry = expiry_then c.args.moment c.args.rows.now.items c.loop-entry.rows.items c.expire-count.new.rows.items c.loop-entry.count c.expire-count.result c.loop-entry.invariant.expiry c.expire-count.ensures.expiry;
  summed = c.expire-count.ensures.summed;
  campaigns = c.expire-count.ensures.campaigns ∙ c.loop-entry.invariant.campaigns;
  dues = c.expire-count.ensures.dues (heap_items c.loop-entry.dues) (heap_items c.take_due.new.dues) c.in-Some.ensures.first.0 c.take_due.ensures.ordered c.loop-entry.invariant.dues;
  capacity = c.take_due.ensures.capacity ∙ c.loop-entry.invariant.capacity;
  len = omega arith;
  row_room = (c.expire-count.ensures.row_room.0 ∙ c.loop-entry.invariant.row_room.0, c.expire-count.ensures.row_room.1 ∙ c.loop-entry.invariant.row_room.1);
}

pub returns-clause-rows : goal.returns-clause-rows
returns-clause-rows c =
    let nothing : due_count c.args.moment c.loop-entry.rows.items ≡ 0 = none_due c.args.forgotten c.args.moment c.loop-entry.rows.items (heap_items c.loop-entry.dues) c.in_default.ensures.first.1 c.loop-entry.invariant.dues in
    sym (all_expired c.args.moment c.loop-entry.rows.items nothing) ∙ c.loop-entry.invariant.expiry.same

pub returns-clause-count : goal.returns-clause-count
returns-clause-count c =
    let nothing : due_count c.args.moment c.loop-entry.rows.items ≡ 0 = none_due c.args.forgotten c.args.moment c.loop-entry.rows.items (heap_items c.loop-entry.dues) c.in_default.ensures.first.1 c.loop-entry.invariant.dues in
    omega (arith, nothing, c.loop-entry.invariant.expiry.counted)
