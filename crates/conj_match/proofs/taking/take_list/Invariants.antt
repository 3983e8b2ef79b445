use Rattle.std.proofs.Common.{◌≡◌, ◌++◌, ℕ, List, length, take}
use Rattle.postings.specs.declared.entry.Entry.{Entry}
use Rattle.conj_match.specs.Tally.{AreTaken}
use Rattle.conj_match.proofs.taking.take_list.Given as goal

abbrev pub invariant-loop-id : goal.invariant-loop-id
invariant-loop-id g l = record {
  marks_len : length l.marks ≡ length l.fn.marks;
  hits_len : length l.hits ≡ length l.fn.hits;
  taken : (first found : List ℕ) (before : List Entry) → length first ≡ length l.fn.marks → AreTaken l.k first found before l.fn.marks l.fn.hits → AreTaken l.k first found (before ++ take l.id-index l.list) l.marks l.hits;
}
