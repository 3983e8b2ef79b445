use Rattle.std.proofs.Common.{◌+◌, ℕ, List, length, subst, take}
use Rattle.conj_index.specs.Searching.{AreOwners}
use Rattle.conj_index.proofs.Hits.{found_by}
use Rattle.conj_index.proofs.find.find_all.Goals as goal

pub returns-clause-found : goal.returns-clause-found
returns-clause-found g c =
    let a = c.args.pairs.now in
    let parts = take (length a + 1) c.args.index.now.parts in
    let words = c.match_all.new.tally in
    let numbers = c.in_ok-numbers.numbers.items in
    found_by a c.args.index.now.owners parts (length parts) words numbers c.in_ok-match_all.ensures.room c.in_ok-match_all.ensures.found
    (subst (λ (o : List ℕ). AreOwners o words numbers) c.as_slice-2.ensures c.in_ok-numbers.ensures)
