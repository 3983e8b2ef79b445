use Rattle.std.proofs.Common.{◌++◌, ◌∙◌, List, ℕ, ap, slice_get}
use Rattle.std.specs.List.{filter_map}
use Rattle.conj_index.proofs.Hits.{owners_are}
use Rattle.conj_index.proofs.find.owners_in.Goals as goal

pub returns : goal.returns
returns c =
    owners_are c.args.owners.now c.args.tally.now c.push_found.new.ids.items c.push_owners.new.numbers.items
    c.in_ok-push_found.ensures
    (c.in_ok-push_owners.ensures ∙ ap (λ (l : List ℕ). l ++ filter_map (slice_get c.args.owners.now) c.as_slice.result.now) c.in_ok-numbers.ensures.items ∙ ap (filter_map (slice_get c.args.owners.now)) c.as_slice.ensures.value)
