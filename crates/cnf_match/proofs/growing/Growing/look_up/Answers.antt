use Rattle.std.proofs.Common.{◌∙◌, [], ◌∷◌, List, ℕ, ap, subst}
use Rattle.std.specs.Vec.{with_items}
use Rattle.cnf_match.specs.declared.growing.Growing.{Growing}
use Rattle.cnf_match.specs.declared.index.Key.{Key}
use Rattle.cnf_match.specs.Growing.{Enters, lists_of, with_item}
use Rattle.cnf_match.proofs.Entering.{enters_one, on_ok}
use Rattle.cnf_match.proofs.growing.Growing.look_up.Goals as goal

pub returns : goal.returns
returns c =
    let key : Key = record { attr = c.args.attr; value = c.in_ok-from_slice.field-0 } in
    let old : Growing = c.args.self.now in
    let new : Growing = record { keys = c.added.new.map; lists = c.put.new.lists; seats = with_items old.seats c.seat_at.new.seats } in
    on_ok c.put.result
    (λ put. subst (λ (v : List ℕ). Enters ((record { attr = c.args.attr; value = v }, c.args.entry) ∷ []) old new) c.in_ok-from_slice.ensures
    (enters_one key c.args.entry old new c.in_ok-place.ensures.added c.in_ok-place.ensures.unique
    (put ∙ ap (λ n. with_item (lists_of old) n c.args.entry) c.in_ok-place.ensures.place)))
    c.put.ensures
