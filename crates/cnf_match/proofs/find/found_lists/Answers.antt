use Rattle.std.proofs.Common.{[], ◌∷◌, ◌++◌, Some, map, sym, ◌∙◌, ap}
use Rattle.std.specs.List.{cons_option}
use Rattle.std.specs.Option.{option_copied}
use Rattle.std.proofs.lemmas.List.{append-nil, map-append}
use Rattle.target_expr.specs.declared.attr.Attr.{Attr}
use Rattle.cnf_match.specs.Find.{key_of, list_at}
use Rattle.cnf_match.proofs.Turns.{found_step}
use Rattle.cnf_match.proofs.find.found_lists.Goals as goal
use Rattle.cnf_match.proofs.find.found_lists.Goals.{in-Some+in_ok-push, in_default}

pub loop-attr-preserved : goal.loop-attr-preserved
loop-attr-preserved c =
    let index = c.args.index.now in
    let qs = c.args.pairs.now in
    let i = c.loop-attr.attr-index in
    let item = c.loop-attr-item.result in
    let old = c.loop-attr.lists.items in
    let answer =
    c.list_at.ensures
    ∙ ap (λ v. list_at index (record { attr = item.0; value = v })) c.in_ok-copy.ensures
    ∙ ap (λ q. list_at index (key_of q)) c.loop-attr-item.is in
    elim c.match-list_at.branch [
      | in-Some+in_ok-push w ↦
          found_step (λ q. list_at index (key_of q)) qs [] (map (λ l. l.now) old) (map (λ l. l.now) c.match-list_at.lists.items) i item (Some w.in-Some.list.now) c.loop-attr-test.true
          (ap (λ v. map (λ l. l.now) v.items) w.lists-is ∙ ap (map (λ l. l.now)) w.in_ok-push.ensures.items ∙ map-append (λ l. l.now) old (w.in-Some.list ∷ []))
          c.loop-attr.invariant (sym (ap option_copied w.in-Some.is) ∙ answer)
      | in_default w ↦
          found_step (λ q. list_at index (key_of q)) qs [] (map (λ l. l.now) old) (map (λ l. l.now) c.match-list_at.lists.items) i item (option_copied c.list_at.result) c.loop-attr-test.true
          (ap (λ v. map (λ l. l.now) v.items) w.lists-is ∙ sym (append-nil (map (λ l. l.now) old)) ∙ ap (λ o. map (λ l. l.now) old ++ cons_option (option_copied o) []) (sym w.in_default.is))
          c.loop-attr.invariant answer
    ]
