use Rattle.std.proofs.Common.{◌≡◌, ◌≤◌, ◌<◌, ◌∙◌, ap, [], ◌∷◌, ◌++◌, map, arith, length}
use Rattle.cnf_match.proofs.Putting.{put_past, put_there}
use Rattle.cnf_match.proofs.growing.put.Goals as goal

pub returns-in_ok-push : goal.returns-in_ok-push
returns-in_ok-push c =
    let within : c.args.place < length c.args.lists.now.items = omega arith in
    put_there (λ l. l.items) c.args.lists.now.items c.args.place c.index_mut.result.now c.push.new.self c.args.entry within c.index_mut.ensures.value c.in_ok-push.ensures.items

pub returns-in_ok-push-3 : goal.returns-in_ok-push-3
returns-in_ok-push-3 c =
    let past : length c.args.lists.now.items ≤ c.args.place = omega arith in
    let one : c.push-else-place-len.new.self.items ≡ c.args.entry ∷ [] = c.in_ok-push-2.ensures.items ∙ ap (λ l. l ++ c.args.entry ∷ []) c.new-list.ensures.items in
    ap (map (λ l. l.items)) c.in_ok-push-3.ensures.items
    ∙ put_past (λ l. l.items) c.args.lists.now.items c.args.place c.push-else-place-len.new.self c.args.entry past one
