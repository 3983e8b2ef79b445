use Rattle.std.proofs.Common.{◌≡◌, ◌+◌, ◌-◌, ◌<◌, ◌∙◌, length, sym, subst, arith, Some, ℕ}
use Rattle.std.specs.Prelude.{slice_get}
use Rattle.std.proofs.lemmas.Bool.{false≢true}
use Rattle.std.proofs.lemmas.Result.{on_ok_weaker}
use Rattle.exchange_state.proofs.Founds.{are_none, front_again, front_more, item_at, like_among, like_closed, like_numbers, one_longer}
use Rattle.exchange_state.proofs.finding.push_at.Goals as goal

pub push_last-requires : goal.push_last-requires
push_last-requires g c = omega (arith, c.is_like_last.ensures.first c.if-is_like_last.true, c.requires.front)

pub returns-then-is_like_last-clause-long : goal.returns-then-is_like_last-clause-long
returns-then-is_like_last-clause-long g c =
    let found = c.args.found.now in
    let last : length found - 1 < length found = omega (arith, c.is_like_last.ensures.first c.if-is_like_last.true, c.requires.front) in
    let (cs, got) = item_at found (length found - 1) last in
    on_ok_weaker c.push_last.result (λ is. one_longer found c.push_last.new.self cs c.args.imp is c.requires.front) (c.push_last.ensures cs got)

pub returns-then-is_like_last-clause-pushed : goal.returns-then-is_like_last-clause-pushed
returns-then-is_like_last-clause-pushed g c =
    let found = c.args.found.now in
    let imps = c.args.asked.now.imps in
    let k = c.args.imp in
    let first = c.is_like_last.ensures.first c.if-is_like_last.true in
    let front = c.requires.front in
    let behind : k ≡ (k - 1) + 1 = omega (arith, first) in
    let inside : k < length imps = c.requires.imp in
    let before : k - 1 < length imps = omega (arith, inside) in
    let last : k - 1 < length found = omega (arith, first, front) in
    let (i, at_before) = item_at imps (k - 1) before in
    let (j, at) = item_at imps k inside in
    let (cs, got) = item_at found (k - 1) last in
    let like = like_among c.args.version.now.live c.args.asked.now i j (c.is_like_last.ensures.like i j at_before at c.if-is_like_last.true) in
    on_ok_weaker c.push_last.result
    (λ is so_far rise index. front_again c.args.version.now.live c.args.asked.now (k - 1) k i j found c.push_last.new.self cs behind at_before at like got is (so_far rise index))
    (c.push_last.ensures cs (subst (λ m. slice_get found (m - 1) ≡ Some cs) (sym front) got))

pub returns-then-is_like_last-clause-last : goal.returns-then-is_like_last-clause-last
returns-then-is_like_last-clause-last g c =
    let found = c.args.found.now in
    let r = c.args.asked.now in
    let k = c.args.imp in
    let first = c.is_like_last.ensures.first c.if-is_like_last.true in
    let behind : k ≡ (k - 1) + 1 = omega (arith, first) in
    let inside : k < length r.imps = c.requires.imp in
    let before : k - 1 < length r.imps = omega (arith, inside) in
    let last : length found - 1 < length found = omega (arith, first, c.requires.front) in
    let (i, at_before) = item_at r.imps (k - 1) before in
    let (cs, got) = item_at found (length found - 1) last in
    on_ok_weaker c.push_last.result
    (λ is p j next at unclosed index.
    let place : p ≡ k = omega (arith, next) in
    let like = c.is_like_last.ensures.like i j at_before (subst (λ (n : ℕ). slice_get r.imps n ≡ Some j) place at) c.if-is_like_last.true in
    c.requires.last (k - 1) i behind at_before (sym (like_closed r i j like) ∙ unclosed) index ∙ sym (like_numbers c.args.version.now.live r i j like))
    (c.push_last.ensures cs got)

pub returns-then-is_closed_at-clause-long : goal.returns-then-is_closed_at-clause-long
returns-then-is_closed_at-clause-long g c = on_ok_weaker c.push.result (λ is. one_longer c.args.found.now c.push.new.self c.new.result c.args.imp is c.requires.front) c.push.ensures

pub returns-then-is_closed_at-clause-pushed : goal.returns-then-is_closed_at-clause-pushed
returns-then-is_closed_at-clause-pushed g c =
    let r = c.args.asked.now in
    let live = c.args.version.now.live in
    let (i, at) = item_at r.imps c.args.imp c.requires.imp in
    on_ok_weaker c.push.result
    (λ is so_far rise index. front_more live r c.args.imp i c.args.found.now c.push.new.self c.new.result at (so_far rise index)
    (are_none live r i c.new.result c.new.ensures (λ x. c.is_closed_at.ensures.none i x.number x.entry.facts at c.if-is_closed_at.true)) is)
    c.push.ensures

pub returns-then-is_closed_at-clause-last : goal.returns-then-is_closed_at-clause-last
returns-then-is_closed_at-clause-last g c =
    on_ok_weaker c.push.result
    (λ is p i behind at unclosed index.
    let place : p ≡ c.args.imp = omega (arith, behind) in
    absurd (false≢true (sym unclosed ∙ sym (c.is_closed_at.ensures.value i (subst (λ (n : ℕ). slice_get c.args.asked.now.imps n ≡ Some i) place at)) ∙ c.if-is_closed_at.true)))
    c.push.ensures

pub push_found-requires-clause-unclosed : goal.push_found-requires-clause-unclosed
push_found-requires-clause-unclosed g c = λ i at. sym (c.is_closed_at.ensures.value i at) ∙ c.if-is_closed_at.false
