use Rattle.std.proofs.Common.{◌≡◌, ◌+◌, ◌-◌, ◌<◌, ◌∙◌, length, sym, subst, arith, Some, ℕ}
use Rattle.std.specs.Prelude.{slice_get}
use Rattle.std.proofs.lemmas.Result.{on_ok_weaker}
use Rattle.exchange_state.proofs.Founds.{front_again, item_at, one_longer}
use Rattle.exchange_state.proofs.Walks.{same_among}
use Rattle.exchange_state.proofs.finding.push_found.Goals as goal

pub push_last-requires : goal.push_last-requires
push_last-requires c = omega (arith, c.is_ruled_like_last.ensures.first c.if-not-is_ruled_like_last.false, c.requires.front)

pub returns-clause-long : goal.returns-clause-long
returns-clause-long c =
    let found = c.args.found.now in
    let last : length found - 1 < length found = omega (arith, c.is_ruled_like_last.ensures.first c.if-not-is_ruled_like_last.false, c.requires.front) in
    let (cs, got) = item_at found (length found - 1) last in
    on_ok_weaker c.push_last.result (λ is. one_longer found c.push_last.new.self cs c.args.imp is c.requires.front) (c.push_last.ensures cs got)

pub returns-clause-pushed : goal.returns-clause-pushed
returns-clause-pushed c =
    let found = c.args.found.now in
    let r = c.args.asked.now in
    let live = c.args.version.now.live in
    let k = c.args.imp in
    let yes = c.if-not-is_ruled_like_last.false in
    let first = c.is_ruled_like_last.ensures.first yes in
    let front = c.requires.front in
    let behind : k ≡ (k - 1) + 1 = omega (arith, first) in
    let inside : k < length r.imps = c.requires.imp in
    let before : k - 1 < length r.imps = omega (arith, inside) in
    let last : k - 1 < length found = omega (arith, first, front) in
    let (i, at_before) = item_at r.imps (k - 1) before in
    let (j, at) = item_at r.imps k inside in
    let (cs, got) = item_at found (k - 1) last in
    let numbers = c.are_same.ensures c.if-not-are_same.false in
    let unclosed = sym (c.is_ruled_like_last.ensures.closed i j at_before at yes) ∙ c.requires.unclosed j at in
    on_ok_weaker c.push_last.result
    (λ is so_far rise index. front_again live r (k - 1) k i j found c.push_last.new.self cs behind at_before at
    (same_among r i j live c.args.numbers rise (λ x. c.is_ruled_like_last.ensures.same i j x.number x.entry.facts at_before at yes) (numbers ∙ c.requires.last (k - 1) i behind at_before unclosed index) (c.requires.numbers j at index))
    got is (so_far rise index))
    (c.push_last.ensures cs (subst (λ m. slice_get found (m - 1) ≡ Some cs) (sym front) got))

pub returns-clause-last : goal.returns-clause-last
returns-clause-last c =
    let found = c.args.found.now in
    let last : length found - 1 < length found = omega (arith, c.is_ruled_like_last.ensures.first c.if-not-is_ruled_like_last.false, c.requires.front) in
    let (cs, got) = item_at found (length found - 1) last in
    on_ok_weaker c.push_last.result
    (λ is p i behind at unclosed index. let place : p ≡ c.args.imp = omega (arith, behind) in
    sym (c.are_same.ensures c.if-not-are_same.false) ∙ c.requires.numbers i (subst (λ (n : ℕ). slice_get c.args.asked.now.imps n ≡ Some i) place at) index)
    (c.push_last.ensures cs got)
