use Rattle.std.proofs.Common.{◌≡◌, ◌≤◌, ◌+◌, ℕ, List, Bool, count_by, Some, None, ◌&&◌, not, nat_le, length, sym, ◌∙◌, ap, subst, arith}
use Rattle.std.specs.List.{list_any, sum_by}
use Rattle.postings.specs.declared.entry.Entry.{Entry}
use Rattle.conj_match.specs.Matching.{lists_at}
use Rattle.conj_match.specs.Place.{Place}
use Rattle.conj_match.specs.Merge.{Decided, IsLeast, is_shown, left_in, shows_negated, shows_plain}
use Rattle.conj_match.proofs.Merge.{finished, left_falls, left_start, start, turn_no, turn_yes}
use Rattle.conj_match.proofs.merging.merge_lists.Goals as goal

shown_by : (cs : List Place) (k m : ℕ) (x : Bool) (n : ℕ) (r : Bool) → r ≡ (not x && nat_le k n) → x ≡ list_any (shows_negated m) cs → n ≡ count_by (shows_plain m) cs → r ≡ is_shown cs k m
shown_by cs k m x n r is excluded plain = is ∙ ap (λ y. not y && nat_le k n) excluded ∙ ap (λ p. not (list_any (shows_negated m) cs) && nat_le k p) plain

pub loop-next-init : goal.loop-next-init
loop-next-init g c =
    let cs = c.in_ok-cursors.cursors.items in
    let lists = lists_at c.args.lists.now c.args.chosen.now in
    let left : left_in cs ≤ sum_by (length {A = Entry}) lists = subst (λ l. left_in cs ≤ sum_by (length {A = Entry}) l) c.in_ok-cursors.ensures.lists (left_start cs) in
    record {
      decided = (0, start lists c.args.k cs c.new-ids.result.items c.new-ids.ensures.items c.in_ok-cursors.ensures.lists c.in_ok-cursors.ensures.stand);
      least = subst (λ l. IsLeast l c.least-next.result) c.as_slice.ensures.value c.least-next.ensures;
      cost = omega (arith, c.load_all.ensures.cost, left);
    }

pub loop-next-smaller-in_ok-push : goal.loop-next-smaller-in_ok-push
loop-next-smaller-in_ok-push g c =
    let cs = c.loop-next.cursors.items in
    let (b, d) = c.loop-next.invariant.decided in
    let least : IsLeast cs (Some c.in-Some.id) = subst (IsLeast cs) c.in-Some.is c.loop-next.invariant.least in
    left_falls b c.in-Some.id cs c.pass_all-turn.new.cursors.items d.stand least c.pass_all-turn.ensures.passed

pub loop-next-smaller : goal.loop-next-smaller
loop-next-smaller g c =
    let cs = c.loop-next.cursors.items in
    let (b, d) = c.loop-next.invariant.decided in
    let least : IsLeast cs (Some c.in-Some.id) = subst (IsLeast cs) c.in-Some.is c.loop-next.invariant.least in
    left_falls b c.in-Some.id cs c.pass_all-turn.new.cursors.items d.stand least c.pass_all-turn.ensures.passed

pub loop-next-preserved-in_ok-push : goal.loop-next-preserved-in_ok-push
loop-next-preserved-in_ok-push g c =
    let cs = c.loop-next.cursors.items in
    let turn = c.pass_all-turn.result in
    let new = c.pass_all-turn.new.cursors.items in
    let ids = c.loop-next.ids.items in
    let m = c.in-Some.id in
    let k = c.args.k in
    let lists = lists_at c.args.lists.now c.args.chosen.now in
    let (b, d) = c.loop-next.invariant.decided in
    let least : IsLeast cs (Some m) = subst (IsLeast cs) c.in-Some.is c.loop-next.invariant.least in
    let shown = shown_by cs k m turn.is_excluded turn.plain c.is_match.result c.is_match.ensures c.pass_all-turn.ensures.excluded c.pass_all-turn.ensures.plain in
    record {
      decided = (m + 1, subst (λ l. Decided lists k new l (m + 1)) (sym c.in_ok-push.ensures.items) (turn_yes lists k cs new ids b m d c.requires.some least (sym shown ∙ c.if-is_match.true) c.pass_all-turn.ensures.passed));
      least = subst (IsLeast new) (sym c.number_of-least.ensures) c.pass_all-turn.ensures.least;
      cost = omega (arith, c.pass_all-turn.ensures.cost, c.loop-next.invariant.cost);
    }

pub loop-next-preserved : goal.loop-next-preserved
loop-next-preserved g c =
    let cs = c.loop-next.cursors.items in
    let turn = c.pass_all-turn.result in
    let new = c.pass_all-turn.new.cursors.items in
    let ids = c.loop-next.ids.items in
    let m = c.in-Some.id in
    let k = c.args.k in
    let lists = lists_at c.args.lists.now c.args.chosen.now in
    let (b, d) = c.loop-next.invariant.decided in
    let least : IsLeast cs (Some m) = subst (IsLeast cs) c.in-Some.is c.loop-next.invariant.least in
    let shown = shown_by cs k m turn.is_excluded turn.plain c.is_match.result c.is_match.ensures c.pass_all-turn.ensures.excluded c.pass_all-turn.ensures.plain in
    record {
      decided = (m + 1, turn_no lists k cs new ids b m d c.requires.some least (sym shown ∙ c.if-is_match.false) c.pass_all-turn.ensures.passed);
      least = subst (IsLeast new) (sym c.number_of-least.ensures) c.pass_all-turn.ensures.least;
      cost = omega (arith, c.pass_all-turn.ensures.cost, c.loop-next.invariant.cost);
    }

pub returns-clause-answer : goal.returns-clause-answer
returns-clause-answer g c =
    let cs = c.loop-next.cursors.items in
    let (b, d) = c.loop-next.invariant.decided in
    let none : IsLeast cs None = subst (IsLeast cs) c.in_default.is c.loop-next.invariant.least in
    finished (lists_at c.args.lists.now c.args.chosen.now) c.args.k cs c.loop-next.ids.items b d c.requires.some none
