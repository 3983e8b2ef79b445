use Rattle.std.proofs.Common.{◌≡◌, ◌-◌, suc, map, take, drop, sym, ap, ◌∙◌, arith, rules, subst, IfOk}
use Rattle.std.proofs.lemmas.List.{nil_from_length}
use Rattle.std.proofs.lemmas.Result.{err_from_is_err_and}
use Rattle.exact_json.specs.Held.{held}
use Rattle.exact_json.specs.Reading.{done, value_at, member_at}
use Rattle.exact_json.specs.Tree.{array, object}
use Rattle.exact_json.specs.View.{tree_of, pair_of, trees_from, pairs_from}
use Rattle.exact_json.specs.declared.value.Value.TheFolds.{the_lemmas}
use Rattle.exact_json.specs.declared.value.Value.TheViews as Value
use Rattle.exact_json.proofs.Begins.{gives_along, none_there, no_entries, first_fails, first_read, name_fails, value_fails, member_read, flat_is, no_value, scalar_is, array_fails, array_read, object_fails, object_read}
use Rattle.exact_json.proofs.Loop.{value_shorter, member_shorter, at_end, at_closing, at_other, at_bad, one_more}
use Rattle.exact_json.proofs.OneMore.{two, pushed, below, room, first_there, first_below}
use Rattle.exact_json.proofs.reader.+reading.Goals as goal

-- ---- what follows the first items

pub more_items_of-returns-in_default-clause-gives : goal.more_items_of-returns-in_default-clause-gives
more_items_of-returns-in_default-clause-gives t c =
    at_end (value_at c.args.depth) 93 (map tree_of (drop c.args.base (held c.loop-first.stacks).0)) _ c.loop-first.left.now c.loop-first.invariant.same (nil_from_length _ c.in_default.ensures.cases)

pub more_items_of-returns-then-first-ne44-clause-gives : goal.more_items_of-returns-then-first-ne44-clause-gives
more_items_of-returns-then-first-ne44-clause-gives t c =
    at_other (value_at c.args.depth) 93 (map tree_of (drop c.args.base (held c.loop-first.stacks).0)) _ c.loop-first.left.now _ _ c.loop-first.invariant.same c.in-Some.ensures.cases.0 c.if-first-eq93.false c.if-first-ne44.true

pub more_items_of-returns-in_err-value-clause-gives : goal.more_items_of-returns-in_err-value-clause-gives
more_items_of-returns-in_err-value-clause-gives t c =
    let p = err_from_is_err_and c.from_residual-in_err-value.result c.from_residual-in_err-value.ensures.1 in
    rw (p.1, p.2) (at_bad (value_at c.args.depth) 93 (map tree_of (drop c.args.base (held c.loop-first.stacks).0)) _ c.loop-first.left.now _ _ _ c.in_err-value.field-0.0 c.loop-first.invariant.same c.in-Some.ensures.cases.0 c.if-first-eq93.false c.if-first-ne44.false c.skip_spaces.ensures.value c.in_err-value.ensures.gives)

pub more_items_of-returns-then-first-eq93-clause-gives : goal.more_items_of-returns-then-first-eq93-clause-gives
more_items_of-returns-then-first-eq93-clause-gives t c =
    at_closing (value_at c.args.depth) 93 (map tree_of (drop c.args.base (held c.loop-first.stacks).0)) _ c.loop-first.left.now _ _ c.loop-first.invariant.same c.in-Some.ensures.cases.0 c.if-first-eq93.true
    ∙ ap (λ k. done (map tree_of k) c.in-Some.rest.now) (sym c.in_ok-items.ensures.kept)

pub more_items_of-loop-first-smaller : goal.more_items_of-loop-first-smaller
more_items_of-loop-first-smaller t c =
    omega (arith, value_shorter c.args.depth _ _ _ c.in_ok-value.ensures.gives, c.in-Some.ensures.cases.1, c.skip_spaces.ensures.shorter, c.skip_spaces-left.ensures.shorter)

pub more_items_of-loop-first-preserved : goal.more_items_of-loop-first-preserved
more_items_of-loop-first-preserved t c =
    let base = c.args.base in
    let xs = (held c.loop-first.stacks).0 in
    let v = c.in_ok-value.value in
    let fits = c.loop-first.invariant.room in
    let same = ap (λ p. p.0) c.in_ok-value.ensures.held in
    let more = ap (λ p. p.0) c.in_ok-push_value.ensures in
    record {
      same = one_more (value_at c.args.depth) 93 (value_shorter c.args.depth) (map tree_of (drop base xs)) _ _ c.loop-first.left.now _ _ _ _ _ _ c.loop-first.invariant.same c.in-Some.ensures.cases.0 c.if-first-eq93.false c.if-first-ne44.false c.skip_spaces.ensures.value c.in_ok-value.ensures.gives c.skip_spaces-left.ensures.value (pushed tree_of base xs _ _ v fits same more);
      room = room base xs _ _ v fits same more;
      below = below base xs _ _ v fits same more ∙ c.loop-first.invariant.below;
      other = ap (λ p. p.1) c.in_ok-push_value.ensures ∙ ap (λ p. p.1) c.in_ok-value.ensures.held ∙ c.loop-first.invariant.other;
    }

-- ---- what follows the first members

pub more_members_of-returns-in_default-clause-gives : goal.more_members_of-returns-in_default-clause-gives
more_members_of-returns-in_default-clause-gives t c =
    at_end (member_at (value_at c.args.depth)) 125 (map pair_of (drop c.args.base (held c.loop-first.stacks).1)) _ c.loop-first.left.now c.loop-first.invariant.same (nil_from_length _ c.in_default.ensures.cases)

pub more_members_of-returns-then-first-ne44-clause-gives : goal.more_members_of-returns-then-first-ne44-clause-gives
more_members_of-returns-then-first-ne44-clause-gives t c =
    at_other (member_at (value_at c.args.depth)) 125 (map pair_of (drop c.args.base (held c.loop-first.stacks).1)) _ c.loop-first.left.now _ _ c.loop-first.invariant.same c.in-Some.ensures.cases.0 c.if-first-eq125.false c.if-first-ne44.true

pub more_members_of-returns-in_err-member-clause-gives : goal.more_members_of-returns-in_err-member-clause-gives
more_members_of-returns-in_err-member-clause-gives t c =
    let p = err_from_is_err_and c.from_residual-in_err-member.result c.from_residual-in_err-member.ensures.1 in
    rw (p.1, p.2) (at_bad (member_at (value_at c.args.depth)) 125 (map pair_of (drop c.args.base (held c.loop-first.stacks).1)) _ c.loop-first.left.now _ _ _ c.in_err-member.field-0.0 c.loop-first.invariant.same c.in-Some.ensures.cases.0 c.if-first-eq125.false c.if-first-ne44.false c.skip_spaces.ensures.value c.in_err-member.ensures.gives)

pub more_members_of-returns-then-first-eq125-clause-gives : goal.more_members_of-returns-then-first-eq125-clause-gives
more_members_of-returns-then-first-eq125-clause-gives t c =
    at_closing (member_at (value_at c.args.depth)) 125 (map pair_of (drop c.args.base (held c.loop-first.stacks).1)) _ c.loop-first.left.now _ _ c.loop-first.invariant.same c.in-Some.ensures.cases.0 c.if-first-eq125.true
    ∙ ap (λ k. done (map pair_of k) c.in-Some.rest.now) (sym c.in_ok-members.ensures.kept)

pub more_members_of-loop-first-smaller : goal.more_members_of-loop-first-smaller
more_members_of-loop-first-smaller t c =
    omega (arith, member_shorter c.args.depth _ _ _ c.in_ok-member.ensures.gives, c.in-Some.ensures.cases.1, c.skip_spaces.ensures.shorter, c.skip_spaces-left.ensures.shorter)

pub more_members_of-loop-first-preserved : goal.more_members_of-loop-first-preserved
more_members_of-loop-first-preserved t c =
    let base = c.args.base in
    let xs = (held c.loop-first.stacks).1 in
    let m = c.in_ok-member.member in
    let fits = c.loop-first.invariant.room in
    let same = ap (λ p. p.1) c.in_ok-member.ensures.held in
    let more = ap (λ p. p.1) c.in_ok-push_member.ensures in
    record {
      same = one_more (member_at (value_at c.args.depth)) 125 (member_shorter c.args.depth) (map pair_of (drop base xs)) _ _ c.loop-first.left.now _ _ _ _ _ _ c.loop-first.invariant.same c.in-Some.ensures.cases.0 c.if-first-eq125.false c.if-first-ne44.false c.skip_spaces.ensures.value c.in_ok-member.ensures.gives c.skip_spaces-left.ensures.value (pushed pair_of base xs _ _ m fits same more);
      room = room base xs _ _ m fits same more;
      below = below base xs _ _ m fits same more ∙ c.loop-first.invariant.below;
      other = ap (λ p. p.0) c.in_ok-push_member.ensures ∙ ap (λ p. p.0) c.in_ok-member.ensures.held ∙ c.loop-first.invariant.other;
    }

-- ---- the items, the members and a member

pub items_of-returns-in_default-clause-gives : goal.items_of-returns-in_default-clause-gives
items_of-returns-in_default-clause-gives t c = none_there _ _ _ (nil_from_length _ c.in_default.ensures.cases)

pub items_of-returns-then-first-eq93-clause-gives : goal.items_of-returns-then-first-eq93-clause-gives
items_of-returns-then-first-eq93-clause-gives t c = no_entries (value_at c.args.depth) 93 _ _ _ c.in-Some.ensures.cases.0 c.if-first-eq93.true

pub items_of-returns-in_err-value-clause-gives : goal.items_of-returns-in_err-value-clause-gives
items_of-returns-in_err-value-clause-gives t c =
    let p = err_from_is_err_and c.from_residual.result c.from_residual.ensures.1 in
    rw (p.1, p.2) (first_fails (value_at c.args.depth) 93 _ _ _ c.in_err-value.field-0.0 c.in-Some.ensures.cases.0 c.if-first-eq93.false c.in_err-value.ensures.gives)

pub items_of-returns-clause-gives : goal.items_of-returns-clause-gives
items_of-returns-clause-gives t c =
    let xs = (held c.args.stacks.now).0 in
    let same = ap (λ p. p.0) c.in_ok-value.ensures.held in
    let more = ap (λ p. p.0) c.in_ok-push_value.ensures in
    let front = ap (λ n. map tree_of (drop n (held c.push_value.new.self).0)) c.value_count-base.ensures ∙ first_there tree_of xs _ _ c.in_ok-value.value same more in
    let read = first_read (value_at c.args.depth) 93 _ _ _ _ _ _ _ c.in-Some.ensures.cases.0 c.if-first-eq93.false c.in_ok-value.ensures.gives c.skip_spaces.ensures.value front in
    gives_along _ _ _ _ read c.more_items_of.ensures.gives

pub items_of-returns-clause-held : goal.items_of-returns-clause-held
items_of-returns-clause-held t c =
    let xs = (held c.args.stacks.now).0 in
    let same = ap (λ p. p.0) c.in_ok-value.ensures.held in
    let more = ap (λ p. p.0) c.in_ok-push_value.ensures in
    let back = ap (λ n. take n (held c.push_value.new.self).0) c.value_count-base.ensures ∙ first_below xs _ _ c.in_ok-value.value same more in
    let other = ap (λ p. p.1) c.in_ok-push_value.ensures ∙ ap (λ p. p.1) c.in_ok-value.ensures.held in
    subst (λ k. IfOk c.more_items_of.result (λ _. held c.more_items_of.new.stacks ≡ k)) (two _ _ _ _ back other) c.more_items_of.ensures.held

pub member_of-returns-in_err-name-clause-gives : goal.member_of-returns-in_err-name-clause-gives
member_of-returns-in_err-name-clause-gives t c =
    let p = err_from_is_err_and c.from_residual.result c.from_residual.ensures.1 in
    rw (p.1, p.2) (name_fails (value_at c.args.depth) _ c.in_err-name.field-0.0 c.in_err-name.ensures)

pub member_of-returns-in_err-value-clause-gives : goal.member_of-returns-in_err-value-clause-gives
member_of-returns-in_err-value-clause-gives t c =
    let p = err_from_is_err_and c.from_residual-in_err-value.result c.from_residual-in_err-value.ensures.1 in
    rw (p.1, p.2) (value_fails (value_at c.args.depth) _ _ _ _ c.in_err-value.field-0.0 c.in_ok-name.ensures c.skip_spaces.ensures.value c.in_err-value.ensures.gives)

pub member_of-returns-clause-gives : goal.member_of-returns-clause-gives
member_of-returns-clause-gives t c =
    let shown : pair_of (Value.roll-Member (record { name = c.in_ok-name.name; value = c.in_ok-value.value })) ≡ (c.in_ok-name.name.now, tree_of c.in_ok-value.value) = search (rules, the_lemmas) in
    member_read (value_at c.args.depth) _ _ _ _ _ _ c.in_ok-name.ensures c.skip_spaces.ensures.value c.in_ok-value.ensures.gives
    ∙ ap (λ k. done k c.in_ok-value.rest.now) (sym shown)

pub members_of-returns-in_default-clause-gives : goal.members_of-returns-in_default-clause-gives
members_of-returns-in_default-clause-gives t c = none_there _ _ _ (nil_from_length _ c.in_default.ensures.cases)

pub members_of-returns-then-first-eq125-clause-gives : goal.members_of-returns-then-first-eq125-clause-gives
members_of-returns-then-first-eq125-clause-gives t c = no_entries (member_at (value_at c.args.depth)) 125 _ _ _ c.in-Some.ensures.cases.0 c.if-first-eq125.true

pub members_of-returns-in_err-member-clause-gives : goal.members_of-returns-in_err-member-clause-gives
members_of-returns-in_err-member-clause-gives t c =
    let p = err_from_is_err_and c.from_residual.result c.from_residual.ensures.1 in
    rw (p.1, p.2) (first_fails (member_at (value_at c.args.depth)) 125 _ _ _ c.in_err-member.field-0.0 c.in-Some.ensures.cases.0 c.if-first-eq125.false c.in_err-member.ensures.gives)

pub members_of-returns-clause-gives : goal.members_of-returns-clause-gives
members_of-returns-clause-gives t c =
    let xs = (held c.args.stacks.now).1 in
    let same = ap (λ p. p.1) c.in_ok-member.ensures.held in
    let more = ap (λ p. p.1) c.in_ok-push_member.ensures in
    let front = ap (λ n. map pair_of (drop n (held c.push_member.new.self).1)) c.member_count-base.ensures ∙ first_there pair_of xs _ _ c.in_ok-member.member same more in
    let read = first_read (member_at (value_at c.args.depth)) 125 _ _ _ _ _ _ _ c.in-Some.ensures.cases.0 c.if-first-eq125.false c.in_ok-member.ensures.gives c.skip_spaces.ensures.value front in
    gives_along _ _ _ _ read c.more_members_of.ensures.gives

pub members_of-returns-clause-held : goal.members_of-returns-clause-held
members_of-returns-clause-held t c =
    let xs = (held c.args.stacks.now).1 in
    let same = ap (λ p. p.1) c.in_ok-member.ensures.held in
    let more = ap (λ p. p.1) c.in_ok-push_member.ensures in
    let back = ap (λ n. take n (held c.push_member.new.self).1) c.member_count-base.ensures ∙ first_below xs _ _ c.in_ok-member.member same more in
    let other = ap (λ p. p.0) c.in_ok-push_member.ensures ∙ ap (λ p. p.0) c.in_ok-member.ensures.held in
    subst (λ k. IfOk c.more_members_of.result (λ _. held c.more_members_of.new.stacks ≡ k)) (two _ _ _ _ other back) c.more_members_of.ensures.held

-- ---- a value

pub value_of-returns-then-depth-eq0-clause-gives : goal.value_of-returns-then-depth-eq0-clause-gives
value_of-returns-then-depth-eq0-clause-gives t c = gives_along _ _ _ _ (sym (flat_is _ _ c.if-depth-eq0.true)) c.scalar_of.ensures

pub value_of-returns-in_default-clause-gives : goal.value_of-returns-in_default-clause-gives
value_of-returns-in_default-clause-gives t c = no_value _ _ (nil_from_length _ c.in_default.ensures.cases)

pub value_of-returns-in_err-items-clause-gives : goal.value_of-returns-in_err-items-clause-gives
value_of-returns-in_err-items-clause-gives t c =
    let p = err_from_is_err_and c.from_residual.result c.from_residual.ensures.1 in
    let less : c.args.depth ≡ suc (c.args.depth - 1) = omega (arith, c.if-depth-eq0.false) in
    rw (p.1, p.2) (array_fails _ (c.args.depth - 1) _ _ _ _ c.in_err-items.field-0.0 less c.in-Some.ensures.cases.0 c.if-first-eq91.true c.skip_spaces.ensures.value c.in_err-items.ensures.gives)

pub value_of-returns-then-first-eq91-clause-gives : goal.value_of-returns-then-first-eq91-clause-gives
value_of-returns-then-first-eq91-clause-gives t c =
    let less : c.args.depth ≡ suc (c.args.depth - 1) = omega (arith, c.if-depth-eq0.false) in
    let shown : tree_of (Value.Arr c.in_ok-items.items) ≡ array (trees_from (map tree_of c.in_ok-items.items.now)) = search (rules, the_lemmas) in
    array_read _ (c.args.depth - 1) _ _ _ _ _ _ less c.in-Some.ensures.cases.0 c.if-first-eq91.true c.skip_spaces.ensures.value c.in_ok-items.ensures.gives ∙ ap (λ k. done k c.in_ok-items.rest.now) (sym shown)

pub value_of-returns-in_err-members-clause-gives : goal.value_of-returns-in_err-members-clause-gives
value_of-returns-in_err-members-clause-gives t c =
    let p = err_from_is_err_and c.from_residual-in_err-members.result c.from_residual-in_err-members.ensures.1 in
    let less : c.args.depth ≡ suc (c.args.depth - 1) = omega (arith, c.if-depth-eq0.false) in
    rw (p.1, p.2) (object_fails _ (c.args.depth - 1) _ _ _ _ c.in_err-members.field-0.0 less c.in-Some.ensures.cases.0 c.if-first-eq91.false c.if-first-eq123.true c.skip_spaces-then-first-eq123.ensures.value c.in_err-members.ensures.gives)

pub value_of-returns-then-first-eq123-clause-gives : goal.value_of-returns-then-first-eq123-clause-gives
value_of-returns-then-first-eq123-clause-gives t c =
    let less : c.args.depth ≡ suc (c.args.depth - 1) = omega (arith, c.if-depth-eq0.false) in
    let shown : tree_of (Value.Obj c.in_ok-members.members) ≡ object (pairs_from (map pair_of c.in_ok-members.members.now)) = search (rules, the_lemmas) in
    object_read _ (c.args.depth - 1) _ _ _ _ _ _ less c.in-Some.ensures.cases.0 c.if-first-eq91.false c.if-first-eq123.true c.skip_spaces-then-first-eq123.ensures.value c.in_ok-members.ensures.gives
    ∙ ap (λ k. done k c.in_ok-members.rest.now) (sym shown)

pub value_of-returns-clause-gives : goal.value_of-returns-clause-gives
value_of-returns-clause-gives t c =
    let less : c.args.depth ≡ suc (c.args.depth - 1) = omega (arith, c.if-depth-eq0.false) in
    gives_along _ _ _ _ (sym (scalar_is _ (c.args.depth - 1) _ _ _ less c.in-Some.ensures.cases.0 c.if-first-eq91.false c.if-first-eq123.false)) c.scalar_of-2.ensures
