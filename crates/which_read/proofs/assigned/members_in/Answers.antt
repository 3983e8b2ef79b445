use Rattle.std.proofs.Common.{◌≡◌, map, ap, sym, ◌∙◌, rules}
use Rattle.exact_json.proofs.Lists.{members_from}
use Rattle.exact_json.specs.Tree.{object}
use Rattle.exact_json.specs.View.{pair_of, pairs_from, tree_of}
use Rattle.exact_json.specs.declared.value.Value.TheFolds.{the_lemmas}
use Rattle.which_read.specs.Assigned.{members_in}
use Rattle.which_read.proofs.assigned.members_in.Goals as goal

pub returns-in-Obj : goal.returns-in-Obj
unfolding members_in
returns-in-Obj c =
    let seen : tree_of c.args.assigned.now ≡ object (pairs_from (map pair_of c.in-Obj.members.now)) = search (rules, the_lemmas) in
    sym (ap members_in seen ∙ members_from (map pair_of c.in-Obj.members.now))
