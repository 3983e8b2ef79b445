use Rattle.std.proofs.Common.{ap, sym, ◌∙◌}
use Rattle.std.specs.List.{list_all}
use Rattle.std.proofs.lemmas.List.Folds.{list_all-map}
use Rattle.exact_json.specs.View.{pair_of}
use Rattle.which_read.specs.Assigned.{is_assigned}
use Rattle.which_read.proofs.assigned.are_assigned.Goals as goal

pub returns : goal.returns
returns c =
    let mapped = list_all-map is_assigned pair_of c.members_in.result.now in
    c.each_is_assigned.ensures ∙ sym mapped ∙ ap (list_all is_assigned) c.members_in.ensures
