use Rattle.std.proofs.Common.{◌≡◌, [], map, take}
use Rattle.exact_json.specs.View.{tree_of}
use Rattle.json_fields.specs.Fields.{as_text}
use Rattle.json_fields.specs.Items.{items_in}
use Rattle.which_read.proofs.lists.all_texts.Given as goal

abbrev pub invariant-loop-place : goal.invariant-loop-place
invariant-loop-place l = (items_in [] as_text (map tree_of (take l.place l.values))).faults ≡ []
