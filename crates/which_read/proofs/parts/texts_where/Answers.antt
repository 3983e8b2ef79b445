use Rattle.std.proofs.Common.{◌≡◌, ◌∙◌, ℕ, List, [], ap, sym}
use Rattle.exact_json.specs.View.{tree_of}
use Rattle.json_fields.specs.Readings.{Reading, give}
use Rattle.which_read.specs.declared.fault.WhichFault.{WhichFault}
use Rattle.which_read.specs.Parts.{texts_field}
use Rattle.which_read.proofs.Absent.{no_texts}
use Rattle.which_read.proofs.parts.texts_where.Goals as goal

pub returns-then-not-there : goal.returns-then-not-there
returns-then-not-there c =
    let none : texts_field c.args.field (tree_of c.args.object.now) ≡ give [] = no_texts c.args.field (tree_of c.args.object.now) (sym c.requires ∙ c.if-not-there.true) in
    (ap (λ (r : Reading WhichFault (List (List ℕ))). r.faults) none, c.new.ensures ∙ sym (ap (λ (r : Reading WhichFault (List (List ℕ))). r.value) none))
