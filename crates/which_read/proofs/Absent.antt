-- A list that is absent.
use Rattle.std.proofs.Common.{◌≡◌, [], false, Option, Some, None, is_some, refl}
use Rattle.exact_json.specs.Tree.{Tree}
use Rattle.json_fields.specs.Fields.{as_text, optional, present}
use Rattle.json_fields.specs.Items.{list_in}
use Rattle.json_fields.specs.Readings.{give, map_faults}
use Rattle.which_read.specs.Parts.{list_fault, texts_field}
use Rattle.which_read.specs.Paths.{member_name}
use Rattle.which_read.specs.declared.field.WhichField.{WhichField}

pub no_texts : (field : WhichField) (t : Tree) → is_some (present (member_name field) t) ≡ false → texts_field field t ≡ give []
unfolding texts_field list_in optional
no_texts field t absent = by (present (member_name field) t) absent
  where
    by : (o : Option Tree) → is_some o ≡ false → map_faults (list_fault field) (list_in [] as_text o) ≡ give []
    by None e = refl
    by (Some v) e = cc
