-- The weights of an expression: an array, which may be absent, of objects.
use Rattle.std.specs.Prelude.{ℕ, pos, List, [], Option, Result}
use Rattle.exact_json.specs.Tree.{Tree, null}
use Rattle.json_fields.specs.Fields.{as_array, as_object, optional, present}
use Rattle.json_fields.specs.Readings.{Reading, each_in, give, inside_or, within, ◌>>=◌}
use Rattle.json_fields.specs.declared.bounds.Bounds.{Bounds}
use Rattle.cnf_match.specs.declared.weight.RawWeight.{RawWeight}
use Rattle.which_read.specs.declared.fault.WhichFault.{WhichFault}
use Rattle.which_read.specs.declared.field.WhichField.{WhichField}
use Rattle.which_read.specs.Parts.{fault_of, number_field, text_field}
use Rattle.which_read.specs.Paths.{member_name}

abbrev pub weight_bounds : Bounds
weight_bounds = record { least = pos 0; greatest = pos 2147483647 }

-- the weight at place j of the expression at place i
unfoldable pub weight_in : ℕ → ℕ → Tree → Reading WhichFault RawWeight
weight_in i j t = do
  give (record {
    attr = (← text_field (WhichField.WeightAttr i j) t);
    value = (← text_field (WhichField.WeightValue i j) t);
    weight = (← number_field weight_bounds (WhichField.WeightNumber i j) t);
  })

abbrev pub weight_at : ℕ → ℕ → Tree → Reading WhichFault RawWeight
weight_at i j t = within (fault_of (WhichField.Weight i j)) null (weight_in i j) (as_object t)

unfoldable pub weights_field : ℕ → Tree → Reading WhichFault (List RawWeight)
weights_field i t =
    inside_or [] (fault_of (WhichField.Weights i)) (each_in (weight_at i))
    (optional as_array (present (member_name (WhichField.Weights i)) t))
