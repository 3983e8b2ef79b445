-- The cap of a campaign: how often one user is shown it.
use Rattle.std.specs.Prelude.{pos, unsigned_abs, Option, None}
use Rattle.exact_json.specs.Tree.{Tree}
use Rattle.json_fields.specs.Fields.{present, as_object, optional}
use Rattle.json_fields.specs.Readings.{Reading, give, inside_or, ◌>>=◌}
use Rattle.json_fields.specs.declared.bounds.Bounds.{Bounds}
use Rattle.campaign.specs.declared.field.CampField.{CampField}
use Rattle.campaign.specs.Caps.{CapTerms, cap_of}
use Rattle.campaign.specs.Paths.{member_name}
use Rattle.campaign_read.specs.declared.fault.CampFault.{CampFault}
use Rattle.campaign_read.specs.Parts.{fault_of, whole_field}

-- 1 to 1,000 times
abbrev pub count_bounds : Bounds
count_bounds = record { least = pos 1; greatest = pos 1000 }

-- in 1 to 31,536,000 seconds
abbrev pub seconds_bounds : Bounds
seconds_bounds = record { least = pos 1; greatest = pos 31536000 }

-- the two numbers of a cap
unfoldable pub terms_in : Tree → Reading CampFault (Option CapTerms)
terms_in t = do
  count ← whole_field count_bounds CampField.CapCount t
  seconds ← whole_field seconds_bounds CampField.CapSeconds t
  give (cap_of (unsigned_abs count) (unsigned_abs seconds))

-- an object that holds them, where it is there
unfoldable pub cap_field : Tree → Reading CampFault (Option CapTerms)
cap_field t =
    inside_or None (fault_of CampField.Cap) terms_in (optional as_object (present (member_name CampField.Cap) t))
