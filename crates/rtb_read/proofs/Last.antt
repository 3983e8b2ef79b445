-- The first fault of a request is that of one of its last two fields.
use Rattle.std.proofs.Common.{◌≡◌, ℕ, [], ◌++◌, subst}
use Rattle.exact_json.specs.Tree.{Tree}
use Rattle.json_fields.specs.Answers.{IsFirst}
use Rattle.json_fields.specs.Readings.{Reading}
use Rattle.json_fields.proofs.First.{behind, in_front}
use Rattle.rtb_types.specs.declared.field.Field.{Field}
use Rattle.rtb_types.specs.declared.field.RequestField.{RequestField}
use Rattle.rtb_read.specs.Parts.{flag_field, id_field, optional_object, type_field}
use Rattle.rtb_read.specs.Context.{app_in, device_in, site_in, user_in}
use Rattle.rtb_read.specs.Request.{fields_in, imps_field, request_texts}
use Rattle.rtb_read.specs.declared.fault.ReqFault.{ReqFault}

abbrev pub IsClean : {A : Type 0} → Reading ReqFault A → Type 0
IsClean r = r.faults ≡ []

-- what is read of a request before its user
pub record IsCleanToDevice (t : Tree) : Type 0 where
  pub id : IsClean (id_field (Field.Request RequestField.Id) t)
  pub at : IsClean (type_field 2 2 (Field.Request RequestField.At) t)
  pub test : IsClean (flag_field (Field.Request RequestField.Test) t)
  pub wseat : IsClean (request_texts RequestField.Wseat t)
  pub bseat : IsClean (request_texts RequestField.Bseat t)
  pub cur : IsClean (request_texts RequestField.Cur t)
  pub bcat : IsClean (request_texts RequestField.Bcat t)
  pub badv : IsClean (request_texts RequestField.Badv t)
  pub site : IsClean (optional_object (Field.Request RequestField.Site) site_in t)
  pub app : IsClean (optional_object (Field.Request RequestField.App) app_in t)
  pub device : IsClean (optional_object (Field.Request RequestField.Device) device_in t)

from_user : (t : Tree) (f : ReqFault) → IsCleanToDevice t
    → IsFirst ReqFault.Memory
    ((optional_object (Field.Request RequestField.User) user_in t).faults ++ ((imps_field (type_field 2 2 (Field.Request RequestField.At) t).value t).faults ++ []))
    f
    → IsFirst ReqFault.Memory (fields_in t).faults f
unfolding fields_in
from_user t f clean first =
    let user = (optional_object (Field.Request RequestField.User) user_in t).faults ++ ((imps_field (type_field 2 2 (Field.Request RequestField.At) t).value t).faults ++ []) in
    let device = (optional_object (Field.Request RequestField.Device) device_in t).faults ++ user in
    let app = (optional_object (Field.Request RequestField.App) app_in t).faults ++ device in
    let site = (optional_object (Field.Request RequestField.Site) site_in t).faults ++ app in
    let badv = (request_texts RequestField.Badv t).faults ++ site in
    let bcat = (request_texts RequestField.Bcat t).faults ++ badv in
    let cur = (request_texts RequestField.Cur t).faults ++ bcat in
    let bseat = (request_texts RequestField.Bseat t).faults ++ cur in
    let wseat = (request_texts RequestField.Wseat t).faults ++ bseat in
    let test = (flag_field (Field.Request RequestField.Test) t).faults ++ wseat in
    let at = (type_field 2 2 (Field.Request RequestField.At) t).faults ++ test in
    let of_device = behind ReqFault.Memory (optional_object (Field.Request RequestField.Device) device_in t).faults user f clean.device first in
    let of_app = behind ReqFault.Memory (optional_object (Field.Request RequestField.App) app_in t).faults device f clean.app of_device in
    let of_site = behind ReqFault.Memory (optional_object (Field.Request RequestField.Site) site_in t).faults app f clean.site of_app in
    let of_badv = behind ReqFault.Memory (request_texts RequestField.Badv t).faults site f clean.badv of_site in
    let of_bcat = behind ReqFault.Memory (request_texts RequestField.Bcat t).faults badv f clean.bcat of_badv in
    let of_cur = behind ReqFault.Memory (request_texts RequestField.Cur t).faults bcat f clean.cur of_bcat in
    let of_bseat = behind ReqFault.Memory (request_texts RequestField.Bseat t).faults cur f clean.bseat of_cur in
    let of_wseat = behind ReqFault.Memory (request_texts RequestField.Wseat t).faults bseat f clean.wseat of_bseat in
    let of_test = behind ReqFault.Memory (flag_field (Field.Request RequestField.Test) t).faults wseat f clean.test of_wseat in
    let of_at = behind ReqFault.Memory (type_field 2 2 (Field.Request RequestField.At) t).faults test f clean.at of_test in
    behind ReqFault.Memory (id_field (Field.Request RequestField.Id) t).faults at f clean.id of_at

-- the user
pub at_user : (t : Tree) (f : ReqFault) → IsCleanToDevice t → IsFirst ReqFault.Memory (optional_object (Field.Request RequestField.User) user_in t).faults f → IsFirst ReqFault.Memory (fields_in t).faults f
at_user t f clean first =
    let imps = (imps_field (type_field 2 2 (Field.Request RequestField.At) t).value t).faults ++ [] in
    from_user t f clean (in_front ReqFault.Memory (optional_object (Field.Request RequestField.User) user_in t).faults imps f first)

-- the impressions, by an auction type that is the request's
pub at_imps : (t : Tree) (at : ℕ) (f : ReqFault) → IsCleanToDevice t → IsClean (optional_object (Field.Request RequestField.User) user_in t) → at ≡ (type_field 2 2 (Field.Request RequestField.At) t).value
    → IsFirst ReqFault.Memory (imps_field at t).faults f → IsFirst ReqFault.Memory (fields_in t).faults f
at_imps t at f clean user same first =
    let imps = (imps_field (type_field 2 2 (Field.Request RequestField.At) t).value t).faults in
    let found = in_front ReqFault.Memory imps [] f (subst (λ k. IsFirst ReqFault.Memory (imps_field k t).faults f) same first) in
    from_user t f clean (behind ReqFault.Memory (optional_object (Field.Request RequestField.User) user_in t).faults (imps ++ []) f user found)
