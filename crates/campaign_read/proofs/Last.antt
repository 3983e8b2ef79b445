-- The first fault of a campaign's fields is that of one of the last three.
use Rattle.std.proofs.Common.{◌≡◌, [], ◌++◌}
use Rattle.exact_json.specs.Tree.{Tree}
use Rattle.json_fields.specs.Answers.{IsFirst}
use Rattle.json_fields.specs.Readings.{Reading}
use Rattle.json_fields.proofs.First.{behind, in_front}
use Rattle.campaign.specs.declared.field.CampField.{CampField}
use Rattle.campaign_read.specs.declared.fault.CampFault.{CampFault}
use Rattle.campaign_read.specs.declared.lists.ListField.{ListField}
use Rattle.campaign_read.specs.Campaign.{parts_in}
use Rattle.campaign_read.specs.Cap.{cap_field}
use Rattle.campaign_read.specs.Parts.{amount_field, attr_bounds, flag_field, optional_text, optional_whole, side_bounds, text_field, texts_field, wholes_field}

abbrev pub IsClean : {A : Type 0} → Reading CampFault A → Type 0
IsClean r = r.faults ≡ []

-- what is read of a campaign up to its markup
pub record IsCleanToAdm (t : Tree) : Type 0 where
  pub seat : IsClean (text_field CampField.Seat t)
  pub adomain : IsClean (text_field CampField.Adomain t)
  pub cat : IsClean (texts_field ListField.Cat t)
  pub w : IsClean (optional_whole side_bounds CampField.W t)
  pub h : IsClean (optional_whole side_bounds CampField.H t)
  pub attr : IsClean (wholes_field attr_bounds ListField.Attr t)
  pub secure : IsClean (flag_field CampField.Secure t)
  pub bid : IsClean (amount_field CampField.Bid t)
  pub deals : IsClean (texts_field ListField.Deals t)
  pub budget : IsClean (amount_field CampField.Budget t)
  pub adm : IsClean (text_field CampField.Adm t)

from_crid : (t : Tree) (f : CampFault) → IsCleanToAdm t
    → IsFirst CampFault.Memory ((text_field CampField.Crid t).faults ++ ((optional_text CampField.Adid t).faults ++ ((cap_field t).faults ++ []))) f
    → IsFirst CampFault.Memory (parts_in t).faults f
unfolding parts_in
from_crid t f clean first =
    let crid = (text_field CampField.Crid t).faults ++ ((optional_text CampField.Adid t).faults ++ ((cap_field t).faults ++ [])) in
    let adm = (text_field CampField.Adm t).faults ++ crid in
    let budget = (amount_field CampField.Budget t).faults ++ adm in
    let deals = (texts_field ListField.Deals t).faults ++ budget in
    let bid = (amount_field CampField.Bid t).faults ++ deals in
    let secure = (flag_field CampField.Secure t).faults ++ bid in
    let attr = (wholes_field attr_bounds ListField.Attr t).faults ++ secure in
    let h = (optional_whole side_bounds CampField.H t).faults ++ attr in
    let w = (optional_whole side_bounds CampField.W t).faults ++ h in
    let cat = (texts_field ListField.Cat t).faults ++ w in
    let adomain = (text_field CampField.Adomain t).faults ++ cat in
    let of_adm = behind CampFault.Memory (text_field CampField.Adm t).faults crid f clean.adm first in
    let of_budget = behind CampFault.Memory (amount_field CampField.Budget t).faults adm f clean.budget of_adm in
    let of_deals = behind CampFault.Memory (texts_field ListField.Deals t).faults budget f clean.deals of_budget in
    let of_bid = behind CampFault.Memory (amount_field CampField.Bid t).faults deals f clean.bid of_deals in
    let of_secure = behind CampFault.Memory (flag_field CampField.Secure t).faults bid f clean.secure of_bid in
    let of_attr = behind CampFault.Memory (wholes_field attr_bounds ListField.Attr t).faults secure f clean.attr of_secure in
    let of_h = behind CampFault.Memory (optional_whole side_bounds CampField.H t).faults attr f clean.h of_attr in
    let of_w = behind CampFault.Memory (optional_whole side_bounds CampField.W t).faults h f clean.w of_h in
    let of_cat = behind CampFault.Memory (texts_field ListField.Cat t).faults w f clean.cat of_w in
    let of_adomain = behind CampFault.Memory (text_field CampField.Adomain t).faults cat f clean.adomain of_cat in
    behind CampFault.Memory (text_field CampField.Seat t).faults adomain f clean.seat of_adomain

pub at_crid : (t : Tree) (f : CampFault) → IsCleanToAdm t → IsFirst CampFault.Memory (text_field CampField.Crid t).faults f → IsFirst CampFault.Memory (parts_in t).faults f
at_crid t f clean first =
    from_crid t f clean (in_front CampFault.Memory (text_field CampField.Crid t).faults ((optional_text CampField.Adid t).faults ++ ((cap_field t).faults ++ [])) f first)

pub at_adid : (t : Tree) (f : CampFault) → IsCleanToAdm t → IsClean (text_field CampField.Crid t) → IsFirst CampFault.Memory (optional_text CampField.Adid t).faults f → IsFirst CampFault.Memory (parts_in t).faults f
at_adid t f clean crid first =
    let adid = in_front CampFault.Memory (optional_text CampField.Adid t).faults ((cap_field t).faults ++ []) f first in
    from_crid t f clean (behind CampFault.Memory (text_field CampField.Crid t).faults ((optional_text CampField.Adid t).faults ++ ((cap_field t).faults ++ [])) f crid adid)

pub at_cap : (t : Tree) (f : CampFault) → IsCleanToAdm t → IsClean (text_field CampField.Crid t) → IsClean (optional_text CampField.Adid t) → IsFirst CampFault.Memory (cap_field t).faults f
    → IsFirst CampFault.Memory (parts_in t).faults f
at_cap t f clean crid adid first =
    let cap = in_front CampFault.Memory (cap_field t).faults [] f first in
    let of_adid = behind CampFault.Memory (optional_text CampField.Adid t).faults ((cap_field t).faults ++ []) f adid cap in
    from_crid t f clean (behind CampFault.Memory (text_field CampField.Crid t).faults ((optional_text CampField.Adid t).faults ++ ((cap_field t).faults ++ [])) f crid of_adid)
