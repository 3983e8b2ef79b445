-- What an impression assigns to the attributes: the fields of the bid request (OpenRTB 2.5, sections
-- 3.2.4 to 3.2.20) in the order of the table of attributes.
use Rattle.std.specs.Prelude.{ℕ, ℤ, List, [], ◌∷◌, ◌++◌, false, Option, None, find, option_map, option_and_then, option_to_list}
use Rattle.std.specs.Fmt.{signed_decimal}
use Rattle.std.specs.List.{flat_map}
use Rattle.std.specs.Option.{option_or}
use Rattle.rtb_types.specs.declared.request.App.{App}
use Rattle.rtb_types.specs.declared.request.Banner.{Banner}
use Rattle.rtb_types.specs.declared.request.BidRequest.{BidRequest}
use Rattle.rtb_types.specs.declared.request.Device.{Device}
use Rattle.rtb_types.specs.declared.request.Geo.{Geo}
use Rattle.rtb_types.specs.declared.request.Imp.{Imp}
use Rattle.rtb_types.specs.declared.request.Site.{Site}
use Rattle.rtb_types.specs.declared.request.User.{User}
use Rattle.target_expr.specs.declared.attr.Attr.{Attr}
use Rattle.target_expr.specs.declared.attr.Attr.TheVariants as attr
use Rattle.target_expr.specs.Truth.{same_attr}

-- an attribute, and the text of its field where that is present
abbrev pub Row : Type 0
Row = Attr × Option (List ℕ)

-- a number's text is decimal
abbrev pub number_text : Option ℤ → Option (List ℕ)
number_text n = option_map signed_decimal n

-- the site (3.2.13)
unfoldable pub site_rows : Option Site → List Row
site_rows site = (attr.Domain, option_and_then (λ (s : Site). s.domain) site) ∷ (attr.Site, option_and_then (λ (s : Site). s.id) site) ∷ []

-- the app (3.2.14)
unfoldable pub app_rows : Option App → List Row
app_rows app = (attr.Bundle, option_and_then (λ (a : App). a.bundle) app) ∷ (attr.App, option_and_then (λ (a : App). a.id) app) ∷ []

-- the site's publisher, or else the app's (3.2.15)
unfoldable pub publisher_of : Option Site → Option App → Option (List ℕ)
publisher_of site app = option_or (option_and_then (λ (s : Site). s.publisher) site) (option_and_then (λ (a : App). a.publisher) app)

-- the device's place (3.2.19)
unfoldable pub geo_rows : Option Geo → List Row
geo_rows geo = (attr.Country, option_and_then (λ (g : Geo). g.country) geo) ∷ (attr.Region, option_and_then (λ (g : Geo). g.region) geo)
    ∷ (attr.Metro, option_and_then (λ (g : Geo). g.metro) geo) ∷ (attr.City, option_and_then (λ (g : Geo). g.city) geo)
    ∷ (attr.Zip, option_and_then (λ (g : Geo). g.zip) geo) ∷ []

-- the device (3.2.18)
unfoldable pub device_rows : Option Device → List Row
device_rows device = (attr.DeviceType, option_and_then (λ (d : Device). number_text d.devicetype) device)
    ∷ (attr.Make, option_and_then (λ (d : Device). d.device_make) device) ∷ (attr.Model, option_and_then (λ (d : Device). d.device_model) device)
    ∷ (attr.Os, option_and_then (λ (d : Device). d.os) device) ∷ (attr.Osv, option_and_then (λ (d : Device). d.osv) device)
    ∷ (attr.Language, option_and_then (λ (d : Device). d.language) device) ∷ (attr.Carrier, option_and_then (λ (d : Device). d.carrier) device)
    ∷ (attr.ConnectionType, option_and_then (λ (d : Device). number_text d.connectiontype) device) ∷ []

-- the user (3.2.20)
unfoldable pub user_rows : Option User → List Row
user_rows user = (attr.Yob, option_and_then (λ (u : User). number_text u.yob) user) ∷ (attr.Gender, option_and_then (λ (u : User). u.gender) user) ∷ []

-- the impression (3.2.4) and its banner's place on the screen (3.2.6)
unfoldable pub imp_rows : Imp → List Row
imp_rows imp = (attr.TagId, imp.tagid) ∷ (attr.Pos, option_and_then (λ (b : Banner). number_text b.pos) imp.banner) ∷ []

-- all rows of the table
abbrev pub rows : BidRequest → Imp → List Row
rows r imp = site_rows r.site ++ app_rows r.app ++ (attr.Publisher, publisher_of r.site r.app) ∷ []
    ++ geo_rows (option_and_then (λ (d : Device). d.geo) r.device) ++ device_rows r.device ++ user_rows r.user ++ imp_rows imp

-- a row that is present; an empty text is a value
abbrev pub pair_of : Row → List (Attr × List ℕ)
pair_of row = option_to_list (option_map (λ text. (row.0, text)) row.1)

-- the text of the attribute's row, where it is present
abbrev pub text_at : List Row → Attr → Option (List ℕ)
text_at rs a = option_and_then (λ (row : Row). row.1) (find (λ (row : Row). same_attr row.0 a) rs)

-- the present rows, in the order of the table
unfoldable pub pairs_of : BidRequest → Imp → List (Attr × List ℕ)
pairs_of r imp = flat_map pair_of (rows r imp)

-- ---- parts of which nothing is told, and so without rows

abbrev pub blank_site : Site
blank_site = record { id = None; domain = None; publisher = None }

abbrev pub blank_geo : Geo
blank_geo = record { country = None; region = None; metro = None; city = None; zip = None }

abbrev pub blank_device : Device
blank_device = record {
  geo = None;
  devicetype = None;
  device_make = None;
  device_model = None;
  os = None;
  osv = None;
  language = None;
  carrier = None;
  connectiontype = None;
}

abbrev pub blank_user : User
blank_user = record { id = None; yob = None; gender = None }

abbrev pub blank_banner : Banner
blank_banner = record { sizes = []; battr = []; pos = None }

abbrev pub blank_imp : Imp
blank_imp = record { id = []; tagid = None; secure = false; floor = 0; currency = []; banner = None; pmp = record { private_auction = false; deals = [] } }
