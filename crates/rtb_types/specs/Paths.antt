-- How the path of a field of a bid request is written (OpenRTB 2.5, section 3.2): names with points
-- between them, and places of arrays, counted from 0, in square brackets.
use Rattle.std.specs.Prelude.{ℕ, List, ◌++◌, codes}
use Rattle.rtb_num.specs.Paths.{place}
use Rattle.rtb_types.specs.declared.field.RequestField.{RequestField}
use Rattle.rtb_types.specs.declared.field.SiteField.{SiteField}
use Rattle.rtb_types.specs.declared.field.AppField.{AppField}
use Rattle.rtb_types.specs.declared.field.DeviceField.{DeviceField}
use Rattle.rtb_types.specs.declared.field.GeoField.{GeoField}
use Rattle.rtb_types.specs.declared.field.UserField.{UserField}
use Rattle.rtb_types.specs.declared.field.ImpField.{ImpField}
use Rattle.rtb_types.specs.declared.field.BannerField.{BannerField}
use Rattle.rtb_types.specs.declared.field.SizeField.{SizeField}
use Rattle.rtb_types.specs.declared.field.PmpField.{PmpField}
use Rattle.rtb_types.specs.declared.field.DealField.{DealField}
use Rattle.rtb_types.specs.declared.field.Field.{Field}

abbrev pub request_name : RequestField → List ℕ
request_name RequestField.Id = codes "id"
request_name RequestField.At = codes "at"
request_name RequestField.Test = codes "test"
request_name RequestField.Wseat = codes "wseat"
request_name RequestField.Bseat = codes "bseat"
request_name RequestField.Cur = codes "cur"
request_name RequestField.Bcat = codes "bcat"
request_name RequestField.Badv = codes "badv"
request_name RequestField.Site = codes "site"
request_name RequestField.App = codes "app"
request_name RequestField.Device = codes "device"
request_name RequestField.User = codes "user"
request_name RequestField.Imp = codes "imp"

abbrev pub site_name : SiteField → List ℕ
site_name SiteField.Id = codes "id"
site_name SiteField.Domain = codes "domain"
site_name SiteField.Publisher = codes "publisher"
site_name SiteField.PublisherId = codes "publisher.id"

abbrev pub app_name : AppField → List ℕ
app_name AppField.Id = codes "id"
app_name AppField.Bundle = codes "bundle"
app_name AppField.Publisher = codes "publisher"
app_name AppField.PublisherId = codes "publisher.id"

abbrev pub device_name : DeviceField → List ℕ
device_name DeviceField.Geo = codes "geo"
device_name DeviceField.Devicetype = codes "devicetype"
device_name DeviceField.Make = codes "make"
device_name DeviceField.Model = codes "model"
device_name DeviceField.Os = codes "os"
device_name DeviceField.Osv = codes "osv"
device_name DeviceField.Language = codes "language"
device_name DeviceField.Carrier = codes "carrier"
device_name DeviceField.Connectiontype = codes "connectiontype"

abbrev pub geo_name : GeoField → List ℕ
geo_name GeoField.Country = codes "country"
geo_name GeoField.Region = codes "region"
geo_name GeoField.Metro = codes "metro"
geo_name GeoField.City = codes "city"
geo_name GeoField.Zip = codes "zip"

abbrev pub user_name : UserField → List ℕ
user_name UserField.Id = codes "id"
user_name UserField.Yob = codes "yob"
user_name UserField.Gender = codes "gender"

abbrev pub imp_name : ImpField → List ℕ
imp_name ImpField.Id = codes "id"
imp_name ImpField.Tagid = codes "tagid"
imp_name ImpField.Secure = codes "secure"
imp_name ImpField.Bidfloor = codes "bidfloor"
imp_name ImpField.Bidfloorcur = codes "bidfloorcur"
imp_name ImpField.Banner = codes "banner"
imp_name ImpField.Pmp = codes "pmp"

abbrev pub banner_name : BannerField → List ℕ
banner_name BannerField.W = codes "w"
banner_name BannerField.H = codes "h"
banner_name BannerField.Format = codes "format"
banner_name BannerField.Battr = codes "battr"
banner_name BannerField.Pos = codes "pos"

abbrev pub size_name : SizeField → List ℕ
size_name SizeField.W = codes "w"
size_name SizeField.H = codes "h"

abbrev pub pmp_name : PmpField → List ℕ
pmp_name PmpField.PrivateAuction = codes "private_auction"
pmp_name PmpField.Deals = codes "deals"

abbrev pub deal_name : DealField → List ℕ
deal_name DealField.Id = codes "id"
deal_name DealField.Bidfloor = codes "bidfloor"
deal_name DealField.Bidfloorcur = codes "bidfloorcur"
deal_name DealField.At = codes "at"
deal_name DealField.Wseat = codes "wseat"
deal_name DealField.Wadomain = codes "wadomain"

-- the name of the member that is `site.publisher.id` or the like
abbrev pub site_member : SiteField → List ℕ
site_member SiteField.Id = site_name SiteField.Id
site_member SiteField.Domain = site_name SiteField.Domain
site_member SiteField.Publisher = site_name SiteField.Publisher
site_member SiteField.PublisherId = codes "id"

abbrev pub app_member : AppField → List ℕ
app_member AppField.Id = app_name AppField.Id
app_member AppField.Bundle = app_name AppField.Bundle
app_member AppField.Publisher = app_name AppField.Publisher
app_member AppField.PublisherId = codes "id"

-- the name that a field has as a member of its object; an entry of a list has that of the list
abbrev pub member_name : Field → List ℕ
member_name (Field.Request f) = request_name f
member_name (Field.RequestItem f k) = request_name f
member_name (Field.Site f) = site_member f
member_name (Field.App f) = app_member f
member_name (Field.Device f) = device_name f
member_name (Field.Geo f) = geo_name f
member_name (Field.User f) = user_name f
member_name (Field.Imp i f) = imp_name f
member_name (Field.Banner i f) = banner_name f
member_name (Field.BannerItem i f k) = banner_name f
member_name (Field.Format i k f) = size_name f
member_name (Field.Pmp i f) = pmp_name f
member_name (Field.Deal i j) = pmp_name PmpField.Deals
member_name (Field.OfDeal i j f) = deal_name f
member_name (Field.DealItem i j f k) = deal_name f

-- an impression, a banner, an entry of a banner's `format`, a private marketplace and a deal
abbrev pub imp_path : ℕ → List ℕ
imp_path i = codes "imp" ++ place i

abbrev pub banner_path : ℕ → List ℕ
banner_path i = imp_path i ++ codes ".banner"

abbrev pub pmp_path : ℕ → List ℕ
pmp_path i = imp_path i ++ codes ".pmp"

abbrev pub deal_path : ℕ → ℕ → List ℕ
deal_path i j = pmp_path i ++ codes ".deals" ++ place j

abbrev pub path : Field → List ℕ
path (Field.Request f) = request_name f
path (Field.RequestItem f k) = request_name f ++ place k
path (Field.Site f) = codes "site." ++ site_name f
path (Field.App f) = codes "app." ++ app_name f
path (Field.Device f) = codes "device." ++ device_name f
path (Field.Geo f) = codes "device.geo." ++ geo_name f
path (Field.User f) = codes "user." ++ user_name f
path (Field.Imp i f) = imp_path i ++ codes "." ++ imp_name f
path (Field.Banner i f) = banner_path i ++ codes "." ++ banner_name f
path (Field.BannerItem i f k) = banner_path i ++ codes "." ++ banner_name f ++ place k
path (Field.Format i k f) = banner_path i ++ codes ".format" ++ place k ++ codes "." ++ size_name f
path (Field.Pmp i f) = pmp_path i ++ codes "." ++ pmp_name f
path (Field.Deal i j) = deal_path i j
path (Field.OfDeal i j f) = deal_path i j ++ codes "." ++ deal_name f
path (Field.DealItem i j f k) = deal_path i j ++ codes "." ++ deal_name f ++ place k
