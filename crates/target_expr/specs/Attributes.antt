-- The attributes of an impression that an expression may speak of: fields of a bid request
-- (OpenRTB 2.5, sections 3.2.4 to 3.2.20), by name and by number.
use Rattle.std.specs.Prelude.{ℕ, ◌==◌, List, [], ◌∷◌, Option, codes, find}
use Rattle.std.specs.Str.{bytes_eq}
use Rattle.target_expr.specs.declared.attr.Attr.{Attr}
use Rattle.target_expr.specs.declared.attr.Attr.TheVariants.{Domain, Site, Bundle, App, Publisher, Country, Region, Metro, City, Zip, DeviceType, Make, Model, Os, Osv, Language, Carrier, ConnectionType, Yob, Gender, TagId, Pos}

-- all of them, in the order of the table
abbrev pub attributes : List Attr
attributes = Domain ∷ Site ∷ Bundle ∷ App ∷ Publisher ∷ Country ∷ Region ∷ Metro ∷ City ∷ Zip ∷ DeviceType
    ∷ Make ∷ Model ∷ Os ∷ Osv ∷ Language ∷ Carrier ∷ ConnectionType ∷ Yob ∷ Gender ∷ TagId ∷ Pos ∷ []

-- its number in the table, from 1 on
abbrev pub number_of : Attr → ℕ
number_of Domain = 1
number_of Site = 2
number_of Bundle = 3
number_of App = 4
number_of Publisher = 5
number_of Country = 6
number_of Region = 7
number_of Metro = 8
number_of City = 9
number_of Zip = 10
number_of DeviceType = 11
number_of Make = 12
number_of Model = 13
number_of Os = 14
number_of Osv = 15
number_of Language = 16
number_of Carrier = 17
number_of ConnectionType = 18
number_of Yob = 19
number_of Gender = 20
number_of TagId = 21
number_of Pos = 22

-- its name in a campaign's expression
abbrev pub name_of : Attr → List ℕ
name_of Domain = codes "domain"
name_of Site = codes "site"
name_of Bundle = codes "bundle"
name_of App = codes "app"
name_of Publisher = codes "publisher"
name_of Country = codes "country"
name_of Region = codes "region"
name_of Metro = codes "metro"
name_of City = codes "city"
name_of Zip = codes "zip"
name_of DeviceType = codes "devicetype"
name_of Make = codes "make"
name_of Model = codes "model"
name_of Os = codes "os"
name_of Osv = codes "osv"
name_of Language = codes "language"
name_of Carrier = codes "carrier"
name_of ConnectionType = codes "connectiontype"
name_of Yob = codes "yob"
name_of Gender = codes "gender"
name_of TagId = codes "tagid"
name_of Pos = codes "pos"

-- the attribute of this name
abbrev pub attr_named : List ℕ → Option Attr
attr_named text = find (λ a. bytes_eq (name_of a) text) attributes

-- the attribute of this number
abbrev pub attr_numbered : ℕ → Option Attr
attr_numbered n = find (λ a. number_of a == n) attributes
