-- What is shown of each attribute in turn. No other file of proofs lists them.
use Rattle.std.proofs.Common.{◌≡◌, ℕ, ◌<◌, List, Bool, ◌||◌, not, Some, refl, sym, ◌∙◌, ap, lit<}
use Rattle.std.specs.List.{list_all}
use Rattle.std.specs.Str.{bytes_eq}
use Rattle.std.proofs.Math.Bool.{and-true}
use Rattle.std.proofs.lemmas.Option.{same_Some}
use Rattle.target_expr.specs.declared.attr.Attr.{Attr}
use Rattle.target_expr.specs.declared.attr.Attr.TheVariants.{Domain, Site, Bundle, App, Publisher, Country, Region, Metro, City, Zip, DeviceType, Make, Model, Os, Osv, Language, Carrier, ConnectionType, Yob, Gender, TagId, Pos}
use Rattle.target_expr.specs.Attributes.{attributes, name_of, number_of, attr_numbered}

-- where the text is an attribute's name, the test of that attribute
abbrev pub own : (Attr → Bool) → List ℕ → List Attr → Bool
own test t attrs = list_all (λ a. not (bytes_eq t (name_of a)) || test a) attrs

-- its number is a byte and leads back to it, and no other attribute has its name
pub record IsInTable (a : Attr) : Type 0 where
  pub fits : number_of a < 256
  pub again : attr_numbered (number_of a) ≡ Some a
  pub named : (test : Attr → Bool) → own test (name_of a) attributes ≡ test a

pub in_table : (a : Attr) → IsInTable a
in_table Domain = record { fits = lit< tt; again = refl; named = λ test. and-true (test Domain) }
in_table Site = record { fits = lit< tt; again = refl; named = λ test. and-true (test Site) }
in_table Bundle = record { fits = lit< tt; again = refl; named = λ test. and-true (test Bundle) }
in_table App = record { fits = lit< tt; again = refl; named = λ test. and-true (test App) }
in_table Publisher = record { fits = lit< tt; again = refl; named = λ test. and-true (test Publisher) }
in_table Country = record { fits = lit< tt; again = refl; named = λ test. and-true (test Country) }
in_table Region = record { fits = lit< tt; again = refl; named = λ test. and-true (test Region) }
in_table Metro = record { fits = lit< tt; again = refl; named = λ test. and-true (test Metro) }
in_table City = record { fits = lit< tt; again = refl; named = λ test. and-true (test City) }
in_table Zip = record { fits = lit< tt; again = refl; named = λ test. and-true (test Zip) }
in_table DeviceType = record { fits = lit< tt; again = refl; named = λ test. and-true (test DeviceType) }
in_table Make = record { fits = lit< tt; again = refl; named = λ test. and-true (test Make) }
in_table Model = record { fits = lit< tt; again = refl; named = λ test. and-true (test Model) }
in_table Os = record { fits = lit< tt; again = refl; named = λ test. and-true (test Os) }
in_table Osv = record { fits = lit< tt; again = refl; named = λ test. and-true (test Osv) }
in_table Language = record { fits = lit< tt; again = refl; named = λ test. and-true (test Language) }
in_table Carrier = record { fits = lit< tt; again = refl; named = λ test. and-true (test Carrier) }
in_table ConnectionType = record { fits = lit< tt; again = refl; named = λ test. and-true (test ConnectionType) }
in_table Yob = record { fits = lit< tt; again = refl; named = λ test. and-true (test Yob) }
in_table Gender = record { fits = lit< tt; again = refl; named = λ test. and-true (test Gender) }
in_table TagId = record { fits = lit< tt; again = refl; named = λ test. and-true (test TagId) }
in_table Pos = record { fits = lit< tt; again = refl; named = λ test. and-true (test Pos) }

pub same_number : (a b : Attr) → number_of a ≡ number_of b → a ≡ b
same_number a b e = same_Some a b (sym (in_table a).again ∙ ap attr_numbered e ∙ (in_table b).again)
