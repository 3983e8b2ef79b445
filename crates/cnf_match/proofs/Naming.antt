-- An attribute found by its name, and two values that are told apart by their ends.
use Rattle.std.proofs.Common.{◌≡◌, ◌∙◌, ◌==◌, ◌&&◌, ◌≤◌, ℕ, List, length, take, Bool, true, false, Some, refl, sym, ap, subst}
use Rattle.std.specs.Str.{bytes_eq}
use Rattle.std.proofs.lemmas.Bool.{eq-eqb}
use Rattle.std.proofs.lemmas.List.{take_all}
use Rattle.std.proofs.lemmas.Slice.Eq.{bytes_eq-Decides}
use Rattle.target_expr.specs.declared.attr.Attr.{Attr}
use Rattle.target_expr.specs.declared.attr.Attr.TheVariants.{Domain, Site, Bundle, App, Publisher, Country, Region, Metro, City, Zip, DeviceType, Make, Model, Os, Osv, Language, Carrier, ConnectionType, Yob, Gender, TagId, Pos}
use Rattle.target_expr.specs.Attributes.{attr_named, name_of}
use Rattle.cnf_match.specs.Making.{end_of}

own_name : (a : Attr) → attr_named (name_of a) ≡ Some a
own_name Domain = refl
own_name Site = refl
own_name Bundle = refl
own_name App = refl
own_name Publisher = refl
own_name Country = refl
own_name Region = refl
own_name Metro = refl
own_name City = refl
own_name Zip = refl
own_name DeviceType = refl
own_name Make = refl
own_name Model = refl
own_name Os = refl
own_name Osv = refl
own_name Language = refl
own_name Carrier = refl
own_name ConnectionType = refl
own_name Yob = refl
own_name Gender = refl
own_name TagId = refl
own_name Pos = refl

-- the one whose name this is
pub named_so : (a : Attr) (t : List ℕ) → bytes_eq (name_of a) t ≡ true → Some a ≡ attr_named t
named_so a t e = sym (own_name a) ∙ ap attr_named ((bytes_eq-Decides (name_of a) t).0 e)

-- ---- ends

same_end : (a b : List ℕ) → bytes_eq a b ≡ true → (end_of a == end_of b) ≡ true
same_end a b e = eq-eqb (end_of a) (end_of b) (ap end_of ((bytes_eq-Decides a b).0 e))

all_false : (p q : Bool) → (p && q && false) ≡ (q && false)
all_false true q = refl
all_false false true = refl
all_false false false = refl

-- where the texts are the same their ends are, so it changes nothing to ask for the ends first
pub ends_first : (x y a b : List ℕ) → ((end_of a == end_of b) && bytes_eq x y && bytes_eq a b) ≡ (bytes_eq x y && bytes_eq a b)
ends_first x y a b = by (bytes_eq a b) refl
  where
    by : (r : Bool) → bytes_eq a b ≡ r → ((end_of a == end_of b) && bytes_eq x y && bytes_eq a b) ≡ (bytes_eq x y && bytes_eq a b)
    by true e = ap (λ p. p && bytes_eq x y && bytes_eq a b) (same_end a b e)
    by false e = ap (λ r. (end_of a == end_of b) && bytes_eq x y && r) e ∙ all_false (end_of a == end_of b) (bytes_eq x y) ∙ ap (λ r. bytes_eq x y && r) (sym e)

-- ---- texts byte by byte

pub all_bytes : (a b : List ℕ) (i : ℕ) → length a ≤ i → length a ≡ length b → take i a ≡ take i b → true ≡ bytes_eq a b
all_bytes a b i h same e = sym ((bytes_eq-Decides a b).1 (sym (take_all i a h) ∙ e ∙ take_all i b (subst (λ n. n ≤ i) same h)))
