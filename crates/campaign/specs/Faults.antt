-- The faults of what an advertiser states of a campaign, in the order of its fields.
use Rattle.std.specs.Prelude.{ℕ, nat_le, ◌&&◌, List, [], ◌∷◌, ◌++◌, length, Bool, true, false, if◌then◌else◌, Option, Some, None, Result, Ok, Err, ℤ, pos, int_le}
use Rattle.std.specs.Option.{option_to_list}
use Rattle.std.specs.List.{flat_map, enumerate_from}
use Rattle.campaign.specs.declared.field.CampField.{CampField}
use Rattle.campaign.specs.declared.field.CampField.TheVariants.{Seat, Adomain, Cat, CatItem, Attr, AttrItem, Deals, DealsItem, Adm, Crid, Adid}
use Rattle.campaign.specs.declared.parts.FactParts.{FactParts}
use Rattle.campaign.specs.declared.parts.FactFault.{FactFault}
use Rattle.campaign.specs.declared.parts.FactFault.TheVariants.{TextLength, ListLength, BidZero, Size}

abbrev pub fault_unless : Bool → FactFault → List FactFault
fault_unless right fault = if right then [] else fault ∷ []

-- 1 to 255 bytes
abbrev pub is_text : List ℕ → Bool
is_text text = nat_le 1 (length text) && nat_le (length text) 255

abbrev pub text_faults : CampField → List ℕ → List FactFault
text_faults field text = fault_unless (is_text text) (TextLength field)

-- at most 64 items
abbrev pub is_list : {A : Type 0} → List A → Bool
is_list xs = nat_le (length xs) 64

-- of a list of texts: its length, and then each text with its place
abbrev pub texts_faults : CampField → (ℕ → CampField) → List (List ℕ) → List FactFault
texts_faults field item texts = fault_unless (is_list texts) (ListLength field)
    ++ flat_map (λ (p : ℕ × List ℕ). text_faults (item p.0) p.1) (enumerate_from 0 texts)

-- a side of 1 to 32767 pixels, and both sides or none
abbrev pub is_side : ℤ → Bool
is_side z = int_le (pos 1) z && int_le z (pos 32767)

abbrev pub is_size : Option ℤ → Option ℤ → Bool
is_size None None = true
is_size (Some w) (Some h) = is_side w && is_side h
is_size None (Some h) = false
is_size (Some w) None = false

-- of the attributes of the creative: their number, and then each that is negative
abbrev pub attr_faults : List ℤ → List FactFault
attr_faults attrs = fault_unless (is_list attrs) (ListLength Attr)
    ++ flat_map (λ (p : ℕ × ℤ). fault_unless (int_le (pos 0) p.1) (ListLength (AttrItem p.0))) (enumerate_from 0 attrs)

-- all faults, in the order of the fields
abbrev pub fact_faults : FactParts → List FactFault
fact_faults p = text_faults Seat p.seat
    ++ text_faults Adomain p.adomain
    ++ texts_faults Cat CatItem p.cat
    ++ fault_unless (is_size p.w p.h) Size
    ++ attr_faults p.attr
    ++ fault_unless (nat_le 1 p.bid) BidZero
    ++ texts_faults Deals DealsItem p.deals
    ++ fault_unless (nat_le (length p.adm) 65536) (TextLength Adm)
    ++ text_faults Crid p.crid
    ++ flat_map (text_faults Adid) (option_to_list p.adid)

-- the first of the faults, or the value where there is none
abbrev pub ok_unless : {A E : Type 0} → List E → A → Result A E
ok_unless [] x = Ok x
ok_unless (e ∷ es) x = Err e
