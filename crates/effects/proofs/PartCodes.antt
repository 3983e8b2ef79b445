-- The parts of changes are codes.
use Rattle.std.proofs.Common.{◌≡◌, ◌↔◌, ℕ, ◌+◌, ◌<◌, ◌≤◌, ◌^◌, List, [], ◌∷◌, ◌++◌, length, take, get_or, Option, Some, None, Bool, true, false, cond, refl, sym, ap, subst, ◌∙◌, arith, append-nil, lit<}
use Rattle.std.specs.Prelude.{IsTrue}
use Rattle.std.specs.List.{flat_map}
use Rattle.std.proofs.lemmas.Bool.Decides.{nat_tests}
use Rattle.std.proofs.lemmas.Bool.{false≢true}
use Rattle.std.proofs.lemmas.Option.{same_Some}
use Rattle.std.specs.Option.{option_map}
use Rattle.std.proofs.lemmas.List.{take_more}
use Rattle.std.proofs.lemmas.List.Concat.{flat_map-append}
use Rattle.rtb_num.proofs.Plain.{heads, tails}
use Rattle.budget_book.specs.declared.sales.Gone.{Gone}
use Rattle.budget_book.specs.declared.sales.SaleState.{SaleState}
use Rattle.byte_fields.specs.Codes.{BeginsAt, IsReadAt, IsCode, BothValid, both_bytes}
use Rattle.byte_fields.specs.Encodings.{IsByte, byte_bytes, FitsFour, four_bytes, FitsEight, eight_bytes, IsFlag, flag_bytes, IsShort, text_bytes, IsOptionOf, option_bytes}
use Rattle.byte_fields.proofs.Codes.{begins_as, begins_both, begins_first, begins_second, both_code, code_as, flag_code, narrow_code, one_reading, option_code, read_as, read_both, read_narrow, read_no_second, read_none_as, three_code}
use Rattle.byte_fields.proofs.Numbers.{four_code, eight_code}
use Rattle.byte_fields.proofs.Rows.{row_unique, text_code}
use Rattle.campaign.specs.Caps.{CapTerms, cap_of, is_cap}
use Rattle.campaign.specs.Encoding.{facts_bytes}
use Rattle.campaign.specs.Kept.{IsEncodable as IsUncapped}
use Rattle.campaign.proofs.Decoding.{encodable_code as uncapped_code}
use Rattle.effects.specs.Bodies.{AreEights, AreFours, Eights, IsAimed, IsCapped, IsCappedChange, IsItemRow, IsLive, IsLiveCapped, IsNumbered, IsState, IsTag, IsTriple, Triple, aimed_bytes, capped_bytes, capped_change_bytes, eights_bytes, fours_bytes, gone_from, item_from, live_bytes, live_capped_bytes, numbered_bytes, state_bytes, tag_bytes, triple_bytes}
use Rattle.effects.specs.Bytes.{AreItems, IsAmount, IsCap, IsGone, IsItem, IsUser, gone_bytes, item_bytes, items_bytes, state_number, terms_bytes}
use Rattle.effects.specs.Tags.{number_of, tag_numbered}
use Rattle.effects.specs.declared.tag.Tag.{Tag}
use Rattle.plain_exchange.specs.declared.changes.SoldItem.{SoldItem}
use Rattle.target_expr.specs.Bytes.{IsEncodable as IsExpr, expr_bytes}
use Rattle.target_expr.proofs.Encoding.{expr_code}

-- ---- numbers and texts

pub amount_fits : (n : ℕ) → IsAmount n → FitsEight n
amount_fits n h = omega (arith, h)

pub amount_code : IsCode IsAmount eight_bytes
amount_code = narrow_code FitsEight eight_bytes eight_code IsAmount amount_fits

pub user_fits : (user : List ℕ) → IsUser user → IsShort user
user_fits user h = omega (arith, h.1)

pub user_code : IsCode IsUser text_bytes
user_code = narrow_code IsShort text_bytes text_code IsUser user_fits

-- ---- sold items

abbrev pub triple_of : SoldItem → Triple
triple_of i = ((i.campaign, i.price), i.due)

pub triple_code : IsCode IsTriple triple_bytes
triple_code = three_code FitsFour four_bytes IsAmount eight_bytes FitsEight eight_bytes four_code amount_code eight_code

pub triple_valid : (i : SoldItem) → IsItem i → IsTriple (triple_of i)
triple_valid i v = ((v.campaign, v.price), v.due)

pub item_valid : (p : Triple) → IsTriple p → IsItem (item_from p)
item_valid p v = record { campaign = v.0.0; price = v.0.1; due = v.1 }

pub item_code : IsCode IsItem item_bytes
item_code = code_as IsTriple triple_bytes IsItem item_bytes triple_code triple_of triple_valid (λ i v. refl) (λ i j v w e. ap item_from e)

pub items_code : IsCode AreItems items_bytes
items_code = record {
  unique = λ x y s t v w h.
      row_unique IsItem item_bytes item_code x y s t (heads (length x) (length y) (flat_map item_bytes x ++ s) (flat_map item_bytes y ++ t) h) v.1 w.1
      (tails (length x) (length y) (flat_map item_bytes x ++ s) (flat_map item_bytes y ++ t) h);
}

-- ---- caps

abbrev pub fours_of : CapTerms → ℕ × ℕ
fours_of c = (c.count, c.seconds)

abbrev pub terms_from : ℕ × ℕ → CapTerms
terms_from p = record { count = p.0; seconds = p.1 }

pub fours_code : IsCode AreFours fours_bytes
fours_code = both_code FitsFour four_bytes FitsFour four_bytes four_code four_code

cap_sizes : (count seconds : ℕ) → is_cap count seconds ≡ true → (count < 2 ^ 32) × (seconds < 2 ^ 32)
cap_sizes count seconds e = (grind (arith, nat_tests), grind (arith, nat_tests))

pub terms_code : IsCode IsCap terms_bytes
terms_code = code_as AreFours fours_bytes IsCap terms_bytes fours_code fours_of (λ c v. cap_sizes c.count c.seconds v) (λ c v. refl) (λ c d v w e. ap terms_from e)

-- ---- facts, with what stands before and behind them

-- what was found first, with what is found behind it where something is
pub read_behind : {A B : Type 0} (V : A → Type 0) (e : A → List ℕ) (W : B → Type 0) (f : B → List ℕ) → IsCode V e → (bytes : List ℕ) (place : ℕ) (x : A) (n : ℕ) (behind : Option (B × ℕ))
    → IsReadAt V e bytes place (Some (x, n)) → IsReadAt W f bytes n behind → IsReadAt (BothValid V W) (both_bytes e f) bytes place (option_map (λ (r : B × ℕ). ((x, r.0), r.1)) behind)
read_behind V e W f code bytes place x n None first none = read_no_second V e W f code bytes place x n first none
read_behind V e W f code bytes place x n (Some p) first second = read_both V e W f bytes place x n p.0 p.1 first second

pub numbered_code : IsCode IsNumbered numbered_bytes
numbered_code = both_code FitsFour four_bytes IsUncapped facts_bytes four_code uncapped_code

pub capped_code : IsCode IsCapped capped_bytes
capped_code = both_code IsUncapped facts_bytes IsCap terms_bytes uncapped_code terms_code

pub capped_change_code : IsCode IsCappedChange capped_change_bytes
capped_change_code = both_code IsNumbered numbered_bytes IsCap terms_bytes numbered_code terms_code

pub live_code : IsCode IsLive live_bytes
live_code = both_code IsFlag flag_bytes IsUncapped facts_bytes flag_code uncapped_code

pub live_capped_code : IsCode IsLiveCapped live_capped_bytes
live_capped_code = both_code IsLive live_bytes (IsOptionOf IsCap) (option_bytes terms_bytes) live_code (option_code IsCap terms_bytes terms_code)

pub aimed_code : IsCode IsAimed aimed_bytes
aimed_code = both_code IsLiveCapped live_capped_bytes IsExpr expr_bytes live_capped_code expr_code

-- ---- what is gone

abbrev pub eights_of : Gone → Eights
eights_of g = (((g.spent, g.billed), g.lost), g.expired)

pub eights_code : IsCode AreEights eights_bytes
eights_code = both_code (BothValid (BothValid IsAmount FitsEight) FitsEight) (both_bytes (both_bytes eight_bytes eight_bytes) eight_bytes) FitsEight eight_bytes (three_code IsAmount eight_bytes FitsEight eight_bytes FitsEight eight_bytes amount_code eight_code eight_code) eight_code

pub eights_valid : (g : Gone) → IsGone g → AreEights (eights_of g)
eights_valid g v = (((v.spent, v.billed), v.lost), v.expired)

pub gone_valid : (p : Eights) → AreEights p → IsGone (gone_from p)
gone_valid p v = record { spent = v.0.0.0; billed = v.0.0.1; lost = v.0.1; expired = v.1 }

pub gone_code : IsCode IsGone gone_bytes
gone_code = code_as AreEights eights_bytes IsGone gone_bytes eights_code eights_of eights_valid (λ g v. refl) (λ g h v w e. ap gone_from e)

-- ---- states and tags

same_state : (s t : SaleState) → state_number s ≡ state_number t → s ≡ t
same_state SaleState.Held SaleState.Held e = refl
same_state SaleState.Held SaleState.Billed e = absurd (omega (arith, e))
same_state SaleState.Held SaleState.Lost e = absurd (omega (arith, e))
same_state SaleState.Held SaleState.Expired e = absurd (omega (arith, e))
same_state SaleState.Billed SaleState.Held e = absurd (omega (arith, e))
same_state SaleState.Billed SaleState.Billed e = refl
same_state SaleState.Billed SaleState.Lost e = absurd (omega (arith, e))
same_state SaleState.Billed SaleState.Expired e = absurd (omega (arith, e))
same_state SaleState.Lost SaleState.Held e = absurd (omega (arith, e))
same_state SaleState.Lost SaleState.Billed e = absurd (omega (arith, e))
same_state SaleState.Lost SaleState.Lost e = refl
same_state SaleState.Lost SaleState.Expired e = absurd (omega (arith, e))
same_state SaleState.Expired SaleState.Held e = absurd (omega (arith, e))
same_state SaleState.Expired SaleState.Billed e = absurd (omega (arith, e))
same_state SaleState.Expired SaleState.Lost e = absurd (omega (arith, e))
same_state SaleState.Expired SaleState.Expired e = refl

pub state_code : IsCode IsState state_bytes
state_code = record { unique = λ a b s t v w h. (same_state a b (heads (state_number a) (state_number b) s t h), tails (state_number a) (state_number b) s t h) }

-- its number leads back to it
pub numbered_again : (t : Tag) → tag_numbered (number_of t) ≡ Some t
numbered_again Tag.Swept = refl
numbered_again Tag.Sold = refl
numbered_again Tag.Added = refl
numbered_again Tag.Changed = refl
numbered_again Tag.Paused = refl
numbered_again Tag.Resumed = refl
numbered_again Tag.Billed = refl
numbered_again Tag.Forgot = refl
numbered_again Tag.Lost = refl
numbered_again Tag.SoldTo = refl
numbered_again Tag.CappedAdded = refl
numbered_again Tag.CappedChanged = refl
numbered_again Tag.Kept = refl
numbered_again Tag.KeptSale = refl

tag_fits : (t : Tag) → number_of t < 256
tag_fits Tag.Swept = lit< tt
tag_fits Tag.Sold = lit< tt
tag_fits Tag.Added = lit< tt
tag_fits Tag.Changed = lit< tt
tag_fits Tag.Paused = lit< tt
tag_fits Tag.Resumed = lit< tt
tag_fits Tag.Billed = lit< tt
tag_fits Tag.Forgot = lit< tt
tag_fits Tag.Lost = lit< tt
tag_fits Tag.SoldTo = lit< tt
tag_fits Tag.CappedAdded = lit< tt
tag_fits Tag.CappedChanged = lit< tt
tag_fits Tag.Kept = lit< tt
tag_fits Tag.KeptSale = lit< tt

-- no byte, no tag
pub tag_no_byte : (bytes : List ℕ) (place : ℕ) → IsReadAt IsByte byte_bytes bytes place None → IsReadAt IsTag tag_bytes bytes place None
tag_no_byte bytes place none = λ t m v b. none (number_of t) m (tag_fits t) b

-- ---- items one by one

pub items_more : (xs : List SoldItem) (i : ℕ) (x : SoldItem) → i < length xs → x ≡ get_or xs i x → take (i + 1) xs ≡ take i xs ++ x ∷ []
items_more xs i x lt is = take_more xs i x lt ∙ ap (λ y. take i xs ++ y ∷ []) (sym is)

pub item_bytes_more : (xs : List SoldItem) (x : SoldItem) → flat_map item_bytes (xs ++ x ∷ []) ≡ flat_map item_bytes xs ++ item_bytes x
item_bytes_more xs x = flat_map-append item_bytes xs (x ∷ []) ∙ ap (λ l. flat_map item_bytes xs ++ l) (append-nil (item_bytes x))

-- ---- parts that are read

pub item_read : (bytes : List ℕ) (place : ℕ) (p : Triple) (n : ℕ) → IsReadAt IsTriple triple_bytes bytes place (Some (p, n)) → IsReadAt IsItem item_bytes bytes place (Some (item_from p, n))
item_read = read_as IsTriple triple_bytes IsItem item_bytes item_from triple_of item_valid triple_valid (λ p v. refl) (λ i w. refl)

pub item_none : (bytes : List ℕ) (place : ℕ) → IsReadAt IsTriple triple_bytes bytes place None → IsReadAt IsItem item_bytes bytes place None
item_none = read_none_as IsTriple triple_bytes IsItem item_bytes triple_of triple_valid (λ i w. refl)

pub gone_read : (bytes : List ℕ) (place : ℕ) (p : Eights) (n : ℕ) → IsReadAt AreEights eights_bytes bytes place (Some (p, n)) → IsReadAt IsGone gone_bytes bytes place (Some (gone_from p, n))
gone_read = read_as AreEights eights_bytes IsGone gone_bytes gone_from eights_of gone_valid eights_valid (λ p v. refl) (λ g w. refl)

pub gone_none : (bytes : List ℕ) (place : ℕ) → IsReadAt AreEights eights_bytes bytes place None → IsReadAt IsGone gone_bytes bytes place None
gone_none = read_none_as AreEights eights_bytes IsGone gone_bytes eights_of eights_valid (λ g w. refl)

pub terms_none : (bytes : List ℕ) (place : ℕ) → IsReadAt AreFours fours_bytes bytes place None → IsReadAt IsCap terms_bytes bytes place None
terms_none = read_none_as AreFours fours_bytes IsCap terms_bytes fours_of (λ c v. cap_sizes c.count c.seconds v) (λ c w. refl)

cap_there : (b : Bool) (t c : CapTerms) → ◌≡◌ {A = Option CapTerms} (cond b (Some t) None) (Some c) → (b ≡ true) × (t ≡ c)
cap_there true t c e = (refl, same_Some t c e)
cap_there false t c e = cc

cap_absent : (b : Bool) (t : CapTerms) → ◌≡◌ {A = Option CapTerms} (cond b (Some t) None) None → b ≡ false
cap_absent true t e = cc
cap_absent false t e = refl

-- the two numbers are a cap where they are in their ranges
pub terms_read : (bytes : List ℕ) (place : ℕ) (p : ℕ × ℕ) (n : ℕ) (found : Option CapTerms) → IsReadAt AreFours fours_bytes bytes place (Some (p, n)) → found ≡ cap_of p.0 p.1 → IsReadAt IsCap terms_bytes bytes place (option_map (λ (c : CapTerms). (c, n)) found)
terms_read bytes place p n None r e = λ c m v a.
    let no_cap = cap_absent (is_cap p.0 p.1) (terms_from p) (sym e) in
    let same = one_reading AreFours fours_bytes fours_code bytes place p (fours_of c) n m r.0 (cap_sizes c.count c.seconds v) r.1 a in
    let is : is_cap p.0 p.1 ≡ true = ap (λ (q : ℕ × ℕ). is_cap q.0 q.1) same.0 ∙ v in
    false≢true (sym no_cap ∙ is)
terms_read bytes place p n (Some c) r e =
    let is = cap_there (is_cap p.0 p.1) (terms_from p) c (sym e) in
    (subst IsCap is.1 is.0, begins_as bytes (fours_bytes p) (terms_bytes c) place n n (ap terms_bytes is.1) refl r.1)

-- a text is a user where it is neither empty nor too long
pub user_read : (bytes : List ℕ) (place : ℕ) (user : List ℕ) (n : ℕ) → IsReadAt IsShort text_bytes bytes place (Some (user, n)) → IsUser user → IsReadAt IsUser text_bytes bytes place (Some (user, n))
user_read bytes place user n r u = (u, r.1)

pub user_none : (bytes : List ℕ) (place : ℕ) → IsReadAt IsShort text_bytes bytes place None → IsReadAt IsUser text_bytes bytes place None
user_none bytes place none = λ user m u a. none user m (user_fits user u) a

pub user_refused : (bytes : List ℕ) (place : ℕ) (user : List ℕ) (n : ℕ) → IsReadAt IsShort text_bytes bytes place (Some (user, n)) → (IsUser user → ⊥) → IsReadAt IsUser text_bytes bytes place None
user_refused = read_narrow IsShort text_bytes text_code IsUser user_fits

pub user_taken : (bytes : List ℕ) (place : ℕ) (user : List ℕ) (n : ℕ) (is_empty : Bool) → IsReadAt IsShort text_bytes bytes place (Some (user, n)) → (IsTrue is_empty ↔ (user ≡ [])) → is_empty ≡ false → length user ≤ 255 → IsReadAt IsUser text_bytes bytes place (Some (user, n))
user_taken bytes place [] n is_empty read none some low =
    let empty : is_empty ≡ true = none.1 refl in
    cc
user_taken bytes place (c ∷ user) n is_empty read none some low = ((omega arith, low), read.1)

-- ---- rows of items

pub count_code : IsCode IsByte byte_bytes
count_code = record { unique = λ x y s t v w h. (heads x y s t h, tails x y s t h) }

items_fit : (items : List SoldItem) → AreItems items → IsByte (length items)
items_fit items v = omega (arith, v.0.1)

pub items_no_count : (bytes : List ℕ) (place : ℕ) → IsReadAt IsByte byte_bytes bytes place None → IsReadAt AreItems items_bytes bytes place None
items_no_count bytes place none = λ x m v a. none (length x) (place + 1) (items_fit x v) (begins_first bytes (byte_bytes (length x)) (flat_map item_bytes x) place m a)

pub items_refused : (bytes : List ℕ) (place n count : ℕ) → IsReadAt IsByte byte_bytes bytes place (Some (count, n)) → ((1 ≤ count) → (count ≤ 64) → ⊥) → IsReadAt AreItems items_bytes bytes place None
items_refused bytes place n count r wrong = λ x m v a.
    let same = one_reading IsByte byte_bytes count_code bytes place count (length x) n (place + 1) r.0 (items_fit x v) r.1 (begins_first bytes (byte_bytes (length x)) (flat_map item_bytes x) place m a) in
    wrong (subst (λ k. 1 ≤ k) (sym same.0) v.0.0) (subst (λ k. k ≤ 64) (sym same.0) v.0.1)

pub items_read : (bytes : List ℕ) (place n count : ℕ) (found : Option (List SoldItem × ℕ)) → IsReadAt IsByte byte_bytes bytes place (Some (count, n)) → 1 ≤ count → count ≤ 64 → IsReadAt (IsItemRow count) (flat_map item_bytes) bytes n found → IsReadAt AreItems items_bytes bytes place found
items_read bytes place n count None r some few none = λ x m v a.
    let same = one_reading IsByte byte_bytes count_code bytes place count (length x) n (place + 1) r.0 (items_fit x v) r.1 (begins_first bytes (byte_bytes (length x)) (flat_map item_bytes x) place m a) in
    none x m (sym same.0, v.1) (subst (λ k. BeginsAt bytes k (flat_map item_bytes x) m) (sym same.1) (begins_second bytes (byte_bytes (length x)) (flat_map item_bytes x) place m a))
items_read bytes place n count (Some p) r some few row = (
  ((subst (λ k. 1 ≤ k) (sym row.0.0) some, subst (λ k. k ≤ 64) (sym row.0.0) few), row.0.1),
  begins_both bytes (byte_bytes (length p.0)) (flat_map item_bytes p.0) place n p.1 (subst (λ k. BeginsAt bytes place (byte_bytes k) n) (sym row.0.0) r.1) row.1,
)
