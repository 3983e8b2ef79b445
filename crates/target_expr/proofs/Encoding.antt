-- The bytes of expressions are a code, and what is read of them step by step.
use Rattle.std.proofs.Common.{◌≡◌, ℕ, ◌≤◌, List, length, get_or, Bool, true, false, cond, Some, None, All, leb, refl, ap, arith}
use Rattle.std.specs.List.{list_all}
use Rattle.std.proofs.lemmas.Bool.{and_parts, leb-true}
use Rattle.target_expr.proofs.Attributes.{in_table, same_number}
use Rattle.rtb_num.proofs.Plain.{heads, tails}
use Rattle.byte_fields.specs.Codes.{IsReadAt, IsCode, BothValid, both_bytes}
use Rattle.byte_fields.specs.Encodings.{IsByte, byte_bytes, IsFlag, flag_bytes, IsShort, text_bytes, IsListWithin, list_bytes}
use Rattle.byte_fields.proofs.Codes.{both_code, code_as, narrow_code, read_both, read_no_first, read_no_second, read_none_as}
use Rattle.byte_fields.proofs.Rows.{text_code, within_code}
use Rattle.target_expr.specs.declared.attr.Attr.{Attr}
use Rattle.target_expr.specs.declared.pred.Pred.{Pred}
use Rattle.target_expr.specs.Attributes.{number_of}
use Rattle.target_expr.specs.Bytes.{IsEncodable, attr_bytes, pred_bytes, conjunction_bytes, expr_bytes}
use Rattle.target_expr.specs.Kept.{is_kept_conjunction, is_kept_pred}
use Rattle.target_expr.specs.Loose.{IsAttr, IsLoosePred, IsLooseConjunction, IsLoose}
use Rattle.target_expr.proofs.Limits.{passes_at, pred_values, conjunction_length, conjunction_preds, expr_length, expr_conjunctions}

pub attr_code : IsCode IsAttr attr_bytes
attr_code = record { unique = λ a b s t v w h. (same_number a b (heads (number_of a) (number_of b) s t h), tails (number_of a) (number_of b) s t h) }

same_flag : (x y : Bool) → ◌≡◌ {A = ℕ} (cond x 1 0) (cond y 1 0) → x ≡ y
same_flag true true e = refl
same_flag true false e = absurd (omega (arith, e))
same_flag false true e = absurd (omega (arith, e))
same_flag false false e = refl

pub flag_code : IsCode IsFlag flag_bytes
flag_code = record { unique = λ x y s t v w h. (same_flag x y (heads (cond x 1 0) (cond y 1 0) s t h), tails (cond x 1 0) (cond y 1 0) s t h) }

byte_code : IsCode IsByte byte_bytes
byte_code = record { unique = λ x y s t v w h. (heads x y s t h, tails x y s t h) }

-- no byte, no attribute
pub attr_no_byte : (bytes : List ℕ) (place : ℕ) → IsReadAt IsByte byte_bytes bytes place None → IsReadAt IsAttr attr_bytes bytes place None
attr_no_byte bytes place none = λ a m v b. none (number_of a) m (in_table a).fits b

-- ---- predicates

abbrev pub Parts : Type 0
Parts = Attr × (Bool × List (List ℕ))

abbrev pub AreValueTexts : List (List ℕ) → Type 0
AreValueTexts = IsListWithin 256 IsShort

abbrev pub AreValues : Bool × List (List ℕ) → Type 0
AreValues = BothValid IsFlag AreValueTexts

abbrev pub values_bytes : Bool × List (List ℕ) → List ℕ
values_bytes = both_bytes flag_bytes (list_bytes text_bytes)

abbrev pub AreParts : Attr × (Bool × List (List ℕ)) → Type 0
AreParts = BothValid IsAttr AreValues

abbrev pub parts_bytes : Attr × (Bool × List (List ℕ)) → List ℕ
parts_bytes = both_bytes attr_bytes values_bytes

abbrev pub parts_of : Pred → Attr × (Bool × List (List ℕ))
parts_of p = (p.attr, (p.negated, p.values))

texts_code : IsCode AreValueTexts (list_bytes text_bytes)
texts_code = within_code IsShort text_bytes 256 text_code

values_code : IsCode AreValues values_bytes
values_code = both_code IsFlag flag_bytes AreValueTexts (list_bytes text_bytes) flag_code texts_code

parts_code : IsCode AreParts parts_bytes
parts_code = both_code IsAttr attr_bytes AreValues values_bytes attr_code values_code

same_parts : (p q : Pred) → parts_of p ≡ parts_of q → p ≡ q
same_parts p q e =
    let attrs : p.attr ≡ q.attr = ap (λ (x : Attr × (Bool × List (List ℕ))). x.0) e in
    let flags : p.negated ≡ q.negated = ap (λ (x : Attr × (Bool × List (List ℕ))). x.1.0) e in
    let values : p.values ≡ q.values = ap (λ (x : Attr × (Bool × List (List ℕ))). x.1.1) e in
    λ i. record { attr = attrs i; negated = flags i; values = values i }

pub pred_code : IsCode IsLoosePred pred_bytes
pred_code = code_as AreParts parts_bytes IsLoosePred pred_bytes parts_code parts_of (λ p v. (tt, (tt, v))) (λ p v. refl) (λ p q v w e. same_parts p q e)

none_of_parts : (bytes : List ℕ) (place : ℕ) → IsReadAt AreParts parts_bytes bytes place None → IsReadAt IsLoosePred pred_bytes bytes place None
none_of_parts bytes place none = read_none_as AreParts parts_bytes IsLoosePred pred_bytes parts_of (λ p v. (tt, (tt, v))) (λ p v. refl) bytes place none

pub pred_no_attr : (bytes : List ℕ) (place : ℕ) → IsReadAt IsAttr attr_bytes bytes place None → IsReadAt IsLoosePred pred_bytes bytes place None
pred_no_attr bytes place none = none_of_parts bytes place (read_no_first IsAttr attr_bytes AreValues values_bytes bytes place none)

pub pred_no_flag : (bytes : List ℕ) (place n : ℕ) (a : Attr) → IsReadAt IsAttr attr_bytes bytes place (Some (a, n)) → IsReadAt IsFlag flag_bytes bytes n None → IsReadAt IsLoosePred pred_bytes bytes place None
pred_no_flag bytes place n a r none =
    none_of_parts bytes place (read_no_second IsAttr attr_bytes AreValues values_bytes attr_code bytes place a n r
    (read_no_first IsFlag flag_bytes AreValueTexts (list_bytes text_bytes) bytes n none))

pub pred_no_values : (bytes : List ℕ) (place n m : ℕ) (a : Attr) (b : Bool) → IsReadAt IsAttr attr_bytes bytes place (Some (a, n)) → IsReadAt IsFlag flag_bytes bytes n (Some (b, m))
    → IsReadAt AreValueTexts (list_bytes text_bytes) bytes m None → IsReadAt IsLoosePred pred_bytes bytes place None
pred_no_values bytes place n m a b r q none =
    none_of_parts bytes place (read_no_second IsAttr attr_bytes AreValues values_bytes attr_code bytes place a n r
    (read_no_second IsFlag flag_bytes AreValueTexts (list_bytes text_bytes) flag_code bytes n b m q none))

pub pred_there : (bytes : List ℕ) (place n m k : ℕ) (a : Attr) (b : Bool) (vs : List (List ℕ)) → IsReadAt IsAttr attr_bytes bytes place (Some (a, n)) → IsReadAt IsFlag flag_bytes bytes n (Some (b, m))
    → IsReadAt AreValueTexts (list_bytes text_bytes) bytes m (Some (vs, k)) → IsReadAt IsLoosePred pred_bytes bytes place (Some (record { attr = a; negated = b; values = vs }, k))
pred_there bytes place n m k a b vs r q w =
    let inner = read_both IsFlag flag_bytes AreValueTexts (list_bytes text_bytes) bytes n b m vs k q w in
    let outer = read_both IsAttr attr_bytes AreValues values_bytes bytes place a n (b, vs) k r inner in
    (w.0, outer.1)

-- ---- conjunctions and expressions

pub conjunction_code : IsCode IsLooseConjunction conjunction_bytes
conjunction_code = within_code IsLoosePred pred_bytes 16 pred_code

pub loose_code : IsCode IsLoose expr_bytes
loose_code = within_code IsLooseConjunction conjunction_bytes 64 conjunction_code

-- ---- what is kept has bytes

all_from_test : {X : Type 0} (p : X → Bool) (P : X → Type 0) → ((x : X) → p x ≡ true → P x) → (xs : List X) → list_all p xs ≡ true → All P xs
all_from_test p P each xs all = λ k d within. each (get_or xs k d) (passes_at p xs k d within all)

kept_pred_loose : (p : Pred) → is_kept_pred p ≡ true → IsLoosePred p
kept_pred_loose p h =
    let most : length p.values ≤ 256 = pred_values p h in
    let short = all_from_test (λ (v : List ℕ). leb (length v) 255) IsShort (λ v e. let le : length v ≤ 255 = leb-true (length v) 255 e in omega arith) p.values (and_parts _ _ (and_parts _ _ h).0).1 in
    ((omega arith, short), most)

kept_conjunction_loose : (c : List Pred) → is_kept_conjunction c ≡ true → IsLooseConjunction c
kept_conjunction_loose c h =
    let most : length c ≤ 16 = conjunction_length c h in
    ((omega arith, all_from_test is_kept_pred IsLoosePred kept_pred_loose c (conjunction_preds c h)), most)

pub kept_loose : (e : List (List Pred)) → IsEncodable e → IsLoose e
kept_loose e h =
    let most : length e ≤ 64 = expr_length e h in
    ((omega arith, all_from_test is_kept_conjunction IsLooseConjunction kept_conjunction_loose e (expr_conjunctions e h)), most)

pub expr_code : IsCode IsEncodable expr_bytes
expr_code = narrow_code IsLoose expr_bytes loose_code IsEncodable kept_loose
