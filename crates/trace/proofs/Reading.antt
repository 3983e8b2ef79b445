-- Headers and entries are codes: what is read of them is what was put.
use Rattle.std.proofs.Common.{◌≡◌, Bool, true, take, drop, subst, ℕ, ◌+◌, ◌-◌, ◌≤◌, List, ◌++◌, length, Option, Some, None, refl, sym, ap, ◌∙◌, arith}
use Rattle.std.specs.Cmp.Lexicographic.{pointwise}
use Rattle.std.specs.Option.{option_map}
use Rattle.std.proofs.Math.Dec.{eqb}
use Rattle.std.proofs.lemmas.Bool.Decides.{Decides-eqb}
use Rattle.std.proofs.lemmas.List.{length-drop, take_all}
use Rattle.std.proofs.lemmas.Slice.Eq.{starts_is}
use Rattle.std.specs.List.{starts_with}
use Rattle.std.specs.Prelude.{IfOk, Result, Ok, Err}
use Rattle.std.specs.Result.{result_map_both}
use Rattle.byte_fields.specs.Codes.{BeginsAt, BothValid, IsCode, IsReadAt, both_bytes}
use Rattle.byte_fields.specs.Encodings.{FitsEight, FitsFour, IsShort, eight_bytes, four_bytes, text_bytes}
use Rattle.byte_fields.proofs.Codes.{begins_both, begins_from, begins_first, begins_second, both_code, code_as, one_reading, read_as, read_both, read_no_second, read_none_as}
use Rattle.byte_fields.proofs.Numbers.{eight_code, four_code}
use Rattle.byte_fields.proofs.Rows.{text_code}
use Rattle.trace.specs.Parts.{AreParts, IsAsked, IsFull, IsPair, IsSent, IsTold, IsTtl, Parts, asked_bytes, entry_from, full_bytes, header_from, pair_bytes, parts_bytes, sent_bytes, told_bytes, ttl_bytes}
use Rattle.trace.specs.Traces.{IsEntry, IsHeader, entry_bytes, header_bytes, mark}
use Rattle.trace.specs.declared.entry.Entry.{Entry}
use Rattle.trace.specs.declared.header.Header.{Header}

-- what was found first, with what is found behind it where something is
pub read_behind : {A B : Type 0} (V : A → Type 0) (e : A → List ℕ) (W : B → Type 0) (f : B → List ℕ) → IsCode V e → (bytes : List ℕ) (place : ℕ) (x : A) (n : ℕ) (behind : Option (B × ℕ))
    → IsReadAt V e bytes place (Some (x, n)) → IsReadAt W f bytes n behind → IsReadAt (BothValid V W) (both_bytes e f) bytes place (option_map (λ (r : B × ℕ). ((x, r.0), r.1)) behind)
read_behind V e W f code bytes place x n None first none = read_no_second V e W f code bytes place x n first none
read_behind V e W f code bytes place x n (Some p) first second = read_both V e W f bytes place x n p.0 p.1 first second

-- the same, where memory may be wanting
pub read_paired : {A B E : Type 0} (V : A → Type 0) (e : A → List ℕ) (W : B → Type 0) (f : B → List ℕ) → IsCode V e → (bytes : List ℕ) (place : ℕ) (x : A) (n : ℕ) (behind : Result (Option (B × ℕ)) E)
    → IsReadAt V e bytes place (Some (x, n)) → IfOk behind (IsReadAt W f bytes n)
    → IfOk (result_map_both (option_map (λ (r : B × ℕ). ((x, r.0), r.1))) (λ e. e) behind) (IsReadAt (BothValid V W) (both_bytes e f) bytes place)
read_paired V e W f code bytes place x n (Ok found) first second = read_behind V e W f code bytes place x n found first second
read_paired V e W f code bytes place x n (Err fault) first second = second

-- ---- a header

-- what the test of a front says of the mark
pub mark_there : (bytes : List ℕ) (place : ℕ) (r : Bool) → place ≤ length bytes → r ≡ starts_with eqb (take (length bytes - place) (drop place bytes)) mark → r ≡ true → BeginsAt bytes place mark (place + 7)
mark_there bytes place r inside value is =
    let rest = take_all (length bytes - place) (drop place bytes) (omega (arith, length-drop place bytes)) in
    let value : r ≡ pointwise eqb mark (take (length mark) (drop place bytes)) = subst (λ l. r ≡ starts_with eqb l mark) rest value in
    begins_from bytes mark (drop 7 (drop place bytes)) place ((starts_is Decides-eqb (drop place bytes) mark r value).0 is) inside

eight_fits : (n : ℕ) → IsTtl n → FitsEight n
eight_fits n v = omega (arith, v.1)

mark_same : (s t : List ℕ) → mark ++ s ≡ mark ++ t → s ≡ t
mark_same s t h = ap (drop 7) h

pub ttl_code : IsCode IsTtl ttl_bytes
ttl_code = record {
  unique = λ n m s t v w h.
      eight_code.unique n m s t (eight_fits n v) (eight_fits m w) (mark_same (eight_bytes n ++ s) (eight_bytes m ++ t) h);
}

pub pair_code : IsCode IsPair pair_bytes
pair_code = both_code IsTtl ttl_bytes IsShort text_bytes ttl_code text_code

abbrev pub pair_of : Header → ℕ × List ℕ
pair_of h = (h.ttl, h.public)

pub pair_valid : (h : Header) → IsHeader h → IsPair (pair_of h)
pair_valid h v = ((v.least, v.most), v.public)

pub header_valid : (p : ℕ × List ℕ) → IsPair p → IsHeader (header_from p)
header_valid p v = record { least = v.0.0; most = v.0.1; public = v.1 }

pub header_same : (h : Header) → header_bytes h ≡ pair_bytes (pair_of h)
unfolding header_bytes
header_same h = refl

pub header_code : IsCode IsHeader header_bytes
header_code = code_as IsPair pair_bytes IsHeader header_bytes pair_code pair_of pair_valid (λ h v. header_same h) (λ h k v w same. ap header_from same)

pub header_no : (bytes : List ℕ) (place : ℕ) → IsReadAt IsPair pair_bytes bytes place None → IsReadAt IsHeader header_bytes bytes place None
header_no bytes place none = read_none_as IsPair pair_bytes IsHeader header_bytes pair_of pair_valid (λ h v. header_same h) bytes place none

pub header_there : (bytes : List ℕ) (place : ℕ) (p : ℕ × List ℕ) (n : ℕ) → IsReadAt IsPair pair_bytes bytes place (Some (p, n)) → IsReadAt IsHeader header_bytes bytes place (Some (header_from p, n))
header_there bytes place p n read = read_as IsPair pair_bytes IsHeader header_bytes header_from pair_of header_valid pair_valid (λ p v. sym (header_same (header_from p))) (λ h v. header_same h) bytes place p n read

-- the mark, and behind it a number that is such
pub ttl_there : (bytes : List ℕ) (place n m ttl : ℕ) → BeginsAt bytes place mark n → IsReadAt FitsEight eight_bytes bytes n (Some (ttl, m)) → IsTtl ttl → IsReadAt IsTtl ttl_bytes bytes place (Some (ttl, m))
ttl_there bytes place n m ttl there read valid = (valid, begins_both bytes mark (eight_bytes ttl) place n m there read.1)

pub ttl_no_mark : (bytes : List ℕ) (place : ℕ) → ((next : ℕ) → BeginsAt bytes place mark next → ⊥) → IsReadAt IsTtl ttl_bytes bytes place None
ttl_no_mark bytes place none = λ n m v a. none (place + 7) (begins_first bytes mark (eight_bytes n) place m a)

-- behind the mark stands no number
pub ttl_no_number : (bytes : List ℕ) (place n : ℕ) → BeginsAt bytes place mark n → IsReadAt FitsEight eight_bytes bytes n None → IsReadAt IsTtl ttl_bytes bytes place None
ttl_no_number bytes place n there none = λ k m v a.
    none k m (eight_fits k v) (subst (λ z. BeginsAt bytes z (eight_bytes k) m) (sym there.behind) (begins_second bytes mark (eight_bytes k) place m a))

-- or one that is none such
pub ttl_other : (bytes : List ℕ) (place n m ttl : ℕ) → BeginsAt bytes place mark n → IsReadAt FitsEight eight_bytes bytes n (Some (ttl, m)) → (IsTtl ttl → ⊥) → IsReadAt IsTtl ttl_bytes bytes place None
ttl_other bytes place n m ttl there read refuses = λ k end v a.
    let second = subst (λ z. BeginsAt bytes z (eight_bytes k) end) (sym there.behind) (begins_second bytes mark (eight_bytes k) place end a) in
    let same = one_reading FitsEight eight_bytes eight_code bytes n ttl k m end read.0 (eight_fits k v) read.1 second in
    refuses (subst IsTtl (sym same.0) v)

-- ---- an entry

pub asked_code : IsCode IsAsked asked_bytes
asked_code = both_code FitsEight eight_bytes IsShort text_bytes eight_code text_code

pub sent_code : IsCode IsSent sent_bytes
sent_code = both_code IsAsked asked_bytes IsShort text_bytes asked_code text_code

pub full_code : IsCode IsFull full_bytes
full_code = both_code IsSent sent_bytes IsShort text_bytes sent_code text_code

pub told_code : IsCode IsTold told_bytes
told_code = both_code IsFull full_bytes FitsFour four_bytes full_code four_code

pub parts_code : IsCode AreParts parts_bytes
parts_code = both_code IsTold told_bytes IsShort text_bytes told_code text_code

abbrev pub parts_of : Entry → Parts
parts_of e = (((((e.moment, e.message.method), e.message.target), e.message.body), e.status), e.answer)

pub parts_valid : (e : Entry) → IsEntry e → AreParts (parts_of e)
parts_valid e v = (((((v.moment, v.method), v.target), v.body), v.status), v.answer)

pub entry_valid : (p : Parts) → AreParts p → IsEntry (entry_from p)
entry_valid p v = record { moment = v.0.0.0.0.0; method = v.0.0.0.0.1; target = v.0.0.0.1; body = v.0.0.1; status = v.0.1; answer = v.1; closes = refl }

pub entry_same : (e : Entry) → entry_bytes e ≡ parts_bytes (parts_of e)
unfolding entry_bytes
entry_same e = refl

pub entry_again : (p : Parts) → AreParts p → parts_bytes p ≡ entry_bytes (entry_from p)
entry_again p v = sym (entry_same (entry_from p))

-- an entry is its parts, since it does not close
closes_not : (e : Entry) → IsEntry e → e ≡ entry_from (parts_of e)
closes_not e v = ap (λ c. record { moment = e.moment; message = record { method = e.message.method; target = e.message.target; body = e.message.body; closes = c }; status = e.status; answer = e.answer }) v.closes

pub entry_code : IsCode IsEntry entry_bytes
entry_code = code_as AreParts parts_bytes IsEntry entry_bytes parts_code parts_of parts_valid (λ e v. entry_same e)
    (λ e f v w same. closes_not e v ∙ ap entry_from same ∙ sym (closes_not f w))

pub entry_no : (bytes : List ℕ) (place : ℕ) → IsReadAt AreParts parts_bytes bytes place None → IsReadAt IsEntry entry_bytes bytes place None
entry_no bytes place none = read_none_as AreParts parts_bytes IsEntry entry_bytes parts_of parts_valid (λ e v. entry_same e) bytes place none

pub entry_there : (bytes : List ℕ) (place : ℕ) (p : Parts) (n : ℕ) → IsReadAt AreParts parts_bytes bytes place (Some (p, n)) → IsReadAt IsEntry entry_bytes bytes place (Some (entry_from p, n))
entry_there bytes place p n read = read_as AreParts parts_bytes IsEntry entry_bytes entry_from parts_of entry_valid parts_valid entry_again (λ e v. entry_same e) bytes place p n read
