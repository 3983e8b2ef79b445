-- What the fields of a head say about the message (RFC 9110 and RFC 9112). A field is its name and its
-- value, without the white space around it.
use Rattle.std.specs.Prelude.{ℕ, ◌==◌, ◌&&◌, ◌||◌, nat_lt, Bool, if◌then◌else◌, List, [], ◌∷◌, map, length, codes, Option, Some, None, bytes_eq, flat_map, Result, Ok, Err}
use Rattle.std.specs.List.{list_all, list_any, slice_split}
use Rattle.std.specs.Char.{to_ascii_lowercase}
use Rattle.rtb_num.specs.Amounts.{is_digit, number_of}
use Rattle.httparse.specs.Grammar.{trim_ows}
use Rattle.http_wire.specs.declared.refusal.Refusal.{Refusal}
use Rattle.http_wire.specs.declared.refusal.Refusal.TheVariants as refusal

abbrev pub Field : Type 0
Field = List ℕ × List ℕ

-- RFC 9110, section 5.1: names compare without regard to case
unfoldable pub same_word : List ℕ → List ℕ → Bool
same_word a b = bytes_eq (map to_ascii_lowercase a) (map to_ascii_lowercase b)

abbrev pub is_named : List ℕ → Field → Bool
is_named name field = same_word field.0 name

-- the values of the fields of a name, in their order
abbrev pub values : List ℕ → List Field → List (List ℕ)
values name fields = flat_map (λ field. if is_named name field then field.1 ∷ [] else []) fields

-- RFC 9110, section 8.6: 1*DIGIT
abbrev pub is_digits : List ℕ → Bool
is_digits value = nat_lt 0 (length value) && list_all is_digit value

abbrev pub spells : ℕ → List ℕ → Bool
spells n value = is_digits value && (number_of value == n)

-- RFC 9112, section 6.3: each value is one and the same number; a list such as `5, 5` is refused
abbrev pub content_length : List (List ℕ) → Option ℕ
content_length [] = Some 0
content_length (value ∷ more) =
    if list_all (spells (number_of value)) (value ∷ more) then Some (number_of value) else None

-- the most bytes of a body
abbrev pub most_body : ℕ
most_body = 262144

abbrev pub is_identity : List ℕ → Bool
is_identity value = same_word value (codes "identity")

abbrev pub length_rule : Option ℕ → Bool → Result ℕ Refusal
length_rule None plain = Err refusal.ContentLength
length_rule (Some n) plain = if nat_lt most_body n then Err refusal.BodyTooLarge else (if plain then Ok n else Err refusal.ContentEncoding)

-- How many bytes the body has (RFC 9112, sections 6.1 to 6.3; RFC 9110, section 8.4), or the first refusal.
abbrev pub body_length : List Field → Result ℕ Refusal
body_length fields =
    if list_any (is_named (codes "transfer-encoding")) fields then Err refusal.TransferEncoding
    else length_rule (content_length (values (codes "content-length") fields)) (list_all is_identity (values (codes "content-encoding") fields))

-- RFC 9110, section 7.6.1: one of the items between commas is `close`, but for the white space around it
abbrev pub is_close : List ℕ → Bool
is_close item = same_word (trim_ows item) (codes "close")

abbrev pub asks_close : List ℕ → Bool
asks_close value = list_any is_close (slice_split (λ b. b == 44) value)

-- RFC 9112, section 9.6, and section 9.3 for HTTP/1.0: whether the link ends after the answer
abbrev pub closes : ℕ → List Field → Bool
closes minor fields = (minor == 0) || list_any asks_close (values (codes "connection") fields)
