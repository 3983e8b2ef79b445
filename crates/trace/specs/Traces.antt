-- The bytes of a trace: a header, and behind it an entry for each message with its answer. Numbers have their greatest
-- place first, and a text is its length in four bytes and then itself.
use Rattle.std.specs.Prelude.{◌≡◌, ℕ, ◌≤◌, List, ◌++◌, false, codes}
use Rattle.byte_fields.specs.Encodings.{FitsEight, FitsFour, IsShort, eight_bytes, four_bytes, text_bytes}
use Rattle.trace.specs.declared.entry.Entry.{Entry}
use Rattle.trace.specs.declared.header.Header.{Header}

-- a sale is held for a millisecond to a year
pub record IsHeader (h : Header) : Type 0 where
  pub least : 1 ≤ h.ttl
  pub most : h.ttl ≤ 31536000000
  pub public : IsShort h.public

-- what a header begins with
abbrev pub mark : List ℕ
mark = codes "RTBXT01"

unfoldable pub header_bytes : Header → List ℕ
header_bytes h = mark ++ eight_bytes h.ttl ++ text_bytes h.public

-- Whether the link ended behind the message is no part of an entry.
pub record IsEntry (e : Entry) : Type 0 where
  pub moment : FitsEight e.moment
  pub method : IsShort e.message.method
  pub target : IsShort e.message.target
  pub body : IsShort e.message.body
  pub status : FitsFour e.status
  pub answer : IsShort e.answer
  pub closes : e.message.closes ≡ false

unfoldable pub entry_bytes : Entry → List ℕ
entry_bytes e = eight_bytes e.moment ++ text_bytes e.message.method ++ text_bytes e.message.target ++ text_bytes e.message.body ++ four_bytes e.status ++ text_bytes e.answer
