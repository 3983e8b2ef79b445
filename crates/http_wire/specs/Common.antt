-- How the code writes a common answer. Private: only the crate's own functions cite this file.
use Rattle.std.specs.Prelude.{ℕ, ◌++◌, nat_lt, if◌then◌else◌, List, codes}
use Rattle.http_wire.specs.Answers.{crlf}

-- what an answer with a body begins with, up to its length
unfoldable pub common_front : List ℕ
common_front = codes "HTTP/1.1 200 OK" ++ crlf ++ codes "Content-Type: application/json" ++ crlf ++ codes "Content-Length: "

-- an answer without a body
unfoldable pub bare_text : List ℕ
bare_text = codes "HTTP/1.1 204 No Content" ++ crlf ++ crlf

-- how many of four digits are zeros at the front of a number of two digits at least
abbrev pub zeros_before : ℕ → ℕ
zeros_before n = if nat_lt n 100 then 2 else (if nat_lt n 1000 then 1 else 0)
