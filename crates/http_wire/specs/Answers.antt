-- How an answer is written (RFC 9112, sections 2.1, 4 and 6.3; RFC 9110, sections 8.6, 10.2.1 and 15).
use Rattle.std.specs.Prelude.{◌≡◌, ℕ, ◌==◌, not, Bool, true, false, if◌then◌else◌, List, [], ◌∷◌, ◌++◌, length, codes, decimal, IsTrue}
use Rattle.std.specs.List.{list_any}
use Rattle.http_wire.specs.declared.answer.Allow.{Allow}
use Rattle.http_wire.specs.declared.answer.Allow.TheVariants as allow
use Rattle.http_wire.specs.declared.answer.Answer.{Answer}

abbrev pub crlf : List ℕ
crlf = 13 ∷ 10 ∷ []

-- RFC 9110, section 15, and RFC 6585, section 5: the code and the reason
unfoldable pub status_text : ℕ → List ℕ
status_text n =
    if n == 200 then codes "200 OK"
    else (if n == 201 then codes "201 Created"
    else (if n == 204 then codes "204 No Content"
    else (if n == 400 then codes "400 Bad Request"
    else (if n == 403 then codes "403 Forbidden"
    else (if n == 404 then codes "404 Not Found"
    else (if n == 405 then codes "405 Method Not Allowed"
    else (if n == 409 then codes "409 Conflict"
    else (if n == 410 then codes "410 Gone"
    else (if n == 413 then codes "413 Content Too Large"
    else (if n == 415 then codes "415 Unsupported Media Type"
    else (if n == 431 then codes "431 Request Header Fields Too Large"
    else (if n == 500 then codes "500 Internal Server Error"
    else (if n == 501 then codes "501 Not Implemented"
    else (if n == 503 then codes "503 Service Unavailable" else []))))))))))))))

-- the statuses that have a reason
abbrev pub statuses : List ℕ
statuses = 200 ∷ 201 ∷ 204 ∷ 400 ∷ 403 ∷ 404 ∷ 405 ∷ 409 ∷ 410 ∷ 413 ∷ 415 ∷ 431 ∷ 500 ∷ 501 ∷ 503 ∷ []

abbrev pub status_line : ℕ → List ℕ
status_line n = codes "HTTP/1.1 " ++ status_text n ++ crlf

-- RFC 9110, section 10.2.1
abbrev pub allow_line : Allow → List ℕ
allow_line allow.None = []
allow_line allow.Post = codes "Allow: POST" ++ crlf
allow_line allow.GetPost = codes "Allow: GET, POST" ++ crlf

abbrev pub type_line : List ℕ → List ℕ
type_line [] = []
type_line (b ∷ s) = codes "Content-Type: application/json" ++ crlf

-- RFC 9110, section 8.6: an answer of 204 has no length
abbrev pub length_line : ℕ → List ℕ → List ℕ
length_line status body = if status == 204 then [] else codes "Content-Length: " ++ decimal (length body) ++ crlf

-- RFC 9112, section 9.6
abbrev pub close_line : Bool → List ℕ
close_line closes = if closes then codes "Connection: close" ++ crlf else []

unfoldable pub answer_text : Answer → Bool → List ℕ
answer_text answer closes =
    status_line answer.status ++ allow_line answer.allow ++ type_line answer.body ++ length_line answer.status answer.body ++ close_line closes ++ crlf ++ answer.body

abbrev pub is_allow_none : Allow → Bool
is_allow_none allow.None = true
is_allow_none allow.Post = false
is_allow_none allow.GetPost = false

-- what can be written: a status with a reason, the methods at 405 alone, and no body at 204 and 405
pub record IsWritable (answer : Answer) : Type 0 where
  pub status : IsTrue (list_any (λ n. n == answer.status) statuses)
  pub allow : is_allow_none answer.allow ≡ not (answer.status == 405)
  pub no_content : answer.status ≡ 204 → answer.body ≡ []
  pub not_allowed : answer.status ≡ 405 → answer.body ≡ []

-- RFC 9110, section 15.6: what is sent where memory is refused, or where the store failed
abbrev pub error_body : List ℕ → List ℕ
error_body word = codes "{\"error\":\"" ++ word ++ codes "\"}"

abbrev pub error_answer : ℕ → List ℕ → Answer
error_answer status word = record { status = status; allow = allow.None; body = error_body word }

-- late : the message has an entry
abbrev pub memory_answer : Bool → Answer
memory_answer late = error_answer 503 (if late then codes "memory-late" else codes "memory")

abbrev pub store_failed_answer : Answer
store_failed_answer = error_answer 500 (codes "store-failed")
