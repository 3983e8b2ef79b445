-- A common answer is written in three pieces.
use Rattle.std.proofs.Common.{◌≡◌, ℕ, ◌+◌, ◌-◌, ◌/◌, ◌%◌, ◌<◌, ◌≤◌, nat_lt, inl, inr, Bool, false, cond, List, [], ◌∷◌, ◌++◌, length, take, drop, decimal, sym, ap, ◌∙◌, append_assoc, arith}
use Rattle.std.proofs.lemmas.Bool.{cases_Bool}
use Rattle.std.proofs.lemmas.Bool.Decides.{nat_tests}
use Rattle.std.proofs.lemmas.Fmt.{decimal_digit, decimal_step}
use Rattle.std.proofs.lemmas.List.{append-nil}
use Rattle.http_wire.specs.declared.answer.Allow.{Allow}
use Rattle.http_wire.specs.declared.answer.Allow.TheVariants as allow
use Rattle.http_wire.specs.declared.answer.Answer.{Answer}
use Rattle.http_wire.specs.Answers.{allow_line, answer_text, close_line, crlf, length_line, status_line, status_text, type_line}
use Rattle.http_wire.specs.Common.{bare_text, common_front, zeros_before}

-- the last four digits, and the ends of two lines
abbrev four : ℕ → List ℕ
four n = (48 + n / 1000 % 10) ∷ (48 + n / 100 % 10) ∷ (48 + n / 10 % 10) ∷ (48 + n % 10) ∷ crlf ++ crlf

-- eight bytes from the place on
abbrev from_place : ℕ → List ℕ → List ℕ
from_place z bytes = take (8 - z) (drop z bytes)

two_digits : (n : ℕ) → 10 ≤ n → n < 100 → decimal n ≡ (48 + n / 10 % 10) ∷ (48 + n % 10) ∷ []
two_digits n least most =
    let same : n / 10 ≡ n / 10 % 10 = omega arith in
    decimal_step n least (omega arith)
    ∙ ap (λ l. l ++ (48 + n % 10) ∷ []) (decimal_digit (n / 10) (omega arith) ∙ ap (λ d. (48 + d) ∷ []) same)

three_digits : (n : ℕ) → 100 ≤ n → n < 1000 → decimal n ≡ (48 + n / 100 % 10) ∷ (48 + n / 10 % 10) ∷ (48 + n % 10) ∷ []
three_digits n least most =
    let front = two_digits (n / 10) (omega arith) (omega arith) in
    let first : n / 10 / 10 ≡ n / 100 = omega arith in
    decimal_step n (omega arith) (omega arith)
    ∙ ap (λ l. l ++ (48 + n % 10) ∷ []) (front ∙ ap (λ d. (48 + d % 10) ∷ (48 + n / 10 % 10) ∷ []) first)

four_digits : (n : ℕ) → 1000 ≤ n → n < 10000 → decimal n ≡ (48 + n / 1000 % 10) ∷ (48 + n / 100 % 10) ∷ (48 + n / 10 % 10) ∷ (48 + n % 10) ∷ []
four_digits n least most =
    let front = three_digits (n / 10) (omega arith) (omega arith) in
    let first : n / 10 / 100 ≡ n / 1000 = omega arith in
    let second : n / 10 / 10 ≡ n / 100 = omega arith in
    let is = ap (λ d. (48 + d % 10) ∷ (48 + n / 10 / 10 % 10) ∷ (48 + n / 10 % 10) ∷ []) first
    ∙ ap (λ d. (48 + n / 1000 % 10) ∷ (48 + d % 10) ∷ (48 + n / 10 % 10) ∷ []) second in
    decimal_step n (omega arith) (omega arith) ∙ ap (λ l. l ++ (48 + n % 10) ∷ []) (front ∙ is)

written : (n : ℕ) → 10 ≤ n → n < 10000 → from_place (zeros_before n) (four n) ≡ decimal n ++ crlf ++ crlf
written n least most =
    elim (cases_Bool (nat_lt n 100)) [
      | inl few ↦ (
          let below : n < 100 = grind (arith, nat_tests) in
          ap (λ t. from_place (cond t 2 (cond (nat_lt n 1000) 1 0)) (four n)) few
          ∙ sym (ap (λ l. l ++ crlf ++ crlf) (two_digits n least below)))
      | inr more ↦ (
          let above : 100 ≤ n = grind (arith, nat_tests) in
          ap (λ t. from_place (cond t 2 (cond (nat_lt n 1000) 1 0)) (four n)) more ∙ longer above)
    ]
  where
    longer : 100 ≤ n → from_place (cond (nat_lt n 1000) 1 0) (four n) ≡ decimal n ++ crlf ++ crlf
    longer above =
        elim (cases_Bool (nat_lt n 1000)) [
          | inl few ↦ (
              let below : n < 1000 = grind (arith, nat_tests) in
              ap (λ t. from_place (cond t 1 0) (four n)) few
              ∙ sym (ap (λ l. l ++ crlf ++ crlf) (three_digits n above below)))
          | inr more ↦ (
              let many : 1000 ≤ n = grind (arith, nat_tests) in
              ap (λ t. from_place (cond t 1 0) (four n)) more
              ∙ sym (ap (λ l. l ++ crlf ++ crlf) (four_digits n many most)))
        ]

pub ended : (n a b c d z : ℕ) → 10 ≤ n → n < 10000
    → a ≡ 48 + n / 1000 % 10 → b ≡ 48 + n / 100 % 10 → c ≡ 48 + n / 10 % 10 → d ≡ 48 + n % 10 → z ≡ zeros_before n
    → take (8 - z) (drop z (a ∷ b ∷ c ∷ d ∷ crlf ++ crlf)) ≡ decimal n ++ crlf ++ crlf
ended n a b c d z least most p q r s t =
    (λ i. from_place (t i) (p i ∷ q i ∷ r i ∷ s i ∷ crlf ++ crlf)) ∙ written n least most

abbrev text : ℕ → Allow → List ℕ → Bool → List ℕ
text status methods body closes =
    status_line status ++ allow_line methods ++ type_line body ++ length_line status body ++ close_line closes ++ crlf ++ body

-- the front is there byte by byte, and what stands behind the length is grouped otherwise
some_body : (body : List ℕ) → 10 ≤ length body → text 200 allow.None body false ≡ common_front ++ (decimal (length body) ++ crlf ++ crlf) ++ body
unfolding status_text common_front
some_body [] some = absurd (omega (arith, some))
some_body (b ∷ s) some =
    ap (λ l. common_front ++ ((l ++ crlf) ++ (b ∷ s))) (append-nil (decimal (length (b ∷ s)) ++ crlf))

grouped : (o a b c : List ℕ) → o ++ a ++ b ++ c ≡ o ++ (a ++ b ++ c)
grouped o a b c = append_assoc (o ++ a) b c ∙ append_assoc o a (b ++ c) ∙ ap (λ l. o ++ l) (sym (append_assoc a b c))

pub is_common : (answer : Answer) (closes : Bool) (out : List ℕ)
    → answer.status ≡ 200 → answer.allow ≡ allow.None → closes ≡ false → 10 ≤ length answer.body
    → out ++ common_front ++ (decimal (length answer.body) ++ crlf ++ crlf) ++ answer.body ≡ out ++ answer_text answer closes
unfolding answer_text
is_common answer closes out status methods stays some =
    let same : answer_text answer closes ≡ text 200 allow.None answer.body false =
    ap (λ s. text s answer.allow answer.body closes) status ∙ ap (λ a. text 200 a answer.body closes) methods ∙ ap (λ c. text 200 allow.None answer.body c) stays in
    grouped out common_front (decimal (length answer.body) ++ crlf ++ crlf) answer.body
    ∙ sym (ap (λ l. out ++ l) (same ∙ some_body answer.body some))

pub is_bare : (answer : Answer) (closes : Bool) (out : List ℕ)
    → answer.status ≡ 204 → answer.allow ≡ allow.None → closes ≡ false → answer.body ≡ []
    → out ++ bare_text ≡ out ++ answer_text answer closes
unfolding answer_text status_text bare_text
is_bare answer closes out status methods stays none =
    let same : answer_text answer closes ≡ text 204 allow.None [] false =
    ap (λ s. text s answer.allow answer.body closes) status ∙ ap (λ a. text 204 a answer.body closes) methods
    ∙ ap (λ c. text 204 allow.None answer.body c) stays ∙ ap (λ b. text 204 allow.None b false) none in
    ap (λ l. out ++ l) (sym same)
