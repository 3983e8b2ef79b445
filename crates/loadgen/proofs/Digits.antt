-- The digits of small numbers, put into texts that have room for them.
use Rattle.std.proofs.Common.{◌≡◌, ℕ, ◌+◌, ◌*◌, ◌/◌, ◌%◌, ◌<◌, ◌==◌, List, [], ◌∷◌, ◌++◌, take, slice_set, codes, decimal, Bool, true, false, if◌then◌else◌, refl, sym, ap, ◌∙◌, arith, append_assoc}
use Rattle.std.proofs.lemmas.Bool.Decides.{nat_tests}
use Rattle.std.proofs.lemmas.Fmt.{decimal_digit}
use Rattle.rtb_num.specs.Amounts.{fraction_digits, micros_text}
use Rattle.loadgen.specs.Pieces.{country_text, floor_text}
use Rattle.loadgen.specs.Texts.{numbered, priced, system_of}

digit : (n d : ℕ) → n < 10 → d ≡ 48 + n → decimal n ≡ d ∷ []
digit n d h is = decimal_digit n h ∙ ap (λ b. b ∷ []) (sym is)

pub with_country : (country d : ℕ) (before : List ℕ) → country < 10 → d ≡ 48 + country
    → before ++ slice_set (codes ",\"banner\":{}}],\"device\":{\"geo\":{\"country\":\"c0\"}}}") 44 d ≡ before ++ country_text country ++ codes "}}"
unfolding numbered
with_country country d before h is =
    let text = λ (ds : List ℕ). codes ",\"banner\":{}}],\"device\":{\"geo\":{\"country\":\"c" ++ ds ++ codes "\"}" in
    sym (append_assoc before (text (d ∷ [])) (codes "}}")) ∙ ap (λ ds. before ++ text ds ++ codes "}}") (sym (digit country d h is))

pub with_both : (country system d e : ℕ) (before : List ℕ) → country < 10 → system < 10 → d ≡ 48 + country → e ≡ 48 + system
    → before ++ slice_set (slice_set (codes ",\"banner\":{}}],\"device\":{\"geo\":{\"country\":\"c0\"},\"os\":\"o0\"}}") 44 d) 55 e
    ≡ before ++ country_text country ++ system_of system ++ codes "}}"
unfolding numbered
with_both country system d e before h k is at =
    let first = λ (ds : List ℕ). codes ",\"banner\":{}}],\"device\":{\"geo\":{\"country\":\"c" ++ ds ++ codes "\"}" in
    let second = λ (ds : List ℕ). codes ",\"os\":\"o" ++ ds ++ codes "\"" in
    sym (append_assoc before (first (d ∷ []) ++ second (e ∷ [])) (codes "}}"))
    ∙ ap (λ l. l ++ codes "}}") (sym (append_assoc before (first (d ∷ [])) (second (e ∷ []))))
    ∙ ap (λ ds. before ++ first ds ++ second (e ∷ []) ++ codes "}}") (sym (digit country d h is))
    ∙ ap (λ ds. before ++ first (decimal country) ++ second ds ++ codes "}}") (sym (digit system e k at))

is_some : (m : ℕ) → 0 < m → (m == 0) ≡ false
is_some m h = grind (arith, nat_tests)

-- the digits of an amount below 1 stand behind the point
below_one : (m : ℕ) → 0 < m → m < 1000000 → micros_text m ≡ 48 ∷ 46 ∷ fraction_digits 6 m
below_one m some h =
    let text = λ (w r : ℕ). decimal w ++ (if r == 0 then [] else 46 ∷ fraction_digits 6 r) in
    let whole : m / 1000000 ≡ 0 = omega arith in
    let rest : m % 1000000 ≡ m = omega arith in
    ap (λ w. text w (m % 1000000)) whole
    ∙ ap (λ r. text 0 r) rest
    ∙ ap (λ w. w ++ (if m == 0 then [] else 46 ∷ fraction_digits 6 m)) (decimal_digit 0 (omega arith))
    ∙ ap (λ b. 48 ∷ (if b then [] else 46 ∷ fraction_digits 6 m)) (is_some m some)

first_digit : (m d r : ℕ) → m ≡ d * 100000 + r → r < 100000 → 0 < m → fraction_digits 6 m ≡ (48 + d) ∷ fraction_digits 5 r
unfolding fraction_digits
first_digit m d r is below some =
    let text = λ (none : Bool) (q s : ℕ). if none then [] else (48 + q) ∷ fraction_digits 5 s in
    let quotient : m / 100000 ≡ d = omega (arith, is) in
    let rest : m % 100000 ≡ r = omega (arith, is) in
    ap (λ b. text b (m / 100000) (m % 100000)) (is_some m some) ∙ ap (λ q. text false q (m % 100000)) quotient ∙ ap (λ s. text false d s) rest

last_digit : (m d : ℕ) → m ≡ d * 10000 → 0 < m → fraction_digits 5 m ≡ (48 + d) ∷ []
unfolding fraction_digits
last_digit m d is some =
    let text = λ (none : Bool) (q s : ℕ). if none then [] else (48 + q) ∷ fraction_digits 4 s in
    let quotient : m / 10000 ≡ d = omega (arith, is) in
    let rest : m % 10000 ≡ 0 = omega (arith, is) in
    ap (λ b. text b (m / 10000) (m % 10000)) (is_some m some) ∙ ap (λ q. text false q (m % 10000)) quotient ∙ ap (λ s. text false d s) rest

no_digit : fraction_digits 5 0 ≡ []
unfolding fraction_digits
no_digit = refl

no_cents : (c : ℕ) → c ≡ 0 → micros_text (10000 * c) ≡ 48 ∷ []
no_cents c is = ap (λ n. micros_text (10000 * n)) is ∙ ap (λ w. w ++ []) (decimal_digit 0 (omega arith))

whole_tens : (c d : ℕ) → 0 < c → c < 100 → c % 10 ≡ 0 → d ≡ 48 + c / 10 → micros_text (10000 * c) ≡ 48 ∷ 46 ∷ d ∷ []
whole_tens c d some h even is =
    below_one (10000 * c) (omega arith) (omega arith)
    ∙ ap (λ l. 48 ∷ 46 ∷ l) (first_digit (10000 * c) (c / 10) 0 (omega (arith, even)) (omega arith) (omega arith) ∙ ap (λ l. (48 + c / 10) ∷ l) no_digit)
    ∙ ap (λ b. 48 ∷ 46 ∷ b ∷ []) (sym is)

two_digits : (c d e : ℕ) → c < 100 → 0 < c % 10 → d ≡ 48 + c / 10 → e ≡ 48 + c % 10 → micros_text (10000 * c) ≡ 48 ∷ 46 ∷ d ∷ e ∷ []
two_digits c d e h odd is at =
    below_one (10000 * c) (omega (arith, odd)) (omega arith)
    ∙ ap (λ l. 48 ∷ 46 ∷ l) (
    first_digit (10000 * c) (c / 10) (10000 * (c % 10)) (omega arith) (omega arith) (omega (arith, odd))
    ∙ ap (λ l. (48 + c / 10) ∷ l) (last_digit (10000 * (c % 10)) (c % 10) (omega arith) (omega (arith, odd)))
    )
    ∙ ap (λ b. 48 ∷ 46 ∷ b ∷ (48 + c % 10) ∷ []) (sym is)
    ∙ ap (λ b. 48 ∷ 46 ∷ d ∷ b ∷ []) (sym at)

shown : (c d e : ℕ) (none even : Bool) → (c == 0) ≡ none → (c % 10 == 0) ≡ even → c < 100 → d ≡ 48 + c / 10 → e ≡ 48 + c % 10
    → take (if none then 31 else if even then 33 else 34) (slice_set (slice_set (codes "\",\"imp\":[{\"id\":\"1\",\"bidfloor\":0.00") 32 d) 33 e) ≡ codes "\"," ++ floor_text c
unfolding priced
shown c d e true even n t h is at = ap (λ l. codes "\",\"imp\":[{\"id\":\"1\",\"bidfloor\":" ++ l) (sym (no_cents c (grind (arith, nat_tests))))
shown c d e false true n t h is at =
    ap (λ l. codes "\",\"imp\":[{\"id\":\"1\",\"bidfloor\":" ++ l) (sym (whole_tens c d (grind (arith, nat_tests)) h (grind (arith, nat_tests)) is))
shown c d e false false n t h is at = ap (λ l. codes "\",\"imp\":[{\"id\":\"1\",\"bidfloor\":" ++ l) (sym (two_digits c d e h (grind (arith, nat_tests)) is at))

pub with_cents : (c d e n : ℕ) (before : List ℕ) → c < 100 → d ≡ 48 + c / 10 → e ≡ 48 + c % 10 → n ≡ (if c == 0 then 31 else if c % 10 == 0 then 33 else 34)
    → before ++ take n (slice_set (slice_set (codes "\",\"imp\":[{\"id\":\"1\",\"bidfloor\":0.00") 32 d) 33 e) ≡ before ++ codes "\"," ++ floor_text c
with_cents c d e n before h is at len =
    ap (λ k. before ++ take k (slice_set (slice_set (codes "\",\"imp\":[{\"id\":\"1\",\"bidfloor\":0.00") 32 d) 33 e)) len
    ∙ ap (λ l. before ++ l) (shown c d e (c == 0) (c % 10 == 0) refl refl h is at)
    ∙ sym (append_assoc before (codes "\",") (floor_text c))
