-- A written amount is a decimal text, and worth what was written.
use Rattle.std.proofs.Common.{◌≡◌, ℕ, zero, suc, ◌+◌, ◌-◌, ◌*◌, ◌/◌, ◌%◌, ◌^◌, ◌<◌, ◌==◌, List, [], ◌∷◌, ◌++◌, length, map, get_or, take, drop, Bool, true, false, not, ◌&&◌, ◌||◌, cond, decimal, arith, sym, ◌∙◌, ap, refl, subst, inl, inr, append-nil}
use Rattle.std.specs.List.{list_all, list_any, position_or_len, before_first, after_first}
use Rattle.std.specs.Int.Digits.{digits_of as digits_in, number_from_digits_after, AllBelowBase}
use Rattle.std.proofs.lemmas.Int.Digits.{all_below_base_digits_of, first_digits_of, number_digits_of}
use Rattle.std.proofs.lemmas.Fmt.{decimal_digit, decimal-digits_of}
use Rattle.std.proofs.lemmas.List.{length-map}
use Rattle.std.proofs.Math.Seq.{take-append_seam, drop-append-add}
use Rattle.std.proofs.Math.Bool.{or-true}
use Rattle.rtb_num.proofs.Points.{none_before, none_after}
use Rattle.std.proofs.lemmas.Bool.{and_parts, and_from, ne_eqb, eq-eqb, cases_eq}
use Rattle.std.proofs.lemmas.Bool.Decides.{nat_tests}
use Rattle.std.proofs.Math.Nat.{pow-suc, div-le_self, mod-lt}
use Rattle.std.proofs.lemmas.Nat.{div-add-mod'}
use Rattle.rtb_num.proofs.Numbers.{number_cons, number_none, number_append, pow_ten_pos}
use Rattle.rtb_num.proofs.Fractions.{no_more, more_at, digit_at}
use Rattle.rtb_num.specs.Amounts.{is_decimal, is_digit, is_point, is_whole_part, number_of, digits_of, places_of, fraction_digits, amount_text}

is_code : (d : ℕ) → d < 10 → is_digit (48 + d) ≡ true
is_code d h = grind (arith, nat_tests)

pub digit_no_point : (c : ℕ) → is_digit c ≡ true → is_point c ≡ false
digit_no_point c h = grind (arith, nat_tests)

codes_digits : (ds : List ℕ) → AllBelowBase 10 ds → list_all is_digit (map (λ d. 48 + d) ds) ≡ true
codes_digits [] h = refl
codes_digits (d ∷ ds) h = and_from (is_digit (48 + d)) (list_all is_digit (map (λ x. 48 + x) ds)) (is_code d h.0) (codes_digits ds h.1)

spell_step : (n d p q t m : ℕ) → t ≡ d * p + m → q ≡ p * 10 → (n * 10 + d) * p + m ≡ n * q + t
spell_step n d p q t m e f = rw (e, f) (omega arith)

-- the codes of digits spell what the digits do
code_cons : (d : ℕ) (s : List ℕ) → number_of ((48 + d) ∷ s) ≡ d * 10 ^ length s + number_of s
code_cons d s = let same : 48 + d - 48 ≡ d = omega arith in number_cons (48 + d) s ∙ ap (λ k. k * 10 ^ length s + number_of s) same

codes_spell : (n : ℕ) (ds : List ℕ) → number_from_digits_after 10 n ds ≡ n * 10 ^ length ds + number_of (map (λ d. 48 + d) ds)
codes_spell n [] = rw number_none (omega arith)
codes_spell n (d ∷ ds) =
    let s = map (λ x. 48 + x) ds in
    let same : 10 ^ length s ≡ 10 ^ length ds = ap (λ k. 10 ^ k) (length-map ds (λ x. 48 + x)) in
    codes_spell (n * 10 + d) ds ∙ spell_step n d (10 ^ length ds) (10 ^ suc (length ds)) _ (number_of s) (code_cons d s ∙ ap (λ p. d * p + number_of s) same) (pow-suc 10 (length ds))

-- what `decimal` writes
codes_whole : (ds : List ℕ) → AllBelowBase 10 ds → 0 < get_or ds 0 0 → is_whole_part (map (λ d. 48 + d) ds) ≡ true
codes_whole [] all first = absurd (omega arith)
codes_whole (d ∷ ds) all first =
    let s = map (λ x. 48 + x) ds in
    and_from (list_all is_digit ((48 + d) ∷ s)) (not (48 + d == 48) || length s == 0) (codes_digits (d ∷ ds) all) (ap (λ b. not b || length s == 0) (ne_eqb (48 + d) 48 (λ e. omega (arith, e))))

decimal_whole : (n : ℕ) → n < 2 ^ 64 → is_whole_part (decimal n) ≡ true
decimal_whole n h = elim (cases_eq n 0) [
  | inl none ↦ ap (λ m. is_whole_part (decimal m)) none ∙ ap is_whole_part (decimal_digit 0 (omega arith))
  | inr some ↦ (let more : 0 < n = omega arith in ap is_whole_part (decimal-digits_of n more h) ∙ codes_whole (digits_in 10 n) (all_below_base_digits_of 10 n (omega arith)) (first_digits_of 10 n (omega arith) more))
]

decimal_digits : (n : ℕ) → n < 2 ^ 64 → list_all is_digit (decimal n) ≡ true
decimal_digits n h = elim (cases_eq n 0) [
  | inl none ↦ ap (λ m. list_all is_digit (decimal m)) none ∙ ap (list_all is_digit) (decimal_digit 0 (omega arith))
  | inr some ↦ (let more : 0 < n = omega arith in ap (list_all is_digit) (decimal-digits_of n more h) ∙ codes_digits (digits_in 10 n) (all_below_base_digits_of 10 n (omega arith)))
]

decimal_spells : (n : ℕ) → n < 2 ^ 64 → number_of (decimal n) ≡ n
decimal_spells n h = elim (cases_eq n 0) [
  | inl none ↦ (let zero_is : number_of (48 ∷ []) ≡ 0 = code_cons 0 [] ∙ ap (λ k. 0 * 1 + k) number_none in ap (λ m. number_of (decimal m)) none ∙ ap number_of (decimal_digit 0 (omega arith)) ∙ zero_is ∙ sym none)
  | inr some ↦ (let more : 0 < n = omega arith in let spelt = codes_spell 0 (digits_in 10 n) in let same = number_digits_of 10 n (omega arith) in ap number_of (decimal-digits_of n more h) ∙ omega (arith, spelt, same))
]

-- the digits behind the point
fraction_are : (k r : ℕ) → r < 10 ^ k → list_all is_digit (fraction_digits k r) ≡ true
fraction_are zero r h = let none : r ≡ 0 = omega arith in ap (λ m. list_all is_digit (fraction_digits 0 m)) none ∙ ap (list_all is_digit) (no_more 0)
fraction_are (suc k) r h =
    let rest = fraction_digits k (r % 10 ^ k) in
    elim (cases_eq r 0) [
      | inl none ↦ ap (λ m. list_all is_digit (fraction_digits (suc k) m)) none ∙ ap (list_all is_digit) (no_more (suc k))
      | inr some ↦ ap (list_all is_digit) (more_at k r (omega arith)) ∙ and_from (is_digit (48 + r / 10 ^ k)) (list_all is_digit rest) (is_code (r / 10 ^ k) (digit_at k r h)) (fraction_are k (r % 10 ^ k) (mod-lt r (pow_ten_pos k)))
    ]

worth_step : (t q l n p s r v w : ℕ) → t ≡ q * l + n → v ≡ p * 10 → w ≡ l * 10 → r ≡ q * p + s → n * p ≡ s * l → t * v ≡ r * w
worth_step t q l n p s r v w e f g i h = rw (e, f, g, i) (omega (arith, h))

zero_worth : (r l n p : ℕ) → r ≡ 0 → n ≡ 0 → n * p ≡ r * l
zero_worth r l n p e f = rw (e, f) (omega arith)

none_spells : (k r : ℕ) → r ≡ 0 → number_of (fraction_digits k r) ≡ 0
none_spells k r e = ap (λ m. number_of (fraction_digits k m)) e ∙ ap number_of (no_more k) ∙ number_none

fraction_spells : (k r : ℕ) → r < 10 ^ k → number_of (fraction_digits k r) * 10 ^ k ≡ r * 10 ^ length (fraction_digits k r)
fraction_spells zero r h = let none : r ≡ 0 = omega arith in zero_worth r _ _ (10 ^ 0) none (none_spells 0 r none)
fraction_spells (suc k) r h =
    let q = r / 10 ^ k in
    let rest = r % 10 ^ k in
    let s = fraction_digits k rest in
    let before = fraction_spells k rest (mod-lt r (pow_ten_pos k)) in
    elim (cases_eq r 0) [
      | inl none ↦ zero_worth r _ _ (10 ^ suc k) none (none_spells (suc k) r none)
      | inr some ↦ (
          let more = more_at k r (omega arith) in
          worth_step _ q (10 ^ length s) (number_of s) (10 ^ k) rest r _ _ (ap number_of more ∙ code_cons q s) (pow-suc 10 k) (ap (λ (t : List ℕ). 10 ^ length t) more ∙ pow-suc 10 (length s)) (sym (div-add-mod' r (10 ^ k))) before)
    ]

-- where the point stands in digits, a point and more
no_point : (xs : List ℕ) → list_all is_digit xs ≡ true → list_any is_point xs ≡ false
no_point [] h = refl
no_point (c ∷ xs) h =
    let parts = and_parts (is_digit c) (list_all is_digit xs) h in
    ap (λ b. b || list_any is_point xs) (digit_no_point c parts.0) ∙ no_point xs parts.1

first_point : (xs ys : List ℕ) → list_all is_digit xs ≡ true → position_or_len is_point (xs ++ 46 ∷ ys) ≡ length xs
first_point [] ys h = refl
first_point (c ∷ xs) ys h =
    let parts = and_parts (is_digit c) (list_all is_digit xs) h in
    ap (λ b. cond (not b) (1 + position_or_len is_point (xs ++ 46 ∷ ys)) 0) (digit_no_point c parts.0) ∙ omega (arith, first_point xs ys parts.1)

has_point : (xs ys : List ℕ) → list_any is_point (xs ++ 46 ∷ ys) ≡ true
has_point [] ys = refl
has_point (c ∷ xs) ys = ap (λ b. is_point c || b) (has_point xs ys) ∙ or-true (is_point c)

point_before : (xs ys : List ℕ) → list_all is_digit xs ≡ true → before_first is_point (xs ++ 46 ∷ ys) ≡ xs
point_before xs ys h = ap (λ k. take k (xs ++ 46 ∷ ys)) (first_point xs ys h) ∙ take-append_seam xs (46 ∷ ys)

point_after : (xs ys : List ℕ) → list_all is_digit xs ≡ true → after_first is_point (xs ++ 46 ∷ ys) ≡ ys
point_after xs ys h = ap (λ k. drop (k + 1) (xs ++ 46 ∷ ys)) (first_point xs ys h) ∙ drop-append-add xs (46 ∷ ys) 1

-- digits alone
abbrev test : List ℕ → Bool → List ℕ → Bool
test w b f = is_whole_part w && (not b || (list_all is_digit f && not (length f == 0)))

whole_decimal : (xs : List ℕ) → is_whole_part xs ≡ true → list_all is_digit xs ≡ true → is_decimal xs ≡ true
whole_decimal xs whole digits =
    let none = no_point xs digits in
    ap (λ w. test w (list_any is_point xs) (after_first is_point xs)) (none_before is_point xs none)
    ∙ ap (λ b. test xs b (after_first is_point xs)) none
    ∙ ap (λ b. b && true) whole

whole_worth : (xs : List ℕ) (n p : ℕ) → list_all is_digit xs ≡ true → number_of xs * p ≡ n → number_of (digits_of xs) * p ≡ n * 10 ^ places_of xs
whole_worth xs n p digits e =
    let none = none_after is_point xs (no_point xs digits) in
    let same : digits_of xs ≡ xs = ap (λ w. w ++ after_first is_point xs) (none_before is_point xs (no_point xs digits)) ∙ ap (λ f. xs ++ f) none ∙ append-nil xs in
    let one : 10 ^ places_of xs ≡ 1 = ap (λ (f : List ℕ). 10 ^ length f) none in
    ap (λ s. number_of s * p) same ∙ e ∙ omega (arith, ap (λ k. n * k) one)

-- digits, a point and digits
point_decimal : (xs ys : List ℕ) → is_whole_part xs ≡ true → list_all is_digit xs ≡ true → list_all is_digit ys ≡ true → 0 < length ys → is_decimal (xs ++ 46 ∷ ys) ≡ true
point_decimal xs ys whole digits more some =
    let t = xs ++ 46 ∷ ys in
    ap (λ w. test w (list_any is_point t) (after_first is_point t)) (point_before xs ys digits)
    ∙ ap (λ b. test xs b (after_first is_point t)) (has_point xs ys)
    ∙ ap (λ f. test xs true f) (point_after xs ys digits)
    ∙ ap (λ b. b && (list_all is_digit ys && not (length ys == 0))) whole
    ∙ ap (λ b. b && not (length ys == 0)) more
    ∙ ap not (ne_eqb (length ys) 0 (λ e. omega (arith, e)))

point_worth : (xs ys : List ℕ) (n p : ℕ) → list_all is_digit xs ≡ true → number_of (xs ++ ys) * p ≡ n * 10 ^ length ys → number_of (digits_of (xs ++ 46 ∷ ys)) * p ≡ n * 10 ^ places_of (xs ++ 46 ∷ ys)
point_worth xs ys n p digits e =
    let t = xs ++ 46 ∷ ys in
    let same : digits_of t ≡ xs ++ ys = ap (λ w. w ++ after_first is_point t) (point_before xs ys digits) ∙ ap (λ f. xs ++ f) (point_after xs ys digits) in
    ap (λ s. number_of s * p) same ∙ e ∙ ap (λ (f : List ℕ). n * 10 ^ length f) (sym (point_after xs ys digits))

-- the two forms of a written amount
text_whole : (k n : ℕ) → n % 10 ^ k ≡ 0 → amount_text k n ≡ decimal (n / 10 ^ k)
text_whole k n e = ap (λ b. decimal (n / 10 ^ k) ++ cond b [] (46 ∷ fraction_digits k (n % 10 ^ k))) (eq-eqb (n % 10 ^ k) 0 e) ∙ append-nil (decimal (n / 10 ^ k))

text_point : (k n : ℕ) → (n % 10 ^ k ≡ 0 → ⊥) → amount_text k n ≡ decimal (n / 10 ^ k) ++ 46 ∷ fraction_digits k (n % 10 ^ k)
text_point k n e = ap (λ b. decimal (n / 10 ^ k) ++ cond b [] (46 ∷ fraction_digits k (n % 10 ^ k))) (ne_eqb (n % 10 ^ k) 0 e)

some_digit : (k r : ℕ) → r < 10 ^ k → (r ≡ 0 → ⊥) → 0 < length (fraction_digits k r)
some_digit zero r h e = absurd (omega arith)
some_digit (suc k) r h e = let more = ap (λ (s : List ℕ). length s) (more_at k r (omega arith)) in omega (arith, more)

quotient_lt : (k n : ℕ) → n < 2 ^ 64 → n / 10 ^ k < 2 ^ 64
quotient_lt k n h = omega (arith, div-le_self n (10 ^ k))

pub written_decimal : (k n : ℕ) → n < 2 ^ 64 → is_decimal (amount_text k n) ≡ true
written_decimal k n h =
    let q = n / 10 ^ k in
    let r = n % 10 ^ k in
    let small = quotient_lt k n h in
    let left = mod-lt n (pow_ten_pos k) in
    elim (cases_eq r 0) [
      | inl none ↦ ap is_decimal (text_whole k n none) ∙ whole_decimal (decimal q) (decimal_whole q small) (decimal_digits q small)
      | inr some ↦ ap is_decimal (text_point k n some) ∙ point_decimal (decimal q) (fraction_digits k r) (decimal_whole q small) (decimal_digits q small) (fraction_are k r left) (some_digit k r left some)
    ]

worth_all : (q l f p n r t : ℕ) → t ≡ q * l + f → f * p ≡ r * l → n ≡ q * p + r → t * p ≡ n * l
worth_all q l f p n r t e h g = rw (e, g) (omega (arith, h))

pub written_worth : (k n : ℕ) → n < 2 ^ 64 → number_of (digits_of (amount_text k n)) * 10 ^ k ≡ n * 10 ^ places_of (amount_text k n)
written_worth k n h =
    let q = n / 10 ^ k in
    let r = n % 10 ^ k in
    let p = 10 ^ k in
    let s = fraction_digits k r in
    let small = quotient_lt k n h in
    let left = mod-lt n (pow_ten_pos k) in
    let digits = decimal_digits q small in
    let spelt = decimal_spells q small in
    let joined = div-add-mod' n (10 ^ k) in
    let Worth : List ℕ → Type 0 = λ t. number_of (digits_of t) * 10 ^ k ≡ n * 10 ^ places_of t in
    elim (cases_eq r 0) [
      | inl none ↦ subst Worth (sym (text_whole k n none)) (whole_worth (decimal q) n p digits (ap (λ m. m * p) spelt ∙ omega (arith, joined, none)))
      | inr some ↦ subst Worth (sym (text_point k n some)) (point_worth (decimal q) s n p digits (worth_all q (10 ^ length s) (number_of s) p n r _ (number_append (decimal q) s ∙ ap (λ m. m * 10 ^ length s + number_of s) spelt) (fraction_spells k r left) (sym joined)))
    ]
