-- A text without sign and without exponent is a number whose parts are its own.
use Rattle.std.proofs.Common.{◌≡◌, ℕ, ◌+◌, List, [], ◌∷◌, length, Bool, true, false, cond, not, ◌&&◌, ◌||◌, arith, sym, ◌∙◌, ap, refl, inl, inr, get_or, take, suc}
use Rattle.std.specs.List.{list_all, list_any, before_first, after_first, position_or_len, prefix_len}
use Rattle.std.proofs.lemmas.Bool.{and_parts, cases_lt, cases_Bool}
use Rattle.std.proofs.lemmas.Bool.Decides.{nat_tests}
use Rattle.std.proofs.lemmas.List.{take_all}
use Rattle.std.proofs.lemmas.List.Folds.{list_any-append}
use Rattle.std.proofs.lemmas.List.Sums.{split_at_first, passes_at_first}
use Rattle.rtb_num.specs.Amounts.{is_decimal, is_digit, is_point, digits_of, places_of, number_of}
use Rattle.rtb_num.specs.Numbers.{Number, number_in, is_number, is_minus, has_minus, without_minus, is_exponent_mark, decimal_part, exponent_part, up_by, down_by, is_exponent}
use Rattle.rtb_num.proofs.Points.{whole_digits, fraction_digits, none_before, none_after}

pub digit_no_mark : (c : ℕ) → is_digit c ≡ true → is_exponent_mark c ≡ false
digit_no_mark c h = grind (arith, nat_tests)

pub point_no_mark : (c : ℕ) → is_point c ≡ true → is_exponent_mark c ≡ false
point_no_mark c h = grind (arith, nat_tests)

pub digit_no_minus : (c : ℕ) → is_digit c ≡ true → is_minus c ≡ false
digit_no_minus c h = grind (arith, nat_tests)

point_no_minus : (c : ℕ) → is_point c ≡ true → is_minus c ≡ false
point_no_minus c h = grind (arith, nat_tests)

digits_no_mark : (s : List ℕ) → list_all is_digit s ≡ true → list_any is_exponent_mark s ≡ false
digits_no_mark [] h = refl
digits_no_mark (c ∷ s) h =
    let parts = and_parts (is_digit c) (list_all is_digit s) h in
    ap (λ b. b || list_any is_exponent_mark s) (digit_no_mark c parts.0) ∙ digits_no_mark s parts.1

no_mark : (t : List ℕ) → is_decimal t ≡ true → list_any is_exponent_mark t ≡ false
no_mark t h =
    elim (cases_lt (position_or_len is_point t) (length t)) [
      | inl some ↦ ap (list_any is_exponent_mark) (split_at_first is_point t 0 some)
          ∙ list_any-append is_exponent_mark (before_first is_point t) (get_or t (position_or_len is_point t) 0 ∷ after_first is_point t)
          ∙ all_false _ _ _ (digits_no_mark (before_first is_point t) (whole_digits t h)) (point_no_mark _ (passes_at_first is_point t 0 some)) (digits_no_mark (after_first is_point t) (fraction_digits t h))
      | inr none ↦ ap (list_any is_exponent_mark) (sym (take_all (position_or_len is_point t) t none)) ∙ digits_no_mark (before_first is_point t) (whole_digits t h)
    ]
  where
    all_false : (a b c : Bool) → a ≡ false → b ≡ false → c ≡ false → (a || (b || c)) ≡ false
    all_false a b c e f g = rw (e, f, g) refl

-- the first byte is a digit
no_minus : (t : List ℕ) → is_decimal t ≡ true → has_minus t ≡ false
no_minus [] h = refl
no_minus (c ∷ s) h =
    let n = prefix_len (λ x. not (is_point x)) s in
    elim (cases_Bool (is_point c)) [
      | inl point ↦ point_no_minus c point
      | inr other ↦ digit_no_minus c (first n (ap (λ b. list_all is_digit (take (cond (not b) (1 + n) 0) (c ∷ s))) (sym other) ∙ whole_digits (c ∷ s) h))
    ]
  where
    first : (n : ℕ) → list_all is_digit (take (1 + n) (c ∷ s)) ≡ true → is_digit c ≡ true
    first n e =
        let next : suc n ≡ 1 + n = omega arith in
        (and_parts (is_digit c) (list_all is_digit (take n s)) (ap (λ k. list_all is_digit (take k (c ∷ s))) next ∙ e)).0

unsigned : (t : List ℕ) → has_minus t ≡ false → without_minus t ≡ t
unsigned [] h = refl
unsigned (c ∷ s) h = ap (λ b. cond b s (c ∷ s)) h

whole_text : (t : List ℕ) → is_decimal t ≡ true → decimal_part t ≡ t
whole_text t h = ap (before_first is_exponent_mark) (unsigned t (no_minus t h)) ∙ none_before is_exponent_mark t (no_mark t h)

no_exponent : (t : List ℕ) → is_decimal t ≡ true → exponent_part t ≡ []
no_exponent t h = ap (after_first is_exponent_mark) (unsigned t (no_minus t h)) ∙ none_after is_exponent_mark t (no_mark t h)

pub decimal_is_number : (t : List ℕ) → is_decimal t ≡ true → is_number t ≡ true
decimal_is_number t h =
    ap (λ d. is_decimal d && (not (list_any is_exponent_mark (without_minus t)) || is_exponent (exponent_part t))) (whole_text t h)
    ∙ ap (λ b. b && (not (list_any is_exponent_mark (without_minus t)) || is_exponent (exponent_part t))) h
    ∙ ap (λ b. not b || is_exponent (exponent_part t)) (ap (list_any is_exponent_mark) (unsigned t (no_minus t h)) ∙ no_mark t h)

abbrev made : Bool → List ℕ → List ℕ → Number
made minus decimal exponent = record { minus = minus; digits = digits_of decimal; up = up_by exponent; down = places_of decimal + down_by exponent }

pub decimal_in : (t : List ℕ) → is_decimal t ≡ true → number_in t ≡ record { minus = false; digits = digits_of t; up = 0; down = places_of t }
unfolding number_in number_of
decimal_in t h =
    ap (λ b. made b (decimal_part t) (exponent_part t)) (no_minus t h)
    ∙ ap (λ d. made false d (exponent_part t)) (whole_text t h)
    ∙ ap (λ e. made false t e) (no_exponent t h)
    ∙ ap (λ k. record { minus = false; digits = digits_of t; up = 0; down = k }) (omega arith)
