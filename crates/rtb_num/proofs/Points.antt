-- A decimal text, and a number's text, in its two parts.
use Rattle.std.proofs.Common.{◌≡◌, ℕ, ◌+◌, ◌≤◌, ◌==◌, List, [], ◌∷◌, length, take, drop, length-take, length-drop, Bool, true, false, cond, not, ◌&&◌, ◌||◌, Some, None, position, arith, sym, ◌∙◌, ap, refl, inl, inr, ◌⊎◌}
use Rattle.std.proofs.lemmas.List.{take_all, drop_all}
use Rattle.std.specs.Prelude.{ltb}
use Rattle.std.specs.List.{list_all, list_any, position_or_len, before_first, after_first}
use Rattle.std.proofs.lemmas.Bool.{and_parts, or_cases, ltb-false, not-true}
use Rattle.std.proofs.lemmas.Bool.Decides.{nat_tests}
use Rattle.std.proofs.lemmas.Grind.{common_steps}
use Rattle.std.proofs.lemmas.List.Folds.{list_all-append}
use Rattle.rtb_num.specs.Amounts.{is_decimal, is_whole_part, is_digit, is_point, digits_of, number_of}
use Rattle.rtb_num.specs.Numbers.{is_number, is_exponent, is_exponent_mark, without_minus, without_sign, has_minus, is_minus, decimal_part, exponent_part, up_by, down_by}

any_found : (p : ℕ → Bool) (xs : List ℕ) → list_any p xs ≡ ltb (position_or_len p xs) (length xs)
any_found p [] = grind (arith, nat_tests, common_steps)
any_found p (x ∷ xs) =
    let later = any_found p xs in
    grind (arith, nat_tests, common_steps, later)

is_none : (b : Bool) (x : ℕ) → cond b (Some x) None ≡ None → b ≡ false
is_none true x h = cc
is_none false x h = refl

is_some : (b : Bool) (x i : ℕ) → cond b (Some x) None ≡ Some i → (b ≡ true) × (x ≡ i)
is_some true x i h = (refl, cc)
is_some false x i h = cc

-- where no byte passes, all of it stands before the first that does
past : (p : ℕ → Bool) (xs : List ℕ) → list_any p xs ≡ false → length xs ≤ position_or_len p xs
past p xs h = ltb-false _ _ (sym (any_found p xs) ∙ h)

none_any : (p : ℕ → Bool) (xs : List ℕ) → position p xs ≡ None → list_any p xs ≡ false
none_any p xs h = any_found p xs ∙ is_none _ _ h

pub none_before : (p : ℕ → Bool) (xs : List ℕ) → list_any p xs ≡ false → before_first p xs ≡ xs
none_before p xs h = take_all _ xs (past p xs h)

pub none_after : (p : ℕ → Bool) (xs : List ℕ) → list_any p xs ≡ false → after_first p xs ≡ []
none_after p xs h = let far = past p xs h in drop_all _ xs (omega arith)

-- where one does, it parts the text
some_any : (p : ℕ → Bool) (xs : List ℕ) (i : ℕ) → position p xs ≡ Some i → list_any p xs ≡ true
some_any p xs i h = any_found p xs ∙ (is_some _ _ i h).0

some_before : (p : ℕ → Bool) (xs : List ℕ) (i : ℕ) → position p xs ≡ Some i → before_first p xs ≡ take i xs
some_before p xs i h = ap (λ k. take k xs) (is_some _ _ i h).1

some_after : (p : ℕ → Bool) (xs : List ℕ) (i : ℕ) → position p xs ≡ Some i → after_first p xs ≡ drop (i + 1) xs
some_after p xs i h = ap (λ k. drop (k + 1) xs) (is_some _ _ i h).1

-- a form in two parts, where the second may be missing
abbrev in_two : (ℕ → Bool) → (List ℕ → Bool) → (List ℕ → Bool) → List ℕ → Bool
in_two p a b t = a (before_first p t) && (not (list_any p t) || b (after_first p t))

-- its parts as arguments
abbrev parts_test : (List ℕ → Bool) → (List ℕ → Bool) → List ℕ → Bool → List ℕ → Bool
parts_test a b w some f = a w && (not some || b f)

and_yes : (b : Bool) → b ≡ (b && true)
and_yes true = refl
and_yes false = refl

two_none : (p : ℕ → Bool) (a b : List ℕ → Bool) (t : List ℕ) → position p t ≡ None → a t ≡ in_two p a b t
two_none p a b t h =
    let none = none_any p t h in
    and_yes (a t)
    ∙ ap (λ w. parts_test a b w false (after_first p t)) (sym (none_before p t none))
    ∙ ap (λ c. parts_test a b (before_first p t) c (after_first p t)) (sym none)

two_some : (p : ℕ → Bool) (a b : List ℕ → Bool) (t : List ℕ) (i : ℕ) → position p t ≡ Some i → (a (take i t) && b (drop (i + 1) t)) ≡ in_two p a b t
two_some p a b t i h =
    ap (λ w. parts_test a b w true (drop (i + 1) t)) (sym (some_before p t i h))
    ∙ ap (λ f. parts_test a b (before_first p t) true f) (sym (some_after p t i h))
    ∙ ap (λ c. parts_test a b (before_first p t) c (after_first p t)) (sym (some_any p t i h))

two_first : (p : ℕ → Bool) (a b : List ℕ → Bool) (t : List ℕ) → in_two p a b t ≡ true → a (before_first p t) ≡ true
two_first p a b t h = (and_parts (a (before_first p t)) (not (list_any p t) || b (after_first p t)) h).0

two_second : (p : ℕ → Bool) (a b : List ℕ → Bool) (t : List ℕ) → in_two p a b t ≡ true → (after_first p t ≡ []) ⊎ (b (after_first p t) ≡ true)
two_second p a b t h =
    elim (or_cases (not (list_any p t)) (b (after_first p t)) (and_parts (a (before_first p t)) (not (list_any p t) || b (after_first p t)) h).1) [
      | inl none ↦ inl (none_after p t (not-true (list_any p t) none))
      | inr some ↦ inr some
    ]

-- behind the point
abbrev is_fraction : List ℕ → Bool
is_fraction f = list_all is_digit f && not (length f == 0)

pub decimal_none : (t : List ℕ) → position is_point t ≡ None → is_whole_part t ≡ is_decimal t
decimal_none t h = two_none is_point is_whole_part is_fraction t h

pub decimal_some : (t : List ℕ) (i : ℕ) → position is_point t ≡ Some i → (is_whole_part (take i t) && (list_all is_digit (drop (i + 1) t) && not (length (drop (i + 1) t) == 0))) ≡ is_decimal t
decimal_some t i h = two_some is_point is_whole_part is_fraction t i h

pub number_none : (t : List ℕ) → position is_exponent_mark (without_minus t) ≡ None → is_decimal (without_minus t) ≡ is_number t
number_none t h = two_none is_exponent_mark is_decimal is_exponent (without_minus t) h

pub number_some : (t : List ℕ) (i : ℕ) → position is_exponent_mark (without_minus t) ≡ Some i → (is_decimal (take i (without_minus t)) && is_exponent (drop (i + 1) (without_minus t))) ≡ is_number t
number_some t i h = two_some is_exponent_mark is_decimal is_exponent (without_minus t) i h

whole_are : (s : List ℕ) → is_whole_part s ≡ true → list_all is_digit s ≡ true
whole_are [] h = cc
whole_are (c ∷ s) h = (and_parts (list_all is_digit (c ∷ s)) (not (c == 48) || length s == 0) h).0

pub whole_digits : (t : List ℕ) → is_decimal t ≡ true → list_all is_digit (before_first is_point t) ≡ true
whole_digits t h = whole_are (before_first is_point t) (two_first is_point is_whole_part is_fraction t h)

pub fraction_digits : (t : List ℕ) → is_decimal t ≡ true → list_all is_digit (after_first is_point t) ≡ true
fraction_digits t h =
    elim (two_second is_point is_whole_part is_fraction t h) [
      | inl none ↦ ap (list_all is_digit) none
      | inr some ↦ (and_parts (list_all is_digit (after_first is_point t)) (not (length (after_first is_point t) == 0)) some).0
    ]

pub decimal_digits : (t : List ℕ) → is_decimal t ≡ true → list_all is_digit (digits_of t) ≡ true
decimal_digits t h = list_all-append is_digit (before_first is_point t) (after_first is_point t) ∙ ap (λ b. b && list_all is_digit (after_first is_point t)) (whole_digits t h) ∙ fraction_digits t h

pub number_decimal : (t : List ℕ) → is_number t ≡ true → is_decimal (decimal_part t) ≡ true
number_decimal t h = two_first is_exponent_mark is_decimal is_exponent (without_minus t) h

pub exponent_digits : (t : List ℕ) → is_number t ≡ true → list_all is_digit (without_sign (exponent_part t)) ≡ true
exponent_digits t h =
    elim (two_second is_exponent_mark is_decimal is_exponent (without_minus t) h) [
      | inl none ↦ ap (λ s. list_all is_digit (without_sign s)) none
      | inr some ↦ (and_parts (list_all is_digit (without_sign (exponent_part t))) (not (length (without_sign (exponent_part t)) == 0)) some).0
    ]

-- the parts are no longer than the whole
pub parts_short : (p : ℕ → Bool) (t : List ℕ) → length (before_first p t) + length (after_first p t) ≤ length t
parts_short p t = omega (arith, length-take (position_or_len p t) t, length-drop (position_or_len p t + 1) t)

pub unsigned_short : (t : List ℕ) → length (without_minus t) ≤ length t
unsigned_short [] = omega arith
unsigned_short (c ∷ s) = by_sign (is_minus c) c s
  where
    by_sign : (b : Bool) (c : ℕ) (s : List ℕ) → length (cond b s (c ∷ s)) ≤ length (c ∷ s)
    by_sign true c s = omega arith
    by_sign false c s = omega arith

-- the exponent counts either up or down
pub one_way : (part : List ℕ) → (up_by part ≡ 0) ⊎ (down_by part ≡ 0)
one_way part = by_minus (has_minus part) (number_of (without_sign part))
  where
    by_minus : (b : Bool) (n : ℕ) → (cond b 0 n ≡ 0) ⊎ (cond b n 0 ≡ 0)
    by_minus true n = inl refl
    by_minus false n = inr refl
