-- Two texts of digits are one number exactly where they are one text without the zeros at the front.
use Rattle.std.proofs.Common.{◌≡◌, ℕ, zero, suc, ◌+◌, ◌-◌, ◌*◌, ◌^◌, ◌<◌, ◌≤◌, ◌==◌, ◌&&◌, inl, inr, nat_lt, Bool, true, false, cond, List, [], ◌∷◌, length, bytes_eq, refl, sym, ap, ◌∙◌, arith}
use Rattle.std.specs.List.{list_all}
use Rattle.std.proofs.lemmas.Bool.{cases_lt, and_parts, eqb-true, eq-eqb}
use Rattle.std.proofs.lemmas.Slice.Eq.{bytes_eq-Decides}
use Rattle.std.proofs.lemmas.Bool.Decides.{nat_tests}
use Rattle.std.proofs.lemmas.Nat.{same_from_place}
use Rattle.std.proofs.Math.Nat.{pow-le-pow_right}
use Rattle.rtb_num.specs.Amounts.{is_digit, number_of}
use Rattle.rtb_num.proofs.Numbers.{number_cons, number_lt}
use Rattle.http_wire.specs.Numbers.{without_zeros}
use Rattle.http_wire.specs.Rules.{is_digits, spells}

same_digit : (c d : ℕ) → is_digit c ≡ true → is_digit d ≡ true → c - 48 ≡ d - 48 → c ≡ d
same_digit c d h k e = grind (arith, nat_tests)

pub same_length : (a b : List ℕ) → list_all is_digit a ≡ true → list_all is_digit b ≡ true → length a ≡ length b → number_of a ≡ number_of b → a ≡ b
same_length [] [] h k l e = refl
same_length [] (d ∷ b) h k l e = absurd (omega arith)
same_length (c ∷ a) [] h k l e = absurd (omega arith)
same_length (c ∷ a) (d ∷ b) h k l e =
    let p = and_parts (is_digit c) (list_all is_digit a) h in
    let q = and_parts (is_digit d) (list_all is_digit b) k in
    let long : length a ≡ length b = omega arith in
    let sum : (c - 48) * 10 ^ length a + number_of a ≡ (d - 48) * 10 ^ length a + number_of b =
    sym (number_cons c a) ∙ e ∙ number_cons d b ∙ ap (λ n. (d - 48) * 10 ^ n + number_of b) (sym long) in
    let less : number_of b < 10 ^ length a = rw long (number_lt b q.1) in
    let same = same_from_place (c - 48) (number_of a) (d - 48) (number_of b) (10 ^ length a) (number_lt a p.1) less sum in
    ap (λ x. x ∷ a) (same_digit c d p.0 q.0 same.0) ∙ ap (λ x. d ∷ x) (same_length a b p.1 q.1 long same.1)

abbrev Bare : List ℕ → Type 0
Bare [] = Unit {0}
Bare (c ∷ s) = (c == 48) ≡ false

bare_of : (c : ℕ) (s : List ℕ) → Bare (without_zeros s) → (t : Bool) → (c == 48) ≡ t → Bare (cond t (without_zeros s) (c ∷ s))
bare_of c s h true e = h
bare_of c s h false e = e

bare : (s : List ℕ) → Bare (without_zeros s)
bare [] = tt
bare (c ∷ s) = bare_of c s (bare s) (c == 48) refl

digits_of : (c : ℕ) (s : List ℕ) → list_all is_digit (c ∷ s) ≡ true → list_all is_digit (without_zeros s) ≡ true → (t : Bool) → list_all is_digit (cond t (without_zeros s) (c ∷ s)) ≡ true
digits_of c s h k true = k
digits_of c s h k false = h

still_digits : (s : List ℕ) → list_all is_digit s ≡ true → list_all is_digit (without_zeros s) ≡ true
still_digits [] h = refl
still_digits (c ∷ s) h = digits_of c s h (still_digits s (and_parts (is_digit c) (list_all is_digit s) h).1) (c == 48)

zero_more : (d p n : ℕ) → d ≡ 0 → n ≡ d * p + n
zero_more d p n e = rw e (omega arith)

worth_of : (c : ℕ) (s : List ℕ) → number_of (without_zeros s) ≡ number_of s → (t : Bool) → (c == 48) ≡ t → number_of (cond t (without_zeros s) (c ∷ s)) ≡ number_of (c ∷ s)
worth_of c s h true e = h ∙ zero_more (c - 48) (10 ^ length s) (number_of s) (ap (λ k. k - 48) (eqb-true c 48 e)) ∙ sym (number_cons c s)
worth_of c s h false e = refl

same_worth : (s : List ℕ) → number_of (without_zeros s) ≡ number_of s
same_worth [] = refl
same_worth (c ∷ s) = worth_of c s (same_worth s) (c == 48) refl

at_least_one : (d p n : ℕ) → 0 < d → p ≤ d * p + n
at_least_one zero p n h = absurd (omega arith)
at_least_one (suc d) p n h = omega arith

above_zero : (c : ℕ) → is_digit c ≡ true → (c == 48) ≡ false → 0 < c - 48
above_zero c h z = grind (arith, nat_tests)

-- digits that do not begin with a zero spell no less than the power of ten of the places behind the first
high : (c : ℕ) (s : List ℕ) → is_digit c ≡ true → (c == 48) ≡ false → 10 ^ length s ≤ number_of (c ∷ s)
high c s h z = rw number_cons (at_least_one (c - 48) (10 ^ length s) (number_of s) (above_zero c h z))

longer : (a b : List ℕ) → list_all is_digit a ≡ true → list_all is_digit b ≡ true → Bare b → length a < length b → number_of a < number_of b
longer a [] h k z l = absurd (omega arith)
longer a (d ∷ b) h k z l =
    let ten : 0 < 10 = omega arith in
    let short : length a ≤ length b = omega arith in
    let power : 10 ^ length a ≤ 10 ^ length b = pow-le-pow_right ten short in
    let most = number_lt a h in
    let least = high d b (and_parts (is_digit d) (list_all is_digit b) k).0 z in
    omega arith

pub one_number : (a b : List ℕ) → list_all is_digit a ≡ true → list_all is_digit b ≡ true → number_of a ≡ number_of b → without_zeros a ≡ without_zeros b
one_number a b h k e =
    let x = without_zeros a in
    let y = without_zeros b in
    let hx : list_all is_digit x ≡ true = still_digits a h in
    let hy : list_all is_digit y ≡ true = still_digits b k in
    let same : number_of x ≡ number_of y = same_worth a ∙ e ∙ sym (same_worth b) in
    elim (cases_lt (length x) (length y)) [
      | inl less ↦ absurd (omega (arith, longer x y hx hy (bare b) less, same))
      | inr more ↦ elim (cases_lt (length y) (length x)) [
        | inl less ↦ absurd (omega (arith, longer y x hy hx (bare a) less, same))
        | inr other ↦ same_length x y hx hy (omega arith) same
      ]
    ]

bool_same : (x y : Bool) → (x ≡ true → y ≡ true) → (y ≡ true → x ≡ true) → x ≡ y
bool_same true y f g = sym (f refl)
bool_same false true f g = g refl
bool_same false false f g = refl

and_same : (t x y : Bool) → (t ≡ true → x ≡ y) → (t && x) ≡ (t && y)
and_same true x y f = f refl
and_same false x y f = refl

pub same_number : (a b : List ℕ) → is_digits a ≡ true → (is_digits b && bytes_eq (without_zeros a) (without_zeros b)) ≡ spells (number_of a) b
same_number a b h =
    and_same (is_digits b) (bytes_eq (without_zeros a) (without_zeros b)) (number_of b == number_of a)
    (λ k.
    let da : list_all is_digit a ≡ true = (and_parts (nat_lt 0 (length a)) (list_all is_digit a) h).1 in
    let db : list_all is_digit b ≡ true = (and_parts (nat_lt 0 (length b)) (list_all is_digit b) k).1 in
    let decides = bytes_eq-Decides (without_zeros a) (without_zeros b) in
    bool_same (bytes_eq (without_zeros a) (without_zeros b)) (number_of b == number_of a)
    (λ e. eq-eqb (number_of b) (number_of a) (sym (same_worth b) ∙ ap number_of (sym (decides.0 e)) ∙ same_worth a))
    (λ e. decides.1 (one_number a b da db (sym (eqb-true (number_of b) (number_of a) e)))))
