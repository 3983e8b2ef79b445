-- What the code makes of a number's parts is what the number is worth in units.
use Rattle.std.proofs.Common.{◌≡◌, ℕ, ◌+◌, ◌-◌, ◌*◌, ◌/◌, ◌%◌, ◌^◌, ◌<◌, ◌≤◌, ◌⊎◌, ◌==◌, ◌&&◌, ◌||◌, List, [], ◌++◌, length, take, drop, min, Bool, true, false, not, arith, sym, ◌∙◌, ap, refl, inl, inr, length-append, length-take, append-nil}
use Rattle.std.specs.Prelude.{nat_lt}
use Rattle.std.specs.List.{list_all}
use Rattle.std.proofs.lemmas.Bool.{cases_lt}
use Rattle.std.proofs.lemmas.Bool.Decides.{nat_tests}
use Rattle.std.proofs.lemmas.List.{take_all, drop_all, take-append-le, drop-append-le}
use Rattle.std.proofs.lemmas.List.Folds.{list_all-append}
use Rattle.std.proofs.lemmas.Nat.{div-add-mod'}
use Rattle.std.proofs.Math.Seq.{take-append-add, drop-append-add}
use Rattle.std.proofs.Math.Nat.{zero-mul, zero-div, zero-mod, mul-pos}
use Rattle.rtb_num.specs.Amounts.{is_digit, number_of}
use Rattle.rtb_num.specs.Numbers.{Number, is_below_zero}
use Rattle.rtb_num.specs.Parts.{IsParted, units_of, is_finer}
use Rattle.rtb_num.proofs.Numbers.{number_append, pow_ten_pos}
use Rattle.rtb_num.proofs.Scaling.{capped_digits, capped_zeros, many_zeros, moved}

-- ---- two lists parted as one

both_taken : (w f a b : List ℕ) (n k : ℕ) → k ≡ min n (length w) → a ≡ take k w → b ≡ take (n - length a) f → a ++ b ≡ take n (w ++ f)
both_taken w f a b n k e g h =
    elim (cases_lt (length w) n) [
      | inl far ↦ (let a_is : a ≡ w = g ∙ take_all k w (omega arith) in
          let b_is : b ≡ take (n - length w) f = h ∙ ap (λ (s : List ℕ). take (n - length s) f) a_is in
          let whole : length w + (n - length w) ≡ n = omega arith in
          ap (λ s. s ++ b) a_is ∙ ap (λ s. w ++ s) b_is ∙ sym (take-append-add w f (n - length w)) ∙ ap (λ m. take m (w ++ f)) whole)
      | inr near ↦ (let k_is : k ≡ n = omega arith in
          let a_is : a ≡ take n w = g ∙ ap (λ m. take m w) k_is in
          let none : n - length a ≡ 0 = omega (arith, ap length a_is, length-take n w) in
          ap (λ s. a ++ s) (h ∙ ap (λ m. take m f) none) ∙ append-nil a ∙ a_is ∙ sym (take-append-le n w f near))
    ]

both_left : (w f a b c : List ℕ) (n k : ℕ) → k ≡ min n (length w) → a ≡ take k w → b ≡ drop k w → c ≡ drop (n - length a) f → b ++ c ≡ drop n (w ++ f)
both_left w f a b c n k e g h i =
    elim (cases_lt (length w) n) [
      | inl far ↦ (let a_is : a ≡ w = g ∙ take_all k w (omega arith) in
          let b_is : b ≡ [] = h ∙ drop_all k w (omega arith) in
          let c_is : c ≡ drop (n - length w) f = i ∙ ap (λ (s : List ℕ). drop (n - length s) f) a_is in
          let whole : length w + (n - length w) ≡ n = omega arith in
          ap (λ s. s ++ c) b_is ∙ c_is ∙ sym (drop-append-add w f (n - length w)) ∙ ap (λ m. drop m (w ++ f)) whole)
      | inr near ↦ (let k_is : k ≡ n = omega arith in
          let none : n - length a ≡ 0 = omega (arith, ap length g, length-take k w) in
          ap (λ s. s ++ c) (h ∙ ap (λ m. drop m w) k_is) ∙ ap (λ s. drop n w ++ s) (i ∙ ap (λ m. drop m f) none) ∙ sym (drop-append-le n w f near))
    ]

-- ---- powers that stop at the greatest number m

same_before : (m l places pu pd up down su before : ℕ) → l + 20 ≤ m → places ≤ 6 → up ≡ min pu m → down ≡ min pd m → (pu ≡ 0) ⊎ (pd ≤ l)
    → su ≡ min (up + places) m → before ≡ l - (down - su) → before ≡ l - (pd - (pu + places))
same_before m l places pu pd up down su before h few e f (inl none) g i = omega arith
same_before m l places pu pd up down su before h few e f (inr less) g i = omega arith

same_zeros : (m l places pu pd up down su added : ℕ) → l + 20 ≤ m → places ≤ 6 → up ≡ min pu m → down ≡ min pd m → (pu ≡ 0) ⊎ (pd ≤ l)
    → su ≡ min (up + places) m → added ≡ su - down → (added ≡ (pu + places) - pd) ⊎ ((13 ≤ added) × (13 ≤ (pu + places) - pd))
same_zeros m l places pu pd up down su scaled h few e f (inl none) g i = inl (omega arith)
same_zeros m l places pu pd up down su scaled h few e f (inr less) g i =
    elim (cases_lt m (pu + places)) [ inl more ↦ inr (omega arith, omega arith) | inr fits ↦ inl (omega arith) ]

with_zeros : (x y z : ℕ) → (y ≡ z) ⊎ ((13 ≤ y) × (13 ≤ z)) → min (x * 10 ^ y) 1000000000001 ≡ min (x * 10 ^ z) 1000000000001
with_zeros x y z (inl same) = ap (λ k. min (x * 10 ^ k) 1000000000001) same
with_zeros x y z (inr (p, q)) = many_zeros 1000000000001 13 y x (omega arith) p ∙ sym (many_zeros 1000000000001 13 z x (omega arith) q)

-- ---- something is there

none_there : (q r : ℕ) → q ≡ 0 → r ≡ 0 → (nat_lt 0 (min q 1000000000001) || not (r == 0)) ≡ false
none_there q r e f = rw (e, f) refl

units_there : (q r : ℕ) → 0 < q → (nat_lt 0 (min q 1000000000001) || not (r == 0)) ≡ true
units_there q r h = grind (arith, nat_tests)

rest_there : (q r : ℕ) → 0 < r → (nat_lt 0 (min q 1000000000001) || not (r == 0)) ≡ true
rest_there q r h = grind (arith, nat_tests)

not_zero : (n : ℕ) → 0 < n → true ≡ not (n == 0)
not_zero n h = grind (arith, nat_tests)

is_zero : (n : ℕ) → n ≡ 0 → false ≡ not (n == 0)
is_zero n e = rw e refl

some_there : (q r n : ℕ) → (n ≡ 0 → (q ≡ 0) × (r ≡ 0)) → (0 < n → (0 < q) ⊎ (0 < r)) → (nat_lt 0 (min q 1000000000001) || not (r == 0)) ≡ not (n == 0)
some_there q r n none some =
    elim (cases_lt 0 n) [
      | inl more ↦ elim (some more) [ inl units ↦ units_there q r units ∙ not_zero n more | inr rest ↦ rest_there q r rest ∙ not_zero n more ]
      | inr less ↦ (let zero_is : n ≡ 0 = omega arith in none_there q r (none zero_is).0 (none zero_is).1 ∙ is_zero n zero_is)
    ]

nothing : (n p q : ℕ) → n ≡ 0 → (n * p / q ≡ 0) × (n * p % q ≡ 0)
nothing n p q e =
    let zero_is : n * p ≡ 0 = ap (λ k. k * p) e ∙ zero-mul p in
    (ap (λ k. k / q) zero_is ∙ zero-div q, ap (λ k. k % q) zero_is ∙ zero-mod q)

something : (n q : ℕ) → 0 < n → (0 < n / q) ⊎ (0 < n % q)
something n q h =
    elim (cases_lt 0 (n / q)) [
      | inl units ↦ inl units
      | inr none ↦ (let less : n / q ≡ 0 = omega arith in
          let gone : n / q * q ≡ 0 = ap (λ k. k * q) less ∙ zero-mul q in
          inr (omega (arith, div-add-mod' n q, gone)))
    ]

pub sign_is : (n : Number) (places : ℕ) (minus : Bool) → minus ≡ n.minus → (minus && (nat_lt 0 (units_of n places) || is_finer n places)) ≡ is_below_zero n
unfolding units_of is_finer
sign_is n places minus e =
    ap (λ b. b && (nat_lt 0 (units_of n places) || is_finer n places)) e
    ∙ ap (λ b. n.minus && b) (some_there _ _ (number_of n.digits) (nothing (number_of n.digits) (10 ^ (n.up + places)) (10 ^ n.down)) (λ h. something (number_of n.digits * 10 ^ (n.up + places)) (10 ^ n.down) (mul-pos h (pow_ten_pos (n.up + places)))))

-- ---- the digits before the moved point and those behind it

-- What is read of a number: a and b of its digits before the moved point, and the rest behind it.
pub record IsRead (n : Number) (places : ℕ) (w f a b : List ℕ) (added before : ℕ) : Type 0 where
  pub digits : n.digits ≡ w ++ f
  pub are_digits : list_all is_digit (w ++ f) ≡ true
  pub front : a ++ b ≡ take before (w ++ f)
  pub at : before ≡ length (w ++ f) - (n.down - (n.up + places))
  pub behind : (added ≡ (n.up + places) - n.down) ⊎ ((13 ≤ added) × (13 ≤ (n.up + places) - n.down))

pub units_are : (n : Number) (places : ℕ) (w f a b : List ℕ) (added before u v r : ℕ) → IsRead n places w f a b added before
    → u ≡ min (0 * 10 ^ length a + number_of a) 1000000000001 → v ≡ min (u * 10 ^ length b + number_of b) 1000000000001 → r ≡ min (v * 10 ^ added) 1000000000001
    → r ≡ units_of n places
unfolding units_of
units_are n places w f a b added before u v r known e g h =
    let first : u ≡ min (number_of a) 1000000000001 = e ∙ ap (λ k. min k 1000000000001) (omega (arith, zero-mul (10 ^ length a))) in
    let both : v ≡ min (number_of (a ++ b)) 1000000000001 = capped_digits _ _ _ _ _ _ (pow_ten_pos (length b)) first g ∙ ap (λ k. min k 1000000000001) (sym (number_append a b)) in
    let scaled = (moved (w ++ f) (n.up + places) n.down before known.are_digits known.at).units in
    capped_zeros _ _ _ _ _ (pow_ten_pos added) both h
    ∙ with_zeros (number_of (a ++ b)) added _ known.behind
    ∙ ap (λ s. min (number_of s * 10 ^ ((n.up + places) - n.down)) 1000000000001) known.front
    ∙ ap (λ k. min k 1000000000001) (sym scaled)
    ∙ ap (λ s. min (number_of s * 10 ^ (n.up + places) / 10 ^ n.down) 1000000000001) (sym known.digits)

pub finer_is : (n : Number) (places : ℕ) (w f a b c d : List ℕ) (added before : ℕ) (z : Bool) → IsRead n places w f a b added before → c ++ d ≡ drop before (w ++ f)
    → z ≡ (list_all (λ x. x == 48) c && list_all (λ x. x == 48) d) → not z ≡ is_finer n places
unfolding is_finer
finer_is n places w f a b c d added before z known e g =
    let rest = (moved (w ++ f) (n.up + places) n.down before known.are_digits known.at).rest in
    ap not (g ∙ sym (list_all-append (λ x. x == 48) c d) ∙ ap (list_all (λ x. x == 48)) e ∙ sym rest)
    ∙ ap (λ s. not (number_of s * 10 ^ (n.up + places) % 10 ^ n.down == 0)) (sym known.digits)

-- The parts, and what the code makes of them: the digits before the moved point end after k digits
-- of the whole part.
pub record IsSplit (places : ℕ) (w f : List ℕ) (up down su added behind before k : ℕ) (a b c d : List ℕ) : Type 0 where
  pub few : places ≤ 6
  pub power : su ≡ min (up + places) (2 ^ 64 - 1)
  pub added_are : added ≡ su - down
  pub behind_are : behind ≡ down - su
  pub before_are : before ≡ length w + length f - behind
  pub at : k ≡ min before (length w)
  pub whole_front : a ≡ take k w
  pub whole_back : c ≡ drop k w
  pub fraction_front : b ≡ take (before - length a) f
  pub fraction_back : d ≡ drop (before - length a) f

pub read_is : (n : Number) (minus : Bool) (places : ℕ) (w f : List ℕ) (up down su added behind before k : ℕ) (a b c d : List ℕ) → IsParted n minus w f up down → IsSplit places w f up down su added behind before k a b c d
    → IsRead n places w f a b added before
read_is n minus places w f up down su added behind before k a b c d parts split =
    let near : length (w ++ f) + 20 ≤ 2 ^ 64 - 1 = omega (arith, length-append w f, parts.short) in
    let plain : (n.up ≡ 0) ⊎ (n.down ≤ length (w ++ f)) = elim parts.plain [ inl none ↦ inl none | inr same ↦ inr (omega (arith, same, length-append w f)) ] in
    let at : before ≡ length (w ++ f) - (down - su) = split.before_are ∙ omega (arith, split.behind_are, length-append w f) in
    record {
      digits = parts.digits;
      are_digits = parts.are_digits;
      front = both_taken w f a b before k split.at split.whole_front split.fraction_front;
      at = same_before (2 ^ 64 - 1) (length (w ++ f)) places n.up n.down up down su before near split.few parts.rises parts.falls plain split.power at;
      behind = same_zeros (2 ^ 64 - 1) (length (w ++ f)) places n.up n.down up down su added near split.few parts.rises parts.falls plain split.power split.added_are;
    }

pub rest_is : (places : ℕ) (w f : List ℕ) (up down su added behind before k : ℕ) (a b c d : List ℕ) → IsSplit places w f up down su added behind before k a b c d → c ++ d ≡ drop before (w ++ f)
rest_is places w f up down su added behind before k a b c d split = both_left w f a c d before k split.at split.whole_front split.whole_back split.fraction_back
