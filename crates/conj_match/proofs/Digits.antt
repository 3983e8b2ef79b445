-- The number of binary digits, and the bounds that skips have by it.
use Rattle.std.proofs.Common.{◌≡◌, ℕ, zero, suc, ◌+◌, ◌-◌, ◌*◌, ◌/◌, ◌^◌, ◌<◌, ◌≤◌, inl, inr, refl, arith}
use Rattle.std.proofs.Math.Nat.{pow-suc, mul-le-mul_right}
use Rattle.std.proofs.Math.Pow.{pow_mono}
use Rattle.std.proofs.lemmas.Bool.{cases_lt}
use Rattle.std.proofs.lemmas.Nat.{pow_pos}
use Rattle.conj_match.specs.Matching.{digits, halvings}

halvings_low : (t n e : ℕ) → n ≤ t → 2 ^ e ≤ n → e + 1 ≤ halvings t n
halvings_low zero n e le h = absurd (omega (arith, pow_pos e))
halvings_low (suc t) zero e le h = absurd (omega (arith, pow_pos e))
halvings_low (suc t) (suc n) zero le h = omega arith
halvings_low (suc t) (suc n) (suc e) le h =
    let half : 2 ^ e ≤ suc n / 2 = omega (arith, pow-suc 2 e) in
    let rest : e + 1 ≤ halvings t (suc n / 2) = halvings_low t (suc n / 2) e (omega arith) half in
    omega arith

halvings_high : (t n e : ℕ) → halvings t n ≡ e + 1 → 2 ^ e ≤ n
halvings_high zero n e h = absurd (omega arith)
halvings_high (suc t) zero e h = absurd (omega arith)
halvings_high (suc t) (suc n) zero h = omega arith
halvings_high (suc t) (suc n) (suc e) h =
    let rest : 2 ^ e ≤ suc n / 2 = halvings_high t (suc n / 2) e (omega arith) in
    omega (arith, pow-suc 2 e)

pub digits_low : (n e : ℕ) → 2 ^ e ≤ n → e + 1 ≤ digits n
unfolding digits
digits_low n e h = halvings_low n n e (omega arith) h

digits_high : (n e : ℕ) → digits n ≡ e + 1 → 2 ^ e ≤ n
unfolding digits
digits_high n e h = halvings_high n n e h

at_least : (d n m : ℕ) → d ≤ n → digits d ≡ m → m ≤ digits n
at_least d n zero le is = omega arith
at_least d n (suc e) le is =
    let low : 2 ^ e ≤ d = digits_high d e (omega arith) in
    let up : e + 1 ≤ digits n = digits_low n e (omega arith) in
    omega arith

-- a greater number has no fewer digits
pub digits_mono : (d n : ℕ) → d ≤ n → digits d ≤ digits n
digits_mono d n le = at_least d n (digits d) le refl

at_most : (n r m : ℕ) → digits n ≡ m → n < 2 * 2 ^ r → m ≤ r + 1
at_most n r zero is h = omega arith
at_most n r (suc e) is h =
    let low : 2 ^ e ≤ n = digits_high n e (omega arith) in
    elim (cases_lt e (suc r)) [
      | inl lt ↦ omega arith
      | inr ge ↦
          let up : 2 ^ suc r ≤ 2 ^ e = pow_mono ge in
          absurd (omega (arith, pow-suc 2 r))
    ]

pub digits_is : (n r : ℕ) → 2 ^ r ≤ n → n < 2 * 2 ^ r → r + 1 ≡ digits n
digits_is n r low high = omega (arith, digits_low n r low, at_most n r (digits n) refl high)

pub digits_none : (n : ℕ) → n ≡ 0 → 0 ≡ digits n
unfolding digits
digits_none zero h = refl
digits_none (suc n) h = absurd (omega arith)

-- a power of two is above its exponent
above_power : (m : ℕ) → m + 1 ≤ 2 ^ m
above_power zero = omega arith
above_power (suc m) =
    let rest = above_power m in
    omega (arith, pow-suc 2 m)

-- what a skip costs that looks up to 2 ^ m ahead and halves the interval
pub leapt : (m d t : ℕ) → 2 ^ m < d → t ≤ 2 * m + 2 → t ≤ 2 * d
leapt m d t far h = omega (arith, above_power m)

pub leapt_digits : (m d t : ℕ) → 2 ^ m < d → t ≤ 2 * m + 2 → t ≤ 2 * digits d + 2
leapt_digits m d t far h =
    let low : m + 1 ≤ digits d = digits_low d m (omega arith) in
    omega arith

-- half of an interval
pub halved_width : (w v c : ℕ) → 1 < w → v ≤ w - w / 2 → w ≤ 2 ^ c → (b : ℕ) × (c ≡ b + 1) × (v ≤ 2 ^ b)
halved_width w v zero some less h = absurd (omega arith)
halved_width w v (suc c) some less h = (c, omega arith, omega (arith, pow-suc 2 c))

pub one_skip_more : (i c : ℕ) → (i + 1) * c ≡ i * c + c
one_skip_more i c = omega arith

pub fewer_skips : (i n c : ℕ) → i < n → (i + 1) * c ≤ n * c
fewer_skips i n c h = mul-le-mul_right c (omega arith)
