-- The number 0 in a path: how many sales stay.
use Rattle.std.proofs.Common.{◌≡◌, ℕ, List, [], ◌∷◌, Option, Some, None, arith, refl, subst, sym, true}
use Rattle.std.specs.Prelude.{if◌then◌else◌, nat_le}
use Rattle.std.specs.Str.{bytes_eq}
use Rattle.std.specs.Cmp.Lexicographic.{bytes_decides}
use Rattle.std.proofs.Math.Dec.{leb-zero}
use Rattle.rtb_num.specs.Amounts.{number_of}
use Rattle.rtb_num.proofs.Numbers.{number_cons, number_none}
use Rattle.command_read.specs.Numbers.{number_up_to}

zero_is : number_of (48 ∷ []) ≡ 0
zero_is = omega (arith, number_cons 48 [], number_none)

zero_fits : (n most : ℕ) → n ≡ 0 → ◌≡◌ {A = Option ℕ} (Some 0) (if nat_le n most then Some n else None)
zero_fits n most is = rw is (rw (leb-zero most) refl)

zero_read : (most : ℕ) → Some 0 ≡ number_up_to most (48 ∷ [])
zero_read most = zero_fits (number_of (48 ∷ [])) most zero_is

pub zero_kept : (most : ℕ) (text : List ℕ) → bytes_eq text (48 ∷ []) ≡ true → Some 0 ≡ number_up_to most text
zero_kept most text same = subst (λ t. Some 0 ≡ number_up_to most t) (sym ((bytes_decides text (48 ∷ [])).0 same)) (zero_read most)
