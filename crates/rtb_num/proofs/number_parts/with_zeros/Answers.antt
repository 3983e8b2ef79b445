use Rattle.std.proofs.Common.{◌≡◌, ◌*◌, ◌^◌, ◌-◌, ◌∙◌, ℕ, min, arith, ap, sym, inl, inr}
use Rattle.std.proofs.lemmas.Bool.{cases_lt}
use Rattle.rtb_num.proofs.Scaling.{many_zeros}
use Rattle.rtb_num.proofs.number_parts.with_zeros.Goals as goal

-- it stops where the numbers end, which is far above the greatest
stops : (n k p q r : ℕ) → k ≡ p → q ≡ min (n * k) (2 ^ 64 - 1) → r ≡ min q 1000000000001 → r ≡ min (n * p) 1000000000001
stops n k p q r e f g = let same : n * k ≡ n * p = ap (λ m. n * m) e in omega (arith, same, f, g)

few_zeros : (n z : ℕ) → min (n * 10 ^ min z 13) 1000000000001 ≡ min (n * 10 ^ z) 1000000000001
few_zeros n z =
    elim (cases_lt z 13) [
      | inl less ↦ (let same : min z 13 ≡ z = omega arith in ap (λ k. min (n * 10 ^ k) 1000000000001) same)
      | inr more ↦ (let same : min z 13 ≡ 13 = omega arith in ap (λ k. min (n * 10 ^ k) 1000000000001) same ∙ sym (many_zeros 1000000000001 13 z n (omega arith) more))
    ]

pub returns-clause-value : goal.returns-clause-value
returns-clause-value c = stops _ _ _ _ _ (c.pow-power.ensures ∙ ap (λ k. 10 ^ k) c.min.ensures) c.saturating_mul.ensures c.min-2.ensures ∙ few_zeros c.args.number c.args.zeros
