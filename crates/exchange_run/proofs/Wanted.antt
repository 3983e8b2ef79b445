-- A campaign's target has no fault.
use Rattle.std.proofs.Common.{◌≡◌, ℕ, nat_le, nat_lt, List, [], length, true, false, Option, None, Some, refl, ap, subst, ◌∙◌, arith}
use Rattle.std.proofs.lemmas.Bool.Decides.{nat_tests}
use Rattle.target_expr.specs.declared.fault.ExprFault.{ExprFault}
use Rattle.target_expr.specs.declared.fault.ExprFault.TheVariants.{AttrTwice, EmptyList, Memory, NoConjunction, TooMany, UnknownAttr}
use Rattle.target_expr.specs.declared.pred.RawPred.{RawPred}
use Rattle.target_expr.specs.Kept.{IsFirstUnlessMemory, faults, keep}
use Rattle.exchange_run.specs.Exchange.{target_of}
use Rattle.exchange_run.specs.Making.{is_short, raw_target_of}

not_long : (n : ℕ) → nat_le n 255 ≡ true → nat_lt 255 n ≡ false
not_long n e = grind (arith, nat_tests)

pub faultless : (o : Option (List ℕ)) → is_short o ≡ true → faults (raw_target_of o) ≡ []
faultless None e = refl
faultless (Some domain) e = rw (not_long (length domain) e)

pub kept_as : (o : Option (List ℕ)) → keep (raw_target_of o) ≡ target_of o
kept_as None = refl
kept_as (Some domain) = refl

-- making the target answers nothing but want of memory
pub only_memory : (o : Option (List ℕ)) (raw : List (List RawPred)) (f : ExprFault) → is_short o ≡ true → raw ≡ raw_target_of o → IsFirstUnlessMemory (faults raw) f → f ≡ Memory
only_memory o raw f short e first = memory f (subst (λ fs. IsFirstUnlessMemory fs f) (ap faults e ∙ faultless o short) first)
  where
    memory : (f : ExprFault) → IsFirstUnlessMemory [] f → f ≡ Memory
    memory Memory h = refl
    memory NoConjunction h = cc
    memory (EmptyList i j) h = cc
    memory (AttrTwice i j) h = cc
    memory (TooMany i j) h = cc
    memory (UnknownAttr i j) h = cc
