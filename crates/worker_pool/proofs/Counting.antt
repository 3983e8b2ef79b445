-- The failed marks of some workers are not more than those of all.
use Rattle.std.proofs.Common.{◌≡◌, ℕ, zero, suc, ◌+◌, ◌<◌, ◌≤◌, ◌&&◌, cond, eqb, ne_eqb, Bool, true, false, List, [], ◌∷◌, ◌++◌, refl, ap, arith}
use Rattle.std.proofs.lemmas.Bool.{eqb-true}
use Rattle.exchange_state.proofs.Owning.{count_append, failed_append}
use Rattle.exchange_state.specs.declared.entries.Entry.{Entry}
use Rattle.exchange_state.specs.Views.{failed, failures, is_failure}

-- those of so many workers, from w on
abbrev pub failed_from : ℕ → ℕ → List Entry → ℕ
failed_from w zero l = 0
failed_from w (suc n) l = failed l w + failed_from (w + 1) n l

from_none : (w n : ℕ) → failed_from w n [] ≡ 0
from_none w zero = refl
from_none w (suc n) = let rest = from_none (w + 1) n in omega (arith, rest)

from_append : (w n : ℕ) (l m : List Entry) → failed_from w n (l ++ m) ≡ failed_from w n l + failed_from w n m
from_append w zero l m = refl
from_append w (suc n) l m = let here = failed_append w l m in let rest = from_append (w + 1) n l m in omega (arith, here, rest)

-- one entry is of one worker
one_other : (f : Bool) (v w : ℕ) → eqb v w ≡ false → 0 + cond (f && eqb v w) 1 0 ≡ 0
one_other true v w e = ap (λ (b : Bool). 0 + cond b 1 0) e
one_other false v w e = refl

from_below : (e : Entry) (w n : ℕ) → e.worker < w → failed_from w n (e ∷ []) ≡ 0
from_below e w zero lt = refl
from_below e w (suc n) lt =
    let here : failed (e ∷ []) w ≡ 0 = one_other (is_failure e.event) e.worker w (ne_eqb e.worker w (λ is. omega (arith, is, lt))) in
    let rest = from_below e (w + 1) n (omega (arith, lt)) in
    omega (arith, here, rest)

one_most : (f b : Bool) → 0 + cond (f && b) 1 0 ≤ 0 + cond f 1 0
one_most true true = omega arith
one_most true false = omega arith
one_most false b = omega arith

from_one : (e : Entry) (w n : ℕ) → failed_from w n (e ∷ []) ≤ failures (e ∷ [])
from_one e w zero = omega arith
from_one e w (suc n) = by_worker (eqb e.worker w) refl (from_one e (w + 1) n)
  where
    by_worker : (b : Bool) → eqb e.worker w ≡ b → failed_from (w + 1) n (e ∷ []) ≤ failures (e ∷ []) → failed_from w (suc n) (e ∷ []) ≤ failures (e ∷ [])
    by_worker true is rest =
        let here : failed (e ∷ []) w ≤ failures (e ∷ []) = one_most (is_failure e.event) (eqb e.worker w) in
        let same : e.worker ≡ w = eqb-true e.worker w is in
        let none : failed_from (w + 1) n (e ∷ []) ≡ 0 = from_below e (w + 1) n (omega (arith, same)) in
        omega (arith, here, none)
    by_worker false is rest =
        let here : failed (e ∷ []) w ≡ 0 = one_other (is_failure e.event) e.worker w is in
        omega (arith, here, rest)

pub from_all : (w n : ℕ) (l : List Entry) → failed_from w n l ≤ failures l
from_all w n [] = let none : failed_from w n [] ≡ 0 = from_none w n in omega (arith, none)
from_all w n (e ∷ l) =
    let parts : failed_from w n (e ∷ l) ≡ failed_from w n (e ∷ []) + failed_from w n l = from_append w n (e ∷ []) l in
    let both : failures (e ∷ l) ≡ failures (e ∷ []) + failures l = count_append (λ (x : Entry). is_failure x.event) (e ∷ []) l in
    let one = from_one e w n in
    let rest = from_all w n l in
    omega (arith, parts, both, one, rest)
