-- An item put in the list at a place, or in a list of its own.
use Rattle.std.proofs.Common.{◌≡◌, ℕ, zero, suc, ◌<◌, ◌≤◌, List, [], ◌∷◌, ◌++◌, map, length, get_or, set, ◌∙◌, ap, arith}
use Rattle.cnf_match.specs.Growing.{with_item}

pub put_there : {E V : Type 0} (f : V → List E) (ls : List V) (n : ℕ) (old new : V) (e : E)
    → n < length ls → old ≡ get_or ls n old → f new ≡ f old ++ e ∷ [] → map f (set ls n new) ≡ with_item (map f ls) n e
put_there f [] n old new e within is put = absurd (omega arith)
put_there f (l ∷ ls) zero old new e within is put = ap (λ x. x ∷ map f ls) (put ∙ ap (λ v. f v ++ e ∷ []) is)
put_there f (l ∷ ls) (suc n) old new e within is put = ap (λ x. f l ∷ x) (put_there f ls n old new e (omega arith) is put)

pub put_past : {E V : Type 0} (f : V → List E) (ls : List V) (n : ℕ) (new : V) (e : E) → length ls ≤ n → f new ≡ e ∷ [] → map f (ls ++ new ∷ []) ≡ with_item (map f ls) n e
put_past f [] n new e past put = ap (λ x. x ∷ []) put
put_past f (l ∷ ls) zero new e past put = absurd (omega arith)
put_past f (l ∷ ls) (suc n) new e past put = ap (λ x. f l ∷ x) (put_past f ls n new e (omega arith) put)
