-- The innermost of what is open is the last in memory.
use Rattle.std.proofs.Common.{◌≡◌, ℕ, ◌-◌, List, [], ◌∷◌, IsTrue, length, drop, set, reverse, sym, ap, ◌∙◌, arith}
use Rattle.std.proofs.lemmas.List.{reverse-append, reverse-reverse, length-reverse, set_at}
use Rattle.json_out.specs.Writer.{is_open}
use Rattle.json_out.specs.declared.places.Place.{Place}

from_front : (zs : List Place) (n : ℕ) (p : Place) → n ≡ length zs - 1 → IsTrue (is_open zs) → reverse (set (reverse zs) n p) ≡ p ∷ drop 1 zs
from_front [] n p e open_ = cc
from_front (z ∷ zs) n p e open_ =
    ap (λ l. reverse (set l n p)) (reverse-append (z ∷ []) zs)
    ∙ ap reverse (set_at (reverse zs) z [] p n (omega (arith, length-reverse zs)))
    ∙ reverse-append (reverse zs) (p ∷ [])
    ∙ ap (λ l. p ∷ l) (reverse-reverse zs)

pub replaced : (xs : List Place) (n : ℕ) (p : Place) → n ≡ length xs - 1 → IsTrue (is_open (reverse xs)) → reverse (set xs n p) ≡ p ∷ drop 1 (reverse xs)
replaced xs n p e open_ = ap (λ l. reverse (set l n p)) (sym (reverse-reverse xs)) ∙ from_front (reverse xs) n p (omega (arith, length-reverse xs)) open_
