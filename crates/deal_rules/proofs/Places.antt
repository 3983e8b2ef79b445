-- The impression at a place, and what is answered of it.
use Rattle.std.proofs.Common.{◌≡◌, ℕ, List, get_or, slice_get, Some, true, ap, ◌∙◌}
use Rattle.std.specs.Prelude.{Result, Ok, Err, IfOk, IsTrue}
use Rattle.std.specs.List.{list_all}
use Rattle.std.proofs.lemmas.Option.{get_or_from_slice_get}
use Rattle.clearing.specs.Clearing.{is_fit}
use Rattle.clearing.specs.declared.Offer.{Offer}
use Rattle.clearing.specs.declared.Terms.{Terms}

pub same_place : {X : Type 0} (xs ys : List X) (k : ℕ) (x y : X) → x ≡ get_or xs k x → xs ≡ ys → slice_get ys k ≡ Some y → x ≡ y
same_place xs ys k x y is same at = is ∙ ap (λ l. get_or l k x) same ∙ get_or_from_slice_get ys k y x at

-- offers that are those of a list that fits
pub fit_as_answered : {E : Type 0} (answer : Result (List Offer) E) (terms : List Terms) (offers : List Offer) → list_all (is_fit terms) offers ≡ true
    → IfOk answer (λ os. os ≡ offers) → IfOk answer (λ os. IsTrue (list_all (is_fit terms) os))
fit_as_answered (Ok os) terms offers fit same = ap (list_all (is_fit terms)) same ∙ fit
fit_as_answered (Err e) terms offers fit same = same
