-- Candidates at the front that are known to be refused, and are passed where nobody else offers.
use Rattle.std.proofs.Common.{◌≡◌, ◌≤◌, ◌⊎◌, inl, inr, ◌+◌, ◌-◌, ◌++◌, ℕ, List, [], Bool, true, false, Some, ap, cond, eqb, length, drop, refl, sym, ◌∙◌, subst, arith}
use Rattle.std.specs.Prelude.{slice_get}
use Rattle.std.proofs.lemmas.Bool.{eqb-true}
use Rattle.std.proofs.lemmas.List.{nil_from_length}
use Rattle.clearing.specs.Candidates.{IsRefused, asked}
use Rattle.clearing.specs.declared.Offer.{Offer}
use Rattle.clearing.proofs.Fronts.{front_asked, fronts_joined}
use Rattle.auction_core.specs.Core.{CoreState}
use Rattle.auction_core.specs.Found.{may_be_sold}
use Rattle.auction_core.proofs.Falling.{still_refused}
use Rattle.plain_exchange.specs.Auction.{Award}
use Rattle.rtb_types.specs.declared.request.BidRequest.{BidRequest}

pub none_refused : (may : Offer → Bool) (cs : List Offer) → IsRefused may cs 0
none_refused may cs = (omega arith, refl)

-- those that are known, or none
pub passed : (may : Offer → Bool) (cs : List Offer) (known front : ℕ) (alone : Bool) → front ≡ cond alone known 0 → IsRefused may cs known → IsRefused may cs front
passed may cs known front true e h = subst (IsRefused may cs) (sym e) h
passed may cs known front false e h = subst (IsRefused may cs) (sym e) (none_refused may cs)

-- what is asked behind them is no more
pub no_dearer : (may : Offer → Bool) (others cs : List Offer) (known front : ℕ) (alone : Bool) → alone ≡ eqb (length others) 0 → front ≡ cond alone known 0 → IsRefused may cs known
    → asked may others (drop front cs) ≤ asked may others cs
no_dearer may others cs known front true a e h =
    let none : others ≡ [] = nil_from_length others (eqb-true (length others) 0 (sym a)) in
    subst (λ (os : List Offer). asked may os (drop front cs) ≤ asked may os cs) (sym none)
    (subst (λ (k : ℕ). asked may [] (drop k cs) ≤ asked may [] cs) (sym e) (front_asked may cs known h))
no_dearer may others cs known front false a e h = subst (λ (k : ℕ). asked may others (drop k cs) ≤ asked may others cs) (sym e) (omega arith)

-- what is known behind them
pub further : (may : Offer → Bool) (cs : List Offer) (known front more after : ℕ) (alone : Bool) → front ≡ cond alone known 0 → after ≡ cond alone (known + more) known → IsRefused may cs known → IsRefused may (drop front cs) more
    → IsRefused may cs after
further may cs known front more after true e a h g =
    subst (IsRefused may cs) (sym a) (fronts_joined may cs known more h (subst (λ (k : ℕ). IsRefused may (drop k cs) more) e g))
further may cs known front more after false e a h g = subst (IsRefused may cs) (sym a) h

-- ---- from one impression to the next

-- so many candidates of the impression before are refused
abbrev pub AreRefused : (Offer → Bool) → List (List Offer) → ℕ → ℕ → Type 0
AreRefused may found i known = (k : ℕ) (cs : List Offer) → i ≡ k + 1 → slice_get found k ≡ Some cs → IsRefused may cs known

pub carried : (may : Offer → Bool) (found : List (List Offer)) (i known start : ℕ) (cs : List Offer) → (start ≡ 0) ⊎ ((start ≡ known) × (1 ≤ i) × (slice_get found i ≡ slice_get found (i - 1)))
    → AreRefused may found i known → slice_get found i ≡ Some cs → IsRefused may cs start
carried may found i known start cs (inl e) h has = subst (IsRefused may cs) (sym e) (none_refused may cs)
carried may found i known start cs (inr (e, least, same)) h has =
    let last : i ≡ (i - 1) + 1 = omega (arith, least) in
    subst (IsRefused may cs) (sym e) (h (i - 1) cs last (sym same ∙ has))

pub carried_on : (core : CoreState) (touched : List ℕ) (r : BidRequest) (m : ℕ) (awards before after more : List Award) (found : List (List Offer)) (i known : ℕ) → awards ≡ before → after ≡ before ++ more
    → ((cs : List Offer) → slice_get found i ≡ Some cs → IsRefused (may_be_sold core touched r m awards) cs known) → AreRefused (may_be_sold core touched r m after) found (i + 1) known
carried_on core touched r m awards before after more found i known e f h = λ k cs last has.
    let same : k ≡ i = omega (arith, last) in
    let here = h cs (subst (λ (j : ℕ). slice_get found j ≡ Some cs) same has) in
    subst (λ (ds : List Award). IsRefused (may_be_sold core touched r m ds) cs known) (ap (λ (ds : List Award). ds ++ more) e ∙ sym f) (still_refused core touched r m awards more cs known here)
