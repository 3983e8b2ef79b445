-- Clearing of candidates that stand in order and of which some may pay, beside offers that all may.
use Rattle.std.specs.Prelude.{ℕ, ◌≤◌, IsTrue, length, take, ◌+◌, ◌==◌, ◌&&◌, nat_le, not, min, max, List, [], ◌∷◌, Bool, true, false, Option, Some, suc, option_map, option_and_then, slice_get, if◌then◌else◌}
use Rattle.std.specs.List.{list_all}
use Rattle.std.specs.Option.{option_map_or}
use Rattle.clearing.specs.Clearing.{beats, greatest_bid, increment, rivals, winner}
use Rattle.clearing.specs.declared.Offer.{Offer}
use Rattle.clearing.specs.declared.PriceKind.{PriceKind}
use Rattle.clearing.specs.declared.PriceKind.TheVariants.{First, Second, Agreed}
use Rattle.clearing.specs.declared.Terms.{Terms}
use Rattle.clearing.specs.declared.Win.{Win}

-- the other does not beat it
abbrev pub stands_before : Offer → Offer → Bool
stands_before o other = not (beats other o)

-- none is beaten by one behind it
abbrev pub is_in_order : List Offer → Bool
is_in_order [] = true
is_in_order (o ∷ os) = list_all (stands_before o) os && is_in_order os

-- of another campaign in the same pool
abbrev pub is_rival : Offer → Offer → Bool
is_rival o other = (other.pool == o.pool) && not (other.campaign == o.campaign)

abbrev pub is_beaten_by : Option Offer → Offer → Bool
is_beaten_by best o = option_map_or (λ b. beats b o) best false

-- ---- the walk: the winner, with the candidates behind it, is the best of the others where that beats the candidate at
-- hand, else the candidate where it may pay

abbrev pub first_that_pays : (Offer → Bool) → Option Offer → List Offer → Option (Offer × List Offer)
first_that_pays may best [] = option_map (λ b. (b, [])) best
first_that_pays may best (o ∷ os) = if is_beaten_by best o then option_map (λ b. (b, o ∷ os)) best else (if may o then Some (o, os) else first_that_pays may best os)

-- how many at the front are asked and may not pay
abbrev pub refused_first : (Offer → Bool) → Option Offer → List Offer → ℕ
refused_first may best [] = 0
refused_first may best (o ∷ os) = if is_beaten_by best o then 0 else (if may o then 0 else suc (refused_first may best os))

-- so many at the front may not pay
abbrev pub IsRefused : (Offer → Bool) → List Offer → ℕ → Type 0
IsRefused may os k = (k ≤ length os) × IsTrue (list_all (λ o. not (may o)) (take k os))

-- its next bid, where one is known: that of the first of its rivals that may pay, where it is above
abbrev pub next_that_pays : (Offer → Bool) → Offer → ℕ → List Offer → ℕ
next_that_pays may w known [] = known
next_that_pays may w known (o ∷ os) = if is_rival w o then (if nat_le o.bid known then known else (if may o then o.bid else next_that_pays may w known os)) else next_that_pays may w known os

-- what a winner with that next bid pays
abbrev pub price_above : PriceKind → ℕ → ℕ → ℕ → ℕ
price_above First floor bid next = bid
price_above Second floor bid next = min bid (max floor (next + increment))
price_above Agreed floor bid next = floor

abbrev pub win_above : Offer → Terms → ℕ → Win
win_above o t next = record { campaign = o.campaign; pool = o.pool; price = price_above t.kind t.floor o.bid next }

abbrev pub win_at : (Offer → Bool) → List Offer → List Terms → Offer × List Offer → Option Win
win_at may others terms p = option_map (λ (t : Terms). win_above p.0 t (next_that_pays may p.0 (greatest_bid (rivals p.0 others)) p.1)) (slice_get terms p.0.pool)

abbrev pub walked : (Offer → Bool) → List Offer → List Offer → List Terms → Option Win
walked may others os terms = option_and_then (win_at may others terms) (first_that_pays may (winner others) os)

-- ---- how many candidates the walk asks

abbrev pub asked_for_next : (Offer → Bool) → Offer → ℕ → List Offer → ℕ
asked_for_next may w known [] = 0
asked_for_next may w known (o ∷ os) = if is_rival w o then (if nat_le o.bid known then 0 else (if may o then 1 else suc (asked_for_next may w known os))) else asked_for_next may w known os

abbrev pub asked_for_first : (Offer → Bool) → Option Offer → List Offer → ℕ
asked_for_first may best [] = 0
asked_for_first may best (o ∷ os) = if is_beaten_by best o then 0 else (if may o then 1 else suc (asked_for_first may best os))

abbrev pub asked : (Offer → Bool) → List Offer → List Offer → ℕ
asked may others os = asked_for_first may (winner others) os + option_map_or (λ (p : Offer × List Offer). asked_for_next may p.0 (greatest_bid (rivals p.0 others)) p.1) (first_that_pays may (winner others) os) 0

-- ---- the offers of a campaign of any form: its candidates where it may pay

abbrev pub offers_where : {P : Type 0} → (P → Bool) → (P → List Offer) → P → List Offer
offers_where pay cands p = if pay p then cands p else []
