-- Chains of the sales to users. Each sale to a user says how far before it the last one stands at the same place of the
-- hashes of campaigns and users.
-- Only private clauses cite this file.
use Rattle.std.specs.Prelude.{◌≡◌, ℕ, zero, suc, ◌+◌, ◌-◌, ◌==◌, ◌<◌, if◌then◌else◌, List, length, map, Bool, false, Option, Some, None, option_map}
use Rattle.std.proofs.Common.{get_or}
use Rattle.budget_book.specs.declared.sales.SaleRow.{SaleRow}
use Rattle.budget_book.specs.LastSales.{distance, last_at, place_of}

-- the place of a sale, where it has a user
abbrev pub sale_place : SaleRow → Option ℕ
sale_place s = option_map (place_of s.campaign) s.user

abbrev pub places_of : List SaleRow → List (Option ℕ)
places_of rows = map sale_place rows

abbrev pub is_at : ℕ → Option ℕ → Bool
is_at b None = false
is_at b (Some q) = q == b

-- which of the first k sales is the last at the place, counted from 1, or 0 where none is
abbrev pub last_below : ℕ → List (Option ℕ) → ℕ → ℕ
last_below b places zero = 0
last_below b places (suc k) = if is_at b (get_or places k None) then suc k else last_below b places k

-- links has for each sale how far before it the last one at its place stands, which may be forgotten or none, and lasts
-- has for each place the number of the last of all, where one that is forgotten stands for none
pub record AreChains (forgotten : ℕ) (places : List (Option ℕ)) (links : List ℕ) (lasts : List ℕ) : Type 0 where
  pub linked : length links ≡ length places
  pub each_link : (k : ℕ) (b : ℕ) → k < length places → get_or places k None ≡ Some b → k + 1 - get_or links k 0 ≡ last_below b places k
  pub each_last : (b : ℕ) → last_at b lasts - forgotten ≡ last_below b places (length places)

-- the sale of that number is the last at its place, where it has one, and so far before it was the one that was
abbrev pub IsLinked : List ℕ → List ℕ → Option ℕ → ℕ → ℕ → Type 0
IsLinked old new None number back = new ≡ old
IsLinked old new (Some b) number back = (back ≡ distance number (last_at b old)) × ((q : ℕ) → last_at q new ≡ if q == b then number else last_at q old)
