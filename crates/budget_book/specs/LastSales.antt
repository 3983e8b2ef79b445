-- The number of the last sale at each place that hashes of campaigns and users pick.
-- Only private clauses cite this file.
use Rattle.std.specs.Prelude.{◌≡◌, ℕ, ◌+◌, ◌-◌, ◌*◌, ◌/◌, ◌%◌, ◌^◌, List, fold, min}
use Rattle.std.proofs.Common.{get_or}

-- ---- hashes, in 64 bits

abbrev pub wrapped : ℕ → ℕ
wrapped n = n % 2 ^ 64

abbrev pub with_byte : ℕ → ℕ → ℕ
with_byte hash byte = wrapped (wrapped (hash * 1099511628211) + byte)

unfoldable pub user_hash : List ℕ → ℕ
user_hash user = fold with_byte 0 user

-- the hash of a campaign and a user of that hash
unfoldable pub mixed : ℕ → ℕ → ℕ
mixed campaign hash = wrapped (wrapped (wrapped (campaign * 14029467366897019727) + hash) * 11400714819323198485)

-- ---- the places, 1,048,576 of them

unfoldable pub place_in : ℕ → ℕ
place_in hash = hash / 2 ^ 44

-- the place of a campaign and a user of that hash
abbrev pub place_by : ℕ → ℕ → ℕ
place_by campaign hash = place_in (mixed campaign hash)

abbrev pub place_of : ℕ → List ℕ → ℕ
place_of campaign user = place_by campaign (user_hash user)

-- the number of the last sale at the place, or 0 where there is none
abbrev pub last_at : ℕ → List ℕ → ℕ
last_at place lasts = get_or lasts place 0

abbrev pub AreNone : List ℕ → Type 0
AreNone lasts = (place : ℕ) → last_at place lasts ≡ 0

-- how far before a number another one stands, in 32 bits
abbrev pub distance : ℕ → ℕ → ℕ
distance number before = min (number - before) 4294967295
