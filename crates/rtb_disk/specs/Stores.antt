-- What a disk is to a contract: what a read gives, and the images that a crash may leave, now and at each
-- moment since.
use Rattle.std.specs.Prelude.{◌≡◌, ◌⊎◌, ℕ, ◌+◌, ◌≤◌, min, max, List, [], ◌∷◌, ◌++◌, length, take, drop, Bool, true, false}

-- a write of so many bytes at a place, or a cut to so many bytes
pub data Change : Type 0 where
  write : ℕ → ℕ → Change
  cut : ℕ → Change

-- A write that was done in part: any bytes in its range and past the old end, the others stay, and the
-- length is between the old one and the new.
pub record Torn (place n : ℕ) (old new : List ℕ) : Type 0 where
  pub before : take (min place (length old)) new ≡ take place old
  pub after : drop (place + n) new ≡ drop (place + n) old
  pub no_shorter : length old ≤ length new
  pub no_longer : length new ≤ max (length old) (place + n)

-- A cut that was done in part: any bytes in the part that is cut off, and a length between the two.
pub record TornCut (n : ℕ) (old new : List ℕ) : Type 0 where
  pub before : take (min n (length old)) new ≡ take n old
  pub no_shorter : min n (length old) ≤ length new
  pub no_longer : length new ≤ max n (length old)

abbrev pub Leaves : Change → List ℕ → List ℕ → Type 0
Leaves (write place n) old new = Torn place n old new
Leaves (cut n) old new = TornCut n old new

-- What a crash at one moment rests on: what a read gave at the last sync that succeeded, and the
-- changes since then, the latest first.
pub record Moment : Type 0 where
  pub synced : List ℕ
  pub changes : List Change

-- a crash may leave what was synced, with each change since done in part
abbrev pub IsLeft : List ℕ → List Change → List ℕ → Type 0
IsLeft synced [] image = image ≡ synced
IsLeft synced (change ∷ changes) image = (c : List ℕ) × IsLeft synced changes c × Leaves change c image

-- an image: what a crash at this moment may leave
abbrev pub IsImage : Moment → List ℕ → Type 0
IsImage moment image = IsLeft moment.synced moment.changes image

-- What is known of a disk. Where it is not told, the other fields say nothing.
pub record Store : Type 0 where
  pub told : Bool
  -- what a read gives
  pub reads : List ℕ
  pub now : Moment
  -- the earlier moments, the latest first
  pub past : List Moment

-- the bytes with these at the place
abbrev pub overwritten : List ℕ → ℕ → List ℕ → List ℕ
overwritten old place bytes = take place old ++ bytes ++ drop (place + length bytes) old

-- a disk with this content, which is its only image
abbrev pub fresh : List ℕ → Store
fresh content = record { told = true; reads = content; now = record { synced = content; changes = [] }; past = [] }

-- a disk that is not told
abbrev pub untold : Store
untold = record { told = false; reads = []; now = record { synced = []; changes = [] }; past = [] }

-- after a change, when a read gives these bytes
abbrev pub changed : Change → List ℕ → Store → Store
changed change reads s = record {
  told = s.told;
  reads = reads;
  now = record { synced = s.now.synced; changes = change ∷ s.now.changes };
  past = s.now ∷ s.past;
}

-- after a sync that succeeded
abbrev pub settled : Store → Store
settled s = record {
  told = s.told;
  reads = s.reads;
  now = record { synced = s.reads; changes = [] };
  past = s.now ∷ s.past;
}

-- a change that failed was not begun, or was done in part
abbrev pub Fails : Change → Store → Store → Type 0
Fails change old new = (new ≡ old) ⊎ ((reads : List ℕ) × Leaves change old.reads reads × (new ≡ changed change reads old))

-- every image at this moment has P
abbrev pub EachImage : (List ℕ → Type 0) → Moment → Type 0
EachImage P moment = (image : List ℕ) → IsImage moment image → P image

-- every image at each of these moments has P
abbrev pub EachMoment : (List ℕ → Type 0) → List Moment → Type 0
EachMoment P [] = Unit {0}
EachMoment P (moment ∷ moments) = EachImage P moment × EachMoment P moments

-- every image at each moment from old to new has P
pub record Always (P : List ℕ → Type 0) (old new : Store) : Type 0 where
  pub first : EachImage P old.now
  pub since : List Moment
  pub grown : new.now ∷ new.past ≡ since ++ old.now ∷ old.past
  pub each : EachMoment P since
  pub last : EachImage P new.now
