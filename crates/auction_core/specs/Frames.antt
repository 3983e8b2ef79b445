-- What a call leaves as it was.
-- Only private clauses cite this file.
use Rattle.std.specs.Prelude.{◌≡◌, ℕ, ◌+◌, ◌≤◌}
use Rattle.auction_core.specs.Core.{CoreState}

-- only rooms changed, and there is no less of them
pub record OnlyRooms (old new : CoreState) : Type 0 where
  pub state : new.state ≡ old.state
  pub settings : new.settings ≡ old.settings
  pub edits : new.edits ≡ old.edits
  pub sale_room : old.sale_room ≤ new.sale_room
  pub campaign_room : old.campaign_room ≤ new.campaign_room

-- besides the state, so many edits were made, and so many sales and campaigns took room
pub record OnlyState (edits sales campaigns : ℕ) (old new : CoreState) : Type 0 where
  pub settings : new.settings ≡ old.settings
  pub edited : new.edits ≡ old.edits + edits
  pub sale_room : old.sale_room ≤ new.sale_room + sales
  pub campaign_room : old.campaign_room ≤ new.campaign_room + campaigns
