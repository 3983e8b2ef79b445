-- The numbers that are drawn, and what is drawn for a campaign and for a request. The generator is the linear
-- congruence of Knuth's MMIX, of which the upper 31 bits are taken.
use Rattle.std.specs.Prelude.{ℕ, ◌+◌, ◌*◌, ◌/◌, ◌%◌, ◌^◌, ◌==◌, None, Some, if◌then◌else◌}
use Rattle.loadgen.specs.declared.campaign.CampaignDraws.{CampaignDraws}
use Rattle.loadgen.specs.declared.request.RequestDraws.{RequestDraws}

-- the state behind a state
unfoldable pub next : ℕ → ℕ
next x = (x * 6364136223846793005 + 1442695040888963407) % 2 ^ 64

-- the number below k that is drawn in a state
unfoldable pub drawn : ℕ → ℕ → ℕ
drawn k x = next x / 2 ^ 33 % k

-- whether a campaign asks for a system too, which is drawn behind the three numbers that each campaign has
abbrev pub asks_for_system : ℕ → ℕ
asks_for_system x = drawn 2 (next (next (next x)))

-- What is drawn for a campaign, in this order: its bid, its budget, its country, whether it refuses a system, and
-- which.
abbrev pub campaign_draws : ℕ → CampaignDraws
campaign_draws x = record {
  bid = 100000 + 10000 * drawn 500 x;
  budget = 1 + drawn 9 (next x);
  country = drawn 8 (next (next x));
  system = if asks_for_system x == 1 then Some (drawn 4 (next (next (next (next x))))) else None;
}

-- the state behind a campaign
abbrev pub behind_campaign : ℕ → ℕ
behind_campaign x = if asks_for_system x == 1 then next (next (next (next (next x)))) else next (next (next (next x)))

-- what is drawn for a request, in this order: the cents of its floor, its country and its system, none where 4 is drawn
abbrev pub request_draws : ℕ → RequestDraws
request_draws x = record {
  cents = drawn 100 x;
  country = drawn 8 (next x);
  system = if drawn 5 (next (next x)) == 4 then None else Some (drawn 5 (next (next x)));
}

abbrev pub behind_request : ℕ → ℕ
behind_request x = next (next (next x))
