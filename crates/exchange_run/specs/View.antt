-- What the code's borrowed forms stand for.
use Rattle.std.specs.Prelude.{option_map}
use Rattle.exchange_run.specs.Words.{Campaign}
use Rattle.exchange_run.specs.declared.words.NamedCampaign.{NamedCampaign}

abbrev pub campaign_view : NamedCampaign → Campaign
campaign_view c = record { bid = c.bid; domain = option_map (λ d. d.now) c.domain }
