-- The bodies that are sent: of a campaign and of a bid request (IAB OpenRTB API 2.5, section 3.2).
use Rattle.std.specs.Prelude.{ℕ, ◌*◌, List, [], ◌++◌, Option, None, Some, codes, decimal}
use Rattle.rtb_num.specs.Amounts.{micros_text}
use Rattle.loadgen.specs.declared.campaign.CampaignDraws.{CampaignDraws}
use Rattle.loadgen.specs.declared.request.RequestDraws.{RequestDraws}

-- a number between two texts
unfoldable pub numbered : List ℕ → ℕ → List ℕ → List ℕ
numbered before n after = before ++ decimal n ++ after

-- a price behind a text
unfoldable pub priced : List ℕ → ℕ → List ℕ
priced before price = before ++ micros_text price

-- the predicate that refuses a system
abbrev pub refusal_of : ℕ → List ℕ
refusal_of o = numbered (codes ",{\"attr\":\"os\",\"not\":[\"o") o (codes "\"]}")

abbrev pub refused_system : Option ℕ → List ℕ
refused_system None = []
refused_system (Some o) = refusal_of o

abbrev pub campaign_text : CampaignDraws → List ℕ
campaign_text c = priced (codes "{\"seat\":\"g\",\"adomain\":\"g.example\",\"bid\":") c.bid ++ numbered (codes ",\"budget\":") c.budget (codes ",\"adm\":\"g\",\"crid\":\"g\",\"target\":[[")
    ++ numbered (codes "{\"attr\":\"country\",\"in\":[\"c") c.country (codes "\"]}") ++ refused_system c.system ++ codes "]]}"

-- the member that tells a system
abbrev pub system_of : ℕ → List ℕ
system_of o = numbered (codes ",\"os\":\"o") o (codes "\"")

abbrev pub told_system : Option ℕ → List ℕ
told_system None = []
told_system (Some o) = system_of o

-- the request of this number
abbrev pub request_text : ℕ → RequestDraws → List ℕ
request_text j r = numbered (codes "{\"id\":\"r") j (codes "\",") ++ priced (codes "\"imp\":[{\"id\":\"1\",\"bidfloor\":") (10000 * r.cents)
    ++ numbered (codes ",\"banner\":{}}],\"device\":{\"geo\":{\"country\":\"c") r.country (codes "\"}") ++ told_system r.system ++ codes "}}"
