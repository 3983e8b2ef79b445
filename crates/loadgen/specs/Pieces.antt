-- What the writing of a request rests on: draws of few digits, and the members that are written with them.
use Rattle.std.specs.Prelude.{ℕ, ◌*◌, ◌<◌, List, IfSome, codes}
use Rattle.loadgen.specs.Texts.{numbered, priced}
use Rattle.loadgen.specs.declared.request.RequestDraws.{RequestDraws}

-- the cents have at most two digits, the country and the system one
pub record AreShort (r : RequestDraws) : Type 0 where
  pub cents : r.cents < 100
  pub country : r.country < 10
  pub system : IfSome r.system (λ s. s < 10)

-- the member that tells a floor of so many cents
abbrev pub floor_text : ℕ → List ℕ
floor_text cents = priced (codes "\"imp\":[{\"id\":\"1\",\"bidfloor\":") (10000 * cents)

-- the member that tells a country
abbrev pub country_text : ℕ → List ℕ
country_text c = numbered (codes ",\"banner\":{}}],\"device\":{\"geo\":{\"country\":\"c") c (codes "\"}")
