-- A run as far as it was gathered. Only private clauses cite this file.
use Rattle.std.specs.Prelude.{◌≡◌, ℕ, IfSome, List, Option, None, Some, ⊤}
use Rattle.address_keys.specs.Tokens.{no_keys}
use Rattle.auction_core.specs.Core.{listed}
use Rattle.conj_index.specs.Content.{IsIndexOf}
use Rattle.conj_index.specs.declared.index.Index.{Index}
use Rattle.http_wire.specs.declared.message.Message.{Message}
use Rattle.live_index.specs.Reached.{live_expressions}
use Rattle.made_run.specs.Runs.{IsRunOf, header, post, trace_text, with_status}
use Rattle.made_run.specs.declared.gathering.Gathering.{Gathering}
use Rattle.plain_exchange.specs.State.{State}
use Rattle.trace.specs.declared.entry.Entry.{Entry}

-- an exchange that holds sales for as long as the header says, where no address is signed
pub record IsReady (g : Gathering) : Type 0 where
  pub header_is : g.header ≡ header
  pub keys_are : g.keys ≡ no_keys
  pub settings : g.core.settings ≡ record { ttl = 300000; limit = 4194304 }

-- the answers to these messages were gathered
pub record IsSoFar (posts : List (ℕ × Message)) (g : Gathering) : Type 0 where
  pub entries : List Entry
  pub run : IsRunOf posts entries g.core.state
  -- where it is kept
  pub trace_is : IfSome g.trace (λ t. t ≡ trace_text entries)
  pub sold_is : g.sold ≡ with_status 200 entries
  pub no_bid_is : g.no_bid ≡ with_status 204 entries

-- a message that is posted there, whatever its body
abbrev pub IsPostTo : List ℕ → Message → Type 0
IsPostTo target m = m ≡ post target m.body

-- an index, where there is one, has the campaigns of the state
abbrev pub Fits : Option Index → State → Type 0
Fits None s = ⊤
Fits (Some index) s = IsIndexOf (live_expressions (listed s)) index
