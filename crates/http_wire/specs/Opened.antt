-- What the code finds before it looks at the body. Private: only the crate's own functions cite this file.
use Rattle.std.specs.Prelude.{◌≡◌, ℕ, ◌+◌, ◌<◌, ◌⊎◌, List, length, Result, Ok, Err}
use Rattle.httparse.specs.Grammar.{RequestHead}
use Rattle.http_wire.specs.declared.refusal.Refusal.{Refusal}
use Rattle.http_wire.specs.declared.refusal.Refusal.TheVariants as refusal
use Rattle.http_wire.specs.declared.opened.Begun.{Begun}
use Rattle.http_wire.specs.declared.opened.Opened.{Opened}
use Rattle.http_wire.specs.declared.opened.Opened.TheVariants as opened
use Rattle.http_wire.specs.Heads.{most_head}
use Rattle.http_wire.specs.Rules.{Field, body_length, closes}
use Rattle.http_wire.specs.Wire.{IsAccepted, Opens, begun, refused, fields_of}

-- what is kept of the head
pub record IsBegun (verb place : List ℕ) (minor : ℕ) (fields : List Field) (b : Begun) : Type 0 where
  pub method : b.method.now ≡ verb
  pub target : b.target.now ≡ place
  pub closes : b.closes ≡ closes minor fields

-- the body's length decides
abbrev pub Follows : List ℕ → List ℕ → ℕ → List Field → ℕ → Result Begun Refusal → Type 0
Follows verb place minor fields at (Err r) = body_length fields ≡ Err r
Follows verb place minor fields at (Ok b) =
    (n : ℕ) × (body_length fields ≡ Ok n) × (b.from ≡ at) × (b.to ≡ at + n) × IsBegun verb place minor fields b

abbrev pub IsRead : List ℕ → ℕ → Result Begun Refusal → Type 0
IsRead head at r =
    (((h : RequestHead) → IsAccepted head h → ⊥) × (r ≡ Err refusal.Head))
    ⊎ ((h : RequestHead) × IsAccepted head h × Follows h.method h.target h.minor (fields_of h) at r)

abbrev pub IsOpened : List ℕ → Opened → Type 0
IsOpened bytes opened.Need = (length bytes < most_head) × ((h : RequestHead) (from to : ℕ) (r : Refusal) → (Opens bytes (begun h from to) ⊎ Opens bytes (refused r)) → ⊥)
IsOpened bytes (opened.Refused r) = Opens bytes (refused r)
IsOpened bytes (opened.Begun b) = (h : RequestHead) × Opens bytes (begun h b.from b.to) × IsBegun h.method h.target h.minor (fields_of h) b
