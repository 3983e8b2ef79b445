-- Marks of texts: small numbers, by which most texts are told apart.
use Rattle.std.specs.Prelude.{ℕ, ◌+◌, ◌-◌, ◌*◌, ◌/◌, ◌%◌, ◌≡◌, List, length, slice_get}
use Rattle.std.specs.Option.{option_map_or}
use Rattle.std.proofs.Common.{get_or}
use Rattle.campaign.specs.declared.marks.Marks.{Marks}
use Rattle.campaign.specs.declared.parts.FactParts.{FactParts}
use Rattle.campaign.specs.Kept.{IsKept}

-- by its length and three of its bytes
unfoldable pub mark_of : List ℕ → ℕ
mark_of t = (get_or t 0 0 + 7 * get_or t (length t / 2) 0 + 49 * get_or t (length t - 1) 0 + 343 * (length t % 256)) % 4096

-- of the text at the place; 0 where there is none
abbrev pub mark_at : List (List ℕ) → ℕ → ℕ
mark_at texts place = option_map_or mark_of (slice_get texts place) 0

-- of the advertiser, of the first three categories and of the first deal
abbrev pub marks_of : FactParts → Marks
marks_of p = record { advertiser = mark_of p.adomain; first = mark_at p.cat 0; second = mark_at p.cat 1; third = mark_at p.cat 2; deal = mark_at p.deals 0 }

-- parts of facts, with their marks
pub record AreMarked (p : FactParts) (m : Marks) : Type 0 where
  pub kept : IsKept p
  pub marks : m ≡ marks_of p
