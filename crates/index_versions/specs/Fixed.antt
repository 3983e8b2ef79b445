-- What was found among the campaigns of an earlier edit, and what becomes of it by the edits since.
use Rattle.std.specs.Prelude.{ℕ, ◌≡◌, ◌==◌, ◌&&◌, if◌then◌else◌, Bool, false, List, filter, length, map, sum_by}
use Rattle.std.specs.List.{enumerate_from, list_any}
use Rattle.campaign_store.specs.declared.listed.Listed.{Listed}
use Rattle.campaign_store.specs.Table.{campaign_at}
use Rattle.conj_index.specs.Find.{true_under}
use Rattle.target_expr.specs.declared.attr.Attr.{Attr}
use Rattle.target_expr.specs.Truth.{holds}
use Rattle.index_versions.specs.Versions.{live_in}

abbrev pub Pairs : Type 0
Pairs = List (Attr × List ℕ)

abbrev pub is_among : List ℕ → ℕ → Bool
is_among numbers n = list_any (λ m. m == n) numbers

-- the campaign is live, and its expression is true
abbrev pub is_true : Pairs → Listed → Bool
is_true a c = c.live && holds a c.entry.expr

-- campaign n stays where it was found and was not touched, and comes where it was touched and is true now
abbrev pub is_fixed : Pairs → List ℕ → List ℕ → ℕ × Listed → Bool
is_fixed a found touched p = if is_among touched p.0 then is_true a p.1 else is_among found p.0

-- those campaigns, by number
abbrev pub fixed : Pairs → List ℕ → List ℕ → List Listed → List ℕ
fixed a found touched campaigns = map (λ (p : ℕ × Listed). p.0) (filter (is_fixed a found touched) (enumerate_from 1 campaigns))

-- the lists of campaigns differ at most in these
abbrev pub DifferAtMostIn : List ℕ → List Listed → List Listed → Type 0
DifferAtMostIn touched before now = (n : ℕ) → is_among touched n ≡ false → campaign_at before n ≡ campaign_at now n

-- found are the campaigns that were live and true in a list that differs at most in those touched
pub record WereFound (a : Pairs) (found touched : List ℕ) (now : List Listed) : Type 0 where
  pub before : List Listed
  pub differ : DifferAtMostIn touched before now
  pub true_then : found ≡ true_under a (live_in before)

-- the conjunctions of a campaign, where it was touched
abbrev pub touched_cost : List ℕ → ℕ × Listed → ℕ
touched_cost touched p = if is_among touched p.0 then length p.1.entry.expr else 0

abbrev pub fix_cost : List ℕ → List Listed → ℕ
fix_cost touched campaigns = sum_by (touched_cost touched) (enumerate_from 1 campaigns)
