-- Campaigns and sales of a compacted journal.
use Rattle.std.proofs.Common.{◌≡◌, ℕ, zero, suc, ◌+◌, ◌<◌, ◌≤◌, ◌&&◌, cond, eqb, Bool, true, false, List, [], ◌∷◌, ◌++◌, ◌-◌, length, map, set, refl, sym, ◌∙◌, ap, arith, Option, Some, None}
use Rattle.std.specs.Prelude.{is_none, nat_le, option_map, slice_get}
use Rattle.std.specs.Option.{option_map_or}
use Rattle.std.proofs.lemmas.Bool.{and_parts, eqb-true, leb-true, ne_eqb}
use Rattle.std.proofs.lemmas.List.{length-map, map-append, nil_from_length}
use Rattle.std.proofs.lemmas.Option.{slice_get-map}
use Rattle.auction_core.specs.Core.{IsCore, IsStateOf}
use Rattle.auction_core.specs.Putting.{IsAt, changed_at}
use Rattle.budget_book.specs.Book.{Funds, forgotten_of}
use Rattle.budget_book.specs.declared.sales.Gone.{Gone}
use Rattle.budget_book.specs.declared.sales.SaleRow.{SaleRow}
use Rattle.budget_book.specs.Sales.{gone_count, most_forgotten}
use Rattle.campaign.specs.declared.parts.FactParts.{FactParts}
use Rattle.campaign_store.specs.declared.limit.Limit.{Limit}
use Rattle.campaign_store.specs.declared.listed.Listed.{Listed}
use Rattle.campaign_store.specs.declared.record.Record.{Record}
use Rattle.campaign_store.specs.Limits.{passed_limit}
use Rattle.plain_exchange.specs.declared.changes.Change.TheVariants as change
use Rattle.plain_exchange.specs.declared.changes.Effect.{Effect}
use Rattle.plain_exchange.specs.declared.changes.KeptCampaign.{KeptCampaign}
use Rattle.plain_exchange.specs.Effects.{campaign_of, can_keep, is_within_limits, kept_campaign, kept_effects, kept_sale}
use Rattle.plain_exchange.specs.State.{Campaign, State, campaign_at, forgotten, limit_passed, record_of, with_campaigns}
use Rattle.plain_exchange.specs.Step.{with_live}
use Rattle.plain_exchange.proofs.Each.{none_some}
use Rattle.plain_exchange.proofs.Keeping.{campaign_added}
use Rattle.plain_exchange.proofs.Places.{numbered}
use Rattle.auction_core.proofs.Stating.{book_more, changed_is, forgotten_same, here, table_more}
use Rattle.target_expr.specs.declared.pred.Pred.{Pred}

-- limits look at records alone
pub same_limit : (s : State) (c d : Campaign) → record_of c ≡ record_of d → limit_passed (with_campaigns s (c ∷ [])) ≡ limit_passed (with_campaigns s (d ∷ []))
same_limit s c d e =
    ap passed_limit (map-append record_of s.campaigns (c ∷ []))
    ∙ ap (λ r. passed_limit (map record_of s.campaigns ++ r ∷ [])) e
    ∙ ap passed_limit (sym (map-append record_of s.campaigns (d ∷ [])))

abbrev pub kept_as : Bool → Record → Gone → KeptCampaign
kept_as live entry gone = record { live = live; facts = entry.facts; expr = entry.expr; gone = gone }

pub kept_either : (s : State) (a b : Bool) (entry : Record) (gone : Gone) → can_keep s (kept_as a entry gone) ≡ can_keep s (kept_as b entry gone)
kept_either s a b entry gone =
    ap (λ (o : Option Limit). eqb (length s.sales) 0 && (is_none o && (nat_le gone.spent entry.facts.budget && nat_le (forgotten s + gone_count gone) most_forgotten)))
    (same_limit s (campaign_of (kept_as a entry gone)) (campaign_of (kept_as b entry gone)) refl)

pub record CanKeep (s : State) (k : KeptCampaign) : Type 0 where
  pub none : length s.sales ≡ 0
  pub within : is_within_limits (with_campaigns s (campaign_of k ∷ [])) ≡ true
  pub covered : k.gone.spent ≤ k.facts.budget
  pub few : forgotten s + gone_count k.gone ≤ most_forgotten

pub can_keep_parts : (s : State) (k : KeptCampaign) → can_keep s k ≡ true → CanKeep s k
can_keep_parts s k e =
    let one = and_parts (eqb (length s.sales) 0) (is_within_limits (with_campaigns s (campaign_of k ∷ [])) && (nat_le k.gone.spent k.facts.budget && nat_le (forgotten s + gone_count k.gone) most_forgotten)) e in
    let two = and_parts (is_within_limits (with_campaigns s (campaign_of k ∷ []))) (nat_le k.gone.spent k.facts.budget && nat_le (forgotten s + gone_count k.gone) most_forgotten) one.1 in
    let three = and_parts (nat_le k.gone.spent k.facts.budget) (nat_le (forgotten s + gone_count k.gone) most_forgotten) two.1 in
    record { none = eqb-true (length s.sales) 0 one.0; within = two.0; covered = leb-true k.gone.spent k.facts.budget three.0; few = leb-true (forgotten s + gone_count k.gone) most_forgotten three.1 }

-- a campaign that is added live, as it was
pub core_kept : (table table2 : List Listed) (book book2 : List Funds) (sales : List SaleRow) (entry : Record) (gone : Gone) → IsCore table book sales → can_keep (here table book sales) (kept_as true entry gone) ≡ true
    → table2 ≡ table ++ (record { entry = entry; live = true }) ∷ [] → book2 ≡ book ++ (record { budget = entry.facts.budget; gone = gone }) ∷ []
    → IsStateOf table2 book2 (with_campaigns (here table book sales) (campaign_of (kept_as true entry gone) ∷ []))
core_kept table table2 book book2 sales entry gone h e f g =
    let s = here table book sales in
    let c = campaign_of (kept_as true entry gone) in
    let parts = can_keep_parts s (kept_as true entry gone) e in
    record {
      listing = f ∙ table_more s table c h.listing;
      funding = g ∙ book_more s book c h.funding;
      consistent = campaign_added s c h.consistent parts.covered parts.few parts.within;
    }

-- no sale is there yet
pub none_sold : (s : State) (k : KeptCampaign) → can_keep s k ≡ true → s.sales ≡ []
none_sold s k e = nil_from_length s.sales (can_keep_parts s k e).none

pub fits_book : (table : List Listed) (book : List Funds) (sales : List SaleRow) (k : KeptCampaign) → IsCore table book sales → can_keep (here table book sales) k ≡ true → forgotten_of book + gone_count k.gone ≤ most_forgotten
fits_book table book sales k h e =
    let s = here table book sales in
    let few = (can_keep_parts s k e).few in
    let same : forgotten_of book ≡ forgotten s = ap forgotten_of h.funding ∙ forgotten_same s in
    omega (arith, few, same)

-- ---- the campaign that was added last

last_of : {A : Type 0} (xs : List A) (x : A) → slice_get (xs ++ x ∷ []) (length xs) ≡ Some x
last_of [] x = refl
last_of (y ∷ xs) x = last_of xs x

last_set : {A : Type 0} (xs : List A) (x y : A) → set (xs ++ x ∷ []) (length xs) y ≡ xs ++ y ∷ []
last_set [] x y = refl
last_set (z ∷ xs) x y = ap (λ l. z ∷ l) (last_set xs x y)

one_less : (n : ℕ) → n + 1 - 1 ≡ n
one_less n = omega arith

pub last_at : (s : State) (c : Campaign) → campaign_at (with_campaigns s (c ∷ [])) (length s.campaigns + 1) ≡ Some c
last_at s c = numbered (length s.campaigns + 1) (slice_get (s.campaigns ++ c ∷ []) (length s.campaigns + 1 - 1)) c (omega arith) (ap (slice_get (s.campaigns ++ c ∷ [])) (one_less (length s.campaigns)) ∙ last_of s.campaigns c)

pub last_paused : (s : State) (c : Campaign) → changed_at (length s.campaigns + 1) (with_live false) (with_campaigns s (c ∷ [])) ≡ with_campaigns s (with_live false c ∷ [])
last_paused s c =
    changed_is (length s.campaigns + 1) (with_live false) (with_campaigns s (c ∷ [])) c (last_at s c)
    ∙ ap (λ i. record s { campaigns = set (s.campaigns ++ c ∷ []) i (with_live false c) }) (one_less (length s.campaigns))
    ∙ ap (λ cs. record s { campaigns = cs }) (last_set s.campaigns c (with_live false c))

pub last_live : (s : State) (c : Campaign) → c.live ≡ true → IsAt (with_campaigns s (c ∷ [])) (length s.campaigns + 1) (λ d. d.live)
last_live s c e = ap (λ o. option_map_or (λ (d : Campaign). d.live) o false) (last_at s c) ∙ e

-- ---- the effects that make a state again

abbrev kept_effect : Bool → FactParts → List (List Pred) → Gone → Effect
kept_effect live facts expr gone = record { moment = 0; change = change.Kept (record { live = live; facts = facts; expr = expr; gone = gone }) }

pub kept_parts : (c : Campaign) (live : Bool) (facts : FactParts) (expr : List (List Pred)) (gone : Gone) → live ≡ c.live → facts ≡ c.facts → expr ≡ c.expr → gone ≡ c.gone → kept_effect live facts expr gone ≡ kept_campaign c
kept_parts c live facts expr gone l f e g =
    ap (λ (b : Bool). kept_effect b facts expr gone) l
    ∙ ap (λ (x : FactParts). kept_effect c.live x expr gone) f
    ∙ ap (λ (x : List (List Pred)). kept_effect c.live c.facts x gone) e
    ∙ ap (λ (x : Gone). kept_effect c.live c.facts c.expr x) g

inside_at : {A : Type 0} (xs : List A) (i : ℕ) → i < length xs → (x : A) × (slice_get xs i ≡ Some x)
inside_at [] i h = absurd (omega (arith, h))
inside_at (x ∷ xs) zero h = (x, refl)
inside_at (x ∷ xs) (suc i) h = inside_at xs i (omega (arith, h))

front_at : {A : Type 0} (xs ys : List A) (i : ℕ) (x : A) → slice_get xs i ≡ Some x → slice_get (xs ++ ys) i ≡ Some x
front_at [] ys i x e = absurd (none_some x e)
front_at (y ∷ xs) ys zero x e = e
front_at (y ∷ xs) ys (suc i) x e = front_at xs ys i x e

behind_at : {A : Type 0} (xs ys : List A) (i : ℕ) → length xs ≤ i → slice_get (xs ++ ys) i ≡ slice_get ys (i - length xs)
behind_at [] ys i h = let same : i ≡ i - 0 = omega arith in ap (slice_get ys) same
behind_at (x ∷ xs) ys zero h = absurd (omega (arith, h))
behind_at (x ∷ xs) ys (suc i) h =
    let same : i - length xs ≡ suc i - length (x ∷ xs) = omega arith in
    behind_at xs ys i (omega (arith, h)) ∙ ap (slice_get ys) same

one_more_at : {A : Type 0} (o : Option A) (n : ℕ) → cond (eqb (n + 1) 0) None o ≡ o
one_more_at o n = ap (λ b. cond b None o) (ne_eqb (n + 1) 0 (omega arith))

pub kept_front : (s : State) (i : ℕ) (e : Effect) → i < length s.campaigns → ((c : Campaign) → campaign_at s (i + 1) ≡ Some c → e ≡ kept_campaign c) → Some e ≡ slice_get (kept_effects s) i
kept_front s i e inside is =
    let (c, at) = inside_at s.campaigns i inside in
    let numbered : campaign_at s (i + 1) ≡ Some c = one_more_at (slice_get s.campaigns (i + 1 - 1)) i ∙ ap (slice_get s.campaigns) (one_less i) ∙ at in
    ap Some (is c numbered)
    ∙ sym (front_at (map kept_campaign s.campaigns) (map kept_sale s.sales) i (kept_campaign c) (slice_get-map kept_campaign s.campaigns i ∙ ap (option_map kept_campaign) at))

pub kept_behind : (s : State) (i : ℕ) → length s.campaigns ≤ i → option_map kept_sale (slice_get s.sales (i - length s.campaigns)) ≡ slice_get (kept_effects s) i
kept_behind s i h =
    let many : length (map kept_campaign s.campaigns) ≡ length s.campaigns = length-map s.campaigns kept_campaign in
    sym (slice_get-map kept_sale s.sales (i - length s.campaigns))
    ∙ ap (λ k. slice_get (map kept_sale s.sales) (i - k)) (sym many)
    ∙ sym (behind_at (map kept_campaign s.campaigns) (map kept_sale s.sales) i (omega (arith, h, many)))
