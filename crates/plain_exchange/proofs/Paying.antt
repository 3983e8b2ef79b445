-- Who wins an impression can pay for it.
use Rattle.std.proofs.Common.{◌≡◌, ℕ, ◌+◌, ◌-◌, ◌≤◌, ◌&&◌, ◌||◌, cond, Bool, true, false, List, [], ◌∷◌, ◌++◌, refl, sym, ◌∙◌, ap, subst, arith, Option, Some, None}
use Rattle.std.specs.Prelude.{option_map, option_and_then, slice_get, nat_le}
use Rattle.std.specs.List.{enumerate_from}
use Rattle.std.specs.Option.{option_map_or}
use Rattle.std.proofs.lemmas.Bool.{and_parts, false≢true, le-leb, leb-true, ltb-false, ne_eqb}
use Rattle.clearing.specs.declared.Offer.{Offer}
use Rattle.clearing.specs.declared.PriceKind.{PriceKind}
use Rattle.clearing.specs.declared.PriceKind.TheVariants.{First, Second, Agreed}
use Rattle.clearing.specs.declared.Terms.{Terms}
use Rattle.clearing.specs.declared.Win.{Win}
use Rattle.clearing.specs.Clearing.{is_fit, price_of, win_by, winner}
use Rattle.deal_rules.specs.Offers.{deal_offer, deal_offers, is_excluded, is_open_to, offer_in, offers_of, public_offers}
use Rattle.deal_rules.specs.Rules.{Opportunity, Tested, common_rules, public_rules}
use Rattle.deal_rules.specs.Terms.{terms_of}
use Rattle.deal_rules.proofs.Fitting.{offers_fit}
use Rattle.plain_exchange.specs.State.{Campaign, State, campaign_at, free}
use Rattle.plain_exchange.specs.Auction.{offers, offers_by, opportunity, win}
use Rattle.plain_exchange.specs.Effects.{can_pay}
use Rattle.plain_exchange.proofs.Each.{At, Each, each_append, each_both, each_cond, each_filtered, each_flat, each_found, each_mapped, each_numbered, each_of_all, each_unless, none_some, some_same}
use Rattle.rtb_types.specs.declared.request.BidRequest.{BidRequest}
use Rattle.rtb_types.specs.declared.request.Imp.{Imp}

-- ---- the offers of one campaign

-- an offer of campaign n whose bid is free
pub record IsCovered (n free : ℕ) (o : Offer) : Type 0 where
  pub of : o.campaign ≡ n
  pub covered : o.bid ≤ free

rule_passed : {P : Type 0} (test t more : Bool) → test ≡ t → (t || more) ≡ false → (more ≡ false → P) → (test ≡ false) × P
rule_passed test true more e h k = absurd (false≢true (sym h))
rule_passed test false more e h k = (e, k h)

-- no rule excludes, so the test of each is false
none_excludes : (rules : List Tested) (o : Opportunity) → is_excluded rules o ≡ false → Each (λ (r : Tested). r.1 o ≡ false) rules
none_excludes [] o h = tt
none_excludes (r ∷ rules) o h = rule_passed (r.1 o) (r.1 o) (is_excluded rules o) refl h (none_excludes rules o)

deal_covered : (n free : ℕ) (o : Opportunity) → o.facts.bid ≤ free → (k : ℕ) (t : Bool) → At (IsCovered n free) (cond t (Some (offer_in n o.facts k)) None)
deal_covered n free o paid k true = record { of = refl; covered = paid }
deal_covered n free o paid k false = tt

-- the rule on the budget let the campaign offer
all_covered : (n : ℕ) (o : Opportunity) → Each (IsCovered n o.free) (offers_of n o)
unfolding offers_of common_rules
all_covered n o = each_unless (IsCovered n o.free) (is_excluded common_rules o) (public_offers n o ++ deal_offers n o.facts o.imp.pmp.deals) (λ open_.
    let tests = none_excludes common_rules o open_ in
    let paid : o.facts.bid ≤ o.free = ltb-false o.free o.facts.bid tests.1.1.1.1.1.1.1.1.1.0 in
    each_append (IsCovered n o.free) (public_offers n o) (deal_offers n o.facts o.imp.pmp.deals)
    (each_unless (IsCovered n o.free) (is_excluded public_rules o) (offer_in n o.facts 0 ∷ []) (λ e. (record { of = refl; covered = paid }, tt)))
    (each_filtered (IsCovered n o.free) (deal_offer n o.facts) (enumerate_from 1 o.imp.pmp.deals)
    (each_numbered (λ p. At (IsCovered n o.free) (deal_offer n o.facts p)) 1 o.imp.pmp.deals (λ k deal at. deal_covered n o.free o paid (1 + k) (is_open_to o.facts deal)))))

-- ---- the offers of all campaigns

-- an offer of a live campaign that is there, within what is free of its budget
pub record IsPayable (s : State) (terms : List Terms) (o : Offer) : Type 0 where
  pub campaign : Campaign
  pub there : campaign_at s o.campaign ≡ Some campaign
  pub live : campaign.live ≡ true
  pub covered : o.bid ≤ free s o.campaign campaign
  pub fits : is_fit terms o ≡ true

pub found_at : (s : State) (i : ℕ) (c : Campaign) → slice_get s.campaigns i ≡ Some c → campaign_at s (1 + i) ≡ Some c
found_at s i c at =
    let place : (1 + i) - 1 ≡ i = omega arith in
    ap (λ b. cond b None (slice_get s.campaigns ((1 + i) - 1))) (ne_eqb (1 + i) 0 (λ e. omega arith)) ∙ ap (slice_get s.campaigns) place ∙ at

campaign_payable : (s : State) (r : BidRequest) (imp : Imp) (m i : ℕ) (c : Campaign) → campaign_at s (1 + i) ≡ Some c → c.live ≡ true
    → Each (IsPayable s (terms_of r imp)) (offers_of (1 + i) (opportunity s r imp m (1 + i) c))
campaign_payable s r imp m i c there live =
    let o = opportunity s r imp m (1 + i) c in
    let sound = each_both (IsCovered (1 + i) o.free) (λ (x : Offer). is_fit (terms_of r imp) x ≡ true) (offers_of (1 + i) o) (all_covered (1 + i) o)
    (each_of_all (is_fit (terms_of r imp)) (offers_of (1 + i) o) (offers_fit (1 + i) r imp c.facts o.free o.shown)) in
    each_mapped (λ (x : Offer). IsCovered (1 + i) o.free x × (is_fit (terms_of r imp) x ≡ true)) (IsPayable s (terms_of r imp))
    (λ x both. record {
      campaign = c;
      there = ap (campaign_at s) both.0.of ∙ there;
      live = live;
      covered = subst (λ n. x.bid ≤ free s n c) (sym both.0.of) both.0.covered;
      fits = both.1;
    })
    (offers_of (1 + i) o) sound

all_payable : (s : State) (r : BidRequest) (imp : Imp) (m : ℕ) → Each (IsPayable s (terms_of r imp)) (offers s r imp m)
all_payable s r imp m = each_flat (IsPayable s (terms_of r imp)) (offers_by s r imp m) (enumerate_from 1 s.campaigns)
    (each_numbered (λ p. Each (IsPayable s (terms_of r imp)) (offers_by s r imp m p)) 1 s.campaigns (λ i c at.
    each_cond (IsPayable s (terms_of r imp)) _ (offers_of (1 + i) (opportunity s r imp m (1 + i) c)) (λ open_.
    campaign_payable s r imp m i c (found_at s i c at) (and_parts c.live _ open_).0)))

-- ---- the winner

price_within : (kind : PriceKind) (floor : ℕ) (o : Offer) (all : List Offer) → floor ≤ o.bid → price_of kind floor o all ≤ o.bid
price_within First floor o all h = omega arith
price_within Second floor o all h = omega arith
price_within Agreed floor o all h = h

-- what is said of a win
pub record IsPaid (s : State) (w : Win) : Type 0 where
  pub campaign : Campaign
  pub there : campaign_at s w.campaign ≡ Some campaign
  pub live : campaign.live ≡ true
  pub covered : w.price ≤ free s w.campaign campaign

by_terms : (s : State) (terms : List Terms) (all : List Offer) (o : Offer) (w : Win) → IsPayable s terms o → (t : Option Terms) → slice_get terms o.pool ≡ t
    → option_map (λ t. win_by all o t) t ≡ Some w → IsPaid s w
by_terms s terms all o w p None e h = absurd (none_some w h)
by_terms s terms all o w p (Some t) e h =
    let same : win_by all o t ≡ w = some_same _ w h in
    let floor : t.floor ≤ o.bid = leb-true t.floor o.bid (sym (ap (λ u. option_map_or (λ (t : Terms). nat_le t.floor o.bid) u false) e) ∙ p.fits) in
    let within : price_of t.kind t.floor o all ≤ o.bid = price_within t.kind t.floor o all floor in
    let paid : price_of t.kind t.floor o all ≤ free s o.campaign p.campaign = omega (arith, within, p.covered) in
    record {
      campaign = p.campaign;
      there = ap (λ (v : Win). campaign_at s v.campaign) (sym same) ∙ p.there;
      live = p.live;
      covered = subst (λ (v : Win). v.price ≤ free s v.campaign p.campaign) same paid;
    }

by_offer : (s : State) (terms : List Terms) (all : List Offer) (w : Win) → Each (IsPayable s terms) all → (o : Option Offer) → winner all ≡ o
    → option_and_then (λ (o : Offer). option_map (λ t. win_by all o t) (slice_get terms o.pool)) o ≡ Some w → IsPaid s w
by_offer s terms all w h None e k = absurd (none_some w k)
by_offer s terms all w h (Some o) e k = by_terms s terms all o w (each_found (IsPayable s terms) _ all o h e) (slice_get terms o.pool) refl k

pub win_paid : (s : State) (r : BidRequest) (imp : Imp) (m : ℕ) (w : Win) → win s r imp m ≡ Some w → IsPaid s w
win_paid s r imp m w h = by_offer s (terms_of r imp) (offers s r imp m) w (all_payable s r imp m) (winner (offers s r imp m)) refl h

-- the winner is a campaign that is there, and so much of its budget is free
pub winner_pays : (s : State) (r : BidRequest) (imp : Imp) (m : ℕ) (w : Win) → win s r imp m ≡ Some w → (c : Campaign) × (campaign_at s w.campaign ≡ Some c) × (w.price ≤ free s w.campaign c)
winner_pays s r imp m w h = let p = win_paid s r imp m w h in (p.campaign, p.there, p.covered)

-- and it is live
pub winner_can_pay : (s : State) (r : BidRequest) (imp : Imp) (m : ℕ) (w : Win) → win s r imp m ≡ Some w → can_pay s w.campaign w.price ≡ true
winner_can_pay s r imp m w h =
    let p = win_paid s r imp m w h in
    ap (λ o. option_map_or (λ (c : Campaign). c.live && nat_le w.price (free s w.campaign c)) o false) p.there
    ∙ ap (λ b. b && nat_le w.price (free s w.campaign p.campaign)) p.live
    ∙ le-leb _ _ p.covered
