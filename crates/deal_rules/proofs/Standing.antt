-- The offers of a campaign are its candidates where it may pay, and none else.
use Rattle.std.proofs.Common.{◌≡◌, ℕ, suc, ◌+◌, ◌-◌, ◌^◌, ◌<◌, ◌||◌, ◌&&◌, ◌++◌, nat_le, not, List, [], ◌∷◌, Bool, true, false, cond, eqb, length, map, Option, None, Some, refl, ap, sym, ◌∙◌, arith}
use Rattle.std.specs.Prelude.{if◌then◌else◌, is_none, nat_lt}
use Rattle.std.specs.Cmp.Lexicographic.{nat_list_eq_equiv}
use Rattle.std.specs.List.{cons_option, enumerate_from, filter_map, fold, list_any}
use Rattle.std.specs.Str.{bytes_eq}
use Rattle.std.proofs.lemmas.Bool.{and_parts, eqb-true, false≢true, le-leb, ltb-true}
use Rattle.std.specs.Option.{option_map_or}
use Rattle.std.proofs.lemmas.Bool.Decides.{nat_tests}
use Rattle.std.proofs.lemmas.List.{append-nil, nil_from_length}
use Rattle.std.proofs.lemmas.List.Folds.{list_any-append}
use Rattle.campaign.specs.declared.parts.FactParts.{FactParts}
use Rattle.clearing.specs.declared.Offer.{Offer}
use Rattle.deal_rules.specs.Named.{is_below_all, least_floor, lesser}
use Rattle.deal_rules.specs.Offers.{candidates_of, deal_offer, deal_offers, has_deals, in_public, is_excluded, is_open_to, may_pay, offer_in, offers_of, public_offers}
use Rattle.deal_rules.specs.Rules.{Opportunity, Tested, allows, common_rules, has_text, is_closed, is_closed_for, is_over, is_usd, is_without_pool, opportunity_of, paying_rules, public_rules, stated_rules, takes, test_of, tested}
use Rattle.deal_rules.specs.declared.rule.Rule.TheVariants.{Advertiser, Attribute, Category, NoBanner, Request, SeatBlocked, SeatNotAllowed, Secure, Size}
use Rattle.deal_rules.proofs.Ordered.{stated_excludes}
use Rattle.rtb_types.specs.declared.request.BidRequest.{BidRequest}
use Rattle.rtb_types.specs.declared.request.Deal.{Deal}
use Rattle.rtb_types.specs.declared.request.Imp.{Imp}

all_rules : common_rules ≡ stated_rules ++ paying_rules
unfolding common_rules stated_rules paying_rules
all_rules = refl

split : (o : Opportunity) → is_excluded common_rules o ≡ (is_excluded stated_rules o || is_excluded paying_rules o)
split o = ap (λ rules. is_excluded rules o) all_rules ∙ list_any-append (λ (t : Tested). t.1 o) stated_rules paying_rules

by_tests : (below over : Bool) → (below || (over || false)) ≡ not (not below && not over)
by_tests true over = refl
by_tests false true = refl
by_tests false false = refl

met : (free bid : ℕ) → nat_le bid free ≡ not (nat_lt free bid)
met free bid = grind (arith, nat_tests)

pays : (r : BidRequest) (i : Imp) (f : FactParts) (free : ℕ) (shown : Option ℕ) → is_excluded paying_rules (opportunity_of r i f free shown) ≡ not (may_pay f free shown)
unfolding paying_rules may_pay
pays r i f free shown =
    let over = option_map_or (is_over shown) f.cap false in
    by_tests (nat_lt free f.bid) over ∙ ap (λ b. not (b && not over)) (sym (met free f.bid))

-- those of the request look at nothing else
pub stated_alone : (r : BidRequest) (i : Imp) (f : FactParts) (free : ℕ) (shown : Option ℕ) → is_excluded stated_rules (opportunity_of r i f free shown) ≡ is_excluded stated_rules (opportunity_of r i f 0 None)
unfolding stated_rules
stated_alone r i f free shown = refl

pub public_alone : (number : ℕ) (r : BidRequest) (i : Imp) (f : FactParts) (free : ℕ) (shown : Option ℕ) → public_offers number (opportunity_of r i f free shown) ≡ public_offers number (opportunity_of r i f 0 None)
unfolding public_rules
public_alone number r i f free shown = refl

by_both : (stated pays : Bool) (os : List Offer) → cond (stated || not pays) [] os ≡ cond pays (cond stated [] os) []
by_both true true os = refl
by_both true false os = refl
by_both false true os = refl
by_both false false os = refl

pub offers_stand : (number : ℕ) (r : BidRequest) (i : Imp) (f : FactParts) (free : ℕ) (shown : Option ℕ)
    → offers_of number (opportunity_of r i f free shown) ≡ (if may_pay f free shown then candidates_of number r i f else [])
unfolding offers_of candidates_of
offers_stand number r i f free shown =
    let o = opportunity_of r i f free shown in
    let p = opportunity_of r i f 0 None in
    let deals = deal_offers number f i.pmp.deals in
    let same : is_excluded common_rules o ≡ (is_excluded stated_rules p || not (may_pay f free shown)) =
    split o ∙ ap (λ b. b || is_excluded paying_rules o) (stated_alone r i f free shown) ∙ ap (λ b. is_excluded stated_rules p || b) (pays r i f free shown) in
    ap (λ b. cond b [] (public_offers number o ++ deals)) same
    ∙ ap (λ l. cond (is_excluded stated_rules p || not (may_pay f free shown)) [] (l ++ deals)) (public_alone number r i f free shown)
    ∙ by_both (is_excluded stated_rules p) (may_pay f free shown) (public_offers number p ++ deals)

pub unpaid : (number : ℕ) (r : BidRequest) (i : Imp) (f : FactParts) (free : ℕ) (shown : Option ℕ) (os : List Offer) (pays : Bool) → pays ≡ may_pay f free shown → pays ≡ false → os ≡ [] → os ≡ offers_of number (opportunity_of r i f free shown)
unpaid number r i f free shown os pays e h none =
    none ∙ ap (λ b. cond b (candidates_of number r i f) []) (sym h ∙ e) ∙ sym (offers_stand number r i f free shown)

pub paid : (number : ℕ) (r : BidRequest) (i : Imp) (f : FactParts) (free : ℕ) (shown : Option ℕ) (os : List Offer) (pays : Bool) → pays ≡ may_pay f free shown → pays ≡ true → os ≡ candidates_of number r i f → os ≡ offers_of number (opportunity_of r i f free shown)
paid number r i f free shown os pays e h all =
    all ∙ ap (λ b. cond b (candidates_of number r i f) []) (sym h ∙ e) ∙ sym (offers_stand number r i f free shown)

-- what is asked of an opportunity, whatever is free and was shown
pub candidates_at : (number : ℕ) (r : BidRequest) (i : Imp) (f : FactParts) (free : ℕ) (shown : Option ℕ) (b : Bool) → b ≡ is_excluded stated_rules (opportunity_of r i f free shown)
    → cond b [] (public_offers number (opportunity_of r i f free shown) ++ deal_offers number f i.pmp.deals) ≡ candidates_of number r i f
unfolding candidates_of
candidates_at number r i f free shown b e =
    ap (λ c. cond c [] (public_offers number (opportunity_of r i f free shown) ++ deal_offers number f i.pmp.deals)) (e ∙ stated_alone r i f free shown)
    ∙ ap (λ l. cond (is_excluded stated_rules (opportunity_of r i f 0 None)) [] (l ++ deal_offers number f i.pmp.deals)) (public_alone number r i f free shown)

-- ---- without deals

or_parts : (a b : Bool) → (a || b) ≡ false → (a ≡ false) × (b ≡ false)
or_parts true b e = absurd (false≢true (sym e))
or_parts false b e = (refl, e)

shuffled : (a b c d : Bool) → ((a || b) || (c || d)) ≡ ((a || c) || (b || d))
shuffled true b c d = refl
shuffled false true true d = refl
shuffled false true false d = refl
shuffled false false c d = refl

any_either : {A : Type 0} (p q : A → Bool) (xs : List A) → list_any (λ x. p x || q x) xs ≡ (list_any p xs || list_any q xs)
any_either p q [] = refl
any_either p q (x ∷ xs) = ap (λ b. (p x || q x) || b) (any_either p q xs) ∙ shuffled (p x) (q x) (list_any p xs) (list_any q xs)

-- a list has a text exactly where the text is equal to one of it
turned : (x : List ℕ) (xs : List (List ℕ)) → list_any (λ (t : List ℕ). bytes_eq x t) xs ≡ has_text xs x
turned x [] = refl
turned x (t ∷ xs) =
    let swapped : bytes_eq x t ≡ bytes_eq t x = nat_list_eq_equiv.symm x t in
    ap (λ (b : Bool). b || list_any (λ (u : List ℕ). bytes_eq x u) xs) swapped ∙ ap (λ (b : Bool). bytes_eq t x || b) (turned x xs)

no_deal_offers : (number : ℕ) (f : FactParts) (deals : List Deal) (n : ℕ) → list_any (has_text (map (λ (d : Deal). d.id) deals)) f.deals ≡ false → filter_map (deal_offer number f) (enumerate_from n deals) ≡ []
no_deal_offers number f [] n e = refl
no_deal_offers number f (d ∷ deals) n e =
    let (here, rest) = or_parts (list_any (λ (t : List ℕ). bytes_eq d.id t) f.deals) (list_any (has_text (map (λ (d : Deal). d.id) deals)) f.deals)
    (sym (any_either (λ (t : List ℕ). bytes_eq d.id t) (has_text (map (λ (d : Deal). d.id) deals)) f.deals) ∙ e) in
    let shut : is_open_to f d ≡ false = ap (λ (b : Bool). b && (is_usd d.currency && (allows d.wseat f.seat && (allows d.wadomain f.adomain && nat_le d.floor f.bid)))) (sym (turned d.id f.deals) ∙ here) in
    ap (λ b. cons_option (cond b (Some (offer_in number f n)) None) (filter_map (deal_offer number f) (enumerate_from (n + 1) deals))) shut
    ∙ no_deal_offers number f deals (n + 1) rest

pub without_deals : (number : ℕ) (f : FactParts) (i : Imp) → has_deals f i ≡ false → deal_offers number f i.pmp.deals ≡ []
without_deals number f i e = no_deal_offers number f i.pmp.deals 1 e

no_floor_met : (listed usd seat domain met : Bool) → met ≡ false → (listed && (usd && (seat && (domain && met)))) ≡ false
no_floor_met false usd seat domain met e = refl
no_floor_met true false seat domain met e = refl
no_floor_met true true false domain met e = refl
no_floor_met true true true false met e = refl
no_floor_met true true true true met e = e

not_met : (bid floor : ℕ) → nat_lt bid floor ≡ true → nat_le floor bid ≡ false
not_met bid floor e = grind (arith, nat_tests)

none_above : (number : ℕ) (f : FactParts) (deals : List Deal) (n : ℕ) → is_below_all f.bid deals ≡ true → filter_map (deal_offer number f) (enumerate_from n deals) ≡ []
none_above number f [] n e = refl
none_above number f (d ∷ deals) n e =
    let (here, rest) = and_parts (nat_lt f.bid d.floor) (is_below_all f.bid deals) e in
    let shut = no_floor_met (has_text f.deals d.id) (is_usd d.currency) (allows d.wseat f.seat) (allows d.wadomain f.adomain) (nat_le d.floor f.bid) (not_met f.bid d.floor here) in
    ap (λ b. cons_option (cond b (Some (offer_in number f n)) None) (filter_map (deal_offer number f) (enumerate_from (n + 1) deals))) shut
    ∙ none_above number f deals (n + 1) rest

-- below the least is below all
below_least : (bid : ℕ) (deals : List Deal) (n : ℕ) → bid < fold lesser n deals → (bid < n) × (is_below_all bid deals ≡ true)
below_least bid [] n lt = (lt, refl)
below_least bid (d ∷ deals) n lt =
    let (here, rest) = below_least bid deals (lesser n d) lt in
    let less : bid < d.floor = omega (arith, here) in
    (omega (arith, here), ap (λ (b : Bool). b && is_below_all bid deals) (le-leb (suc bid) d.floor less) ∙ rest)

pub below_deals : (number : ℕ) (f : FactParts) (deals : List Deal) → nat_lt f.bid (least_floor deals) ≡ true → deal_offers number f deals ≡ []
below_deals number f deals e = none_above number f deals 1 (below_least f.bid deals (2 ^ 64 - 1) (ltb-true f.bid (least_floor deals) e)).1

-- ---- candidates, by what was asked for them

public_alike : (b : Bool) (o : Offer) → cond b [] (o ∷ []) ≡ cond (not b) (o ∷ []) []
public_alike true o = refl
public_alike false o = refl

-- the rules for each pool by the tests of the impression and of the request's lists
abbrev is_shut : Bool → Bool → Bool
is_shut sight taken = sight || not taken

in_parts : (number : ℕ) (o : Opportunity) (sight taken public : Bool) → sight ≡ list_any (λ r. test_of r o) (NoBanner ∷ Secure ∷ Size ∷ Request ∷ Attribute ∷ []) → taken ≡ takes o.request o.facts → public ≡ not (is_excluded public_rules o)
    → cond (is_shut sight taken) [] (in_public number o.facts public ++ deal_offers number o.facts o.imp.pmp.deals) ≡ candidates_of number o.request o.imp o.facts
in_parts number o sight taken public e k h =
    let r = o.request in
    let f = o.facts in
    let deals = deal_offers number f o.imp.pmp.deals in
    ap (λ l. cond (is_shut sight taken) [] (l ++ deals)) (ap (in_public number f) h ∙ sym (public_alike (is_excluded public_rules o) (offer_in number f 0)))
    ∙ candidates_at number r o.imp f o.free o.shown (is_shut sight taken)
    (ap (λ (b : Bool). b || not taken) e ∙ ap (λ (b : Bool). list_any (λ r. test_of r o) (NoBanner ∷ Secure ∷ Size ∷ Request ∷ Attribute ∷ []) || not b) k ∙ stated_excludes o)

abbrev nothing : List Offer
nothing = []

either_none : (x : Bool) → cond x nothing nothing ≡ nothing
either_none true = refl
either_none false = refl

pub none_asked : (number : ℕ) (o : Opportunity) (before : List Offer) (public : Bool) → public ≡ not (is_excluded public_rules o) → public ≡ false → deal_offers number o.facts o.imp.pmp.deals ≡ []
    → before ≡ before ++ candidates_of number o.request o.imp o.facts
none_asked number o before public e p d =
    let sight = list_any (λ r. test_of r o) (NoBanner ∷ Secure ∷ Size ∷ Request ∷ Attribute ∷ []) in
    let x = is_shut sight (takes o.request o.facts) in
    let none : candidates_of number o.request o.imp o.facts ≡ [] =
    sym (in_parts number o sight (takes o.request o.facts) public refl refl e)
    ∙ ap (λ b. cond x [] (in_public number o.facts b ++ deal_offers number o.facts o.imp.pmp.deals)) p
    ∙ ap (λ (l : List Offer). cond x [] l) d
    ∙ either_none x in
    sym (append-nil before) ∙ ap (λ l. before ++ l) (sym none)

pub none_at_sight : (number : ℕ) (o : Opportunity) (before : List Offer) (sight : Bool) → sight ≡ list_any (λ r. test_of r o) (NoBanner ∷ Secure ∷ Size ∷ Request ∷ Attribute ∷ []) → sight ≡ true
    → before ≡ before ++ candidates_of number o.request o.imp o.facts
none_at_sight number o before sight e t =
    let taken = takes o.request o.facts in
    let public = not (is_excluded public_rules o) in
    sym (append-nil before)
    ∙ ap (λ l. before ++ l) (ap (λ b. cond (is_shut b taken) [] (in_public number o.facts public ++ deal_offers number o.facts o.imp.pmp.deals)) (sym t) ∙ in_parts number o sight taken public e refl refl)

shut_by : (sight taken : Bool) (os : List Offer) → taken ≡ false → nothing ≡ cond (is_shut sight taken) [] os
shut_by true taken os e = refl
shut_by false true os e = absurd (false≢true (sym e))
shut_by false false os e = refl

pub none_taken : (number : ℕ) (o : Opportunity) (before : List Offer) (taken : Bool) → taken ≡ takes o.request o.facts → taken ≡ false → before ≡ before ++ candidates_of number o.request o.imp o.facts
none_taken number o before taken e t =
    let sight = list_any (λ r. test_of r o) (NoBanner ∷ Secure ∷ Size ∷ Request ∷ Attribute ∷ []) in
    let public = not (is_excluded public_rules o) in
    sym (append-nil before)
    ∙ ap (λ l. before ++ l) (shut_by sight taken (in_public number o.facts public ++ deal_offers number o.facts o.imp.pmp.deals) t ∙ in_parts number o sight taken public refl e refl)

open_by : (sight taken : Bool) (os : List Offer) → sight ≡ false → taken ≡ true → os ≡ cond (is_shut sight taken) [] os
open_by true taken os e h = absurd (false≢true (sym e))
open_by false false os e h = absurd (false≢true h)
open_by false true os e h = refl

pub all_pushed : (number : ℕ) (o : Opportunity) (sight taken public : Bool) → sight ≡ list_any (λ r. test_of r o) (NoBanner ∷ Secure ∷ Size ∷ Request ∷ Attribute ∷ []) → taken ≡ takes o.request o.facts → public ≡ not (is_excluded public_rules o) → sight ≡ false → taken ≡ true
    → in_public number o.facts public ++ deal_offers number o.facts o.imp.pmp.deals ≡ candidates_of number o.request o.imp o.facts
all_pushed number o sight taken public e k h s t =
    open_by sight taken (in_public number o.facts public ++ deal_offers number o.facts o.imp.pmp.deals) s t ∙ in_parts number o sight taken public e k h

-- without deals the public pool is all
pub public_alone_pushed : (number : ℕ) (f : FactParts) (i : Imp) (before : List Offer) (public : Bool) → deal_offers number f i.pmp.deals ≡ []
    → before ++ in_public number f public ≡ before ++ (in_public number f public ++ deal_offers number f i.pmp.deals)
public_alone_pushed number f i before public d =
    ap (λ l. before ++ l) (sym (append-nil (in_public number f public)) ∙ ap (λ l. in_public number f public ++ l) (sym d))

-- ---- where nothing is sold for US dollars, no banner is asked for, or there is no pool to buy in

shut_out : (closed blank poor more : Bool) (rest : List Offer) → (poor ≡ true → rest ≡ []) → (closed || (blank || poor)) ≡ true → cond (closed || (blank || more)) [] rest ≡ []
shut_out true blank poor more rest none h = refl
shut_out false true poor more rest none h = refl
shut_out false false true more rest none h = ap (λ (l : List Offer). cond more [] l) (none refl) ∙ either_none more
shut_out false false false more rest none h = absurd (false≢true h)

shut_in_public : (private other low : Bool) → (private || other) ≡ true → (private || (other || (low || false))) ≡ true
shut_in_public true other low h = refl
shut_in_public false true low h = refl
shut_in_public false false low h = absurd (false≢true h)

none_without_pool : (number : ℕ) (o : Opportunity) → is_without_pool o.imp ≡ true → public_offers number o ++ deal_offers number o.facts o.imp.pmp.deals ≡ []
unfolding public_rules
none_without_pool number o h =
    let deals = o.imp.pmp.deals in
    let parts = and_parts (eqb (length deals) 0) (o.imp.pmp.private_auction || not (is_usd o.imp.currency)) h in
    let shut : is_excluded public_rules o ≡ true = shut_in_public o.imp.pmp.private_auction (not (is_usd o.imp.currency)) (nat_lt o.facts.bid o.imp.floor) parts.1 in
    ap (λ (b : Bool). cond b [] (offer_in number o.facts 0 ∷ []) ++ deal_offers number o.facts deals) shut
    ∙ ap (λ (ds : List Deal). deal_offers number o.facts ds) (nil_from_length deals (eqb-true (length deals) 0 parts.0))

pub none_closed : (number : ℕ) (r : BidRequest) (i : Imp) (f : FactParts) → is_closed_for r i ≡ true → candidates_of number r i f ≡ []
unfolding candidates_of stated_rules
none_closed number r i f h =
    let o = opportunity_of r i f 0 None in
    shut_out (is_closed r) (is_none i.banner) (is_without_pool i) (is_excluded (tested (Size ∷ Attribute ∷ Secure ∷ SeatNotAllowed ∷ SeatBlocked ∷ Category ∷ Advertiser ∷ [])) o)
    (public_offers number o ++ deal_offers number f i.pmp.deals) (none_without_pool number o) h

abbrev sells_none : Imp → Bool
sells_none i = is_none i.banner || is_without_pool i

pub closed_first : (r : BidRequest) (i : Imp) (closed : Bool) → closed ≡ true → closed ≡ is_closed r → is_closed_for r i ≡ true
closed_first r i closed h e = ap (λ (b : Bool). b || sells_none i) (sym e ∙ h)

pub closed_there : (r : BidRequest) (i x : Imp) (closed b : Bool) → closed ≡ is_closed r → closed ≡ false → b ≡ sells_none x → x ≡ i → b ≡ is_closed_for r i
closed_there r i x closed b e f h same = h ∙ ap sells_none same ∙ ap (λ (d : Bool). d || sells_none i) (sym f ∙ e)
