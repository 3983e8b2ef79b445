-- What was found before, beside the offers of the campaigns that were touched since, sells what the state says.
use Rattle.std.proofs.Common.{◌≡◌, ℕ, zero, suc, ◌+◌, ◌-◌, ◌<◌, ◌≤◌, ◌&&◌, ◌||◌, ◌++◌, inl, inr, nat_le, List, [], ◌∷◌, Bool, true, false, not, cond, Option, Some, None, Contains, append-nil, get_or, length, map, option_map, refl, sym, ◌∙◌, ap, subst, arith}
use Rattle.std.specs.Prelude.{◌↔◌, ◌==◌, Result, Ok, Err, filter, is_ok, nat_lt, slice_get, sum_by, take}
use Rattle.std.specs.List.{All, cons_option, enumerate_from, filter_map, flat_map, list_all, zip}
use Rattle.std.specs.List.Sorted.{IsBinarySearchResult, IsSearchInRange, IsStrictlyIncreasing}
use Rattle.std.specs.Ordering.{nat_cmp}
use Rattle.std.specs.Option.{option_map_or}
use Rattle.std.proofs.lemmas.Bool.{and_parts, cases_lt, eqb-true, le-leb, leb-true}
use Rattle.std.proofs.lemmas.Bool.Decides.{nat_tests}
use Rattle.std.proofs.lemmas.List.{get_or_default, take_more}
use Rattle.std.proofs.lemmas.List.Sorted.{searched}
use Rattle.std.proofs.lemmas.Map.Keys.{below_from_sorted, sorted_from_strictly_increasing}
use Rattle.std.proofs.lemmas.List.Elements.{All-append, All-cons, All-contains, Contains-get_or}
use Rattle.std.proofs.lemmas.List.Folds.{list_all-append, list_any_at, list_any_none}
use Rattle.std.proofs.lemmas.List.Sums.{AllPass-from_list_all, list_all-from_AllPass, sum_by-append, sum_by-cons, sum_by-take-le}
use Rattle.std.proofs.lemmas.Option.{get_or_from_slice_get, slice_get-map, slice_get_within}
use Rattle.assign.specs.Rows.{pairs_of}
use Rattle.auction_core.specs.Auctions.{beside, is_number_in, offering, offers_at, reached}
use Rattle.auction_core.specs.Core.{CoreState, listed, listed_as}
use Rattle.auction_core.specs.Draft.{found_for, is_reached}
use Rattle.auction_core.specs.Found.{AreCandidates, AreTouched, DifferAtMostIn, asked_at, awards_before, candidates_by, is_bid_of, is_touched, is_true_of, may_be_asked, may_be_sold, offers_touched, sold_cost, touched_for}
use Rattle.auction_core.specs.Payers.{pays_as}
use Rattle.auction_core.specs.Placed.{list_at}
use Rattle.auction_core.proofs.Below.{none_below}
use Rattle.auction_core.proofs.Auctioning.{IsThere, all_there, each_filter, found_offers, some_there}
use Rattle.campaign.specs.declared.parts.FactParts.{FactParts}
use Rattle.campaign_store.specs.declared.listed.LiveRecord.{LiveRecord}
use Rattle.campaign_store.specs.Table.{live_record, live_records}
use Rattle.clearing.specs.Candidates.{asked, offers_where}
use Rattle.clearing.specs.Clearing.{is_fit, outcome}
use Rattle.clearing.specs.declared.Offer.{Offer}
use Rattle.clearing.proofs.Touched.{among_either, among_filter, from_filter, from_flat, merged}
use Rattle.deal_rules.specs.Offers.{candidates_of, deal_offer, deal_offers, is_excluded, is_open_to, offer_in, public_offers}
use Rattle.deal_rules.specs.Rules.{opportunity_of, stated_rules}
use Rattle.deal_rules.specs.Terms.{terms_of, user_of}
use Rattle.deal_rules.proofs.Fitting.{candidates_fit, offers_fit}
use Rattle.deal_rules.proofs.Standing.{offers_stand, paid, unpaid}
use Rattle.plain_exchange.proofs.Each.{Each, none_some, some_same}
use Rattle.plain_exchange.proofs.Keeping.{there_is, there_known}
use Rattle.plain_exchange.proofs.Paying.{found_at}
use Rattle.plain_exchange.specs.Auction.{Award, offers, shown_to, win}
use Rattle.plain_exchange.specs.State.{Campaign, State, campaign_at, free, record_of}
use Rattle.rtb_types.specs.declared.request.BidRequest.{BidRequest}
use Rattle.rtb_types.specs.declared.request.Deal.{Deal}
use Rattle.rtb_types.specs.declared.request.Imp.{Imp}
use Rattle.target_expr.specs.Truth.{holds}

-- ---- candidates are their campaign's

abbrev IsOf : ℕ → FactParts → Offer → Type 0
IsOf n f o = (o.campaign ≡ n) × (o.bid ≡ f.bid)

none_of : (n : ℕ) (f : FactParts) → All (IsOf n f) []
none_of n f = λ k d within. absurd (omega arith)

if_of : (n : ℕ) (f : FactParts) (b : Bool) (os : List Offer) → All (IsOf n f) os → All (IsOf n f) (cond b [] os)
if_of n f true os h = none_of n f
if_of n f false os h = h

one_of : (n : ℕ) (f : FactParts) (b : Bool) (o : Offer) (os : List Offer) → IsOf n f o → All (IsOf n f) os → All (IsOf n f) (cons_option (cond b (Some o) None) os)
one_of n f true o os e h = All-cons (IsOf n f) o os e h
one_of n f false o os e h = h

deals_of : (n : ℕ) (f : FactParts) (deals : List Deal) (k : ℕ) → All (IsOf n f) (filter_map (deal_offer n f) (enumerate_from k deals))
deals_of n f [] k = none_of n f
deals_of n f (d ∷ deals) k = one_of n f (is_open_to f d) (offer_in n f k) (filter_map (deal_offer n f) (enumerate_from (k + 1) deals)) (refl, refl) (deals_of n f deals (k + 1))

all_of : (n : ℕ) (r : BidRequest) (i : Imp) (f : FactParts) → All (IsOf n f) (candidates_of n r i f)
unfolding candidates_of
all_of n r i f =
    let o = opportunity_of r i f 0 None in
    if_of n f (is_excluded stated_rules o) (public_offers n o ++ deal_offers n f i.pmp.deals)
    (All-append (IsOf n f) (public_offers n o) (deal_offers n f i.pmp.deals)
    (if_of n f _ (offer_in n f 0 ∷ []) (All-cons (IsOf n f) (offer_in n f 0) [] (refl, refl) (none_of n f)))
    (deals_of n f i.pmp.deals 1))

-- a candidate of a record is of its number, and bids what it states
of_record : (r : BidRequest) (i : Imp) (c : LiveRecord) (o : Offer) → Contains (candidates_by r i c) o → IsOf c.number c.entry.facts o
of_record r i c o has = All-contains (IsOf c.number c.entry.facts) (candidates_of c.number r i c.entry.facts) o (all_of c.number r i c.entry.facts) has

-- ---- the live records of a state are its live campaigns

abbrev record_at : ℕ × Campaign → LiveRecord
record_at p = record { number = p.0; entry = record_of p.1 }

one_kept : (test : LiveRecord → Bool) (live holds : Bool) (x : LiveRecord) (p : ℕ × Campaign) (rest : List LiveRecord) (ps : List (ℕ × Campaign)) → test x ≡ holds → record_at p ≡ x → filter test rest ≡ map record_at ps
    → filter test (cond live (x ∷ []) [] ++ rest) ≡ map record_at (cond (live && holds) (p ∷ ps) ps)
one_kept test true true x p rest ps e f h =
    ap (λ (b : Bool). cond b (x ∷ filter test rest) (filter test rest)) e ∙ ap (λ (l : List LiveRecord). x ∷ l) h ∙ ap (λ (y : LiveRecord). y ∷ map record_at ps) (sym f)
one_kept test true false x p rest ps e f h = ap (λ (b : Bool). cond b (x ∷ filter test rest) (filter test rest)) e ∙ h
one_kept test false holds x p rest ps e f h = h

reached_from : (r : BidRequest) (i : Imp) (n : ℕ) (cs : List Campaign) → filter (is_true_of r i) (flat_map live_record (enumerate_from n (map listed_as cs))) ≡ map record_at (filter (is_reached r i) (enumerate_from n cs))
reached_from r i n [] = refl
reached_from r i n (c ∷ cs) =
    one_kept (is_true_of r i) c.live (holds (pairs_of r i) c.expr) (record_at (n, c)) (n, c) (flat_map live_record (enumerate_from (n + 1) (map listed_as cs))) (filter (is_reached r i) (enumerate_from (n + 1) cs)) refl refl
    (reached_from r i (n + 1) cs)

records_reached : (s : State) (r : BidRequest) (i : Imp) → filter (is_true_of r i) (live_records (listed s)) ≡ map record_at (reached s r i)
records_reached s r i = reached_from r i 1 s.campaigns

-- a live record is that of a campaign
IsRecordIn : ℕ → List Campaign → LiveRecord → Type 0
IsRecordIn n cs c = (i : ℕ) × (d : Campaign) × (slice_get cs i ≡ Some d) × (c ≡ record_at (n + i, d))

first_record : (n : ℕ) (d : Campaign) (cs : List Campaign) (live : Bool) (c : LiveRecord) → Contains (cond live (record_at (n, d) ∷ []) []) c → IsRecordIn n (d ∷ cs) c
unfolding IsRecordIn
first_record n d cs true c (zero, within, is) = let same : n ≡ n + 0 = omega arith in (0, d, refl, sym is ∙ ap (λ (k : ℕ). record_at (k, d)) same)
first_record n d cs true c (suc k, within, is) = absurd (omega (arith, within))
first_record n d cs false c (k, within, is) = absurd (omega (arith, within))

later_record : (n : ℕ) (d : Campaign) (cs : List Campaign) (c : LiveRecord) → IsRecordIn (n + 1) cs c → IsRecordIn n (d ∷ cs) c
unfolding IsRecordIn
later_record n d cs c (i, e, at, is) = let same : (n + 1) + i ≡ n + suc i = omega arith in (suc i, e, at, is ∙ ap (λ (k : ℕ). record_at (k, e)) same)

record_in : (n : ℕ) (cs : List Campaign) (c : LiveRecord) → Contains (flat_map live_record (enumerate_from n (map listed_as cs))) c → IsRecordIn n cs c
record_in n [] c (k, within, is) = absurd (omega (arith, within))
record_in n (d ∷ cs) c h =
    elim (among_either c (live_record (n, listed_as d)) (flat_map live_record (enumerate_from (n + 1) (map listed_as cs))) h) [
      | inl l ↦ first_record n d cs d.live c l
      | inr m ↦ later_record n d cs c (record_in (n + 1) cs c m)
    ]

record_there : (s : State) (c : LiveRecord) → Contains (live_records (listed s)) c → (d : Campaign) × (campaign_at s c.number ≡ Some d) × (c.entry.facts ≡ d.facts)
unfolding IsRecordIn
record_there s c h =
    let (i, d, at, is) = record_in 1 s.campaigns c h in
    (d, ap (λ (x : LiveRecord). campaign_at s x.number) is ∙ found_at s i d at, ap (λ (x : LiveRecord). x.entry.facts) is)

number_in : (s : State) (n : ℕ) → 1 ≤ n → n < 1 + length s.campaigns → is_number_in s n ≡ true
number_in s n low high = ap (λ (b : Bool). b && nat_le n (length s.campaigns)) (le-leb 1 n low) ∙ le-leb n (length s.campaigns) (omega (arith, high))

-- ---- the offers of the state, by records and by numbers

abbrev pay_of : CoreState → BidRequest → ℕ → List Award → LiveRecord → Bool
pay_of core r m awards c = option_map_or (pays_as (beside core.settings m r core.state awards) r m c.number) (campaign_at core.state c.number) false

offers_alike : (core : CoreState) (r : BidRequest) (i : Imp) (m : ℕ) (awards : List Award) (ps : List (ℕ × Campaign)) → Each (IsThere core.state) ps
    → flat_map (offers_where (pay_of core r m awards) (candidates_by r i)) (map record_at ps) ≡ flat_map (offering (beside core.settings m r core.state awards) r i m) ps
offers_alike core r i m awards [] h = refl
offers_alike core r i m awards (p ∷ ps) h =
    let t = beside core.settings m r core.state awards in
    let rest = flat_map (offers_where (pay_of core r m awards) (candidates_by r i)) (map record_at ps) in
    ap (λ (c : Option Campaign). cond (option_map_or (pays_as t r m p.0) c false) (candidates_of p.0 r i p.1.facts) [] ++ rest) h.0
    ∙ ap (λ (l : List Offer). l ++ rest) (sym (offers_stand p.0 r i p.1.facts (free t p.0 p.1) (option_map (shown_to t m p.0 p.1) (user_of r))))
    ∙ ap (λ (l : List Offer). offering t r i m p ++ l) (offers_alike core r i m awards ps h.1)

by_number : (s t : State) (r : BidRequest) (i : Imp) (m : ℕ) (ps : List (ℕ × Campaign)) → t.campaigns ≡ s.campaigns → Each (IsThere s) ps → flat_map (offers_at t r i m) (map (λ (p : ℕ × Campaign). p.0) ps) ≡ flat_map (offering t r i m) ps
by_number s t r i m [] same h = refl
by_number s t r i m (p ∷ ps) same h =
    let there : campaign_at t p.0 ≡ Some p.1 = ap (λ (cs : List Campaign). campaign_at (record s { campaigns = cs }) p.0) same ∙ h.0 in
    ap (λ (c : Option Campaign). option_map_or (λ (c : Campaign). offering t r i m (p.0, c)) c [] ++ flat_map (offers_at t r i m) (map (λ (p : ℕ × Campaign). p.0) ps)) there
    ∙ ap (λ (l : List Offer). offering t r i m p ++ l) (by_number s t r i m ps same h.1)

cond_map : {A B : Type 0} (f : A → B) (b : Bool) (x : A) (xs : List A) → cond b (f x ∷ map f xs) (map f xs) ≡ map f (cond b (x ∷ xs) xs)
cond_map f true x xs = refl
cond_map f false x xs = refl

filter_mapped : {A B : Type 0} (f : A → B) (test : B → Bool) (xs : List A) → filter test (map f xs) ≡ map f (filter (λ x. test (f x)) xs)
filter_mapped f test [] = refl
filter_mapped {A} {B} f test (x ∷ xs) =
    ap (λ (l : List B). cond (test (f x)) (f x ∷ l) l) (filter_mapped f test xs) ∙ cond_map f (test (f x)) x (filter (λ y. test (f y)) xs)

pub all_offers : (core : CoreState) (r : BidRequest) (i : Imp) (m : ℕ) (awards : List Award) → flat_map (offers_at (beside core.settings m r core.state awards) r i m) (found_for core.state r i) ≡ offers (beside core.settings m r core.state awards) r i m
all_offers core r i m awards =
    let t = beside core.settings m r core.state awards in
    by_number core.state t r i m (reached core.state r i) refl (all_there core.state r i) ∙ sym (found_offers t r i m)

touched_offers : (core : CoreState) (touched : List ℕ) (r : BidRequest) (i : Imp) (m : ℕ) (awards : List Award)
    → flat_map (offers_where (pay_of core r m awards) (candidates_by r i)) (filter (λ (c : LiveRecord). is_touched touched c.number) (map record_at (reached core.state r i))) ≡ offers_touched core touched r i m awards
touched_offers core touched r i m awards =
    let s = core.state in
    let t = beside core.settings m r s awards in
    let test : ℕ × Campaign → Bool = λ (p : ℕ × Campaign). is_touched touched p.0 in
    let kept = each_filter (IsThere s) test (reached s r i) (all_there s r i) in
    ap (flat_map (offers_where (pay_of core r m awards) (candidates_by r i))) (filter_mapped record_at (λ (c : LiveRecord). is_touched touched c.number) (reached s r i))
    ∙ offers_alike core r i m awards (filter test (reached s r i)) kept
    ∙ sym (by_number s t r i m (filter test (reached s r i)) refl kept)
    ∙ ap (flat_map (offers_at t r i m)) (sym (filter_mapped (λ (p : ℕ × Campaign). p.0) (is_touched touched) (reached s r i)))

-- ---- the sale

same_reached : (s : State) (touched : List ℕ) (live : List LiveRecord) (r : BidRequest) (i : Imp) → DifferAtMostIn touched live s
    → (c : LiveRecord) → is_touched touched c.number ≡ false → Contains (filter (is_true_of r i) (live_records (listed s))) c ↔ Contains (filter (is_true_of r i) live) c
same_reached s touched live r i differ c f = (
  λ a. let (is, among) = from_filter (is_true_of r i) c (live_records (listed s)) a in among_filter (is_true_of r i) c live is ((differ c f).1 among),
  λ a. let (is, among) = from_filter (is_true_of r i) c live a in among_filter (is_true_of r i) c (live_records (listed s)) is ((differ c f).0 among),
)

asks : (core : CoreState) (touched : List ℕ) (r : BidRequest) (i : Imp) (m : ℕ) (awards : List Award) (c : LiveRecord) (o : Offer) → Contains (candidates_by r i c) o
    → may_be_sold core touched r m awards o ≡ (not (is_touched touched c.number) && pay_of core r m awards c)
asks core touched r i m awards c o has =
    let t = beside core.settings m r core.state awards in
    let number = (of_record r i c o has).0 in
    ap (λ (n : ℕ). not (is_touched touched n) && option_map_or (pays_as t r m n) (campaign_at core.state n) false) number

pub sold_over : (core : CoreState) (touched : List ℕ) (r : BidRequest) (i : Imp) (m : ℕ) (awards : List Award) (live : List LiveRecord) (cs : List Offer) → DifferAtMostIn touched live core.state → AreCandidates live r i cs
    → outcome (filter (may_be_sold core touched r m awards) cs ++ offers_touched core touched r i m awards) (terms_of r i) ≡ win (beside core.settings m r core.state awards) r i m
sold_over core touched r i m awards live cs differ are =
    let s = core.state in
    let t = beside core.settings m r s awards in
    let now = filter (is_true_of r i) (live_records (listed s)) in
    let before = filter (is_true_of r i) live in
    let cands = candidates_by r i in
    let pay = pay_of core r m awards in
    let may = may_be_sold core touched r m awards in
    let test : LiveRecord → Bool = λ (c : LiveRecord). is_touched touched c.number in
    ap (λ (l : List Offer). outcome (filter may cs ++ l) (terms_of r i))
    (sym (touched_offers core touched r i m awards) ∙ ap (λ (l : List LiveRecord). flat_map (offers_where pay cands) (filter test l)) (sym (records_reached s r i)))
    ∙ sym (merged (terms_of r i) test pay cands may now before cs (same_reached s touched live r i differ) are.members (λ c o among has. asks core touched r i m awards c o has))
    ∙ ap (λ (l : List Offer). outcome l (terms_of r i))
    (ap (flat_map (offers_where pay cands)) (records_reached s r i) ∙ offers_alike core r i m awards (reached s r i) (all_there s r i) ∙ sym (found_offers t r i m))

-- ---- what is asked of the candidates

each_passes : {A : Type 0} (p : A → Bool) (xs : List A) → ((x : A) → Contains xs x → p x ≡ true) → list_all p xs ≡ true
each_passes p xs h = list_all-from_AllPass p xs (λ k d within. h (get_or xs k d) (Contains-get_or xs k d within))

passes : {A : Type 0} (p : A → Bool) (xs : List A) (x : A) → list_all p xs ≡ true → Contains xs x → p x ≡ true
passes p xs x h (k, within, is) = subst (λ y. p y ≡ true) is (AllPass-from_list_all p xs h k x within)

is_same : (m n : ℕ) → m ≡ n → (m == n) ≡ true
is_same m n e = grind (arith, nat_tests)

-- a live record's campaign bids what the record states
record_bids : (s : State) (c : LiveRecord) (bid : ℕ) → bid ≡ c.entry.facts.bid → Contains (live_records (listed s)) c → is_bid_of s c.number bid ≡ true
record_bids s c bid e h =
    let (d, there, facts) = record_there s c h in
    ap (λ (o : Option Campaign). option_map_or (λ (x : Campaign). bid == x.facts.bid) o false) there ∙ is_same bid d.facts.bid (e ∙ ap (λ (f : FactParts). f.bid) facts)

asked_there : (core : CoreState) (touched : List ℕ) (awards : List Award) (n bid : ℕ) → length awards ≤ 64 → (is_touched touched n ≡ false → is_bid_of core.state n bid ≡ true) → (nat_le (length awards) 64 && (is_touched touched n || is_bid_of core.state n bid)) ≡ true
asked_there core touched awards n bid few there = ap (λ (b : Bool). b && (is_touched touched n || is_bid_of core.state n bid)) (le-leb (length awards) 64 few) ∙ by_test (is_touched touched n) (is_bid_of core.state n bid) there
  where
    by_test : (b c : Bool) → (b ≡ false → c ≡ true) → (b || c) ≡ true
    by_test true c h = refl
    by_test false c h = h refl

pub all_known : (core : CoreState) (touched : List ℕ) (r : BidRequest) (i : Imp) (awards : List Award) (live : List LiveRecord) (cs : List Offer) → length awards ≤ 64 → DifferAtMostIn touched live core.state → AreCandidates live r i cs
    → list_all (may_be_asked core touched awards) cs ≡ true
all_known core touched r i awards live cs few differ are = each_passes (may_be_asked core touched awards) cs (λ o among.
    let (c, kept, has) = from_flat (candidates_by r i) o (filter (is_true_of r i) live) ((are.members o).0 among) in
    let (is, in_live) = from_filter (is_true_of r i) c live kept in
    let known = of_record r i c o has in
    ap (λ (n : ℕ). nat_le (length awards) 64 && (is_touched touched n || is_bid_of core.state n o.bid)) known.0
    ∙ asked_there core touched awards c.number o.bid few (λ f. record_bids core.state c o.bid known.1 ((differ c f).0 in_live)))

-- what is known of a candidate that may be asked
pub asked_known : (core : CoreState) (touched : List ℕ) (awards : List Award) (o : Offer) → may_be_asked core touched awards o ≡ true → is_touched touched o.campaign ≡ false
    → (length awards ≤ 64) × (c : Campaign) × (campaign_at core.state o.campaign ≡ Some c) × (o.bid ≡ c.facts.bid)
asked_known core touched awards o h fresh =
    let parts = and_parts (nat_le (length awards) 64) (is_touched touched o.campaign || is_bid_of core.state o.campaign o.bid) h in
    let bids : is_bid_of core.state o.campaign o.bid ≡ true = ap (λ (b : Bool). b || is_bid_of core.state o.campaign o.bid) (sym fresh) ∙ parts.1 in
    let (c, there, same) = there_is (λ (c : Campaign). o.bid == c.facts.bid) (campaign_at core.state o.campaign) bids in
    (leb-true (length awards) 64 parts.0, c, there, eqb-true o.bid c.facts.bid same)

pub all_fit : (live : List LiveRecord) (r : BidRequest) (i : Imp) (cs : List Offer) → AreCandidates live r i cs → list_all (is_fit (terms_of r i)) cs ≡ true
all_fit live r i cs are = each_passes (is_fit (terms_of r i)) cs (λ o among.
    let (c, kept, has) = from_flat (candidates_by r i) o (filter (is_true_of r i) live) ((are.members o).0 among) in
    passes (is_fit (terms_of r i)) (candidates_by r i c) o (candidates_fit c.number r i c.entry.facts) has)

-- ---- offers by number

fits_at : (t : State) (r : BidRequest) (i : Imp) (m n : ℕ) (o : Option Campaign) → list_all (is_fit (terms_of r i)) (option_map_or (λ (c : Campaign). offering t r i m (n, c)) o []) ≡ true
fits_at t r i m n None = refl
fits_at t r i m n (Some c) = offers_fit n r i c.facts (free t n c) (option_map (shown_to t m n c) (user_of r))

pub offers_at_fit : (t : State) (r : BidRequest) (i : Imp) (m : ℕ) (ns : List ℕ) → list_all (is_fit (terms_of r i)) (flat_map (offers_at t r i m) ns) ≡ true
offers_at_fit t r i m [] = refl
offers_at_fit t r i m (n ∷ ns) =
    list_all-append (is_fit (terms_of r i)) (offers_at t r i m n) (flat_map (offers_at t r i m) ns)
    ∙ ap (λ (b : Bool). b && list_all (is_fit (terms_of r i)) (flat_map (offers_at t r i m) ns)) (fits_at t r i m n (campaign_at t n))
    ∙ offers_at_fit t r i m ns

pub there_at : (s : State) (n : ℕ) → 1 ≤ n → n ≤ length s.campaigns → (c : Campaign) × (campaign_at s n ≡ Some c)
there_at s n low high =
    let place : 1 + (n - 1) ≡ n = omega (arith, low) in
    let (c, at) = some_there s.campaigns (n - 1) (omega (arith, low, high)) in
    (c, subst (λ k. campaign_at s k ≡ Some c) place (found_at s (n - 1) c at))

-- the numbers of those that are reached are numbers in the state
each_number : (s : State) (ps : List (ℕ × Campaign)) → Each (IsThere s) ps → list_all (is_number_in s) (map (λ (p : ℕ × Campaign). p.0) ps) ≡ true
each_number s [] h = refl
each_number s (p ∷ ps) h =
    let known = there_known s p.0 p.1 h.0 in
    ap (λ (b : Bool). b && list_all (is_number_in s) (map (λ (p : ℕ × Campaign). p.0) ps)) (number_in s p.0 known.0 (omega (arith, known.1)))
    ∙ each_number s ps h.1

pub found_numbers : (s : State) (r : BidRequest) (i : Imp) → list_all (is_number_in s) (found_for s r i) ≡ true
found_numbers s r i = each_number s (reached s r i) (all_there s r i)

pub touched_numbers : (s : State) (touched : List ℕ) (r : BidRequest) (i : Imp) → list_all (is_number_in s) (touched_for s touched r i) ≡ true
touched_numbers s touched r i =
    let test : ℕ × Campaign → Bool = λ (p : ℕ × Campaign). is_touched touched p.0 in
    ap (list_all (is_number_in s)) (filter_mapped (λ (p : ℕ × Campaign). p.0) (is_touched touched) (reached s r i))
    ∙ each_number s (filter test (reached s r i)) (each_filter (IsThere s) test (reached s r i) (all_there s r i))

-- ---- lists of touched campaigns

pub touched_by_map : (s : State) (touched : List ℕ) (r : BidRequest) (now : List (List ℕ)) → now ≡ map (touched_for s touched r) r.imps → AreTouched s touched r now
touched_by_map s touched r now e = λ k i at.
    ap (λ (l : List (List ℕ)). list_at l k) e
    ∙ ap (λ (o : Option (List ℕ)). option_map_or (λ (l : List ℕ). l) o []) (slice_get-map (touched_for s touched r) r.imps k ∙ ap (option_map (touched_for s touched r)) at)

none_touched : (xs : List ℕ) → filter (is_touched []) xs ≡ []
none_touched [] = refl
none_touched (x ∷ xs) = none_touched xs

none_at : (k : ℕ) → list_at {X = ℕ} [] k ≡ []
none_at zero = refl
none_at (suc k) = refl

pub touched_by_none : (s : State) (r : BidRequest) → AreTouched s [] r []
touched_by_none s r = λ k i at. none_at k ∙ sym (none_touched (found_for s r i))

-- ---- the loop over numbers

pub number_there : (s : State) (ns : List ℕ) (k d : ℕ) → list_all (is_number_in s) ns ≡ true → k < length ns → (1 ≤ get_or ns k d) × (get_or ns k d ≤ length s.campaigns)
number_there s ns k d h inside =
    let n = get_or ns k d in
    let parts = and_parts (nat_le 1 n) (nat_le n (length s.campaigns)) (AllPass-from_list_all (is_number_in s) ns h k d inside) in
    (leb-true 1 n parts.0, leb-true n (length s.campaigns) parts.1)

-- ---- the offers of one campaign, by what was asked of it

number_offers : (t : State) (r : BidRequest) (i : Imp) (m n : ℕ) (c : Campaign) → campaign_at t n ≡ Some c → offers_at t r i m n ≡ offering t r i m (n, c)
number_offers t r i m n c e = ap (λ (o : Option Campaign). option_map_or (λ (c : Campaign). offering t r i m (n, c)) o []) e

pub none_if_below : (t : State) (r : BidRequest) (i : Imp) (m n : ℕ) (c : Campaign) (before : List Offer) → campaign_at t n ≡ Some c → (nat_lt c.facts.bid i.floor && (length i.pmp.deals == 0)) ≡ true → before ≡ before ++ offers_at t r i m n
none_if_below t r i m n c before e below =
    sym (append-nil before)
    ∙ ap (λ (l : List Offer). before ++ l) (sym (number_offers t r i m n c e ∙ none_below n r i c.facts (free t n c) (option_map (shown_to t m n c) (user_of r)) below))

pub none_if_unpaid : (t : State) (r : BidRequest) (i : Imp) (m n : ℕ) (c : Campaign) (before : List Offer) (pays : Bool) → campaign_at t n ≡ Some c → pays ≡ pays_as t r m n c → pays ≡ false → before ≡ before ++ offers_at t r i m n
none_if_unpaid t r i m n c before pays e h f =
    sym (append-nil before)
    ∙ ap (λ (l : List Offer). before ++ l) (unpaid n r i c.facts (free t n c) (option_map (shown_to t m n c) (user_of r)) [] pays h f refl ∙ sym (number_offers t r i m n c e))

pub all_if_paid : (t : State) (r : BidRequest) (i : Imp) (m n : ℕ) (c : Campaign) (facts : FactParts) (pays : Bool) → campaign_at t n ≡ Some c → facts ≡ c.facts → pays ≡ pays_as t r m n c → pays ≡ true → candidates_of n r i facts ≡ offers_at t r i m n
all_if_paid t r i m n c facts pays e g h p =
    ap (candidates_of n r i) g
    ∙ paid n r i c.facts (free t n c) (option_map (shown_to t m n c) (user_of r)) (candidates_of n r i c.facts) pays h p refl
    ∙ sym (number_offers t r i m n c e)

-- ---- a look for a number among those that were touched

rises : (ns : List ℕ) → IsStrictlyIncreasing ns → (i j : ℕ) → i ≤ j → j < length ns → get_or ns i 0 ≤ get_or ns j 0
rises ns up i j le within =
    elim (cases_lt i j) [
      | inl lt ↦ omega (arith, below_from_sorted ns i j 0 (sorted_from_strictly_increasing ns up) lt within)
      | inr ge ↦ let same : i ≡ j = omega (arith, le, ge) in omega (arith, ap (λ (k : ℕ). get_or ns k 0) same)
    ]

tells_same : (m n : ℕ) → m ≡ n → (m == n) ≡ true
tells_same m n e = grind (arith, nat_tests)

tells_other : (m n : ℕ) → (m ≡ n → ⊥) → (m == n) ≡ false
tells_other m n e = grind (arith, nat_tests)

pub touched_looked : (ns : List ℕ) (n : ℕ) (r : Result ℕ ℕ) → IsStrictlyIncreasing ns → IsSearchInRange r (length ns) → IsBinarySearchResult (λ m. nat_cmp m n) ns r → is_ok r ≡ is_touched ns n
touched_looked ns n (Ok i) up within at =
    let (inside, is) = searched ns n (Ok i) at (rises ns up) in
    sym (list_any_at (λ (m : ℕ). m == n) ns i 0 inside (tells_same (get_or ns i 0) n is))
touched_looked ns n (Err i) up within at =
    let (inside, below, above) = searched ns n (Err i) at (rises ns up) in
    sym (list_any_none (λ (m : ℕ). m == n) ns (λ k d here.
    tells_other (get_or ns k d) n (λ e.
    let same = sym (get_or_default ns k d 0 here) ∙ e in
    elim (cases_lt k i) [
      | inl lt ↦ omega (arith, same, below k lt)
      | inr ge ↦ omega (arith, same, above k ge here)
    ])))

-- ---- what is asked of all impressions

no_item : {A : Type 0} (k : ℕ) (x : A) → slice_get {X = A} [] k ≡ Some x → ⊥
no_item zero x e = none_some x e
no_item (suc k) x e = none_some x e

zipped_at : {A B : Type 0} (xs : List A) (ys : List B) (k : ℕ) (x : A) (y : B) → slice_get xs k ≡ Some x → slice_get ys k ≡ Some y → slice_get (zip xs ys) k ≡ Some (x, y)
zipped_at [] ys k x y e f = absurd (no_item k x e)
zipped_at (a ∷ xs) [] k x y e f = absurd (no_item k y f)
zipped_at {A} {B} (a ∷ xs) (b ∷ ys) zero x y e f = ap (λ (p : A). Some (p, b)) (some_same a x e) ∙ ap (λ (q : B). Some (x, q)) (some_same b y f)
zipped_at (a ∷ xs) (b ∷ ys) (suc k) x y e f = zipped_at xs ys k x y e f

numbered_at : {A : Type 0} (n : ℕ) (xs : List A) (k : ℕ) (x : A) → slice_get xs k ≡ Some x → slice_get (enumerate_from n xs) k ≡ Some (n + k, x)
numbered_at n [] k x e = absurd (no_item k x e)
numbered_at {A} n (a ∷ xs) zero x e = let same : n ≡ n + 0 = omega arith in ap (λ (m : ℕ). Some (m, a)) same ∙ ap (λ (y : A). Some (n + 0, y)) (some_same a x e)
numbered_at n (a ∷ xs) (suc k) x e = let next : (n + 1) + k ≡ n + suc k = omega arith in numbered_at (n + 1) xs k x e ∙ ap (λ (m : ℕ). Some (m, x)) next

sum_further : {A : Type 0} (f : A → ℕ) (xs : List A) (k : ℕ) (x : A) → slice_get xs k ≡ Some x → sum_by f (take (k + 1) xs) ≡ sum_by f (take k xs) + f x
sum_further f xs k x at =
    let last = get_or_from_slice_get xs k x x at in
    let one : sum_by f (x ∷ []) ≡ f x = omega (arith, sum_by-cons f x []) in
    ap (sum_by f) (take_more xs k x (slice_get_within xs k x at) ∙ ap (λ y. take k xs ++ y ∷ []) last)
    ∙ sum_by-append f (take k xs) (x ∷ [])
    ∙ ap (λ n. sum_by f (take k xs) + n) one

pub cost_further : (core : CoreState) (touched : List ℕ) (r : BidRequest) (m : ℕ) (found : List (List Offer)) (k : ℕ) (x : Imp) (cs : List Offer) (awards : List Award) (start before after : ℕ)
    → slice_get r.imps k ≡ Some x → slice_get found k ≡ Some cs → awards ≡ awards_before core r m k
    → after ≤ before + asked (may_be_sold core touched r m awards) (offers_touched core touched r x m awards) cs
    → before ≤ start + sum_by (asked_at core touched r m) (take k (enumerate_from 0 (zip r.imps found)))
    → after ≤ start + sum_by (asked_at core touched r m) (take (k + 1) (enumerate_from 0 (zip r.imps found)))
cost_further core touched r m found k x cs awards start before after at has e step so_far =
    let items = enumerate_from 0 (zip r.imps found) in
    let number : 0 + k ≡ k = omega arith in
    let item = numbered_at 0 (zip r.imps found) k (x, cs) (zipped_at r.imps found k x cs at has) ∙ ap (λ (n : ℕ). Some (n, (x, cs))) number in
    let here : after ≤ before + asked_at core touched r m (k, (x, cs)) =
    subst (λ (ds : List Award). after ≤ before + asked (may_be_sold core touched r m ds) (offers_touched core touched r x m ds) cs) e step in
    omega (arith, here, so_far, sum_further (asked_at core touched r m) items k (k, (x, cs)) item)

pub cost_whole : (core : CoreState) (touched : List ℕ) (r : BidRequest) (m : ℕ) (found : List (List Offer)) (k : ℕ) (start after : ℕ)
    → after ≤ start + sum_by (asked_at core touched r m) (take k (enumerate_from 0 (zip r.imps found))) → after ≤ start + sold_cost core touched r m found
cost_whole core touched r m found k start after h = omega (arith, h, sum_by-take-le (asked_at core touched r m) (enumerate_from 0 (zip r.imps found)) k)
