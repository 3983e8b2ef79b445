-- Auctions: what is free beside awards, and the offers of the campaigns that were found.
use Rattle.std.proofs.Common.{◌≡◌, ℕ, zero, suc, ◌+◌, ◌*◌, ◌-◌, ◌<◌, ◌≤◌, ◌&&◌, ◌||◌, eqb, cond, Bool, true, false, List, [], ◌∷◌, ◌++◌, length, take, get_or, refl, sym, ◌∙◌, ap, arith, append-nil, Option, Some, None, option_to_list}
use Rattle.std.specs.Prelude.{IfSome, filter, nat_lt, option_map, slice_get, sum_by}
use Rattle.std.specs.List.{cons_option, enumerate_from, filter_map, flat_map}
use Rattle.std.specs.Option.{option_map_or}
use Rattle.std.proofs.lemmas.Bool.{le-leb}
use Rattle.std.proofs.lemmas.List.Elements.{filter_map-append}
use Rattle.std.proofs.lemmas.Slice.Eq.{bytes_eq-Decides}
use Rattle.std.proofs.lemmas.List.{take_more}
use Rattle.std.proofs.lemmas.List.Concat.{flat_map-append}
use Rattle.std.proofs.lemmas.List.Sums.{sum_by-append, sum_by-cons}
use Rattle.std.proofs.lemmas.Option.{slice_get-map}
use Rattle.auction_core.specs.Auctions.{beside, awards_cost, offering, reached, times}
use Rattle.auction_core.specs.Draft.{found_for, is_reached}
use Rattle.budget_book.specs.declared.sales.Gone.{Gone}
use Rattle.budget_book.specs.declared.sales.SaleRow.{SaleRow}
use Rattle.budget_book.specs.Sales.{committed_of, is_billed_of, is_held_of, is_shown, is_to, shown_of}
use Rattle.campaign.specs.Caps.{CapTerms}
use Rattle.campaign.specs.declared.parts.FactParts.{FactParts}
use Rattle.clearing.specs.declared.Offer.{Offer}
use Rattle.deal_rules.specs.Rules.{opportunity_of}
use Rattle.deal_rules.specs.Terms.{user_of}
use Rattle.plain_exchange.specs.declared.settings.Settings.{Settings}
use Rattle.plain_exchange.specs.Auction.{Award, offers, offers_by, opportunity, sale_of, sales_of, shown_to}
use Rattle.plain_exchange.specs.State.{Campaign, State, campaign_at, free, swept}
use Rattle.plain_exchange.proofs.Each.{Each, each_numbered, none_some, some_same}
use Rattle.plain_exchange.proofs.Paying.{found_at}
use Rattle.plain_exchange.proofs.Places.{each_at}
use Rattle.rtb_types.specs.declared.request.BidRequest.{BidRequest}
use Rattle.rtb_types.specs.declared.request.Imp.{Imp}

-- ---- what is free beside awards

abbrev pick : Bool → ℕ → ℕ → ℕ
pick b x y = cond b x y

abbrev taken : ℕ → SaleRow → ℕ
taken n s = pick (is_held_of n s || is_billed_of n s) s.price 0

abbrev paid : ℕ → Award → ℕ
paid n a = pick (eqb a.1.campaign n) a.1.price 0

own_price : (b : Bool) (p : ℕ) → pick ((b && true) || (b && false)) p 0 ≡ pick b p 0
own_price true p = refl
own_price false p = refl

drawn_sold : (settings : Settings) (m : ℕ) (r : BidRequest) (n : ℕ) (awards : List Award) → sum_by (taken n) (sales_of settings m r awards) ≡ sum_by (paid n) awards
drawn_sold settings m r n [] = refl
drawn_sold settings m r n (a ∷ awards) =
    let one : taken n (sale_of settings m r a) ≡ paid n a = own_price (eqb a.1.campaign n) a.1.price in
    omega (arith, one, sum_by-cons (taken n) (sale_of settings m r a) (sales_of settings m r awards), sum_by-cons (paid n) a awards, drawn_sold settings m r n awards)

pub committed_beside : (settings : Settings) (m : ℕ) (r : BidRequest) (n : ℕ) (gone : Gone) (sales : List SaleRow) (awards : List Award) → committed_of n gone (sales ++ sales_of settings m r awards) ≡ committed_of n gone sales + awards_cost n awards
committed_beside settings m r n gone sales awards = omega (arith, sum_by-append (taken n) sales (sales_of settings m r awards), drawn_sold settings m r n awards)

pub free_drawn : (settings : Settings) (m : ℕ) (r : BidRequest) (n : ℕ) (s : State) (c : Campaign) (awards : List Award) → free (beside settings m r s awards) n c ≡ free (swept m s) n c - awards_cost n awards
free_drawn settings m r n s c awards = omega (arith, committed_beside settings m r n c.gone (swept m s).sales awards)

-- ---- how often a user is shown a campaign beside awards

abbrev shows : ℕ → List ℕ → ℕ → ℕ → SaleRow → ℕ
shows n user seconds m s = pick (is_shown n user seconds m s) 1 0

abbrev has : ℕ → Award → ℕ
has n a = pick (eqb a.1.campaign n) 1 0

-- a new sale counts, where it is to the user and in time
own_sale : (b to late : Bool) → to ≡ true → late ≡ true → pick (((b && true) || (b && false)) && (to && late)) 1 0 ≡ pick b 1 0
own_sale true to late e f = ap (λ t. pick (t && late) 1 0) e ∙ ap (λ t. pick t 1 0) f
own_sale false to late e f = refl

times_sold : (settings : Settings) (m : ℕ) (r : BidRequest) (n : ℕ) (user : List ℕ) (seconds : ℕ) → user_of r ≡ Some user → 1 ≤ seconds → (awards : List Award) → sum_by (shows n user seconds m) (sales_of settings m r awards) ≡ sum_by (has n) awards
times_sold settings m r n user seconds to some [] = refl
times_sold settings m r n user seconds to some (a ∷ awards) =
    let same : is_to user (user_of r) ≡ true = ap (is_to user) to ∙ (bytes_eq-Decides user user).1 refl in
    let late : nat_lt m (m + 1000 * seconds) ≡ true = le-leb (suc m) (m + 1000 * seconds) (omega (arith, some)) in
    let one : shows n user seconds m (sale_of settings m r a) ≡ has n a = own_sale (eqb a.1.campaign n) (is_to user (user_of r)) (nat_lt m (m + 1000 * seconds)) same late in
    omega (arith, one, sum_by-cons (shows n user seconds m) (sale_of settings m r a) (sales_of settings m r awards), sum_by-cons (has n) a awards, times_sold settings m r n user seconds to some awards)

times_shown : (settings : Settings) (m : ℕ) (r : BidRequest) (n : ℕ) (user : List ℕ) (seconds : ℕ) (sales : List SaleRow) (awards : List Award) → user_of r ≡ Some user → 1 ≤ seconds
    → shown_of n user seconds m (sales ++ sales_of settings m r awards) ≡ shown_of n user seconds m sales + times n awards
times_shown settings m r n user seconds sales awards to some = omega (arith, sum_by-append (shows n user seconds m) sales (sales_of settings m r awards), times_sold settings m r n user seconds to some awards)

-- what a cap counts beside the awards
abbrev counts : ℕ → ℕ → List ℕ → State → List Award → CapTerms → ℕ
counts m n user s awards cap = shown_of n user cap.seconds m (swept m s).sales + times n awards

by_cap : (settings : Settings) (m : ℕ) (r : BidRequest) (n : ℕ) (user : List ℕ) (s : State) (awards : List Award) → user_of r ≡ Some user → (cap : Option CapTerms) → IfSome cap (λ (t : CapTerms). 1 ≤ t.seconds)
    → option_map_or (counts m n user s awards) cap 0 ≡ option_map_or (λ (t : CapTerms). shown_of n user t.seconds m (beside settings m r s awards).sales) cap 0
by_cap settings m r n user s awards to None some = refl
by_cap settings m r n user s awards to (Some t) some = sym (times_shown settings m r n user t.seconds (swept m s).sales awards to some)

pub shown_counted : (settings : Settings) (m : ℕ) (r : BidRequest) (n : ℕ) (user : List ℕ) (s : State) (awards : List Award) (c : Campaign) (cap : Option CapTerms) → user_of r ≡ Some user → IfSome cap (λ (t : CapTerms). 1 ≤ t.seconds) → c.facts.cap ≡ cap
    → option_map_or (counts m n user s awards) cap 0 ≡ shown_to (beside settings m r s awards) m n c user
shown_counted settings m r n user s awards c cap to some e =
    by_cap settings m r n user s awards to cap some
    ∙ ap (λ o. option_map_or (λ (t : CapTerms). shown_of n user t.seconds m (beside settings m r s awards).sales) o 0) (sym e)

pub opportunity_is : (t : State) (r : BidRequest) (imp : Imp) (m n : ℕ) (c : Campaign) (facts : FactParts) (left : ℕ) (shown : Option ℕ) → facts ≡ c.facts → left ≡ free t n c → shown ≡ option_map (shown_to t m n c) (user_of r)
    → opportunity_of r imp facts left shown ≡ opportunity t r imp m n c
opportunity_is t r imp m n c facts left shown e f g =
    ap (λ (x : FactParts). opportunity_of r imp x left shown) e
    ∙ ap (λ (x : ℕ). opportunity_of r imp c.facts x shown) f
    ∙ ap (λ (x : Option ℕ). opportunity_of r imp c.facts (free t n c) x) g

-- ---- the offers of those that were found are the offers

one_further : (s : State) (r : BidRequest) (imp : Imp) (m : ℕ) (b : Bool) (p : ℕ × Campaign) (found : List (ℕ × Campaign)) (rest : List Offer) → rest ≡ flat_map (offering s r imp m) found
    → cond b (offering s r imp m p) [] ++ rest ≡ flat_map (offering s r imp m) (cond b (p ∷ found) found)
one_further s r imp m true p found rest e = ap (λ l. offering s r imp m p ++ l) e
one_further s r imp m false p found rest e = e

offers_in : (s : State) (r : BidRequest) (imp : Imp) (m : ℕ) (ps : List (ℕ × Campaign)) → flat_map (offers_by s r imp m) ps ≡ flat_map (offering s r imp m) (filter (is_reached r imp) ps)
offers_in s r imp m [] = refl
offers_in s r imp m (p ∷ ps) = one_further s r imp m (is_reached r imp p) p (filter (is_reached r imp) ps) (flat_map (offers_by s r imp m) ps) (offers_in s r imp m ps)

pub found_offers : (s : State) (r : BidRequest) (imp : Imp) (m : ℕ) → offers s r imp m ≡ flat_map (offering s r imp m) (reached s r imp)
found_offers s r imp m = offers_in s r imp m (enumerate_from 1 s.campaigns)

-- ---- one of those that were found

kept_each : {A : Type 0} (P : A → Type 0) (b : Bool) (x : A) (xs : List A) → P x → Each P xs → Each P (cond b (x ∷ xs) xs)
kept_each P true x xs p h = (p, h)
kept_each P false x xs p h = h

pub each_filter : {A : Type 0} (P : A → Type 0) (test : A → Bool) (xs : List A) → Each P xs → Each P (filter test xs)
each_filter P test [] h = tt
each_filter P test (x ∷ xs) h = kept_each P (test x) x (filter test xs) h.0 (each_filter P test xs h.1)

abbrev pub IsThere : State → ℕ × Campaign → Type 0
IsThere s p = campaign_at s p.0 ≡ Some p.1

pub all_there : (s : State) (r : BidRequest) (imp : Imp) → Each (IsThere s) (reached s r imp)
all_there s r imp = each_filter (IsThere s) (is_reached r imp) (enumerate_from 1 s.campaigns) (each_numbered (IsThere s) 1 s.campaigns (λ i c e. found_at s i c e))

number_of : (o : Option (ℕ × Campaign)) (n : ℕ) → option_map (λ (p : ℕ × Campaign). p.0) o ≡ Some n → (c : Campaign) × (o ≡ Some (n, c))
number_of None n e = absurd (none_some n e)
number_of (Some p) n e = (p.1, ap (λ (k : ℕ). Some (k, p.1)) (some_same p.0 n e))

pub found_there : (s : State) (r : BidRequest) (imp : Imp) (i n : ℕ) → slice_get (found_for s r imp) i ≡ Some n → (c : Campaign) × (slice_get (reached s r imp) i ≡ Some (n, c)) × (campaign_at s n ≡ Some c)
found_there s r imp i n e =
    let (c, at) = number_of (slice_get (reached s r imp) i) n (sym (slice_get-map (λ (p : ℕ × Campaign). p.0) (reached s r imp) i) ∙ e) in
    (c, at, each_at (IsThere s) (reached s r imp) i (n, c) (all_there s r imp) at)

pub flat_further : {A B : Type 0} (f : A → List B) (xs : List A) (k : ℕ) (d : A) → k < length xs → flat_map f (take (k + 1) xs) ≡ flat_map f (take k xs) ++ f (get_or xs k d)
flat_further f xs k d inside =
    ap (flat_map f) (take_more xs k d inside)
    ∙ flat_map-append f (take k xs) (get_or xs k d ∷ [])
    ∙ ap (λ l. flat_map f (take k xs) ++ l) (append-nil (f (get_or xs k d)))

-- ---- places

pub some_there : {A : Type 0} (xs : List A) (i : ℕ) → i < length xs → (x : A) × (slice_get xs i ≡ Some x)
some_there [] i h = absurd (omega (arith, h))
some_there (x ∷ xs) zero h = (x, refl)
some_there (x ∷ xs) (suc i) h = some_there xs i (omega (arith, h))

pub one_at_most : {A : Type 0} (o : Option A) → length (option_to_list o) ≤ 1
one_at_most None = omega arith
one_at_most (Some x) = omega arith

one_kept : {A : Type 0} (o : Option A) → cons_option o [] ≡ option_to_list o
one_kept None = refl
one_kept (Some x) = refl

pub kept_further : {A B : Type 0} (f : A → Option B) (xs : List A) (i : ℕ) (x : A) → i < length xs → get_or xs i x ≡ x → filter_map f (take (i + 1) xs) ≡ filter_map f (take i xs) ++ option_to_list (f x)
kept_further f xs i x inside at =
    ap (filter_map f) (take_more xs i x inside)
    ∙ filter_map-append f (take i xs) (get_or xs i x ∷ [])
    ∙ ap (λ l. filter_map f (take i xs) ++ l) (one_kept (f (get_or xs i x)) ∙ ap (λ y. option_to_list (f y)) at)
