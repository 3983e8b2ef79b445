-- A table and a book, and the state that they are.
use Rattle.std.proofs.Common.{◌≡◌, ℕ, ◌+◌, ◌-◌, ◌≤◌, Bool, true, false, cond, eqb, List, [], ◌∷◌, ◌++◌, length, map, set, take, get_or, refl, sym, ◌∙◌, ap, subst, arith, Option, Some, None}
use Rattle.std.specs.Prelude.{is_none, is_some, nat_le, option_map, slice_get, sum_by}
use Rattle.std.specs.List.{enumerate_from}
use Rattle.std.specs.Option.{option_map_or}
use Rattle.std.proofs.lemmas.Bool.{and_parts, false≢true, leb-true}
use Rattle.std.proofs.lemmas.List.{length-map, map-append, map-set}
use Rattle.std.proofs.lemmas.List.Sums.{sum_by-cons}
use Rattle.std.proofs.lemmas.Option.{get_or_from_slice_get, slice_get-map}
use Rattle.auction_core.specs.Core.{IsCore, IsStateOf, campaigns_of, funds, funds_for, listed, listed_as}
use Rattle.auction_core.specs.Putting.{can_change, changed_at, settled}
use Rattle.budget_book.specs.Book.{Funds, forgotten_in, forgotten_of}
use Rattle.budget_book.specs.declared.sales.Gone.{Gone}
use Rattle.budget_book.specs.declared.sales.SaleRow.{SaleRow}
use Rattle.budget_book.specs.declared.sales.SaleState.{SaleState}
use Rattle.budget_book.specs.Sales.{committed_of, forgettable, gone_count, gone_with, in_state, is_held, none_gone, sale_at}
use Rattle.campaign_store.specs.declared.listed.Listed.{Listed}
use Rattle.campaign_store.specs.declared.record.Record.{Record}
use Rattle.campaign_store.specs.Limits.{passed_limit}
use Rattle.campaign_store.specs.Table as tabled
use Rattle.plain_exchange.specs.Consistent.{IsConsistent}
use Rattle.plain_exchange.specs.Effects.{is_within_limits}
use Rattle.plain_exchange.specs.State.{Campaign, State, campaign_at, committed, forget, forget_first, forgotten, free, limit_passed, record_of, swept, with_campaign, with_campaigns, with_gone}
use Rattle.plain_exchange.specs.Step.{new_campaign, with_live, with_record}
use Rattle.plain_exchange.proofs.Cases.{by_option, by_test}
use Rattle.plain_exchange.proofs.Keeping.{campaign_added, campaign_changed, live_kept, settled_kept, swept_kept, there_known}
use Rattle.plain_exchange.proofs.Places.{at_place, map_kept}

-- of table and book of a state the campaigns are those of the state
pub joined : (cs : List Campaign) → campaigns_of (map listed_as cs) (map funds_for cs) ≡ cs
joined [] = refl
joined (c ∷ cs) = ap (λ l. c ∷ l) (joined cs)

pub campaigns_are : (table : List Listed) (book : List Funds) (s : State) → table ≡ listed s → book ≡ funds s → campaigns_of table book ≡ s.campaigns
campaigns_are table book s e f = ap (λ t. campaigns_of t book) e ∙ ap (λ b. campaigns_of (listed s) b) f ∙ joined s.campaigns

-- the table and the book are of that state, and so of what they show
pub core_of : (table : List Listed) (book : List Funds) (sales : List SaleRow) (s : State) → table ≡ listed s → book ≡ funds s → sales ≡ s.sales → IsConsistent s → IsCore table book sales
core_of table book sales s e f g h =
    let same : ◌≡◌ {A = State} (record { campaigns = campaigns_of table book; sales = sales }) s = ap (λ cs. record { campaigns = cs; sales = sales }) (campaigns_are table book s e f) ∙ ap (λ rs. record { campaigns = s.campaigns; sales = rs }) g in
    subst (λ t. IsStateOf table book t) (sym same) (record { listing = e; funding = f; consistent = h })

pub state_is : (table : List Listed) (book : List Funds) (sales : List SaleRow) (s : State) → table ≡ listed s → book ≡ funds s → sales ≡ s.sales → ◌≡◌ {A = State} (record { campaigns = campaigns_of table book; sales = sales }) s
state_is table book sales s e f g = ap (λ cs. record { campaigns = cs; sales = sales }) (campaigns_are table book s e f) ∙ ap (λ rs. record { campaigns = s.campaigns; sales = rs }) g

-- ---- campaigns by number

at_mapped : {A B : Type 0} (f : A → B) (b : Bool) (xs : List A) (k : ℕ) → cond b None (slice_get (map f xs) k) ≡ option_map f (cond b None (slice_get xs k))
at_mapped f true xs k = refl
at_mapped f false xs k = slice_get-map f xs k

pub at_listed : (s : State) (n : ℕ) → tabled.campaign_at (listed s) n ≡ option_map listed_as (campaign_at s n)
at_listed s n = at_mapped listed_as (eqb n 0) s.campaigns (n - 1)

pub funds_at : (s : State) (n : ℕ) (c : Campaign) (d : Funds) → campaign_at s n ≡ Some c → get_or (funds s) (n - 1) d ≡ funds_for c
funds_at s n c d at = get_or_from_slice_get (funds s) (n - 1) (funds_for c) d (slice_get-map funds_for s.campaigns (n - 1) ∙ ap (option_map funds_for) (at_place s n c at).1)

gone_in : (cs : List Campaign) → forgotten_of (map funds_for cs) ≡ sum_by (λ (c : Campaign). gone_count c.gone) cs
gone_in [] = refl
gone_in (c ∷ cs) = omega (arith, gone_in cs, sum_by-cons (λ (p : Funds). gone_count p.gone) (funds_for c) (map funds_for cs), sum_by-cons (λ (c : Campaign). gone_count c.gone) c cs)

pub forgotten_same : (s : State) → forgotten_of (funds s) ≡ forgotten s
forgotten_same s = gone_in s.campaigns

pub many_listed : (s : State) → length (listed s) ≡ length s.campaigns
many_listed s = length-map s.campaigns listed_as

pub many_funds : (s : State) → length (funds s) ≡ length s.campaigns
many_funds s = length-map s.campaigns funds_for

abbrev pub here : List Listed → List Funds → List SaleRow → State
here table book sales = record { campaigns = campaigns_of table book; sales = sales }

none_of : {A : Type 0} (o : Option A) → is_none o ≡ true → o ≡ None
none_of None e = refl
none_of (Some x) e = absurd (false≢true e)

entries_same : (cs : List Campaign) → tabled.entries_of (map listed_as cs) ≡ map record_of cs
entries_same [] = refl
entries_same (c ∷ cs) = ap (λ l. record_of c ∷ l) (entries_same cs)

gone_funds : (rows : List SaleRow) (n : ℕ) (cs : List Campaign) → map (λ (p : ℕ × Funds). record p.1 { gone = gone_with p.0 p.1.gone rows }) (enumerate_from n (map funds_for cs)) ≡ map funds_for (map (with_gone rows) (enumerate_from n cs))
gone_funds rows n [] = refl
gone_funds rows n (c ∷ cs) = ap (λ l. funds_for (with_gone rows (n, c)) ∷ l) (gone_funds rows (n + 1) cs)

gone_listed : (rows : List SaleRow) (n : ℕ) (cs : List Campaign) → map listed_as (map (with_gone rows) (enumerate_from n cs)) ≡ map listed_as cs
gone_listed rows n [] = refl
gone_listed rows n (c ∷ cs) = ap (λ l. listed_as c ∷ l) (gone_listed rows (n + 1) cs)

-- ---- one campaign more, or changed

pub table_more : (s : State) (cs : List Listed) (c : Campaign) → cs ≡ listed s → cs ++ listed_as c ∷ [] ≡ listed (with_campaigns s (c ∷ []))
table_more s cs c e = ap (λ l. l ++ listed_as c ∷ []) e ∙ sym (map-append listed_as s.campaigns (c ∷ []))

pub book_more : (s : State) (cs : List Funds) (c : Campaign) → cs ≡ funds s → cs ++ funds_for c ∷ [] ≡ funds (with_campaigns s (c ∷ []))
book_more s cs c e = ap (λ l. l ++ funds_for c ∷ []) e ∙ sym (map-append funds_for s.campaigns (c ∷ []))

pub changed_is : (n : ℕ) (change : Campaign → Campaign) (s : State) (c : Campaign) → campaign_at s n ≡ Some c → changed_at n change s ≡ with_campaign s n (change c)
changed_is n change s c at = ap (λ o. option_map_or (λ (d : Campaign). with_campaign s n (change d)) o s) at

pub listed_at : (s : State) (n : ℕ) (c : Campaign) → campaign_at s n ≡ Some c → tabled.campaign_at (listed s) n ≡ Some (listed_as c)
listed_at s n c at = at_listed s n ∙ ap (option_map listed_as) at

pub table_changed : (s : State) (n : ℕ) (c : Campaign) (cs : List Listed) (f : Listed → Listed) (g : Campaign → Campaign) → cs ≡ listed s → campaign_at s n ≡ Some c → f (listed_as c) ≡ listed_as (g c)
    → tabled.with_changed f n cs ≡ listed (with_campaign s n (g c))
table_changed s n c cs f g e at same =
    ap (tabled.with_changed f n) e
    ∙ ap (λ o. option_map_or (λ (l : Listed). set (listed s) (n - 1) (f l)) o (listed s)) (listed_at s n c at)
    ∙ ap (set (listed s) (n - 1)) same
    ∙ sym (map-set listed_as s.campaigns (n - 1) (g c))

pub book_changed : (s : State) (n : ℕ) (c d : Campaign) (book book2 : List Funds) (budget : ℕ) → book ≡ funds s → campaign_at s n ≡ Some c → d.facts.budget ≡ budget → d.gone ≡ c.gone
    → book2 ≡ set book (n - 1) (record (get_or book (n - 1) (funds_for c)) { budget = budget }) → book2 ≡ funds (with_campaign s n d)
book_changed s n c d book book2 budget e at same gone is =
    is ∙ ap (λ b. set b (n - 1) (record (get_or b (n - 1) (funds_for c)) { budget = budget })) e
    ∙ ap (λ (p : Funds). set (funds s) (n - 1) (record p { budget = budget })) (funds_at s n c (funds_for c) at)
    ∙ ap (λ (b : ℕ). set (funds s) (n - 1) (record { budget = b; gone = c.gone })) (sym same)
    ∙ ap (λ (g : Gone). set (funds s) (n - 1) (record { budget = d.facts.budget; gone = g })) (sym gone)
    ∙ sym (map-set funds_for s.campaigns (n - 1) d)

pub book_kept : (s : State) (n : ℕ) (c d : Campaign) → campaign_at s n ≡ Some c → funds_for d ≡ funds_for c → funds (with_campaign s n d) ≡ funds s
book_kept s n c d at same = map_kept funds_for s.campaigns (n - 1) c d (at_place s n c at).1 same

-- campaign n with another test of being live
pub core_live : (table table2 : List Listed) (book : List Funds) (sales : List SaleRow) (n : ℕ) (live : Bool) (c : Campaign) → IsCore table book sales → campaign_at (here table book sales) n ≡ Some c → table2 ≡ tabled.with_changed (tabled.with_live live) n table
    → IsStateOf table2 book (with_campaign (here table book sales) n (with_live live c))
core_live table table2 book sales n live c h at e =
    let s = here table book sales in
    record {
      listing = e ∙ table_changed s n c table (tabled.with_live live) (with_live live) h.listing at refl;
      funding = h.funding ∙ sym (book_kept s n c (with_live live c) at refl);
      consistent = live_kept live n s c h.consistent at;
    }

-- what is so of a state is so of what table and book show
pub shown_core : (table : List Listed) (book : List Funds) (sales : List SaleRow) (s : State) → sales ≡ s.sales → IsStateOf table book s → IsCore table book sales
shown_core table book sales s e h = core_of table book sales s h.listing h.funding e h.consistent

pub shown_state : (table : List Listed) (book : List Funds) (sales : List SaleRow) (s : State) → sales ≡ s.sales → IsStateOf table book s → here table book sales ≡ s
shown_state table book sales s e h = state_is table book sales s h.listing h.funding e

-- ---- one record for another

-- campaign n has another record, and its book the budget of it
pub core_changed : (table table2 : List Listed) (book book2 : List Funds) (sales : List SaleRow) (n : ℕ) (entry : Record) (budget : ℕ) (c : Campaign) → IsCore table book sales → campaign_at (here table book sales) n ≡ Some c
    → can_change (here table book sales) n entry c ≡ true
    → table2 ≡ tabled.with_changed (tabled.with_entry entry) n table → entry.facts.budget ≡ budget → book2 ≡ set book (n - 1) (record (get_or book (n - 1) (funds_for c)) { budget = budget })
    → IsStateOf table2 book2 (with_campaign (here table book sales) n (with_record entry.facts entry.expr c))
core_changed table table2 book book2 sales n entry budget c h at can e same f =
    let s = here table book sales in
    let d = with_record entry.facts entry.expr c in
    let parts = and_parts (nat_le (committed s n c) entry.facts.budget) (is_within_limits (with_campaign s n d)) can in
    record {
      listing = e ∙ table_changed s n c table (tabled.with_entry entry) (with_record entry.facts entry.expr) h.listing at refl;
      funding = book_changed s n c d book book2 budget h.funding at same refl f;
      consistent = campaign_changed s n c d h.consistent at refl (leb-true (committed s n c) entry.facts.budget parts.0) parts.1;
    }

-- the limits of table and state are the same
pub passed_changed : (s : State) (n : ℕ) (c : Campaign) (entry : Record) (cs : List Listed) → cs ≡ listed s → passed_limit (tabled.entries_with (Some n) entry cs) ≡ limit_passed (with_campaign s n (with_record entry.facts entry.expr c))
passed_changed s n c entry cs e =
    ap (λ rs. passed_limit (set rs (n - 1) entry)) (ap tabled.entries_of e ∙ entries_same s.campaigns)
    ∙ ap passed_limit (sym (map-set record_of s.campaigns (n - 1) (with_record entry.facts entry.expr c)))

pub passed_more : (s : State) (entry : Record) (cs : List Listed) → cs ≡ listed s → passed_limit (tabled.entries_with None entry cs) ≡ limit_passed (with_campaigns s (new_campaign entry.facts entry.expr ∷ []))
passed_more s entry cs e =
    ap (λ rs. passed_limit (rs ++ entry ∷ [])) (ap tabled.entries_of e ∙ entries_same s.campaigns)
    ∙ ap passed_limit (sym (map-append record_of s.campaigns (new_campaign entry.facts entry.expr ∷ [])))

pub limits_changed : (s : State) (n : ℕ) (c : Campaign) (entry : Record) (cs : List Listed) → cs ≡ listed s → is_within_limits (with_campaign s n (with_record entry.facts entry.expr c)) ≡ true
    → passed_limit (tabled.entries_with (Some n) entry cs) ≡ None
limits_changed s n c entry cs e h = passed_changed s n c entry cs e ∙ none_of (limit_passed (with_campaign s n (with_record entry.facts entry.expr c))) h

pub limits_more : (s : State) (entry : Record) (cs : List Listed) → cs ≡ listed s → is_within_limits (with_campaigns s (new_campaign entry.facts entry.expr ∷ [])) ≡ true
    → passed_limit (tabled.entries_with None entry cs) ≡ None
limits_more s entry cs e h = passed_more s entry cs e ∙ none_of (limit_passed (with_campaigns s (new_campaign entry.facts entry.expr ∷ []))) h

-- ---- a sale is settled, or the oldest are forgotten

pub settled_consistent : (to : SaleState) (n : ℕ) (s : State) → IsConsistent s → IsConsistent (settled to n s)
settled_consistent to n s h =
    by_option (λ (rows : List SaleRow). IsConsistent (record s { sales = rows })) (λ (sale : SaleRow). cond (is_held sale.state) (set s.sales (n - forgotten s - 1) (in_state to sale)) s.sales) (sale_at (forgotten s) s.sales n) s.sales
    (λ e. h)
    (λ sale there. by_test (λ (rows : List SaleRow). IsConsistent (record s { sales = rows })) (is_held sale.state) (set s.sales (n - forgotten s - 1) (in_state to sale)) s.sales
    (λ held. settled_kept to n s sale h there held)
    (λ e. h))

abbrev pub book_without : ℕ → List Funds → List SaleRow → List Funds
book_without count book sales = map (λ (p : ℕ × Funds). record p.1 { gone = gone_with p.0 p.1.gone (take count sales) }) (enumerate_from 1 book)

pub forgotten_book : (keep : ℕ) (s : State) (book : List Funds) → book ≡ funds s → book_without (forgettable keep (forgotten_of book) s.sales) book s.sales ≡ funds (forget keep s)
forgotten_book keep s book e =
    ap (λ b. book_without (forgettable keep (forgotten_of b) s.sales) b s.sales) e
    ∙ ap (λ f. book_without (forgettable keep f s.sales) (funds s) s.sales) (forgotten_same s)
    ∙ gone_funds (take (forgettable keep (forgotten s) s.sales) s.sales) 1 s.campaigns

pub first_book : (d : ℕ) (s : State) (book : List Funds) → book ≡ funds s → forgotten_in (take d s.sales) book ≡ funds (forget_first d s)
first_book d s book e = ap (forgotten_in (take d s.sales)) e ∙ gone_funds (take d s.sales) 1 s.campaigns

pub first_table : (d : ℕ) (s : State) → listed (forget_first d s) ≡ listed s
first_table d s = gone_listed (take d s.sales) 1 s.campaigns

pub forgotten_table : (keep : ℕ) (s : State) → listed (forget keep s) ≡ listed s
forgotten_table keep s = first_table (forgettable keep (forgotten s) s.sales) s

-- the table has another record, live, and the book its budget
pub core_added : (table table2 : List Listed) (book book2 : List Funds) (sales : List SaleRow) (entry : Record) → IsCore table book sales → is_within_limits (with_campaigns (here table book sales) (new_campaign entry.facts entry.expr ∷ [])) ≡ true
    → table2 ≡ table ++ (record { entry = entry; live = true }) ∷ [] → book2 ≡ book ++ (record { budget = entry.facts.budget; gone = none_gone }) ∷ []
    → IsStateOf table2 book2 (with_campaigns (here table book sales) (new_campaign entry.facts entry.expr ∷ []))
core_added table table2 book book2 sales entry h limits e f =
    let s = here table book sales in
    let c = new_campaign entry.facts entry.expr in
    record {
      listing = e ∙ table_more s table c h.listing;
      funding = f ∙ book_more s book c h.funding;
      consistent = campaign_added s c h.consistent (omega arith) (omega (arith, h.consistent.few_forgotten)) limits;
    }

-- ---- a campaign that is there

pub there_in_book : (table : List Listed) (book : List Funds) (sales : List SaleRow) (n : ℕ) (c : Campaign) → IsCore table book sales → campaign_at (here table book sales) n ≡ Some c → (1 ≤ n) × (n ≤ length book)
there_in_book table book sales n c h at =
    let known = there_known (here table book sales) n c at in
    let many : length book ≡ length (funds (here table book sales)) = ap length h.funding in
    (known.0, omega (arith, known.1, many, many_funds (here table book sales)))

pub there_in_table : (table : List Listed) (book : List Funds) (sales : List SaleRow) (n : ℕ) (c : Campaign) → IsCore table book sales → campaign_at (here table book sales) n ≡ Some c → (1 ≤ n) × (n ≤ length table)
there_in_table table book sales n c h at =
    let known = there_known (here table book sales) n c at in
    let many : length table ≡ length (listed (here table book sales)) = ap length h.listing in
    (known.0, omega (arith, known.1, many, many_listed (here table book sales)))

pub funds_in_book : (table : List Listed) (book : List Funds) (sales : List SaleRow) (n : ℕ) (c : Campaign) (d : Funds) → IsCore table book sales → campaign_at (here table book sales) n ≡ Some c → get_or book (n - 1) d ≡ funds_for c
funds_in_book table book sales n c d h at = ap (λ (b : List Funds). get_or b (n - 1) d) h.funding ∙ funds_at (here table book sales) n c d at

pub covered : (table : List Listed) (book : List Funds) (sales : List SaleRow) (n budget : ℕ) (c : Campaign) (d : Funds) → IsCore table book sales → campaign_at (here table book sales) n ≡ Some c → committed (here table book sales) n c ≤ budget
    → committed_of n (get_or book (n - 1) d).gone sales ≤ budget
covered table book sales n budget c d h at paid =
    subst (λ (p : Funds). committed_of n p.gone sales ≤ budget) (sym (funds_in_book table book sales n c d h at)) paid

pub is_there : (s : State) (n : ℕ) → is_some (campaign_at s n) ≡ true → (1 ≤ n) × (n ≤ length s.campaigns)
is_there s n e = by_campaign (campaign_at s n) refl e
  where
    by_campaign : (o : Option Campaign) → campaign_at s n ≡ o → is_some o ≡ true → (1 ≤ n) × (n ≤ length s.campaigns)
    by_campaign None f e = absurd (false≢true e)
    by_campaign (Some c) f e = there_known s n c f

left_over : (x y : ℕ) → y ≤ x → x - (x - y) ≡ y
left_over x y h = omega (arith, h)

-- what is not free of the budget is committed
pub committed_is : (m : ℕ) (s : State) (n : ℕ) (c : Campaign) → IsConsistent s → campaign_at s n ≡ Some c → c.facts.budget - free (swept m s) n c ≡ committed (swept m s) n c
committed_is m s n c h at = left_over c.facts.budget (committed (swept m s) n c) ((swept_kept m s h).solvent n c at)
