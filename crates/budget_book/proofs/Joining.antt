-- One more campaign, or another budget.
use Rattle.std.proofs.Common.{◌≡◌, ℕ, ◌+◌, ◌-◌, ◌<◌, ◌≤◌, ◌^◌, ◌&&◌, inl, inr, cond, Bool, List, [], ◌∷◌, ◌++◌, length, get_or, set, sym, ◌∙◌, ap, subst, arith}
use Rattle.std.specs.Prelude.{MatchOption, sum_by}
use Rattle.std.proofs.lemmas.Bool.{cases_eq, cases_order, ne_eqb}
use Rattle.std.proofs.lemmas.List.{get_or-map, get_or-set_other, get_or-set_same, get_or_append_left, get_or_push, length-set, length_push, map-append, map-set}
use Rattle.std.proofs.lemmas.List.Sums.{sum_by-set, sum_by_push}
use Rattle.budget_book.specs.declared.account.Account.{Account}
use Rattle.budget_book.specs.declared.dues.Due.{Due}
use Rattle.budget_book.specs.declared.sales.Gone.{Gone}
use Rattle.budget_book.specs.declared.sales.SaleRow.{SaleRow}
use Rattle.budget_book.specs.declared.sales.SaleState.{SaleState}
use Rattle.budget_book.specs.Accounts.{AreAccounts, IsAccount, fresh, with_budget}
use Rattle.budget_book.specs.Book.{AreKnown, Funds, IsBook, forgotten_of, funds_of, funds_of_all}
use Rattle.budget_book.specs.Dues.{AreDues, weight_at}
use Rattle.budget_book.specs.LastSales.{last_at}
use Rattle.budget_book.specs.Sales.{gone_count, is_billed, is_expired, is_held, is_lost, none_gone}
use Rattle.budget_book.specs.Users.{AreChains, places_of}
use Rattle.budget_book.proofs.Moving.{share}
use Rattle.budget_book.proofs.Standing.{many_campaigns}
use Rattle.budget_book.proofs.Waiting.{sale_forgotten, sum_none_at, weight_forgotten}

-- no sale is of a campaign that is not there yet
none_of : (test : SaleState → Bool) (amount : SaleRow → ℕ) (n : ℕ) (rows : List SaleRow) → AreKnown n rows → sum_by (share test amount (n + 1)) rows ≡ 0
none_of test amount n rows h =
    sum_none_at (share test amount (n + 1)) rows (λ k d l.
    let known = h k d l in
    ap (λ b. cond (b && test (get_or rows k d).state) (amount (get_or rows k d)) 0) (ne_eqb (get_or rows k d).campaign (n + 1) (λ e. omega (arith, e, known))))

fresh_account : (n : ℕ) (rows : List SaleRow) (b : ℕ) (g : Gone) → AreKnown n rows → g.spent ≤ b → b ≤ 10 ^ 15 → IsAccount (n + 1) rows (fresh b g)
fresh_account n rows b g h low high = record {
  reserved = sym (none_of is_held (λ s. s.price) n rows h);
  spent = omega (arith, none_of is_billed (λ s. s.price) n rows h);
  held = sym (none_of is_held (λ _. 1) n rows h);
  billed = omega (arith, none_of is_billed (λ _. 1) n rows h);
  lost = omega (arith, none_of is_lost (λ _. 1) n rows h);
  expired = omega (arith, none_of is_expired (λ _. 1) n rows h);
  within = omega (arith, low);
  range = high;
}

accounts_joined : (rows : List SaleRow) (accounts : List Account) (b : ℕ) (g : Gone) → AreKnown (length accounts) rows → AreAccounts rows accounts → g.spent ≤ b → b ≤ 10 ^ 15 → AreAccounts rows (accounts ++ fresh b g ∷ [])
accounts_joined rows accounts b g known h low high k d w =
    elim (cases_order k (length accounts)) [
      | inl last ↦
          let here : get_or (accounts ++ fresh b g ∷ []) k d ≡ fresh b g = get_or_push accounts (fresh b g) d k (sym last) in
          subst (λ a. IsAccount (k + 1) rows a) (sym here) (subst (λ n. IsAccount (n + 1) rows (fresh b g)) (sym last) (fresh_account (length accounts) rows b g known low high))
      | inr o ↦ elim o [
        | inl below ↦ subst (λ a. IsAccount (k + 1) rows a) (sym (get_or_append_left accounts (fresh b g ∷ []) d k below)) (h k d below)
        | inr past ↦ absurd (omega (arith, w, length_push accounts (fresh b g)))
      ]
    ]

forgotten_joined : (accounts : List Account) (a : Account) → forgotten_of (funds_of_all (accounts ++ a ∷ [])) ≡ forgotten_of (funds_of_all accounts) + gone_count a.gone
forgotten_joined accounts a = ap forgotten_of (map-append funds_of accounts (a ∷ [])) ∙ sum_by_push (λ (p : Funds). gone_count p.gone) (funds_of_all accounts) (funds_of a)

-- one more campaign, of which so much is gone
pub book_joined : (f : ℕ) (accounts : List Account) (rows : List SaleRow) (links : List ℕ) (dues : List Due) (lasts : List ℕ) (b : ℕ) (g : Gone)
    → IsBook f accounts rows links dues lasts → g.spent ≤ b → b ≤ 10 ^ 15 → f + gone_count g ≤ 2 ^ 62
    → AreDues (f + gone_count g) rows dues → AreChains (f + gone_count g) (places_of rows) links lasts
    → IsBook (f + gone_count g) (accounts ++ fresh b g ∷ []) rows links dues lasts
book_joined f accounts rows links dues lasts b g h low high few awaited chains = record {
  few = h.few;
  counted = omega (arith, h.counted, forgotten_joined accounts (fresh b g));
  few_forgotten = few;
  known = λ k d w. let known = h.known k d w in (omega (arith, known), omega (arith, known, length_push accounts (fresh b g)));
  summed = accounts_joined rows accounts b g h.known h.summed low high;
  awaited = awaited;
  chains = chains;
}

-- a new campaign
pub book_new_campaign : (f : ℕ) (accounts : List Account) (rows : List SaleRow) (links : List ℕ) (dues : List Due) (lasts : List ℕ) (b : ℕ)
    → IsBook f accounts rows links dues lasts → b ≤ 10 ^ 15 → IsBook f (accounts ++ fresh b none_gone ∷ []) rows links dues lasts
book_new_campaign f accounts rows links dues lasts b h high =
    let e : f + gone_count none_gone ≡ f = omega arith in
    subst (λ n. IsBook n (accounts ++ fresh b none_gone ∷ []) rows links dues lasts) e
    (book_joined f accounts rows links dues lasts b none_gone h (omega arith) high (omega (arith, h.few_forgotten))
    (subst (λ n. AreDues n rows dues) (sym e) h.awaited) (subst (λ n. AreChains n (places_of rows) links lasts) (sym e) h.chains))

no_sales_forgotten : (f n : ℕ) (dues : List Due) → AreDues f [] dues → AreDues (f + n) [] dues
no_sales_forgotten f n dues h = record {
  ordered = h.ordered;
  of_sales = λ k d w.
      let (some, few, is) = h.of_sales k d w in (
        some,
        omega (arith, few),
        subst (λ o. MatchOption o (Unit {0}) (λ (s : SaleRow). s.due ≡ (get_or dues k d).due.0)) (sym (sale_forgotten (f + n) [] (get_or dues k d).number (omega (arith, few)))) tt,
      );
  each_held = λ w. sum_none_at (λ (e : Due). weight_at w (f + n) [] e.number) dues (λ k d l. let (some, few, is) = h.of_sales k d l in weight_forgotten w (f + n) [] (get_or dues k d).number (omega (arith, few)));
}

no_sales_chained : (f n : ℕ) (links : List ℕ) (lasts : List ℕ) → AreChains f [] links lasts → AreChains (f + n) [] links lasts
no_sales_chained f n links lasts h = record {
  linked = h.linked;
  each_link = λ k p l is. absurd (omega (arith, l));
  each_last = λ p. let was : last_at p lasts - f ≡ 0 = h.each_last p in omega (arith, was);
}

-- a campaign of whose sales so much is gone, before there is any sale
pub book_kept : (f : ℕ) (accounts : List Account) (rows : List SaleRow) (links : List ℕ) (dues : List Due) (lasts : List ℕ) (b : ℕ) (g : Gone)
    → IsBook f accounts rows links dues lasts → rows ≡ [] → g.spent ≤ b → b ≤ 10 ^ 15 → f + gone_count g ≤ 2 ^ 62
    → IsBook (f + gone_count g) (accounts ++ fresh b g ∷ []) rows links dues lasts
book_kept f accounts rows links dues lasts b g h none low high few =
    let dues_stay = subst (λ rs. AreDues (f + gone_count g) rs dues) (sym none) (no_sales_forgotten f (gone_count g) dues (subst (λ rs. AreDues f rs dues) none h.awaited)) in
    let chains_stay = subst (λ rs. AreChains (f + gone_count g) (places_of rs) links lasts) (sym none) (no_sales_chained f (gone_count g) links lasts (subst (λ rs. AreChains f (places_of rs) links lasts) none h.chains)) in
    book_joined f accounts rows links dues lasts b g h low high few dues_stay chains_stay

-- ---- another budget

budget_account : (c : ℕ) (rows : List SaleRow) (b : ℕ) (a : Account) → a.reserved + a.spent ≤ b → b ≤ 10 ^ 15 → IsAccount c rows a → IsAccount c rows (with_budget b a)
budget_account c rows b a low high h = record {
  reserved = h.reserved;
  spent = h.spent;
  held = h.held;
  billed = h.billed;
  lost = h.lost;
  expired = h.expired;
  within = low;
  range = high;
}

budget_forgotten : (accounts : List Account) (k b : ℕ) (d : Account) → k < length accounts → forgotten_of (funds_of_all (set accounts k (with_budget b (get_or accounts k d)))) ≡ forgotten_of (funds_of_all accounts)
budget_forgotten accounts k b d l =
    let a2 = with_budget b (get_or accounts k d) in
    let new : forgotten_of (funds_of_all (set accounts k a2)) ≡ forgotten_of (set (funds_of_all accounts) k (funds_of a2)) = ap forgotten_of (map-set funds_of accounts k a2) in
    let was : gone_count (get_or (funds_of_all accounts) k (funds_of d)).gone ≡ gone_count (get_or accounts k d).gone = ap (λ (p : Funds). gone_count p.gone) (get_or-map funds_of accounts k d (funds_of d) l) in
    let moved = sum_by-set (λ (p : Funds). gone_count p.gone) (funds_of_all accounts) k (funds_of a2) (funds_of d) (omega (arith, l, many_campaigns accounts)) in
    omega (arith, new, was, moved)

pub book_budget : (f : ℕ) (accounts : List Account) (rows : List SaleRow) (links : List ℕ) (dues : List Due) (lasts : List ℕ) (k b : ℕ) (d : Account)
    → IsBook f accounts rows links dues lasts → k < length accounts → (get_or accounts k d).reserved + (get_or accounts k d).spent ≤ b → b ≤ 10 ^ 15
    → IsBook f (set accounts k (with_budget b (get_or accounts k d))) rows links dues lasts
book_budget f accounts rows links dues lasts k b d h there low high =
    let a2 = with_budget b (get_or accounts k d) in record {
      few = h.few;
      counted = h.counted ∙ sym (budget_forgotten accounts k b d there);
      few_forgotten = h.few_forgotten;
      known = subst (λ n. AreKnown n rows) (sym (length-set accounts k a2)) h.known;
      summed = λ j e w.
          let inside : j < length accounts = omega (arith, w, length-set accounts k a2) in
          elim (cases_eq j k) [
            | inl same ↦
                let here : get_or (set accounts k a2) k e ≡ a2 = get_or-set_same accounts k a2 e there in
                let got : IsAccount (k + 1) rows (get_or (set accounts k a2) k e) = subst (λ a. IsAccount (k + 1) rows a) (sym here) (budget_account (k + 1) rows b (get_or accounts k d) low high (h.summed k d there)) in
                subst (λ n. IsAccount (n + 1) rows (get_or (set accounts k a2) n e)) (sym same) got
            | inr other ↦ subst (λ a. IsAccount (j + 1) rows a) (sym (get_or-set_other accounts k j a2 e other)) (h.summed j e inside)
          ];
      awaited = h.awaited;
      chains = h.chains;
    }

abbrev pub budgeted : ℕ → Funds → Funds
budgeted b p = record p { budget = b }

pub budget_campaigns : (accounts : List Account) (k b : ℕ) (d : Account) (e : Funds) → k < length accounts → funds_of_all (set accounts k (with_budget b (get_or accounts k d))) ≡ set (funds_of_all accounts) k (record (get_or (funds_of_all accounts) k e) { budget = b })
budget_campaigns accounts k b d e l =
    map-set funds_of accounts k (with_budget b (get_or accounts k d)) ∙ ap (λ p. set (funds_of_all accounts) k (budgeted b p)) (sym (get_or-map funds_of accounts k d e l))
