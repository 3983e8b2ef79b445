-- The oldest sales are forgotten: what stays of the lists and the sums.
use Rattle.std.proofs.Common.{◌≡◌, ℕ, zero, suc, ◌+◌, ◌-◌, ◌<◌, ◌≤◌, ◌&&◌, inl, inr, eqb, cond, Bool, true, false, List, [], ◌∷◌, ◌++◌, length, get_or, set, take, drop, map, refl, sym, ◌∙◌, ap, subst, arith, length-drop, Option, Some}
use Rattle.std.specs.Prelude.{sum_by, MatchOption}
use Rattle.std.specs.Option.{option_map_or}
use Rattle.std.proofs.lemmas.Bool.{cases_Bool, cases_eq, cases_lt, eq-eqb, false≢true, ne_eqb}
use Rattle.std.proofs.lemmas.List.{get_or-drop, get_or-map, get_or-set_other, get_or-set_same, length-map, length-set, map-set, same_lists, take_more}
use Rattle.std.proofs.lemmas.List.FromFn.{get_or-enumerate_from, length-enumerate_from}
use Rattle.std.proofs.lemmas.List.Sums.{get_or-le-sum_by, sum_by-cons, sum_by-set}
use Rattle.budget_book.specs.declared.account.Account.{Account}
use Rattle.budget_book.specs.declared.dues.Due.{Due}
use Rattle.budget_book.specs.declared.sales.SaleRow.{SaleRow}
use Rattle.budget_book.specs.Accounts.{AreAccounts, IsAccount, gone_more, with_gone}
use Rattle.budget_book.specs.Book.{AreForgotten, AreKnown, Funds, IsBook, NoneHeld, forgotten_of, funds_of, funds_of_all}
use Rattle.budget_book.specs.declared.sales.Gone.{Gone}
use Rattle.budget_book.specs.declared.sales.SaleState.{SaleState}
use Rattle.budget_book.specs.declared.sales.SaleState.TheVariants.{Held, Billed, Lost, Expired}
use Rattle.budget_book.specs.Users.{AreChains, sale_place, places_of}
use Rattle.budget_book.proofs.Chained.{chains_dropped}
use Rattle.budget_book.proofs.Moving.{share, share_is, sum_added}
use Rattle.budget_book.proofs.Standing.{many_campaigns}
use Rattle.std.specs.Prelude.{not, ◌^◌}
use Rattle.std.specs.List.{enumerate_from, prefix_len}
use Rattle.budget_book.specs.Dues.{weight_at, held_weight, IsDueOf, AreDues}
use Rattle.budget_book.specs.Sales.{gone_count, gone_with, is_billed, is_expired, is_held, is_lost}
use Rattle.budget_book.proofs.Waiting.{pick, sale_forgotten, sale_in, sum_same_at}

held_weight_dropped : (w : ℕ → SaleRow → ℕ) (d n : ℕ) (rows : List SaleRow) → NoneHeld d rows → held_weight w (n + d) (drop d rows) ≡ held_weight w n rows
held_weight_dropped w zero n rows h = let e : n + 0 ≡ n = omega arith in ap (λ m. held_weight w m rows) e
held_weight_dropped w (suc d) n [] h = refl
held_weight_dropped w (suc d) n (s ∷ rows) h =
    let gone : pick (is_held s.state) (w n s) 0 ≡ 0 = ap (λ b. pick b (w n s) 0) (h 0 s (omega arith) (omega arith)) in
    let e : n + suc d ≡ (n + 1) + d = omega arith in
    let rest : held_weight w ((n + 1) + d) (drop d rows) ≡ held_weight w (n + 1) rows = held_weight_dropped w d (n + 1) rows (λ k x a b. h (suc k) x (omega arith) (omega arith)) in
    ap (λ m. held_weight w m (drop d rows)) e ∙ rest ∙ omega (arith, gone)

weight_dropped : (w : ℕ → SaleRow → ℕ) (f d : ℕ) (rows : List SaleRow) (n : ℕ) (x : SaleRow) → d ≤ length rows → NoneHeld d rows → 0 < n → n ≤ f + length rows → weight_at w (f + d) (drop d rows) n ≡ weight_at w f rows n
weight_dropped w f d rows n x short h some few =
    let look : Option SaleRow → ℕ = λ o. option_map_or (λ (s : SaleRow). cond (is_held s.state) (w n s) 0) o 0 in
    elim (cases_lt (f + d) n) [
      | inl new ↦
          let there : n ≡ (f + d) + (n - (f + d) - 1) + 1 = omega arith in
          let there2 : n ≡ f + (d + (n - (f + d) - 1)) + 1 = omega arith in
          let left = sale_in (f + d) (drop d rows) n (n - (f + d) - 1) x there (omega (arith, length-drop d rows)) in
          let right = sale_in f rows n (d + (n - (f + d) - 1)) x there2 (omega arith) in
          ap look (left ∙ ap Some (get_or-drop d rows (n - (f + d) - 1) x) ∙ sym right)
      | inr old ↦
          let left : weight_at w (f + d) (drop d rows) n ≡ 0 = ap look (sale_forgotten (f + d) (drop d rows) n old) in
          elim (cases_lt f n) [
            | inr older ↦ left ∙ sym (ap look (sale_forgotten f rows n older))
            | inl newer ↦
                let there : n ≡ f + (n - f - 1) + 1 = omega arith in
                let right = sale_in f rows n (n - f - 1) x there (omega arith) in
                left ∙ sym (ap look right ∙ ap (λ b. pick b (w n (get_or rows (n - f - 1) x)) 0) (h (n - f - 1) x (omega arith) (omega arith)))
          ]
    ]

due_dropped : (f d : ℕ) (rows : List SaleRow) (e : Due) (x : SaleRow) → d ≤ length rows → IsDueOf f rows e → IsDueOf (f + d) (drop d rows) e
due_dropped f d rows e x short (some, few, is) = (
  some,
  omega (arith, length-drop d rows),
  elim (cases_lt (f + d) e.number) [
    | inr old ↦ subst (λ o. MatchOption o (Unit {0}) (λ (s : SaleRow). s.due ≡ e.due.0)) (sym (sale_forgotten (f + d) (drop d rows) e.number old)) tt
    | inl new ↦
        let there : e.number ≡ (f + d) + (e.number - (f + d) - 1) + 1 = omega arith in
        let there2 : e.number ≡ f + (d + (e.number - (f + d) - 1)) + 1 = omega arith in
        let left = sale_in (f + d) (drop d rows) e.number (e.number - (f + d) - 1) x there (omega (arith, length-drop d rows)) in
        let right = sale_in f rows e.number (d + (e.number - (f + d) - 1)) x there2 (omega arith) in
        let was = subst (λ o. MatchOption o (Unit {0}) (λ (s : SaleRow). s.due ≡ e.due.0)) right is in
        subst (λ o. MatchOption o (Unit {0}) (λ (s : SaleRow). s.due ≡ e.due.0)) (sym left) (ap (λ (s : SaleRow). s.due) (get_or-drop d rows (e.number - (f + d) - 1) x) ∙ was)
  ],
)

-- no entry goes, and no number changes
pub dues_forgotten : (f d : ℕ) (rows : List SaleRow) (dues : List Due) (x : SaleRow) → d ≤ length rows → NoneHeld d rows → AreDues f rows dues → AreDues (f + d) (drop d rows) dues
dues_forgotten f d rows dues x short none h = record {
  ordered = h.ordered;
  of_sales = λ k e w. due_dropped f d rows (get_or dues k e) x short (h.of_sales k e w);
  each_held = λ w.
      let e : (f + 1) + d ≡ f + d + 1 = omega arith in
      sum_same_at (λ (e : Due). weight_at w (f + d) (drop d rows) e.number) (λ (e : Due). weight_at w f rows e.number) dues
      (λ k e b. let (some, few, _) = h.of_sales k e b in weight_dropped w f d rows (get_or dues k e).number x short none some few)
      ∙ h.each_held w ∙ sym (held_weight_dropped w d (f + 1) rows none) ∙ ap (λ m. held_weight w m (drop d rows)) e;
}

-- ---- one sale more is forgotten

-- a sum without its first sale
front : (test : SaleState → Bool) (amount : SaleRow → ℕ) (c : ℕ) (rest : List SaleRow) (y : SaleRow) (own : Bool) (st : SaleState) → eqb y.campaign c ≡ own → y.state ≡ st
    → sum_by (share test amount c) (y ∷ rest) ≡ pick (own && test st) (amount y) 0 + sum_by (share test amount c) rest
front test amount c rest y own st p q = sum_by-cons (share test amount c) y rest ∙ ap (λ k. k + sum_by (share test amount c) rest) (share_is test amount c y own st p q)

own_gone : (c : ℕ) (rest : List SaleRow) (y : SaleRow) (st : SaleState) (a : Account) → eqb y.campaign c ≡ true → y.state ≡ st → is_held st ≡ false → IsAccount c (y ∷ rest) a → IsAccount c rest (with_gone (gone_more st y.price a.gone) a)
own_gone c rest y Held a p q out h = absurd (false≢true (sym out))
own_gone c rest y Billed a p q out h = record {
  reserved = omega (arith, front is_held (λ s. s.price) c rest y true Billed p q, h.reserved);
  spent = omega (arith, front is_billed (λ s. s.price) c rest y true Billed p q, h.spent);
  held = omega (arith, front is_held (λ _. 1) c rest y true Billed p q, h.held);
  billed = omega (arith, front is_billed (λ _. 1) c rest y true Billed p q, h.billed);
  lost = omega (arith, front is_lost (λ _. 1) c rest y true Billed p q, h.lost);
  expired = omega (arith, front is_expired (λ _. 1) c rest y true Billed p q, h.expired);
  within = h.within;
  range = h.range;
}
own_gone c rest y Lost a p q out h = record {
  reserved = omega (arith, front is_held (λ s. s.price) c rest y true Lost p q, h.reserved);
  spent = omega (arith, front is_billed (λ s. s.price) c rest y true Lost p q, h.spent);
  held = omega (arith, front is_held (λ _. 1) c rest y true Lost p q, h.held);
  billed = omega (arith, front is_billed (λ _. 1) c rest y true Lost p q, h.billed);
  lost = omega (arith, front is_lost (λ _. 1) c rest y true Lost p q, h.lost);
  expired = omega (arith, front is_expired (λ _. 1) c rest y true Lost p q, h.expired);
  within = h.within;
  range = h.range;
}
own_gone c rest y Expired a p q out h = record {
  reserved = omega (arith, front is_held (λ s. s.price) c rest y true Expired p q, h.reserved);
  spent = omega (arith, front is_billed (λ s. s.price) c rest y true Expired p q, h.spent);
  held = omega (arith, front is_held (λ _. 1) c rest y true Expired p q, h.held);
  billed = omega (arith, front is_billed (λ _. 1) c rest y true Expired p q, h.billed);
  lost = omega (arith, front is_lost (λ _. 1) c rest y true Expired p q, h.lost);
  expired = omega (arith, front is_expired (λ _. 1) c rest y true Expired p q, h.expired);
  within = h.within;
  range = h.range;
}

other_gone : (c : ℕ) (rest : List SaleRow) (y : SaleRow) (a : Account) → eqb y.campaign c ≡ false → IsAccount c (y ∷ rest) a → IsAccount c rest a
other_gone c rest y a p h = record {
  reserved = omega (arith, front is_held (λ s. s.price) c rest y false y.state p refl, h.reserved);
  spent = omega (arith, front is_billed (λ s. s.price) c rest y false y.state p refl, h.spent);
  held = omega (arith, front is_held (λ _. 1) c rest y false y.state p refl, h.held);
  billed = omega (arith, front is_billed (λ _. 1) c rest y false y.state p refl, h.billed);
  lost = omega (arith, front is_lost (λ _. 1) c rest y false y.state p refl, h.lost);
  expired = omega (arith, front is_expired (λ _. 1) c rest y false y.state p refl, h.expired);
  within = h.within;
  range = h.range;
}

-- all accounts, after the first sale, which is of campaign k + 1, came to what is gone
pub all_gone : (accounts : List Account) (rest : List SaleRow) (k : ℕ) (y : SaleRow) (b e : Account) → AreAccounts (y ∷ rest) accounts → y.campaign ≡ k + 1 → k < length accounts → is_held y.state ≡ false
    → b ≡ with_gone (gone_more y.state y.price (get_or accounts k e).gone) (get_or accounts k e) → AreAccounts rest (set accounts k b)
all_gone accounts rest k y b e h number there out is j d w =
    let inside : j < length accounts = omega (arith, w, length-set accounts k b) in
    elim (cases_eq j k) [
      | inl same ↦
          let own : eqb y.campaign (k + 1) ≡ true = eq-eqb y.campaign (k + 1) number in
          let now = own_gone (k + 1) rest y y.state (get_or accounts k e) own refl out (h k e there) in
          let here : get_or (set accounts k b) k d ≡ with_gone (gone_more y.state y.price (get_or accounts k e).gone) (get_or accounts k e) = get_or-set_same accounts k b d there ∙ is in
          let got : IsAccount (k + 1) rest (get_or (set accounts k b) k d) = subst (λ a. IsAccount (k + 1) rest a) (sym here) now in
          subst (λ n. IsAccount (n + 1) rest (get_or (set accounts k b) n d)) (sym same) got
      | inr other ↦
          let apart : eqb y.campaign (j + 1) ≡ false = ne_eqb y.campaign (j + 1) (λ e. other (omega arith)) in
          subst (λ a. IsAccount (j + 1) rest a) (sym (get_or-set_other accounts k j b d other)) (other_gone (j + 1) rest y (get_or accounts j d) apart (h j d inside))
    ]

one_more : (st : SaleState) (price : ℕ) (g : Gone) → is_held st ≡ false → gone_count (gone_more st price g) ≡ gone_count g + 1
one_more Held price g out = absurd (false≢true (sym out))
one_more Billed price g out = omega arith
one_more Lost price g out = omega arith
one_more Expired price g out = omega arith

-- one sale more is forgotten in all
pub forgotten_more : (accounts : List Account) (k : ℕ) (y : SaleRow) (b e : Account) → k < length accounts → is_held y.state ≡ false → b ≡ with_gone (gone_more y.state y.price (get_or accounts k e).gone) (get_or accounts k e)
    → forgotten_of (funds_of_all (set accounts k b)) ≡ forgotten_of (funds_of_all accounts) + 1
forgotten_more accounts k y b e l out is =
    let new : forgotten_of (funds_of_all (set accounts k b)) ≡ forgotten_of (set (funds_of_all accounts) k (funds_of b)) = ap forgotten_of (map-set funds_of accounts k b) in
    let was : gone_count (get_or (funds_of_all accounts) k (funds_of e)).gone ≡ gone_count (get_or accounts k e).gone = ap (λ (p : Funds). gone_count p.gone) (get_or-map funds_of accounts k e (funds_of e) l) in
    let moved = sum_by-set (λ (p : Funds). gone_count p.gone) (funds_of_all accounts) k (funds_of b) (funds_of e) (omega (arith, l, many_campaigns accounts)) in
    let more : gone_count b.gone ≡ gone_count (get_or accounts k e).gone + 1 = ap (λ (a : Account). gone_count a.gone) is ∙ one_more y.state y.price (get_or accounts k e).gone out in
    omega (arith, new, was, moved, more)

-- no account has more gone than all
pub gone_bound : (accounts : List Account) (k : ℕ) (e : Account) → k < length accounts → gone_count (get_or accounts k e).gone ≤ forgotten_of (funds_of_all accounts)
gone_bound accounts k e l =
    let was : gone_count (get_or (funds_of_all accounts) k (funds_of e)).gone ≡ gone_count (get_or accounts k e).gone = ap (λ (p : Funds). gone_count p.gone) (get_or-map funds_of accounts k e (funds_of e) l) in
    omega (arith, was, get_or-le-sum_by (λ (p : Funds). gone_count p.gone) (funds_of_all accounts) k (funds_of e) (omega (arith, l, many_campaigns accounts)))

-- what the first sale adds to what is spent of all that is gone is within what is spent
pub gone_spent : (c : ℕ) (rest : List SaleRow) (y : SaleRow) (a : Account) → eqb y.campaign c ≡ true → IsAccount c (y ∷ rest) a → a.gone.spent + pick (is_billed y.state) y.price 0 ≤ 10 ^ 15
gone_spent c rest y a own h = omega (arith, front is_billed (λ s. s.price) c rest y true y.state own refl, h.spent, h.within, h.range)

abbrev gone_made : ℕ → ℕ → ℕ → ℕ → Gone
gone_made s b l e = record { spent = s; billed = b; lost = l; expired = e }

gone_from : (g k : Gone) → g.spent ≡ k.spent → g.billed ≡ k.billed → g.lost ≡ k.lost → g.expired ≡ k.expired → g ≡ k
gone_from g k p q r s =
    ap (λ x. gone_made x g.billed g.lost g.expired) p ∙ ap (λ x. gone_made k.spent x g.lost g.expired) q ∙ ap (λ x. gone_made k.spent k.billed x g.expired) r ∙ ap (λ x. gone_made k.spent k.billed k.lost x) s

gone_own : (c : ℕ) (g : Gone) (rows : List SaleRow) (y : SaleRow) (st : SaleState) → eqb y.campaign c ≡ true → y.state ≡ st → is_held st ≡ false → gone_with c g (rows ++ y ∷ []) ≡ gone_more st y.price (gone_with c g rows)
gone_own c g rows y Held p q out = absurd (false≢true (sym out))
gone_own c g rows y Billed p q out =
    gone_from (gone_with c g (rows ++ y ∷ [])) (gone_more Billed y.price (gone_with c g rows)) (omega (arith, sum_added is_billed (λ s. s.price) c rows y true Billed p q)) (omega (arith, sum_added is_billed (λ _. 1) c rows y true Billed p q))
    (omega (arith, sum_added is_lost (λ _. 1) c rows y true Billed p q)) (omega (arith, sum_added is_expired (λ _. 1) c rows y true Billed p q))
gone_own c g rows y Lost p q out =
    gone_from (gone_with c g (rows ++ y ∷ [])) (gone_more Lost y.price (gone_with c g rows)) (omega (arith, sum_added is_billed (λ s. s.price) c rows y true Lost p q)) (omega (arith, sum_added is_billed (λ _. 1) c rows y true Lost p q))
    (omega (arith, sum_added is_lost (λ _. 1) c rows y true Lost p q)) (omega (arith, sum_added is_expired (λ _. 1) c rows y true Lost p q))
gone_own c g rows y Expired p q out =
    gone_from (gone_with c g (rows ++ y ∷ [])) (gone_more Expired y.price (gone_with c g rows)) (omega (arith, sum_added is_billed (λ s. s.price) c rows y true Expired p q)) (omega (arith, sum_added is_billed (λ _. 1) c rows y true Expired p q))
    (omega (arith, sum_added is_lost (λ _. 1) c rows y true Expired p q)) (omega (arith, sum_added is_expired (λ _. 1) c rows y true Expired p q))

gone_other : (c : ℕ) (g : Gone) (rows : List SaleRow) (y : SaleRow) → eqb y.campaign c ≡ false → gone_with c g (rows ++ y ∷ []) ≡ gone_with c g rows
gone_other c g rows y p =
    gone_from (gone_with c g (rows ++ y ∷ [])) (gone_with c g rows) (omega (arith, sum_added is_billed (λ s. s.price) c rows y false y.state p refl)) (omega (arith, sum_added is_billed (λ _. 1) c rows y false y.state p refl))
    (omega (arith, sum_added is_lost (λ _. 1) c rows y false y.state p refl)) (omega (arith, sum_added is_expired (λ _. 1) c rows y false y.state p refl))

abbrev funds_made : ℕ → Gone → Funds
funds_made b g = record { budget = b; gone = g }

-- the funds once sale y is gone too
abbrev one_gone : SaleRow → Funds → Funds
one_gone y p = record { budget = p.budget; gone = gone_more y.state y.price p.gone }

abbrev forgotten_funds : List SaleRow → ℕ → Funds → Funds
forgotten_funds rows c p = record { budget = p.budget; gone = gone_with c p.gone rows }

-- what is gone of each campaign, after one sale more
pub campaigns_more : (old : List Funds) (accounts : List Account) (rows : List SaleRow) (i k : ℕ) (y : SaleRow) (b e : Account) → i < length rows → get_or rows i y ≡ y → y.campaign ≡ k + 1 → k < length accounts → is_held y.state ≡ false
    → b ≡ with_gone (gone_more y.state y.price (get_or accounts k e).gone) (get_or accounts k e) → AreForgotten (take i rows) old (funds_of_all accounts) → AreForgotten (take (i + 1) rows) old (funds_of_all (set accounts k b))
campaigns_more old accounts rows i k y b e l at number there out is h =
    let new : funds_of_all (set accounts k b) ≡ set (funds_of_all accounts) k (funds_of b) = map-set funds_of accounts k b in
    let more : take (i + 1) rows ≡ take i rows ++ y ∷ [] = take_more rows i y l ∙ ap (λ s. take i rows ++ s ∷ []) at in record {
      many = omega (arith, h.many, many_campaigns (set accounts k b), many_campaigns accounts, length-set accounts k b);
      each = λ j d w.
          let was : get_or (funds_of_all accounts) j d ≡ forgotten_funds (take i rows) (j + 1) (get_or old j d) = h.each j d w in
          let rowed : forgotten_funds (take i rows ++ y ∷ []) (j + 1) (get_or old j d) ≡ forgotten_funds (take (i + 1) rows) (j + 1) (get_or old j d) = ap (λ xs. forgotten_funds xs (j + 1) (get_or old j d)) (sym more) in
          elim (cases_eq j k) [
            | inl same ↦
                let own : eqb y.campaign (j + 1) ≡ true = eq-eqb y.campaign (j + 1) (omega (arith, number, same)) in
                let here : get_or (funds_of_all (set accounts k b)) j d ≡ funds_of b =
                ap (λ ps. get_or ps j d) new ∙ ap (λ n. get_or (set (funds_of_all accounts) k (funds_of b)) n d) same ∙ get_or-set_same (funds_of_all accounts) k (funds_of b) d (omega (arith, there, many_campaigns accounts)) in
                let account : get_or (funds_of_all accounts) j d ≡ funds_of (get_or accounts k e) = ap (λ n. get_or (funds_of_all accounts) n d) same ∙ get_or-map funds_of accounts k e d there in
                let moved : funds_of b ≡ record { budget = (get_or accounts k e).budget; gone = gone_more y.state y.price (get_or accounts k e).gone } = ap funds_of is in
                let shown : record { budget = (get_or accounts k e).budget; gone = gone_more y.state y.price (get_or accounts k e).gone } ≡ forgotten_funds (take i rows ++ y ∷ []) (j + 1) (get_or old j d) =
                ap (λ (p : Funds). one_gone y p) (sym account ∙ was) ∙ ap (λ g. funds_made (get_or old j d).budget g) (sym (gone_own (j + 1) (get_or old j d).gone (take i rows) y y.state own refl out)) in
                here ∙ moved ∙ shown ∙ rowed
            | inr other ↦
                let apart : eqb y.campaign (j + 1) ≡ false = ne_eqb y.campaign (j + 1) (λ e. other (omega (arith, e, number))) in
                let here : get_or (funds_of_all (set accounts k b)) j d ≡ get_or (funds_of_all accounts) j d = ap (λ ps. get_or ps j d) new ∙ get_or-set_other (funds_of_all accounts) k j (funds_of b) d other in
                here ∙ was ∙ ap (λ g. funds_made (get_or old j d).budget g) (sym (gone_other (j + 1) (get_or old j d).gone (take i rows) y apart)) ∙ rowed
          ];
    }

-- ---- the book

dropped_places : (d : ℕ) (rows : List SaleRow) → places_of (drop d rows) ≡ drop d (places_of rows)
dropped_places zero rows = refl
dropped_places (suc d) [] = refl
dropped_places (suc d) (s ∷ rows) = dropped_places d rows

known_dropped : (n d : ℕ) (rows : List SaleRow) → AreKnown n rows → AreKnown n (drop d rows)
known_dropped n d rows h k e w = subst (λ (s : SaleRow). (0 < s.campaign) × (s.campaign ≤ n)) (sym (get_or-drop d rows k e)) (h (d + k) e (omega (arith, w, length-drop d rows)))

pub book_forgotten : (f d : ℕ) (accounts accounts2 : List Account) (rows : List SaleRow) (links : List ℕ) (dues : List Due) (lasts : List ℕ) (x : SaleRow)
    → IsBook f accounts rows links dues lasts → d ≤ length rows → f + d ≤ 2 ^ 62 → NoneHeld d rows → AreAccounts (drop d rows) accounts2
    → forgotten_of (funds_of_all accounts2) ≡ forgotten_of (funds_of_all accounts) + d → AreForgotten (take d rows) (funds_of_all accounts) (funds_of_all accounts2)
    → IsBook (f + d) accounts2 (drop d rows) (drop d links) dues lasts
book_forgotten f d accounts accounts2 rows links dues lasts x h short few none summed counted campaigns =
    let many : length accounts2 ≡ length accounts = omega (arith, many_campaigns accounts2, many_campaigns accounts, campaigns.many) in record {
      few = omega (arith, h.few, length-drop d rows);
      counted = omega (arith, h.counted, counted);
      few_forgotten = few;
      known = subst (λ n. AreKnown n (drop d rows)) (sym many) (known_dropped (length accounts) d rows h.known);
      summed = summed;
      awaited = dues_forgotten f d rows dues x short none h.awaited;
      chains = subst (λ pairs. AreChains (f + d) pairs (drop d links) lasts) (sym (dropped_places d rows)) (chains_dropped f d (places_of rows) links lasts (omega (arith, short, length-map rows sale_place)) h.chains);
    }

-- the campaigns as one list
abbrev pub forgotten_all : List SaleRow → List Funds → List Funds
forgotten_all rows old = map (λ (p : ℕ × Funds). record p.1 { gone = gone_with p.0 p.1.gone rows }) (enumerate_from 1 old)

pub campaigns_forgotten : (rows : List SaleRow) (old new : List Funds) → AreForgotten rows old new → new ≡ forgotten_all rows old
campaigns_forgotten rows old new h =
    let f : ℕ × Funds → Funds = λ p. record p.1 { gone = gone_with p.0 p.1.gone rows } in
    same_lists new (map f (enumerate_from 1 old)) (omega (arith, h.many, length-map (enumerate_from 1 old) f, length-enumerate_from 1 old))
    (λ k d l.
    let inside : k < length old = omega (arith, l, h.many) in
    let there : get_or (enumerate_from 1 old) k (0, d) ≡ (1 + k, get_or old k d) = get_or-enumerate_from 1 old k (0, d) inside in
    let n : k + 1 ≡ 1 + k = omega arith in
    h.each k d inside ∙ ap (λ m. forgotten_funds rows m (get_or old k d)) n ∙ sym (ap f there) ∙ sym (get_or-map f (enumerate_from 1 old) k (0, d) d (omega (arith, inside, length-enumerate_from 1 old))))

-- none is held before the first that is held
pub none_held : (rows : List SaleRow) (n : ℕ) → n ≤ prefix_len (λ (s : SaleRow). not (is_held s.state)) rows → NoneHeld n rows
none_held [] n h k e l w = absurd (omega (arith, w))
none_held (s ∷ rows) n h k e l w =
    elim (cases_Bool (is_held s.state)) [
      | inl held ↦ absurd (let stop : prefix_len (λ (s : SaleRow). not (is_held s.state)) (s ∷ rows) ≡ 0 = ap (λ b. cond (not b) (1 + prefix_len (λ (s : SaleRow). not (is_held s.state)) rows) 0) held in omega (arith, h, l, stop))
      | inr free ↦ at_place s rows n k e free (let on : prefix_len (λ (s : SaleRow). not (is_held s.state)) (s ∷ rows) ≡ 1 + prefix_len (λ (s : SaleRow). not (is_held s.state)) rows = ap (λ b. cond (not b) (1 + prefix_len (λ (s : SaleRow). not (is_held s.state)) rows) 0) free in omega (arith, h, on)) (none_held rows (n - 1)) l w
    ]
  where
    at_place : (s : SaleRow) (rows : List SaleRow) (n k : ℕ) (e : SaleRow) → is_held s.state ≡ false → n - 1 ≤ prefix_len (λ (s : SaleRow). not (is_held s.state)) rows
        → (n - 1 ≤ prefix_len (λ (s : SaleRow). not (is_held s.state)) rows → NoneHeld (n - 1) rows) → k < n → k < length (s ∷ rows) → is_held (get_or (s ∷ rows) k e).state ≡ false
    at_place s rows n zero e free h rest l w = free
    at_place s rows n (suc k) e free h rest l w = rest h k e (omega (arith, l)) (omega (arith, w))
