-- A consistent state is made again by its own effects.
use Rattle.std.proofs.Common.{◌≡◌, ℕ, suc, ◌+◌, ◌-◌, ◌≤◌, ◌&&◌, inl, inr, eqb, cond, Bool, true, false, List, [], ◌∷◌, ◌++◌, length, map, refl, sym, ◌∙◌, ap, arith, append_assoc, length-append, Some, None}
use Rattle.std.specs.Prelude.{is_none, nat_le, nat_lt, option_and_then, option_map, slice_get, sum_by}
use Rattle.std.specs.Option.{option_map_or}
use Rattle.std.proofs.lemmas.Bool.{and_parts, eq-eqb, false≢true, le-leb, leb-true, lt-leb, ltb-false}
use Rattle.std.proofs.lemmas.List.{append-nil, map-append}
use Rattle.std.proofs.lemmas.List.Sums.{sum_by-append, sum_by-cons, sum_by_push}
use Rattle.std.proofs.lemmas.Option.{slice_get_cases}
use Rattle.budget_book.specs.declared.sales.SaleRow.{SaleRow}
use Rattle.budget_book.specs.Sales.{gone_count, most_forgotten}
use Rattle.campaign_store.specs.declared.record.Record.{Record}
use Rattle.campaign_store.specs.Limits.{Counted, bytes_of, passed_limit}
use Rattle.plain_exchange.specs.declared.changes.Effect.{Effect}
use Rattle.plain_exchange.specs.Consistent.{IsConsistent, is_known}
use Rattle.plain_exchange.specs.Effects.{all_applied, can_keep, can_keep_sale, charge_of, has_room, is_within_limits, kept_campaign, kept_effects, kept_sale, only_if, state_of}
use Rattle.plain_exchange.specs.State.{Campaign, State, campaign_at, committed, empty, forget, forgotten, free, most_sales, record_of, with_campaigns, with_sales}
use Rattle.plain_exchange.proofs.Applying.{all_applied_both}
use Rattle.plain_exchange.proofs.Each.{Each}
use Rattle.plain_exchange.proofs.Forgetting.{forget_kept, known_in}
use Rattle.plain_exchange.proofs.Keeping.{made_consistent}
use Rattle.plain_exchange.proofs.Money.{taken, taken_by, taken_of_own}
use Rattle.plain_exchange.proofs.Paying.{found_at}
use Rattle.plain_exchange.proofs.Places.{numbered}
use Rattle.target_expr.specs.Pairs.{values_of}

-- ---- limits of a front

abbrev IsWithin : List Record → Type 0
IsWithin rs = is_none (passed_limit rs) ≡ true

-- each count is at most its limit
pub record AreFew (rs : List Record) : Type 0 where
  pub campaigns : length rs ≤ 65536
  pub conjunctions : sum_by (λ (r : Record). length r.expr) rs ≤ 1000000
  pub values : sum_by (λ (r : Record). values_of r.expr) rs ≤ 4194304
  pub bytes : sum_by bytes_of rs ≤ 67108864

none_of_four : (a b c d : Bool) (w x y z : Counted) → is_none (option_map (λ (l : Counted). l.0) (cond a (Some w) (cond b (Some x) (cond c (Some y) (cond d (Some z) None))))) ≡ true
    → (a ≡ false) × (b ≡ false) × (c ≡ false) × (d ≡ false)
none_of_four true b c d w x y z e = absurd (false≢true e)
none_of_four false true c d w x y z e = absurd (false≢true e)
none_of_four false false true d w x y z e = absurd (false≢true e)
none_of_four false false false true w x y z e = absurd (false≢true e)
none_of_four false false false false w x y z e = (refl, refl, refl, refl)

four_of_none : (a b c d : Bool) (w x y z : Counted) → a ≡ false → b ≡ false → c ≡ false → d ≡ false
    → is_none (option_map (λ (l : Counted). l.0) (cond a (Some w) (cond b (Some x) (cond c (Some y) (cond d (Some z) None))))) ≡ true
four_of_none true b c d w x y z p q r s = absurd (false≢true (sym p))
four_of_none false true c d w x y z p q r s = absurd (false≢true (sym q))
four_of_none false false true d w x y z p q r s = absurd (false≢true (sym r))
four_of_none false false false true w x y z p q r s = absurd (false≢true (sym s))
four_of_none false false false false w x y z p q r s = refl

few_within : (rs : List Record) → IsWithin rs → AreFew rs
few_within rs e =
    let four = none_of_four (nat_lt 65536 (length rs)) (nat_lt 1000000 (sum_by (λ (r : Record). length r.expr) rs)) (nat_lt 4194304 (sum_by (λ (r : Record). values_of r.expr) rs)) (nat_lt 67108864 (sum_by bytes_of rs)) _ _ _ _ e in
    record {
      campaigns = ltb-false 65536 (length rs) four.0;
      conjunctions = ltb-false 1000000 (sum_by (λ (r : Record). length r.expr) rs) four.1;
      values = ltb-false 4194304 (sum_by (λ (r : Record). values_of r.expr) rs) four.2;
      bytes = ltb-false 67108864 (sum_by bytes_of rs) four.3;
    }

not_above : (most n : ℕ) → n ≤ most → nat_lt most n ≡ false
not_above most n le = lt-leb (suc most) n (omega (arith, le))

within_few : (rs : List Record) → AreFew rs → IsWithin rs
within_few rs h = four_of_none (nat_lt 65536 (length rs)) (nat_lt 1000000 (sum_by (λ (r : Record). length r.expr) rs)) (nat_lt 4194304 (sum_by (λ (r : Record). values_of r.expr) rs)) (nat_lt 67108864 (sum_by bytes_of rs)) _ _ _ _
    (not_above 65536 (length rs) h.campaigns)
    (not_above 1000000 (sum_by (λ (r : Record). length r.expr) rs) h.conjunctions)
    (not_above 4194304 (sum_by (λ (r : Record). values_of r.expr) rs) h.values)
    (not_above 67108864 (sum_by bytes_of rs) h.bytes)

front_within : (rs more : List Record) → IsWithin (rs ++ more) → IsWithin rs
front_within rs more e =
    let few = few_within (rs ++ more) e in
    within_few rs (record {
      campaigns = omega (arith, few.campaigns, length-append rs more);
      conjunctions = omega (arith, few.conjunctions, sum_by-append (λ (r : Record). length r.expr) rs more);
      values = omega (arith, few.values, sum_by-append (λ (r : Record). values_of r.expr) rs more);
      bytes = omega (arith, few.bytes, sum_by-append bytes_of rs more);
    })

-- ---- campaigns

abbrev gone_in : Campaign → ℕ
gone_in c = gone_count c.gone

pub record CanFollow (s : State) (more : List Campaign) : Type 0 where
  pub none_sold : length s.sales ≡ 0
  pub within : is_within_limits (with_campaigns s more) ≡ true
  pub paid : Each (λ (c : Campaign). c.gone.spent ≤ c.facts.budget) more
  pub few : forgotten s + sum_by gone_in more ≤ most_forgotten

both : (a b : Bool) → a ≡ true → b ≡ true → (a && b) ≡ true
both a b p q = ap (λ c. c && b) p ∙ q

with_both : (s : State) (c : Campaign) (more : List Campaign) → with_campaigns (with_campaigns s (c ∷ [])) more ≡ with_campaigns s (c ∷ more)
with_both s c more = ap (λ l. record s { campaigns = l }) (append_assoc s.campaigns (c ∷ []) more)

fits_next : (s : State) (c : Campaign) (more : List Campaign) → CanFollow s (c ∷ more) → can_keep s (record { live = c.live; facts = c.facts; expr = c.expr; gone = c.gone }) ≡ true
fits_next s c more h =
    let within : is_within_limits (with_campaigns s (c ∷ [])) ≡ true = front_within (map record_of (s.campaigns ++ c ∷ [])) (map record_of more)
    (ap (λ rs. is_none (passed_limit rs)) (sym (map-append record_of (s.campaigns ++ c ∷ []) more)) ∙ ap is_within_limits (with_both s c more) ∙ h.within) in
    both (eqb (length s.sales) 0) _ (eq-eqb (length s.sales) 0 h.none_sold)
    (both (is_within_limits (with_campaigns s (c ∷ []))) _ within
    (both (nat_le c.gone.spent c.facts.budget) _ (le-leb c.gone.spent c.facts.budget h.paid.0)
    (le-leb (forgotten s + gone_in c) most_forgotten (omega (arith, h.few, sum_by-cons gone_in c more)))))

follows_next : (s : State) (c : Campaign) (more : List Campaign) → CanFollow s (c ∷ more) → CanFollow (with_campaigns s (c ∷ [])) more
follows_next s c more h = record {
  none_sold = h.none_sold;
  within = ap is_within_limits (with_both s c more) ∙ h.within;
  paid = h.paid.1;
  few = omega (arith, h.few, sum_by-cons gone_in c more, sum_by_push gone_in s.campaigns c);
}

taken_in : (b : Bool) (s : State) → b ≡ true → only_if b s ≡ Some s
taken_in b s e = ap (λ c. only_if c s) e

campaigns_kept : (more : List Campaign) (s : State) → CanFollow s more → all_applied (map kept_campaign more) s ≡ Some (with_campaigns s more)
campaigns_kept [] s h = ap (λ l. Some (record s { campaigns = l })) (sym (append-nil s.campaigns))
campaigns_kept (c ∷ more) s h =
    ap (option_and_then (all_applied (map kept_campaign more))) (taken_in _ (with_campaigns s (c ∷ [])) (fits_next s c more h))
    ∙ campaigns_kept more (with_campaigns s (c ∷ [])) (follows_next s c more h)
    ∙ ap (λ (t : State). Some t) (with_both s c more)

-- ---- sales

pub record CanSell (s : State) (more : List SaleRow) : Type 0 where
  pub known : Each (λ sale. is_known (length s.campaigns) sale ≡ true) more
  pub paid : (n : ℕ) (c : Campaign) → campaign_at s n ≡ Some c → committed s n c + taken_by n more ≤ c.facts.budget
  pub few : length s.sales + length more ≤ most_sales

known_there : (s : State) (n : ℕ) → 1 ≤ n → n ≤ length s.campaigns → (c : Campaign) × (campaign_at s n ≡ Some c)
known_there s n low high = elim (slice_get_cases s.campaigns (n - 1)).1 [
  | inl p ↦ (p.0, numbered n (slice_get s.campaigns (n - 1)) p.0 low p.2)
  | inr p ↦ absurd (omega (arith, low, high, p.0))
]

with_both_sales : (s : State) (sale : SaleRow) (more : List SaleRow) → with_sales (with_sales s (sale ∷ [])) more ≡ with_sales s (sale ∷ more)
with_both_sales s sale more = ap (λ l. record s { sales = l }) (append_assoc s.sales (sale ∷ []) more)

sale_fits : (s : State) (sale : SaleRow) (more : List SaleRow) → CanSell s (sale ∷ more) → can_keep_sale s sale ≡ true
sale_fits s sale more h =
    let parts = and_parts (nat_le 1 sale.campaign) (nat_le sale.campaign (length s.campaigns)) h.known.0 in
    let (c, there) = known_there s sale.campaign (leb-true 1 sale.campaign parts.0) (leb-true sale.campaign (length s.campaigns) parts.1) in
    let paid = h.paid sale.campaign c there in
    let free_ : charge_of sale ≤ free s sale.campaign c = omega (arith, paid, sum_by-cons (taken sale.campaign) sale more, taken_of_own sale.campaign sale refl) in
    both _ (has_room s)
    (ap (λ o. option_map_or (λ (x : Campaign). nat_le (charge_of sale) (free s sale.campaign x)) o false) there ∙ le-leb (charge_of sale) (free s sale.campaign c) free_)
    (le-leb (suc (length s.sales)) most_sales (omega (arith, h.few)))

sells_next : (s : State) (sale : SaleRow) (more : List SaleRow) → CanSell s (sale ∷ more) → CanSell (with_sales s (sale ∷ [])) more
sells_next s sale more h = record {
  known = h.known.1;
  paid = λ n c there. omega (arith, h.paid n c there, sum_by_push (taken n) s.sales sale, sum_by-cons (taken n) sale more);
  few = omega (arith, h.few, length-append s.sales (sale ∷ []));
}

sales_kept : (more : List SaleRow) (s : State) → CanSell s more → all_applied (map kept_sale more) s ≡ Some (with_sales s more)
sales_kept [] s h = ap (λ l. Some (record s { sales = l })) (sym (append-nil s.sales))
sales_kept (sale ∷ more) s h =
    ap (option_and_then (all_applied (map kept_sale more))) (taken_in _ (with_sales s (sale ∷ [])) (sale_fits s sale more h))
    ∙ sales_kept more (with_sales s (sale ∷ [])) (sells_next s sale more h)
    ∙ ap (λ (t : State). Some t) (with_both_sales s sale more)

-- ---- the state

behind : {A : Type 0} (front more : List A) (x : A) → slice_get (front ++ x ∷ more) (length front) ≡ Some x
behind [] more x = refl
behind (y ∷ front) more x = behind front more x

spent_within : (s : State) → IsConsistent s → (front more : List Campaign) → s.campaigns ≡ front ++ more → Each (λ (c : Campaign). c.gone.spent ≤ c.facts.budget) more
spent_within s h front [] e = tt
spent_within s h front (c ∷ more) e =
    let there : campaign_at s (1 + length front) ≡ Some c = found_at s (length front) c (ap (λ l. slice_get l (length front)) e ∙ behind front more c) in
    (omega (arith, h.solvent (1 + length front) c there), spent_within s h (front ++ c ∷ []) more (e ∙ sym (append_assoc front (c ∷ []) more)))

pub kept_made : (s : State) → IsConsistent s → state_of (kept_effects s) ≡ Some s
kept_made s h =
    let bare : State = record { campaigns = s.campaigns; sales = [] } in
    all_applied_both (map kept_campaign s.campaigns) (map kept_sale s.sales) empty
    ∙ ap (option_and_then (all_applied (map kept_sale s.sales))) (campaigns_kept s.campaigns empty (record {
      none_sold = refl;
      within = h.within;
      paid = spent_within s h [] s.campaigns refl;
      few = omega (arith, h.few_forgotten);
    }))
    ∙ sales_kept s.sales bare (record {
      known = known_in s h;
      paid = λ n c there. omega (arith, h.solvent n c there);
      few = omega (arith, h.few);
    })

pub forgotten_kept : (es : List Effect) (s : State) (keep : ℕ) → state_of es ≡ Some s → state_of (kept_effects (forget keep s)) ≡ Some (forget keep s)
forgotten_kept es s keep e = kept_made (forget keep s) (forget_kept keep s (made_consistent es s e))
