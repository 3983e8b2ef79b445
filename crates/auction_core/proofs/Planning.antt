-- What each command is prepared to do.
use Rattle.std.proofs.Common.{◌≡◌, ℕ, ◌+◌, ◌-◌, ◌&&◌, cond, Bool, true, false, List, map, refl, sym, ◌∙◌, ap, subst, length, Option, Some, None}
use Rattle.std.proofs.lemmas.Bool.{eq-eqb, ne_eqb}
use Rattle.std.specs.Prelude.{◌≢◌, nat_le, option_map, slice_get}
use Rattle.std.specs.Option.{option_map_or}
use Rattle.std.proofs.lemmas.Option.{slice_get-map}
use Rattle.auction_core.specs.Outcomes.{IsOutcome, does, told_alone}
use Rattle.auction_core.specs.declared.outcome.Outcome.{Outcome}
use Rattle.budget_book.specs.declared.sales.SaleRow.{SaleRow}
use Rattle.budget_book.specs.declared.sales.SaleState.{SaleState}
use Rattle.budget_book.specs.declared.sales.SaleState.TheVariants as state
use Rattle.budget_book.specs.Sales.{expired_at, state_at}
use Rattle.plain_exchange.specs.declared.changes.Change.{Change}
use Rattle.plain_exchange.specs.declared.changes.Change.TheVariants as change
use Rattle.plain_exchange.specs.declared.commands.Reply.{Reply}
use Rattle.plain_exchange.specs.declared.commands.Reply.TheVariants as reply
use Rattle.plain_exchange.specs.State.{Campaign, State, campaign_at, forget_first, forgotten, sale_numbered, swept, with_campaign}
use Rattle.plain_exchange.specs.Step.{Transition, at_campaign, at_sale, bill_sale, billed_by, changing, lose_sale, lost_by, pause_campaign, resume_campaign, trim, trimmed, unchanged, with_live}
use Rattle.plain_exchange.proofs.Each.{none_some, some_same}

pub told_is : (s : State) (r : Reply) → IsOutcome (unchanged s r) (told_alone r)
told_is s r = record { reply = refl; change = refl }

done_is : (after : State) (r : Reply) (ch : Change) → IsOutcome (changing after r ch) (does r ch)
done_is after r ch = record { reply = refl; change = refl }

pub same_outcome : (t u : Transition) (o : Outcome) → t ≡ u → IsOutcome u o → IsOutcome t o
same_outcome t u o e h = subst (λ v. IsOutcome v o) (sym e) h

-- ---- campaigns

pub at_none : (s : State) (n : ℕ) (act : Campaign → Transition) → campaign_at s n ≡ None → at_campaign s n act ≡ unchanged s reply.NoSuchCampaign
at_none s n act e = ap (λ o. option_map_or act o (unchanged s reply.NoSuchCampaign)) e

pub at_some : (s : State) (n : ℕ) (act : Campaign → Transition) (c : Campaign) → campaign_at s n ≡ Some c → at_campaign s n act ≡ act c
at_some s n act c e = ap (λ o. option_map_or act o (unchanged s reply.NoSuchCampaign)) e

pub none_there : (s : State) (n : ℕ) (act : Campaign → Transition) → campaign_at s n ≡ None → IsOutcome (at_campaign s n act) (told_alone reply.NoSuchCampaign)
none_there s n act e = same_outcome (at_campaign s n act) (unchanged s reply.NoSuchCampaign) (told_alone reply.NoSuchCampaign) (at_none s n act e) (told_is s reply.NoSuchCampaign)

pub told_there : (s : State) (n : ℕ) (act : Campaign → Transition) (c : Campaign) (r : Reply) → campaign_at s n ≡ Some c → act c ≡ unchanged s r → IsOutcome (at_campaign s n act) (told_alone r)
told_there s n act c r at e = same_outcome (at_campaign s n act) (unchanged s r) (told_alone r) (at_some s n act c at ∙ e) (told_is s r)

pub done_there : (s after : State) (n : ℕ) (act : Campaign → Transition) (c : Campaign) (r : Reply) (ch : Change) → campaign_at s n ≡ Some c → act c ≡ changing after r ch → IsOutcome (at_campaign s n act) (does r ch)
done_there s after n act c r ch at e = same_outcome (at_campaign s n act) (changing after r ch) (does r ch) (at_some s n act c at ∙ e) (done_is after r ch)

pub pause_live : (s : State) (n : ℕ) (c : Campaign) → campaign_at s n ≡ Some c → c.live ≡ true → IsOutcome (at_campaign s n (pause_campaign n s)) (does (reply.Paused n) (change.Paused n))
pause_live s n c at live =
    done_there s (with_campaign s n (with_live false c)) n (pause_campaign n s) c (reply.Paused n) (change.Paused n) at
    (ap (λ b. cond b (changing (with_campaign s n (with_live false c)) (reply.Paused n) (change.Paused n)) (unchanged s (reply.Paused n))) live)

pub pause_paused : (s : State) (n : ℕ) (c : Campaign) → campaign_at s n ≡ Some c → c.live ≡ false → IsOutcome (at_campaign s n (pause_campaign n s)) (told_alone (reply.Paused n))
pause_paused s n c at live =
    told_there s n (pause_campaign n s) c (reply.Paused n) at
    (ap (λ b. cond b (changing (with_campaign s n (with_live false c)) (reply.Paused n) (change.Paused n)) (unchanged s (reply.Paused n))) live)

pub resume_paused : (s : State) (n : ℕ) (c : Campaign) → campaign_at s n ≡ Some c → c.live ≡ false → IsOutcome (at_campaign s n (resume_campaign n s)) (does (reply.Resumed n) (change.Resumed n))
resume_paused s n c at live =
    done_there s (with_campaign s n (with_live true c)) n (resume_campaign n s) c (reply.Resumed n) (change.Resumed n) at
    (ap (λ b. cond b (unchanged s (reply.Resumed n)) (changing (with_campaign s n (with_live true c)) (reply.Resumed n) (change.Resumed n))) live)

pub resume_live : (s : State) (n : ℕ) (c : Campaign) → campaign_at s n ≡ Some c → c.live ≡ true → IsOutcome (at_campaign s n (resume_campaign n s)) (told_alone (reply.Resumed n))
resume_live s n c at live =
    told_there s n (resume_campaign n s) c (reply.Resumed n) at
    (ap (λ b. cond b (unchanged s (reply.Resumed n)) (changing (with_campaign s n (with_live true c)) (reply.Resumed n) (change.Resumed n))) live)

-- ---- sales

numbered_by : (m : ℕ) (b : Bool) (rows : List SaleRow) (k : ℕ) → cond b None (slice_get (map (expired_at m) rows) k) ≡ option_map (expired_at m) (cond b None (slice_get rows k))
numbered_by m true rows k = refl
numbered_by m false rows k = slice_get-map (expired_at m) rows k

pub numbered_swept : (m : ℕ) (s : State) (n : ℕ) → sale_numbered (swept m s) n ≡ option_map (expired_at m) (sale_numbered s n)
numbered_swept m s n = numbered_by m (nat_le n (forgotten s)) s.sales (n - forgotten s - 1)

-- a sale by the state that it has once what is due has expired
pub sale_in : (m : ℕ) (s : State) (n : ℕ) (st : SaleState) → option_map (λ (x : SaleRow). state_at m x) (sale_numbered s n) ≡ Some st → (sale : SaleRow) × (sale_numbered (swept m s) n ≡ Some sale) × (sale.state ≡ st)
sale_in m s n st e = by_sale (sale_numbered s n) refl e
  where
    by_sale : (o : Option SaleRow) → sale_numbered s n ≡ o → option_map (λ (x : SaleRow). state_at m x) o ≡ Some st → (sale : SaleRow) × (sale_numbered (swept m s) n ≡ Some sale) × (sale.state ≡ st)
    by_sale None f e = absurd (none_some st e)
    by_sale (Some x) f e = (expired_at m x, numbered_swept m s n ∙ ap (option_map (expired_at m)) f, some_same (state_at m x) st e)

pub no_sale : (m : ℕ) (s : State) (n : ℕ) → option_map (λ (x : SaleRow). state_at m x) (sale_numbered s n) ≡ None → sale_numbered (swept m s) n ≡ None
no_sale m s n e = by_sale (sale_numbered s n) refl e
  where
    by_sale : (o : Option SaleRow) → sale_numbered s n ≡ o → option_map (λ (x : SaleRow). state_at m x) o ≡ None → sale_numbered (swept m s) n ≡ None
    by_sale None f e = numbered_swept m s n ∙ ap (option_map (expired_at m)) f
    by_sale (Some x) f e = absurd (none_some (state_at m x) (sym e))

-- no forgotten sale is in the list
listed_later : (a b : Bool) (o : Option SaleRow) (sale : SaleRow) (act : SaleRow → Transition) (gone missing : Transition) → cond b None o ≡ Some sale → cond (a && b) gone (option_map_or act (cond b None o) missing) ≡ act sale
listed_later a true o sale act gone missing e = absurd (none_some sale e)
listed_later true false o sale act gone missing e = ap (λ p. option_map_or act p missing) e
listed_later false false o sale act gone missing e = ap (λ p. option_map_or act p missing) e

pub at_listed_sale : (s : State) (n : ℕ) (act : SaleRow → Transition) (sale : SaleRow) → sale_numbered s n ≡ Some sale → at_sale s n act ≡ act sale
at_listed_sale s n act sale e = listed_later (nat_le 1 n) (nat_le n (forgotten s)) (slice_get s.sales (n - forgotten s - 1)) sale act (unchanged s reply.Forgotten) (unchanged s reply.NoSuchSale) e

abbrev pub missing_as : State → ℕ → Reply
missing_as s n = cond (nat_le 1 n && nat_le n (forgotten s)) reply.Forgotten reply.NoSuchSale

one_of : (b : Bool) (s : State) → cond b (unchanged s reply.Forgotten) (unchanged s reply.NoSuchSale) ≡ unchanged s (cond b reply.Forgotten reply.NoSuchSale)
one_of true s = refl
one_of false s = refl

pub missing_outcome : (s : State) (n : ℕ) (act : SaleRow → Transition) → sale_numbered s n ≡ None → IsOutcome (at_sale s n act) (told_alone (missing_as s n))
missing_outcome s n act e =
    same_outcome (at_sale s n act) (unchanged s (missing_as s n)) (told_alone (missing_as s n))
    (ap (λ o. cond (nat_le 1 n && nat_le n (forgotten s)) (unchanged s reply.Forgotten) (option_map_or act o (unchanged s reply.NoSuchSale))) e ∙ one_of (nat_le 1 n && nat_le n (forgotten s)) s)
    (told_is s (missing_as s n))

-- by the state of the sale
abbrev pub bill_outcome : ℕ → SaleState → Outcome
bill_outcome n state.Held = does (reply.Billed n) (change.Billed n)
bill_outcome n state.Billed = told_alone (reply.Billed n)
bill_outcome n state.Lost = told_alone reply.WasLost
bill_outcome n state.Expired = told_alone reply.WasExpired

billed_as : (s : State) (n : ℕ) (sale : SaleRow) (st : SaleState) → sale_numbered s n ≡ Some sale → sale.state ≡ st → IsOutcome (billed_by st n s sale) (bill_outcome n st)
billed_as s n sale state.Held there e = record { reply = refl; change = refl }
billed_as s n sale state.Billed there e = told_is s (reply.Billed n)
billed_as s n sale state.Lost there e = told_is s reply.WasLost
billed_as s n sale state.Expired there e = told_is s reply.WasExpired

pub bill_by : (m : ℕ) (s : State) (n : ℕ) (st : SaleState) → option_map (λ (x : SaleRow). state_at m x) (sale_numbered s n) ≡ Some st → IsOutcome (at_sale (swept m s) n (bill_sale n (swept m s))) (bill_outcome n st)
bill_by m s n st e =
    let (sale, there, is) = sale_in m s n st e in
    same_outcome (at_sale (swept m s) n (bill_sale n (swept m s))) (billed_by st n (swept m s) sale) (bill_outcome n st)
    (at_listed_sale (swept m s) n (bill_sale n (swept m s)) sale there ∙ ap (λ t. billed_by t n (swept m s) sale) is)
    (billed_as (swept m s) n sale st there is)

abbrev pub lose_outcome : ℕ → SaleState → Outcome
lose_outcome n state.Held = does (reply.Lost n) (change.Lost n)
lose_outcome n state.Billed = told_alone reply.WasBilled
lose_outcome n state.Lost = told_alone (reply.Lost n)
lose_outcome n state.Expired = told_alone reply.WasExpired

lost_as : (s : State) (n : ℕ) (sale : SaleRow) (st : SaleState) → sale_numbered s n ≡ Some sale → sale.state ≡ st → IsOutcome (lost_by st n s sale) (lose_outcome n st)
lost_as s n sale state.Held there e = record { reply = refl; change = refl }
lost_as s n sale state.Billed there e = told_is s reply.WasBilled
lost_as s n sale state.Lost there e = told_is s (reply.Lost n)
lost_as s n sale state.Expired there e = told_is s reply.WasExpired

pub lose_by : (m : ℕ) (s : State) (n : ℕ) (st : SaleState) → option_map (λ (x : SaleRow). state_at m x) (sale_numbered s n) ≡ Some st → IsOutcome (at_sale (swept m s) n (lose_sale n (swept m s))) (lose_outcome n st)
lose_by m s n st e =
    let (sale, there, is) = sale_in m s n st e in
    same_outcome (at_sale (swept m s) n (lose_sale n (swept m s))) (lost_by st n (swept m s) sale) (lose_outcome n st)
    (at_listed_sale (swept m s) n (lose_sale n (swept m s)) sale there ∙ ap (λ t. lost_by t n (swept m s) sale) is)
    (lost_as (swept m s) n sale st there is)

-- ---- the oldest sales are forgotten

pub trim_none : (s : State) (n sales gone : ℕ) → n ≡ 0 → sales ≡ length s.sales - n → gone ≡ forgotten s + n → IsOutcome (trim n s) (told_alone (reply.Trimmed sales gone))
trim_none s n sales gone none left all =
    same_outcome (trim n s) (unchanged s (trimmed n s)) (told_alone (reply.Trimmed sales gone))
    (ap (λ b. cond b (unchanged s (trimmed n s)) (changing (forget_first n s) (trimmed n s) (change.Forgot (forgotten s + n)))) (eq-eqb n 0 none))
    (record { reply = ap (λ k. reply.Trimmed k gone) left ∙ ap (reply.Trimmed (length s.sales - n)) all; change = refl })

pub trim_some : (s : State) (n sales gone : ℕ) → n ≢ 0 → sales ≡ length s.sales - n → gone ≡ forgotten s + n → IsOutcome (trim n s) (does (reply.Trimmed sales gone) (change.Forgot gone))
trim_some s n sales gone some left all =
    same_outcome (trim n s) (changing (forget_first n s) (trimmed n s) (change.Forgot (forgotten s + n))) (does (reply.Trimmed sales gone) (change.Forgot gone))
    (ap (λ b. cond b (unchanged s (trimmed n s)) (changing (forget_first n s) (trimmed n s) (change.Forgot (forgotten s + n)))) (ne_eqb n 0 some))
    (record { reply = ap (λ k. reply.Trimmed k gone) left ∙ ap (reply.Trimmed (length s.sales - n)) all; change = ap (λ k. Some (change.Forgot k)) all })
