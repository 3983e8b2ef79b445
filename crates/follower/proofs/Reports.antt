-- What a campaign is and what its sales add up to.
use Rattle.std.proofs.Common.{◌≡◌, cond, ℕ, zero, suc, ◌-◌, List, [], map, get_or, refl, sym, ◌∙◌, ap, arith, Option, Some, None}
use Rattle.std.proofs.lemmas.Bool.{ne_eqb}
use Rattle.std.specs.Prelude.{option_map, slice_get, codes}
use Rattle.std.specs.Option.{option_map_or}
use Rattle.auction_core.specs.Core.{funds, funds_for}
use Rattle.budget_book.specs.Book.{Funds}
use Rattle.budget_book.specs.declared.sales.SaleRow.{SaleRow}
use Rattle.budget_book.specs.declared.sales.Totals.{Totals}
use Rattle.budget_book.specs.Sales.{totals_of}
use Rattle.follower.specs.declared.follower.FollowReport.{FollowReport}
use Rattle.follower.specs.Following.{report_of}
use Rattle.follower.specs.Reporting.{followed_members, found_answer}
use Rattle.plain_exchange.specs.State.{Campaign, State, campaign_at, totals}
use Rattle.recovery.proofs.Summing.{funds_at}
use Rattle.rtb_response.specs.Replies.{error_answer, object_answer}

in_list : (s : State) (n : ℕ) (c : Campaign) → campaign_at s n ≡ Some c → slice_get s.campaigns (n - 1) ≡ Some c
in_list s zero c e = absurd (cc e)
in_list s (suc k) c e = sym (ap (λ b. cond b None (slice_get s.campaigns (suc k - 1))) (ne_eqb (suc k) 0 (λ z. omega (arith, z)))) ∙ e

pub totals_at : (s : State) (n : ℕ) (c : Campaign) (book : List Funds) (sales : List SaleRow) (t : Totals) → campaign_at s n ≡ Some c → book ≡ funds s → sales ≡ s.sales → t ≡ totals_of n (get_or book (n - 1) (funds_for c)).gone sales → t ≡ totals s n c
totals_at s n c book sales t e campaigns_are sales_are is =
    is
    ∙ ap (λ (l : List SaleRow). totals_of n (get_or book (n - 1) (funds_for c)).gone l) sales_are
    ∙ ap (λ (l : List Funds). totals_of n (get_or l (n - 1) (funds_for c)).gone s.sales) campaigns_are
    ∙ ap (λ (f : Funds). totals_of n f.gone s.sales) (ap (λ k. get_or (map funds_for s.campaigns) k (funds_for c)) (omega arith) ∙ funds_at s.campaigns (n - 1) c (in_list s n c e))

pub reported : (s : State) (n m : ℕ) (r : FollowReport) → option_map (λ (c : Campaign). n) (campaign_at s n) ≡ Some m → ((c : Campaign) → campaign_at s m ≡ Some c → r ≡ report_of s m c) → Some r ≡ option_map (report_of s n) (campaign_at s n)
reported s n m r there reports = by_found (campaign_at s n) refl there
  where
    by_found : (o : Option Campaign) → campaign_at s n ≡ o → option_map (λ (c : Campaign). n) o ≡ Some m → Some r ≡ option_map (report_of s n) o
    by_found None e t = absurd (cc t)
    by_found (Some c) e t =
        let same : n ≡ m = cc t in
        let is = reports c (ap (campaign_at s) (sym same) ∙ e) in
        ap (λ (x : FollowReport). Some x) (is ∙ ap (λ k. report_of s k c) (sym same))

pub found_is : (s : State) (n m effects : ℕ) (r : FollowReport) → option_map (λ (c : Campaign). n) (campaign_at s n) ≡ Some m → ((c : Campaign) → campaign_at s m ≡ Some c → r ≡ report_of s m c) → object_answer 200 (followed_members m r effects) ≡ found_answer s n effects
found_is s n m effects r there reports = by_found (campaign_at s n) refl there
  where
    by_found : (o : Option Campaign) → campaign_at s n ≡ o → option_map (λ (c : Campaign). n) o ≡ Some m
        → object_answer 200 (followed_members m r effects) ≡ option_map_or (λ (c : Campaign). object_answer 200 (followed_members n (report_of s n c) effects)) o (error_answer 404 (codes "no-such-campaign") [])
    by_found None e t = absurd (cc t)
    by_found (Some c) e t =
        let same : n ≡ m = cc t in
        let is = reports c (ap (campaign_at s) (sym same) ∙ e) in
        ap (λ k. object_answer 200 (followed_members k r effects)) (sym same)
        ∙ ap (λ (x : FollowReport). object_answer 200 (followed_members n x effects)) (is ∙ ap (λ k. report_of s k c) (sym same))
