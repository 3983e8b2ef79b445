-- The live campaigns of a table by number, and which of them differ where campaigns were touched.
use Rattle.std.proofs.Common.{◌≡◌, ◌↔◌, ℕ, inl, inr, List, [], ◌∷◌, Bool, true, false, cond, Option, Some, None, filter, refl, sym, ◌∙◌, ap, subst}
use Rattle.std.specs.List.{Contains, enumerate_from}
use Rattle.auction_core.specs.Core.{listed}
use Rattle.auction_core.specs.Draft.{found_for}
use Rattle.auction_core.specs.Found.{AreTouched, DifferAtMostIn, is_touched, touched_for}
use Rattle.assign.specs.Rows.{pairs_of}
use Rattle.campaign_store.specs.Table.{campaign_at, live_record, live_records}
use Rattle.campaign_store.specs.declared.listed.Listed.{Listed}
use Rattle.campaign_store.specs.declared.listed.LiveRecord.{LiveRecord}
use Rattle.campaign_store.specs.declared.record.Record.{Record}
use Rattle.conj_index.proofs.Members.{Has, contains_from_has, has_from_contains, has_spread, spread_has}
use Rattle.index_versions.specs.Fixed as fixed
use Rattle.index_versions.proofs.Present.{at_listed, listed_at}
use Rattle.plain_exchange.specs.State.{State}

abbrev listed_with : Record → Bool → Listed
listed_with r live = record { entry = r; live = live }

-- the one record of a campaign that is live
own : (n : ℕ) (l : Listed) (c : LiveRecord) → Has c (live_record (n, l)) → (n ≡ c.number) × (l ≡ listed_with c.entry true)
own n l c h = by l.live refl h
  where
    by : (b : Bool) → l.live ≡ b → Has c (cond b ((record { number = n; entry = l.entry }) ∷ []) []) → (n ≡ c.number) × (l ≡ listed_with c.entry true)
    by true e (inl f) = (ap (λ (x : LiveRecord). x.number) (sym f), ap (listed_with l.entry) e ∙ ap (λ (x : LiveRecord). listed_with x.entry true) (sym f))
    by true e (inr h) = absurd h
    by false e h = absurd h

live_listed : (cs : List Listed) (c : LiveRecord) → Has c (live_records cs) → campaign_at cs c.number ≡ Some (listed_with c.entry true)
live_listed cs c h =
    let (p, has, is) = spread_has live_record (enumerate_from 1 cs) c h in
    let (number, entry) = own p.0 p.1 c is in
    subst (λ n. campaign_at cs n ≡ Some (listed_with c.entry true)) number (at_listed cs p.0 p.1 has ∙ ap (λ l. Some l) entry)

listed_live : (cs : List Listed) (c : LiveRecord) → campaign_at cs c.number ≡ Some (listed_with c.entry true) → Has c (live_records cs)
listed_live cs c at = has_spread live_record (enumerate_from 1 cs) (c.number, listed_with c.entry true) c (listed_at cs c.number (listed_with c.entry true) at) (inl refl)

-- campaigns that were not touched are live before exactly where they are live now
pub lives_differ : (touched : List ℕ) (before : List Listed) (s : State) → fixed.DifferAtMostIn touched before (listed s) → DifferAtMostIn touched (live_records before) s
lives_differ touched before s differ = λ c out. (
  (λ h. contains_from_has (live_records (listed s)) c (listed_live (listed s) c (sym (differ c.number out) ∙ live_listed before c (has_from_contains (live_records before) c h)))),
  (λ h. contains_from_has (live_records before) c (listed_live before c (differ c.number out ∙ live_listed (listed s) c (has_from_contains (live_records (listed s)) c h)))),
)
