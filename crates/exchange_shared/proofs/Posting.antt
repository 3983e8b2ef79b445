-- Versions that are published while the list goes on.
use Rattle.std.proofs.Common.{◌≡◌, ◌↔◌, ℕ, ◌+◌, ◌≤◌, ◌<◌, Bool, true, false, cond, leb, List, [], ◌∷◌, ◌++◌, Option, Some, None, refl, sym, ◌∙◌, ap, subst, arith, append_assoc}
use mathlib.Core.Logic.{dite}
use native.Mathlib.Decide.{dec_lt}
use Rattle.std.proofs.lemmas.Bool.{leb-false, leb-true}
use Rattle.std.proofs.lemmas.List.{append-nil}
use Rattle.hist_lock.specs.Views.{Enters, seat_with}
use Rattle.exchange_shared.specs.Seats.{Gains, IsOrdered, Publishes, Seat, Waits, worker_of}
use Rattle.exchange_shared.specs.Versions.{Published as HasPublished}
use Rattle.exchange_shared.proofs.Histories.{edits_stay}
use Rattle.exchange_shared.proofs.Seats.{own_append, waits}
use Rattle.exchange_state.specs.declared.entries.Entry.{Entry}
use Rattle.exchange_state.specs.declared.entries.Origin.{Origin}
use Rattle.exchange_state.specs.declared.state.ExchangeState.{ExchangeState}
use Rattle.exchange_state.specs.declared.state.Published.{Published}
use Rattle.exchange_state.specs.declared.state.Published.TheVariants as answer
use Rattle.exchange_state.specs.Settling.{IsSnapshotOf, published_as, publishing_marks}
use Rattle.exchange_state.proofs.Growing.{edits_are}
use Rattle.campaign_store.specs.declared.listed.Snapshot.{Snapshot}
use Rattle.campaign_store.specs.Table.{live_records}
use Rattle.conj_index.specs.Content.{IsIndexOf}
use Rattle.index_versions.specs.Versions.{campaigns_of, live_in}
use Rattle.index_versions.specs.declared.version.Version.{Version}
use Rattle.plain_exchange.specs.History.{Call}
use Rattle.exchange_state.specs.Standing.{StandsFor}
use Rattle.exchange_state.specs.Tickets.{IsVersionOf, edits_after, table_at}
use Rattle.exchange_state.specs.Views.{IsRising, calls, own, published, published_at}
use Rattle.exchange_state.proofs.Rising.{published_later}
use Rattle.rtb_disk.specs.declared.disk.Disk.{Ghosts}

module _ {D : Type 0} {G : Ghosts D} where
  pub posted : (o : Origin) (x : ExchangeState D G) (l : List Entry) (w : ℕ) (r q : Published) → r ≡ q → StandsFor o x (l ++ publishing_marks w r) → StandsFor o x (l ++ publishing_marks w q)
  posted o x l w r q is s = subst (λ (t : Published). StandsFor o x (l ++ publishing_marks w t)) is s

  pub posted_none : (o : Origin) (x : ExchangeState D G) (l : List Entry) (w : ℕ) (r : Published) → publishing_marks w r ≡ [] → StandsFor o x (l ++ publishing_marks w r) → StandsFor o x l
  posted_none o x l w r none s = subst (StandsFor o x) (ap (λ m. l ++ m) none ∙ append-nil l) s

kept_as : (p e n : ℕ) → published_as p e ≡ answer.Kept n → (n ≡ p) × (e ≤ n)
kept_as p e n is = at (leb e p) refl
  where
    at : (b : Bool) → leb e p ≡ b → (n ≡ p) × (e ≤ n)
    at true under =
        let q : answer.Kept p ≡ answer.Kept n = ap (λ b. cond b (answer.Kept p) (answer.New e)) (sym under) ∙ is in
        let np : n ≡ p = cc q in
        let le = leb-true e p under in
        (np, omega (arith, np, le))
    at false apart =
        let q : answer.New e ≡ answer.Kept n = ap (λ b. cond b (answer.Kept p) (answer.New e)) (sym apart) ∙ is in
        absurd (cc q)

new_as : (p e n : ℕ) → published_as p e ≡ answer.New n → (n ≡ e) × (p < n)
new_as p e n is = at (leb e p) refl
  where
    at : (b : Bool) → leb e p ≡ b → (n ≡ e) × (p < n)
    at true under =
        let q : answer.Kept p ≡ answer.New n = ap (λ b. cond b (answer.Kept p) (answer.New e)) (sym under) ∙ is in
        absurd (cc q)
    at false apart =
        let q : answer.New e ≡ answer.New n = ap (λ b. cond b (answer.Kept p) (answer.New e)) (sym apart) ∙ is in
        let ne : n ≡ e = cc q in
        let lt = leb-false e p apart in
        (ne, omega (arith, ne, lt))

-- the mark of the version, with the entries of others that came before it as its `more`
gains_mark : (n : ℕ) (s t u : Seat) → Enters worker_of s t → u ≡ seat_with t (t.seen ++ published_at t.worker n ∷ []) false → Gains (published_at s.worker n) s u
gains_mark n s t u en left = record {
  more = en.0;
  others = en.2;
  same = left ∙ ap (λ (y : Seat). seat_with y (y.seen ++ published_at y.worker n ∷ []) false) en.1;
}

pub newer : (s t u : Seat) (e n : ℕ) (r : Published) → r ≡ answer.New n → r ≡ published_as (published t.origin t.seen) e → Enters worker_of s t → u ≡ seat_with t (t.seen ++ published_at t.worker n ∷ []) false → HasPublished e s u (answer.New n)
unfolding gains_mark
newer s t u e n r is told en left =
    let k = new_as (published t.origin t.seen) e n (sym told ∙ is) in
    (k.0, gains_mark n s t u en left, subst (λ (y : Seat). published y.origin y.seen < n) en.1 k.1)

pub kept : (s t u : Seat) (e n : ℕ) (r : Published) → r ≡ answer.Kept n → r ≡ published_as (published t.origin t.seen) e → Enters worker_of s t → u ≡ seat_with t t.seen false → HasPublished e s u r
kept s t u e n r is told en left =
    let k = kept_as (published t.origin t.seen) e n (sym told ∙ is) in
    subst (HasPublished e s u) (sym is) (waits s t u en left, k.0 ∙ sym (ap (λ (y : Seat). published y.origin y.seen) left), k.1)

-- ---- two turns

pub wait_on : (s t u : Seat) → Waits s t → Waits t u → Waits s u
wait_on s t u a b = record {
  more = a.more ++ b.more;
  others = own_append s.worker a.more b.more ∙ ap (λ l. l ++ own s.worker b.more) a.others ∙ subst (λ n. own n b.more ≡ []) (ap (λ (y : Seat). y.worker) a.same) b.others;
  same = b.same ∙ ap (λ (y : Seat). seat_with y (y.seen ++ b.more) false) a.same ∙ ap (λ k. seat_with s k false) (append_assoc s.seen a.more b.more);
}

pub gain_on : (w : ℕ) (edit : ℕ) (s t u : Seat) → Waits s t → Gains (published_at t.worker edit) t u → Gains (published_at s.worker edit) s u
gain_on w edit s t u a b =
    let same_worker : t.worker ≡ s.worker = ap (λ (y : Seat). y.worker) a.same in
    record {
      more = a.more ++ b.more;
      others = own_append s.worker a.more b.more ∙ ap (λ l. l ++ own s.worker b.more) a.others ∙ subst (λ n. own n b.more ≡ []) same_worker b.others;
      same = b.same ∙ ap (λ (y : Seat). seat_with y ((y.seen ++ b.more) ++ published_at y.worker edit ∷ []) false) a.same
          ∙ ap (λ k. seat_with s (k ++ published_at s.worker edit ∷ []) false) (append_assoc s.seen a.more b.more);
    }

pub edits_since : (s t : Seat) → Waits s t → edits_after s.origin (calls s.seen) ≤ edits_after t.origin (calls t.seen)
edits_since s t w = subst (λ (y : Seat). edits_after s.origin (calls s.seen) ≤ edits_after y.origin (calls y.seen)) (sym w.same) (edits_stay s.origin s.seen w.more)

-- the version that the seat had seen is no newer than the one that was present as a version was due
since_seen : (after : ℕ) (s t : Seat) (n : ℕ) → Waits s t → IsRising t.origin t.seen → published t.origin t.seen + after ≤ n → published s.origin s.seen + after ≤ n
since_seen after s t n w rising due =
    let before : IsRising s.origin (s.seen ++ w.more) = subst (λ (y : Seat). IsRising y.origin y.seen) w.same rising in
    let le = published_later s.origin s.seen w.more before in
    let at : published s.origin (s.seen ++ w.more) + after ≤ n = subst (λ (y : Seat). published y.origin y.seen + after ≤ n) w.same due in
    omega (arith, le, at)

pub republished : (after : ℕ) (s t u : Seat) (edit : ℕ) (r : Published) → 1 ≤ after → Waits s t → IsOrdered t.origin t.seen → edit ≡ edits_after t.origin (calls t.seen) → published t.origin t.seen + after ≤ edit → HasPublished edit t u r → Publishes after s u r
unfolding gain_on
republished after s t u edit (answer.New e) one a o is due (same, b, above) = (
  gain_on 0 e s t u a b,
  (let le = edits_since s t a in omega (arith, le, is, same)),
  subst (λ l. published s.origin l < e) (append_assoc s.seen a.more b.more) (subst (λ (y : Seat). published y.origin (y.seen ++ b.more) < e) a.same above),
  subst (λ n. published s.origin s.seen + after ≤ n) (sym same) (since_seen after s t edit a o.rising due),
)
republished after s t u edit (answer.Kept e) one a o is due (b, at, le) = (wait_on s t u a b, at, (let before = edits_since s t a in omega (arith, one, before, is, le)))

-- ---- the version of a snapshot

pub version_made : (o : Origin) (h : List Call) (s : Snapshot) (v : Version) → IsSnapshotOf o h s → v.edit ≡ s.edit → v.live ≡ s.live → IsIndexOf (campaigns_of s.live) v.index → IsVersionOf o h v
version_made o h s v i same alive ix = record {
  opened = (let a = edits_are o h in let b = i.edit in omega (arith, a, b, same));
  past = (let b = i.edit in omega (arith, b, same));
  content = subst (λ e. IsIndexOf (live_in (table_at o h e)) v.index) (sym same) (subst (λ l. IsIndexOf (campaigns_of l) v.index) i.live ix);
  live = alive ∙ i.live ∙ ap (λ e. live_records (table_at o h e)) (sym same);
}

-- one is due, where a snapshot was given
pub due_where_given : (after p e : ℕ) (r : Option Snapshot) (s : Snapshot) → r ≡ Some s → (r ≡ None) ↔ (e < p + after) → p + after ≤ e
due_where_given after p e r s is none = dite (dec_lt e (p + after)) (λ lt. let nothing : r ≡ None = none.1 lt in absurd (cc (is, nothing))) (λ ge. omega (arith, ge))

pub not_due : (after : ℕ) (s t : Seat) (edit : ℕ) → Waits s t → edits_after t.origin (calls t.seen) < edit + after → edits_after s.origin (calls s.seen) < edit + after
not_due after s t edit w lt = let le = edits_since s t w in omega (arith, le, lt)
