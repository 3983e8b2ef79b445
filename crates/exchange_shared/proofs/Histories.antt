-- What a seat knew of its history stays when the list goes on.
use Rattle.std.proofs.Common.{◌≡◌, ℕ, false, ◌≤◌, ◌<◌, ◌^◌, List, [], ◌∷◌, ◌++◌, length, refl, sym, ◌∙◌, ap, subst}
use Rattle.auction_core.specs.Found.{AreFound}
use Rattle.clearing.specs.declared.Offer.{Offer}
use Rattle.conj_index.specs.Campaigns.{DoRise}
use Rattle.conj_index.specs.Content.{IsIndexOf}
use Rattle.hist_lock.specs.Views.{Enters, seat_with}
use Rattle.exchange_shared.specs.Seats.{MayBeSettled, Seat, Waits, effects_in, worker_of}
use Rattle.exchange_state.specs.declared.entries.Entry.{Entry}
use Rattle.exchange_state.specs.declared.entries.Origin.{Origin}
use Rattle.exchange_state.specs.declared.state.ExchangeState.{ExchangeState}
use Rattle.exchange_state.specs.Settling.{MaySettle, MayPublish}
use Rattle.exchange_state.specs.Standing.{StandsFor}
use Rattle.exchange_state.specs.Tickets.{IsVersionOf, edits_after, effects_after, table_at}
use Rattle.exchange_state.specs.Views.{calls, stable}
use Rattle.exchange_state.proofs.Later.{calls_on, edits_later, front_later, version_later}
use Rattle.index_versions.proofs.Live.{live_rise}
use Rattle.index_versions.specs.Versions.{campaigns_of}
use Rattle.index_versions.specs.declared.version.Version.{Version}
use Rattle.rtb_disk.specs.declared.disk.Disk.{Ghosts}
use Rattle.rtb_types.specs.declared.request.BidRequest.{BidRequest}

pub version_stays : (s t : Seat) (v : Version) → Enters worker_of s t → IsVersionOf s.origin (calls s.seen) v → IsVersionOf t.origin (calls t.seen) v
version_stays s t v (rest, is, none) i =
    subst (λ (u : Seat). IsVersionOf u.origin (calls u.seen) v) (sym is)
    (subst (λ h. IsVersionOf s.origin h v) (sym (calls_on s.seen rest)) (version_later s.origin (calls rest) (calls s.seen) v i))

-- what was found in a version that the seat has seen may be settled
pub may_be_settled : (s : Seat) (v : Version) (r asked : BidRequest) (found : List (List Offer)) → IsVersionOf s.origin (calls s.seen) v → asked ≡ r
    → (DoRise (campaigns_of v.live) → IsIndexOf (campaigns_of v.live) v.index → AreFound v.live r found) → MayBeSettled s v asked found
may_be_settled s v r asked found version same found_are =
    let table = table_at s.origin (calls s.seen) v.edit in
    let rise : DoRise (campaigns_of v.live) = subst (λ l. DoRise (campaigns_of l)) (sym version.live) (live_rise table) in
    let content : IsIndexOf (campaigns_of v.live) v.index = subst (λ l. IsIndexOf (campaigns_of l) v.index) (sym version.live) version.content in
    record {
      version = version;
      found_are = subst (λ q. AreFound v.live q found) (sym same) (found_are rise content);
    }

module _ {D : Type 0} {G : Ghosts D} where
  pub may_settle : (s t : Seat) (x : ExchangeState D G) (v : Version) (asked : BidRequest) (found : List (List Offer)) → MayBeSettled s v asked found → Enters worker_of s t → StandsFor t.origin x t.seen → length t.seen < 2 ^ 62
      → MaySettle x v asked found
  may_settle s t x v asked found m e stands short = record {
    origin = t.origin;
    list = t.seen;
    stands = stands;
    short = short;
    version = version_stays s t v e m.version;
    found_are = m.found_are;
  }

  pub may_publish : (s t : Seat) (x : ExchangeState D G) (v : Version) → Enters worker_of s t → StandsFor t.origin x t.seen → IsVersionOf s.origin (calls s.seen) v → MayPublish x v
  may_publish s t x v e stands i = record { origin = t.origin; list = t.seen; stands = stands; version = version_stays s t v e i }

-- effects that stand in the list stand in what it goes on to
pub effects_stay : (o : Origin) (l more : List Entry) (n : ℕ) → n ≤ effects_in o l → n ≤ effects_in o (l ++ more)
effects_stay o l more n le = subst (λ h. n ≤ length (effects_after o h)) (sym (calls_on l more)) ((front_later o (calls more) (calls l) n le).1)

pub effects_wait : (s t : Seat) (n : ℕ) → (more : List Entry) → t ≡ seat_with s (s.seen ++ more) false → n ≤ effects_in s.origin s.seen → n ≤ effects_in t.origin t.seen
effects_wait s t n more is le = subst (λ (u : Seat). n ≤ effects_in u.origin u.seen) (sym is) (effects_stay s.origin s.seen more n le)

pub edits_stay : (o : Origin) (l more : List Entry) → edits_after o (calls l) ≤ edits_after o (calls (l ++ more))
edits_stay o l more = subst (λ h. edits_after o (calls l) ≤ edits_after o h) (sym (calls_on l more)) (edits_later o (calls more) (calls l))

-- ---- the list that a turn began with

pub snoc_init : (l m : List Entry) (e f : Entry) → l ++ e ∷ [] ≡ m ++ f ∷ [] → l ≡ m
snoc_init [] [] e f is = refl
snoc_init [] (x ∷ []) e f is = absurd (cc is)
snoc_init [] (x ∷ y ∷ m) e f is = absurd (cc is)
snoc_init (x ∷ []) [] e f is = absurd (cc is)
snoc_init (x ∷ y ∷ l) [] e f is = absurd (cc is)
snoc_init (x ∷ l) (y ∷ m) e f is = let rest : l ++ e ∷ [] ≡ m ++ f ∷ [] = cc is in let same = snoc_init l m e f rest in let first : x ≡ y = cc is in cc (same, first)

pub durable_all : (s t : Seat) (n : ℕ) (w : Waits s t) → stable t.seen ≡ effects_in t.origin t.seen → n ≤ effects_in s.origin s.seen → n ≤ stable t.seen
durable_all s t n w all le = subst (λ k. n ≤ k) (sym all) (effects_wait s t n w.more w.same le)
