-- What comes of a journal that is written anew beside who writes it: of each call.
use Rattle.std.proofs.Common.{◌≡◌, ◌≢◌, inl, inr, ℕ, List, [], ◌∷◌, ◌++◌, true, refl, sym, ◌∙◌, ap, subst}
use Rattle.std.specs.Prelude.{MatchResult, OnOk, Result, Ok, Err}
use Rattle.compaction.specs.Beside.{BeginsBeside, EndsBeside, Follows, IsMoved, IsUnderWay, IsUnfinishedOrMoved, Moves, Says, ShowsGain, StaysUnfinished, StopsAt, store_beside}
use Rattle.compaction.specs.Gathering.{Begins, Closes}
use Rattle.compaction.specs.Lines.{compact_line}
use Rattle.compaction.specs.Passing.{BeginsKept, IsJournalRead, Passes, ReadWhole}
use Rattle.compaction.specs.Seen.{AreShown}
use Rattle.compaction.specs.declared.beside.Beside.{Beside}
use Rattle.compaction.specs.declared.fault.CompactionFault.{CompactionFault}
use Rattle.compaction.specs.declared.fault.CompactionFault.TheVariants.{Memory, NotEmpty, NotRead, WriteFailed}
use Rattle.compaction.proofs.Files.{read_too}
use Rattle.compaction.proofs.Fronts.{bad_damages, stands_front}
use Rattle.compaction.proofs.Moving.{first_moves}
use Rattle.compaction.proofs.Passed.{unfinished_then}
use Rattle.compaction.proofs.Showing.{are_before, are_behind, are_both, end_then}
use Rattle.journal_file.specs.Blocks.{HasBlocks, StandsFor, compacted_name, end_of, journal_names}
use Rattle.journal_file.specs.Compaction.{Adds}
use Rattle.journal_file.specs.Unfinished.{IsUnfinished, IsUnfinishedOr}
use Rattle.journal_file.specs.declared.faults.JournalFault.{JournalFault}
use Rattle.journal_file.specs.declared.faults.JournalFault.TheVariants as journal
use Rattle.journal_file.proofs.Shown.{shown_so, shown_then}
use Rattle.plain_exchange.specs.declared.changes.Effect.{Effect}
use Rattle.plain_exchange.specs.State.{State, forget}
use Rattle.compaction.specs.Beside.{HasFront}
use Rattle.recovery.specs.Damage.{IsDamagedAt}
use Rattle.recovery.proofs.Walking.{stays}
use Rattle.rtb_base.specs.Faults.{RisesOnlyWhere}
use Rattle.rtb_disk.specs.Showing.{Shown}
use Rattle.rtb_disk.specs.Stores.{Always, Store, settled}
use Rattle.rtb_disk.specs.declared.disk.Disk.{Ghosts}
use Rattle.rtb_disk.proofs.Moments.{always_map, always_then}

stops_damages : (image : List ℕ) (at : ℕ) → StopsAt [] [] at image → IsDamagedAt image at
stops_damages image at (inl foreign) = inl foreign
stops_damages image at (inr (more, state, says, is, b, bad, damaged)) = (bad_damages more image at state says is b bad)

gain_shown : (before more : List (List ℕ)) (shown : List Shown) → ShowsGain before more shown → AreShown shown (end_of before) more
gain_shown before more shown (inl (none, head)) = subst (AreShown shown (end_of before)) (sym none) tt
gain_shown before more shown (inr (head, are, shut)) = are

moved : (written : List (List ℕ)) (state : State) (image : List ℕ) → Says written state → HasBlocks (compacted_name ∷ []) written image → IsMoved written state image
moved written state image says b = record {
  blocks = b;
  gives = record { effects = says.effects; has = record { payloads = written; stands = inl (read_too written image b); text = says.text }; leads = says.leads };
}

may_be_moved : (written : List (List ℕ)) (state : State) → Says written state → (image : List ℕ) → IsUnfinishedOr written image → IsUnfinishedOrMoved written state image
may_be_moved written state says image (inl u) = inl u
may_be_moved written state says image (inr b) = inr (moved written state image says b)

-- at each moment since the file was taken
moments : (written : List (List ℕ)) (state : State) (into s t : Store) → Says written state → StaysUnfinished into s → Always (IsUnfinishedOr written) s t → Always (IsUnfinishedOrMoved written state) (settled into) t
moments written state into s t says a b =
    always_then (IsUnfinishedOrMoved written state) (settled into) s t
    (always_map IsUnfinished (IsUnfinishedOrMoved written state) (λ image u. inl u) (settled into) s a.1)
    (always_map (IsUnfinishedOr written) (IsUnfinishedOrMoved written state) (may_be_moved written state says) s t b)

-- the count rises for the one where it does for the other
pub not_read_cause : (fault : JournalFault) (before now : ℕ) → RisesOnlyWhere (◌≡◌ {A = Result Unit JournalFault} (Err fault) (Err journal.DiskFailed)) before now → RisesOnlyWhere (NotRead fault ≡ NotRead journal.DiskFailed) before now
not_read_cause fault before now h =
    let there : (NotRead fault ≡ NotRead journal.DiskFailed) → ◌≡◌ {A = Result Unit JournalFault} (Err fault) (Err journal.DiskFailed) = λ e. let same : fault ≡ journal.DiskFailed = cc e in ap Err same in
    let back : ◌≡◌ {A = Result Unit JournalFault} (Err fault) (Err journal.DiskFailed) → (NotRead fault ≡ NotRead journal.DiskFailed) = λ e. let same : fault ≡ journal.DiskFailed = cc e in ap NotRead same in
    (h.0, (λ e. h.1 (there e)), (λ no. h.2 (λ e. no (back e))))

-- ---- the beginning

module _ {D : Type 0} (G : Ghosts D) where
  pub kept_refused : (kept : State) (gate : ℕ) (effects : List Effect) (into : D) (refused : D × CompactionFault) → ((fault : JournalFault) → refused.1 ≢ NotRead fault)
      → ((G.store into).told ≡ true → Begins {G = G} effects (G.store into) (Err refused)) → BeginsKept {G = G} kept gate into (Err refused)
  kept_refused kept gate effects into (disk, NotRead fault) unread h = absurd (unread fault refl)
  kept_refused kept gate effects into (disk, NotEmpty) unread h = h
  kept_refused kept gate effects into (disk, WriteFailed) unread h = h
  kept_refused kept gate effects into (disk, Memory) unread h = h

  pub not_read : (keep : ℕ) (from now into : D) (state : State) (gate : ℕ) (fault : JournalFault) → IsJournalRead G from now state gate (Err fault) → BeginsBeside {G = G} keep from now into (Err (into, NotRead fault))
  not_read keep from now into state gate (journal.Damaged at) bad = (refl, λ told. stops_damages (G.store from).reads at (bad.0 told), bad.1)
  not_read keep from now into state gate journal.DiskFailed bad = refl
  not_read keep from now into state gate journal.Memory bad = refl

module _ {D : Type 0} {G : Ghosts D} where
  pub begun_beside : (keep : ℕ) (from now into : D) (payloads : List (List ℕ)) (state : State) (gate : ℕ) (r : Result (Beside D G) (D × CompactionFault)) → ReadWhole G from now payloads state gate → G.store now ≡ G.store from → BeginsKept (forget keep state) gate into r → BeginsBeside keep from now into r
  begun_beside keep from now into payloads state gate (Ok b) whole same k = λ told.
      let held = k.holds told in (
        payloads,
        held.0.payloads,
        record {
          stands = record {
            moves = subst (λ (x : State). Moves keep payloads held.0.payloads x) (sym k.state) (first_moves keep payloads held.0.payloads state whole.says held.0.text);
            gate = k.place ∙ whole.place;
            adds = held.0.adds;
            unfinished = held.1;
          };
          told = λ told. stands_front payloads (G.store from).reads (whole.read.told told);
          shows = shown_so _ _ whole.read.shows (λ shown gain. gain_shown [] payloads shown gain);
          unwritten = same;
        },
        whole.read,
      )
  begun_beside keep from now into payloads state gate (Err (disk, NotRead fault)) whole same k = absurd k
  begun_beside keep from now into payloads state gate (Err (disk, NotEmpty)) whole same k = k
  begun_beside keep from now into payloads state gate (Err (disk, WriteFailed)) whole same k = k
  begun_beside keep from now into payloads state gate (Err (disk, Memory)) whole same k = k

  pub kept_read_cause : (kept : State) (gate : ℕ) (into : D) (before now : ℕ) (r : Result (Beside D G) (D × CompactionFault)) → BeginsKept kept gate into r → now ≡ before → MatchResult r (λ _. now ≡ before) (λ e. RisesOnlyWhere (e.1 ≡ NotRead journal.DiskFailed) before now)
  kept_read_cause kept gate into before now (Ok b) k same = same
  kept_read_cause kept gate into before now (Err (disk, NotRead fault)) k same = absurd k
  kept_read_cause kept gate into before now (Err (disk, NotEmpty)) k same = stays _ before now (λ e. absurd (cc e)) same
  kept_read_cause kept gate into before now (Err (disk, WriteFailed)) k same = stays _ before now (λ e. absurd (cc e)) same
  kept_read_cause kept gate into before now (Err (disk, Memory)) k same = stays _ before now (λ e. absurd (cc e)) same

  -- ---- behind it

  pub follows_on : (keep : ℕ) (passed written : List (List ℕ)) (first : D) (into : Store) (old new : D) (b b' : Beside D G) (r : Result Unit CompactionFault) → IsUnderWay keep passed written first into old b → G.store new ≡ G.store old → Passes keep passed written into old new b' r → Follows keep passed written first into old new b' r
  follows_on keep passed written first into old new b b' (Ok _) u same (more, stands, gains) = (
    more,
    record {
      stands = stands;
      told = λ told.
          let there = subst (λ (store : Store). store.told ≡ true → HasFront passed store.reads → StandsFor journal_names (passed ++ more) store.reads) u.unwritten gains.told in
          stands_front (passed ++ more) (G.store first).reads (there told (u.told told));
      shows = shown_then _ _ _ u.shows gains.shows (λ before back a gain.
          are_both (before ++ back) (end_of []) (end_of passed) passed more (end_then [] passed) (are_before before back (end_of []) passed a) (are_behind before back (end_of passed) more (gain_shown passed more back gain)));
      unwritten = same ∙ u.unwritten;
    },
    gains,
  )
  follows_on keep passed written first into old new b b' (Err fault) u same stops = stops

  -- ---- the end

  pub ends_beside : (keep : ℕ) (passed written : List (List ℕ)) (into : Store) (old new : D) (b : Beside D G) (after : Store) (line line' : List ℕ) (r : Result Unit CompactionFault) → Passes keep passed written into old new b (Ok tt)
      → ((w : List (List ℕ)) → Adds b.file w → Closes w (store_beside b) after r) → OnOk r (line' ≡ line ++ compact_line b.core.state) → EndsBeside G keep passed written old new into after line line' r
  ends_beside keep passed written into old new b after line line' (Ok _) (more, stands, gains) closes told =
      let all = written ++ more in
      let says = stands.moves.says in
      let done = closes all stands.adds in
      record {
        more = more;
        gains = gains;
        state = b.core.state;
        moves = stands.moves;
        moments = (stands.unfinished.0, moments all b.core.state into (store_beside b) after says stands.unfinished done.0, λ image is. moved all b.core.state image says (done.1 image is));
        line_is = told;
      }
  ends_beside keep passed written into old new b after line line' (Err (NotRead fault)) (more, stands, gains) closes told = absurd (closes (written ++ more) stands.adds)
  ends_beside keep passed written into old new b after line line' (Err NotEmpty) (more, stands, gains) closes told = closes (written ++ more) stands.adds
  ends_beside keep passed written into old new b after line line' (Err WriteFailed) (more, stands, gains) closes told =
      inr (record {
        more = more;
        gains = gains;
        state = b.core.state;
        moves = stands.moves;
        moments = (stands.unfinished.0, moments (written ++ more) b.core.state into (store_beside b) after stands.moves.says stands.unfinished (closes (written ++ more) stands.adds));
      })
  ends_beside keep passed written into old new b after line line' (Err Memory) (more, stands, gains) closes told = unfinished_then into (store_beside b) after stands.unfinished (closes (written ++ more) stands.adds)

  pub ends_stopped : (keep : ℕ) (passed written : List (List ℕ)) (into : Store) (old new : D) (b : Beside D G) (line line' : List ℕ) (fault : CompactionFault) → Passes keep passed written into old new b (Err fault) → EndsBeside G keep passed written old new into (store_beside b) line line' (Err fault)
  ends_stopped keep passed written into old new b line line' (NotRead fault) stops = stops
  ends_stopped keep passed written into old new b line line' NotEmpty stops = stops
  ends_stopped keep passed written into old new b line line' WriteFailed stops = inl stops
  ends_stopped keep passed written into old new b line line' Memory stops = stops
