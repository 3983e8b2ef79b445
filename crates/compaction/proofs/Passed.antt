-- What comes of passing all blocks of a journal.
use Rattle.std.proofs.Common.{◌≡◌, inl, inr, ℕ, ◌<◌, List, [], ◌++◌, true, length, drop, refl, sym, ◌∙◌, ap, subst, arith}
use Rattle.std.specs.Prelude.{Some, Result, Ok, Err}
use Rattle.std.proofs.lemmas.List.{append-nil}
use Rattle.compaction.specs.Beside.{BeginsWith, Gains, Says, ShowsGain, ShowsStop, Stands, StaysUnfinished, StopsAt, store_beside}
use Rattle.compaction.specs.Headers.{BeginsAs}
use Rattle.compaction.specs.Passing.{AreRead, AreWritten, IsJournalRead, Passes, ReadWhole, WalkedToBad, WalkedToEnd, Walks}
use Rattle.compaction.specs.Seen.{AreShown, SeesHead}
use Rattle.compaction.specs.declared.beside.Beside.{Beside}
use Rattle.compaction.specs.declared.fault.CompactionFault.{CompactionFault}
use Rattle.compaction.specs.declared.fault.CompactionFault.TheVariants.{Memory, NotEmpty, NotRead, WriteFailed}
use Rattle.compaction.specs.declared.header.Header.{Header}
use Rattle.compaction.specs.declared.header.Header.TheVariants as header
use Rattle.compaction.proofs.Fronts.{bad_damages, front_begins, head_begins, says_then, torn_stands, whole_front}
use Rattle.compaction.proofs.Moving.{BadToo, bad_at_first, bad_behind_it, moves_on}
use Rattle.compaction.proofs.Showing.{are_behind, bad_behind, end_then, head_before, shut_behind}
use Rattle.journal_file.specs.Blocks.{StandsFor, end_of, journal_names}
use Rattle.journal_file.specs.Compaction.{Adds, store_written}
use Rattle.journal_file.specs.Openings.{HasHeader}
use Rattle.journal_file.specs.Shows.{ShowsMore, ShowsShut}
use Rattle.journal_file.specs.Unfinished.{IsUnfinished}
use Rattle.journal_file.specs.declared.faults.JournalFault.{JournalFault}
use Rattle.journal_file.specs.declared.faults.JournalFault.TheVariants as journal
use Rattle.journal_file.proofs.GateLemmas.{first_end}
use Rattle.journal_file.proofs.Shown.{shown_so, shown_then}
use Rattle.plain_exchange.specs.State.{State, empty}
use Rattle.plain_exchange.specs.Effects.{all_applied}
use Rattle.recovery.proofs.Joining.{no_text}
use Rattle.rtb_disk.specs.Showing.{Shown}
use Rattle.rtb_disk.specs.Stores.{Always, Store, settled}
use Rattle.rtb_disk.specs.declared.disk.Disk.{Ghosts}
use Rattle.rtb_disk.proofs.Moments.{always_then}

-- what the head tells
module _ {D : Type 0} (G : Ghosts D) (old mid : D) (h : Header) (begins : (G.store old).told ≡ true → BeginsAs (G.store old).reads h) (head : ShowsMore (G.shown old) (G.shown mid) (λ shown. SeesHead (λ l. BeginsAs l h) shown)) where
  -- a creation that was not finished has no block more
  pub none_gained : (before : List (List ℕ)) → h ≡ header.Creation → Gains G before [] old mid
  none_gained before e = record {
    told = λ told front. torn_stands before (G.store old).reads (subst (BeginsAs (G.store old).reads) e (begins told)) front;
    shows = shown_so _ _ head (λ shown seen. inl (refl, subst (λ x. SeesHead (λ l. BeginsAs l x) shown) e seen));
  }

  pub none_read : h ≡ header.Creation → ReadWhole G old mid [] empty 8
  none_read e = record {
    says = record { effects = []; text = no_text; leads = refl };
    place = first_end;
    read = record {
      told = λ told. inr (refl, subst (BeginsAs (G.store old).reads) e (begins told));
      shows = shown_so _ _ head (λ shown seen. inl (refl, subst (λ x. SeesHead (λ l. BeginsAs l x) shown) e seen));
    };
  }

  -- a file that is no journal
  pub foreign_stops : (before written : List (List ℕ)) → h ≡ header.Foreign → ((G.store old).told ≡ true → StopsAt before written 0 (G.store old).reads) × ShowsMore (G.shown old) (G.shown mid) (ShowsStop before written 0)
  foreign_stops before written e = (
    λ told. inl (refl, subst (BeginsAs (G.store old).reads) e (begins told)),
    shown_so _ _ head (λ shown seen. inl (refl, subst (λ x. SeesHead (λ l. BeginsAs l x) shown) e seen)),
  )

  module _ (e : h ≡ header.Journal) (new : D) (same : G.store mid ≡ G.store old) where
    told_head : (G.store old).told ≡ true → HasHeader journal_names (G.store old).reads × (8 < length (G.store old).reads)
    told_head told = subst (BeginsAs (G.store old).reads) e (begins told)

    shown_head : ShowsMore (G.shown old) (G.shown mid) (SeesHead (HasHeader journal_names))
    shown_head = shown_so _ _ head (λ shown seen. let there = subst (λ x. SeesHead (λ l. BeginsAs l x) shown) e seen in (there.0, there.1, there.2.0))

    module _ (before : List (List ℕ)) (gate : ℕ) (is : gate ≡ end_of before) where
      module _ (There : List ℕ → Type 0) (Seen : List Shown → Type 0) (payloads : List (List ℕ)) (s t : State) (gate' : ℕ) (w : Walks G There Seen mid new payloads s t gate gate') where
        place : gate' ≡ end_of (before ++ payloads)
        place = omega (arith, w.place, is, end_then before payloads)

        walked : (G.store old).told ≡ true → BeginsWith before (G.store old).reads → BeginsWith (before ++ payloads) (G.store old).reads × There (drop gate' (G.store old).reads)
        walked told b =
            let there = subst (λ (store : Store). store.told ≡ true → (front : List (List ℕ)) → gate ≡ end_of front → BeginsWith front store.reads → BeginsWith (front ++ payloads) store.reads × There (drop gate' store.reads)) same w.told in
            there told before is b

      stands_then : (payloads : List (List ℕ)) (s t : State) (gate' : ℕ) → WalkedToEnd G mid new payloads s t gate gate' → (G.store old).told ≡ true → BeginsWith before (G.store old).reads → StandsFor journal_names (before ++ payloads) (G.store old).reads
      stands_then payloads s t gate' w told b =
          let all = walked _ _ payloads s t gate' w told b in
          inl (whole_front (before ++ payloads) (G.store old).reads gate' (place _ _ payloads s t gate' w) all.0 all.1)

      shows_then : (payloads : List (List ℕ)) (s t : State) (gate' : ℕ) → WalkedToEnd G mid new payloads s t gate gate' → ShowsMore (G.shown old) (G.shown new) (ShowsGain before payloads)
      shows_then payloads s t gate' w = shown_then _ _ _ shown_head w.shows (λ more back first last.
          inr (
            head_before _ more back first,
            subst (λ n. AreShown (more ++ back) n payloads) is (are_behind more back gate payloads last.0),
            subst (λ n. ShowsShut n (more ++ back)) (place _ _ payloads s t gate' w) (shut_behind gate' more back last.1),
          ))

      pub all_gained : (payloads : List (List ℕ)) (s t : State) (gate' : ℕ) → WalkedToEnd G mid new payloads s t gate gate' → Gains G before payloads old new
      all_gained payloads s t gate' w = record {
        told = λ told front. stands_then payloads s t gate' w told (front_begins before (G.store old).reads (told_head told) front);
        shows = shows_then payloads s t gate' w;
      }

      pub bad_stops : (written : List (List ℕ)) (s : State) (at : ℕ) → Says written s → BadToo before s → WalkedToBad G mid new s gate at
          → ((G.store old).told ≡ true → BeginsWith before (G.store old).reads → StopsAt before written at (G.store old).reads) × ShowsMore (G.shown old) (G.shown new) (ShowsStop before written at)
      bad_stops written s at says bad_too (payloads, t, w) =
          let more_said = says_then written payloads s t w.effects says w.text w.applied in
          let here = place _ _ payloads s t at w in (
            λ told b. let all = walked _ _ payloads s t at w told b in inr (payloads, t, more_said, here, all.0, all.1, λ whole said. bad_damages (before ++ payloads) (G.store old).reads at whole said here all.0 (bad_too payloads t w.effects w.text w.applied whole said (drop at (G.store old).reads) all.1)),
            shown_then _ _ _ shown_head w.shows (λ more back first last.
                inr (payloads, t, more_said, here, subst (λ n. AreShown (more ++ back) n payloads) is (are_behind more back gate payloads last.0), bad_behind at t more back last.1)),
          )

    -- a journal from its front on
    pub journal_read : (gate gate' : ℕ) (s t : State) (r : Result Unit JournalFault) → gate ≡ 8 → s ≡ empty → AreRead G mid new s t gate gate' r → IsJournalRead G old new t gate' r
    journal_read gate gate' s t (Ok _) first none (payloads, w) =
        let is : gate ≡ end_of [] = first ∙ first_end in (
          payloads,
          record {
            says = record { effects = w.effects; text = w.text; leads = subst (λ (x : State). all_applied w.effects x ≡ Some t) none w.applied };
            place = place [] gate is _ _ payloads s t gate' w;
            read = record {
              told = λ told. stands_then [] gate is payloads s t gate' w told (head_begins (G.store old).reads (told_head told).0 (told_head told).1);
              shows = shows_then [] gate is payloads s t gate' w;
            };
          },
        )
    journal_read gate gate' s t (Err (journal.Damaged at)) first none bad =
        let is : gate ≡ end_of [] = first ∙ first_end in
        let stop = bad_stops [] gate is [] s at (record { effects = []; text = no_text; leads = ap (λ (x : State). Some x) (sym none) }) (bad_at_first s none) bad in
        (λ told. stop.0 told (head_begins (G.store old).reads (told_head told).0 (told_head told).1), stop.1)
    journal_read gate gate' s t (Err journal.DiskFailed) first none bad = tt
    journal_read gate gate' s t (Err journal.Memory) first none bad = tt

-- what is unfinished goes on so
pub unfinished_then : (into s t : Store) → StaysUnfinished into s → Always IsUnfinished s t → StaysUnfinished into t
unfinished_then into s t a b = (a.0, always_then IsUnfinished (settled into) s t a.1 b)

module _ {D : Type 0} (G : Ghosts D) (keep : ℕ) (passed written : List (List ℕ)) (into : Store) (old mid : D) (h : Header) (b : Beside D G) (stands : Stands keep passed written into b)
    (begins : (G.store old).told ≡ true → BeginsAs (G.store old).reads h) (head : ShowsMore (G.shown old) (G.shown mid) (λ shown. SeesHead (λ l. BeginsAs l h) shown)) where
  pub passes_none : h ≡ header.Creation → Passes keep passed written into old mid b (Ok tt)
  passes_none e = (
    [],
    record {
      moves = moves_on keep passed written [] b.core.state b.core.state [] stands.moves no_text refl;
      gate = stands.gate ∙ ap end_of (sym (append-nil passed));
      adds = subst (λ l. Adds b.file l) (sym (append-nil written)) stands.adds;
      unfinished = stands.unfinished;
    },
    none_gained G old mid h begins head passed e,
  )

  pub passes_foreign : h ≡ header.Foreign → Passes keep passed written into old mid b (Err (NotRead (journal.Damaged 0)))
  passes_foreign e =
      let stop = foreign_stops G old mid h begins head passed written e in
      (stands.unfinished, record { told = λ told front. stop.0 told; shows = stop.1 })

  pub passes_blocks : h ≡ header.Journal → (new : D) (b' : Beside D G) (r : Result Unit CompactionFault) → G.store mid ≡ G.store old → AreWritten G mid new b.core.state b'.core.state b.gate b'.gate b.file b'.file r
      → ((payloads : List (List ℕ)) → Adds b.file payloads → Always IsUnfinished (store_written b.file) (store_written b'.file)) → Passes keep passed written into old new b' r
  passes_blocks e new b' r same are moments = by_end r are
    where
      further : StaysUnfinished into (store_beside b')
      further = unfinished_then into (store_beside b) (store_beside b') stands.unfinished (moments written stands.adds)

      by_end : (r : Result Unit CompactionFault) → AreWritten G mid new b.core.state b'.core.state b.gate b'.gate b.file b'.file r → Passes keep passed written into old new b' r
      by_end (Ok _) (more, w, added) = (
        more,
        record {
          moves = moves_on keep passed written more b.core.state b'.core.state w.effects stands.moves w.text w.applied;
          gate = omega (arith, w.place, stands.gate, end_then passed more);
          adds = added written stands.adds;
          unfinished = further;
        },
        all_gained G old mid h begins head e new same passed b.gate stands.gate more b.core.state b'.core.state b'.gate w,
      )
      by_end (Err (NotRead (journal.Damaged at))) bad =
          let stop = bad_stops G old mid h begins head e new same passed b.gate stands.gate written b.core.state at stands.moves.says (bad_behind_it keep passed written b.core.state stands.moves) bad in (
            further,
            record {
              told = λ told front. stop.0 told (front_begins passed (G.store old).reads (subst (BeginsAs (G.store old).reads) e (begins told)) front);
              shows = stop.1;
            },
          )
      by_end (Err (NotRead journal.DiskFailed)) bad = further
      by_end (Err (NotRead journal.Memory)) bad = further
      by_end (Err NotEmpty) bad = bad
      by_end (Err WriteFailed) bad = further
      by_end (Err Memory) bad = further
