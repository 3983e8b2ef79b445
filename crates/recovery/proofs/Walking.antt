-- A turn of the reading, and its end.
use Rattle.std.proofs.Common.{◌≡◌, ◌≢◌, inl, inr, ℕ, ◌+◌, ◌<◌, ◌≤◌, List, [], ◌∷◌, ◌++◌, length, Bool, true, false, refl, sym, ◌∙◌, ap, subst, arith, length-append, Some, None, Option}
use Rattle.std.specs.Prelude.{IfOk, MatchResult, OnOk, Result, Ok, Err}
use Rattle.effects.specs.Bytes.{IsDecoded}
use Rattle.rtb_base.specs.Faults.{RisesOnlyWhere, Rose}
use Rattle.auction_core.specs.Core.{CoreState}
use Rattle.journal_file.specs.Blocks.{StandsFor, block_bytes, front_of, journal_names}
use Rattle.journal_file.specs.Gates.{has_gate}
use Rattle.journal_file.specs.Readings.{HasNotFailed, IsCreation, IsNext, IsReading, answer_of, faults_read, is_open, reads_of, store_read}
use Rattle.journal_file.specs.declared.faults.JournalFault.{JournalFault}
use Rattle.journal_file.specs.declared.faults.JournalFault.TheVariants as fault
use Rattle.journal_file.specs.declared.reading.Reading.{Reading}
use Rattle.journal_file.proofs.Writing.{front_long, front_push}
use Rattle.plain_exchange.specs.Effects.{edits, state_of}
use Rattle.recovery.specs.Turns.{Follows, IsWithin, Led, Turns}
use Rattle.recovery.specs.Damage.{IsDamagedAt, IsUnfit}
use Rattle.recovery.specs.Openings.{IsAtEnd, IsAtStart, IsMadeBy, Opens}
use Rattle.recovery.specs.Texts.{GivesState}
use Rattle.recovery.proofs.Joining.{edits_more, leads_more, no_text, text_more}
use Rattle.rtb_disk.specs.Stores.{Store}
use Rattle.rtb_disk.specs.declared.disk.Disk.{Ghosts}

head_of : (xs : List ℕ) → 0 < length xs → (g : ℕ) × (rest : List ℕ) × (xs ≡ g ∷ rest)
head_of [] lt = absurd (omega (arith, lt))
head_of (g ∷ rest) lt = (g, rest, refl)

-- a fault is handed on
pub rises_as : {T : Type 0} (r : Result T JournalFault) (inner : Result Bool JournalFault) (e : JournalFault) (first before now : ℕ) → r ≡ Err e → inner ≡ Err e → before ≡ first → RisesOnlyWhere (inner ≡ Err fault.DiskFailed) before now → RisesOnlyWhere (r ≡ Err fault.DiskFailed) first now
rises_as r inner e first before now is is2 same rise =
    let there : r ≡ Err fault.DiskFailed → inner ≡ Err fault.DiskFailed = λ f. let k : e ≡ fault.DiskFailed = cc (is, f) in is2 ∙ ap Err k in
    let back : inner ≡ Err fault.DiskFailed → r ≡ Err fault.DiskFailed = λ f. let k : e ≡ fault.DiskFailed = cc (is2, f) in is ∙ ap Err k in
    (subst (λ n. n ≤ now) same rise.0, (λ f. subst (λ n. Rose n now) same (rise.1 (there f))), (λ not_so. rise.2 (λ f. not_so (back f)) ∙ same))

module _ {D : Type 0} {G : Ghosts D} where
  -- what the reading says of its next answer
  abbrev pub Nexts : Reading D G → Reading D G → List ℕ → List ℕ → Result (Option ℕ) JournalFault → Type 0
  Nexts old new before out answer = (names payloads : List (List ℕ)) → IsReading names old payloads → IsNext names payloads new before out (reads_of old) answer

  abbrev pub Repeats : Reading D G → Reading D G → List ℕ → List ℕ → Result (Option ℕ) JournalFault → Type 0
  Repeats old new before out answer = is_open old ≡ false → (answer ≡ answer_of old) × (new ≡ old) × (out ≡ before)

  pub nexts_as : (old new : Reading D G) (before out : List ℕ) (answer same : Result (Option ℕ) JournalFault) → before ≡ [] → answer ≡ same → Nexts old new before out answer → Nexts old new [] out same
  nexts_as old new before out answer same e f h = subst (Nexts old new [] out) f (subst (λ b. Nexts old new b out answer) e h)

  pub repeats_as : (old new : Reading D G) (before out : List ℕ) (answer same : Result (Option ℕ) JournalFault) → before ≡ [] → answer ≡ same → Repeats old new before out answer → Repeats old new [] out same
  repeats_as old new before out answer same e f h = subst (Repeats old new [] out) f (subst (λ b. Repeats old new b out answer) e h)

  -- nothing was read yet
  pub made_empty : (reading : Reading D G) (core : CoreState) → IsAtStart reading → state_of [] ≡ Some core.state → core.edits ≡ 0 → IsMadeBy (IsWithin reading) core
  made_empty reading core (inl r) s e = record { payloads = []; such = inl r; effects = []; text = no_text; leads = s; edits_are = e }
  made_empty reading core (inr r) s e = record { payloads = []; such = inr (refl, r); effects = []; text = no_text; leads = s; edits_are = e }

  creation_answers : (reading : Reading D G) → IsCreation reading → answer_of reading ≡ Ok None
  creation_answers reading r = rw r.found

  -- a creation that was not finished has no block, and is not damaged
  none_in_creation : (old new : Reading D G) (before out : List ℕ) (answer : Result (Option ℕ) JournalFault) → IsCreation old → Repeats old new before out answer → answer ≡ Ok None
  none_in_creation old new before out answer r repeats = (repeats (rw r.found)).0 ∙ creation_answers old r

  pub one_block : (old new : Reading D G) (core after : CoreState) (out : List ℕ) (gate : ℕ) → IsMadeBy (IsWithin old) core → Nexts old new [] out (Ok (Some gate)) → Repeats old new [] out (Ok (Some gate)) → Led out core after → IsMadeBy (IsWithin new) after
  one_block old new core after out gate m nexts repeats led = by_kind m.such
    where
      by_kind : IsWithin old m.payloads → IsMadeBy (IsWithin new) after
      by_kind (inl r) =
          let (payload, place, is, next) = nexts journal_names m.payloads r in
          record {
            payloads = m.payloads ++ payload ∷ [];
            such = inl next;
            effects = m.effects ++ led.effects;
            text = text_more m.payloads payload m.effects led.effects m.text (subst (λ p. IsDecoded p (Ok led.effects)) is led.decoded);
            leads = leads_more m.effects led.effects core.state after.state m.leads led.applied;
            edits_are = led.edits_are ∙ ap (λ n. n + edits led.effects) m.edits_are ∙ sym (edits_more m.effects led.effects);
          }
      by_kind (inr r) = absurd (cc (none_in_creation old new [] out (Ok (Some gate)) r.1 repeats))

  pub bad_block : (old new : Reading D G) (core : CoreState) (out : List ℕ) (gate : ℕ) → IsMadeBy (IsWithin old) core → Nexts old new [] out (Ok (Some gate)) → Repeats old new [] out (Ok (Some gate)) → store_read new ≡ store_read old → IsUnfit out core.state → IsDamagedAt (reads_of old) gate
  bad_block old new core out gate m nexts repeats same unfit = by_kind m.such
    where
      by_kind : IsWithin old m.payloads → IsDamagedAt (reads_of old) gate
      by_kind (inl r) =
          let (payload, place, is, next) = nexts journal_names m.payloads r in
          let reads : reads_of new ≡ reads_of old = ap (λ (s : Store). s.reads) same in
          let inside : new.gate < length (reads_of new) = new.inside (ap has_gate next.found) next.told in
          let long = front_long next.name (m.payloads ++ payload ∷ []) next.named.seven in
          let size : length (reads_of new) ≡ length (front_of next.name (m.payloads ++ payload ∷ []) ++ next.rest) = ap length next.file in
          let (g, behind, split) = head_of next.rest (omega (arith, inside, next.end, long, size, length-append (front_of next.name (m.payloads ++ payload ∷ [])) next.rest)) in
          inr (record {
            name = next.name;
            named = next.named;
            payloads = m.payloads;
            effects = m.effects;
            text = m.text;
            state = core.state;
            leads = m.leads;
            rest = 1 ∷ (block_bytes payload ++ next.rest);
            file = sym reads ∙ next.file ∙ sym (front_push next.name m.payloads payload next.rest);
            place = place;
            bad = inr (payload, record { gate = g; rest = behind; there = ap (λ l. 1 ∷ (block_bytes payload ++ l)) split }, subst (λ p. IsUnfit p core.state) is unfit);
          })
      by_kind (inr r) = absurd (cc (none_in_creation old new [] out (Ok (Some gate)) r.1 repeats))

  pub cut_block : (old new : Reading D G) (core : CoreState) (out : List ℕ) (at : ℕ) → IsMadeBy (IsWithin old) core → Nexts old new [] out (Err (fault.Damaged at)) → Repeats old new [] out (Err (fault.Damaged at)) → IsDamagedAt (reads_of old) at
  cut_block old new core out at m nexts repeats = by_kind m.such
    where
      by_kind : IsWithin old m.payloads → IsDamagedAt (reads_of old) at
      by_kind (inl r) =
          let (same, place, d) = nexts journal_names m.payloads r in
          inr (record {
            name = d.name;
            named = d.named;
            payloads = m.payloads;
            effects = m.effects;
            text = m.text;
            state = core.state;
            leads = m.leads;
            rest = d.rest;
            file = d.file;
            place = place;
            bad = inl d.cut;
          })
      by_kind (inr r) = absurd (cc (none_in_creation old new [] out (Err (fault.Damaged at)) r.1 repeats))

  pub at_end : (old new : Reading D G) (core : CoreState) (out : List ℕ) → IsMadeBy (IsWithin old) core → Nexts old new [] out (Ok None) → Repeats old new [] out (Ok None) → IsMadeBy (IsAtEnd new) core
  at_end old new core out m nexts repeats = record { payloads = m.payloads; such = by_kind m.such; effects = m.effects; text = m.text; leads = m.leads; edits_are = m.edits_are }
    where
      by_kind : IsWithin old m.payloads → IsAtEnd new m.payloads
      by_kind (inl r) = inl (nexts journal_names m.payloads r).1
      by_kind (inr r) = inr (r.0, subst IsCreation (sym (repeats (rw r.1.found)).1) r.1)

  pub gives : (reading : Reading D G) (core : CoreState) → IsMadeBy (IsAtEnd reading) core → GivesState (reads_of reading) core.state
  gives reading core m = record { effects = m.effects; has = record { payloads = m.payloads; stands = by_kind m.such; text = m.text }; leads = m.leads }
    where
      by_kind : IsAtEnd reading m.payloads → StandsFor journal_names m.payloads (reads_of reading)
      by_kind (inl r) = inl r.file
      by_kind (inr r) = inr (r.0, r.1.torn)

  -- ---- the count of faults

  pub rises : (old new : Reading D G) (before out : List ℕ) (answer : Result (Option ℕ) JournalFault) → HasNotFailed old → Repeats old new before out answer
      → (is_open old ≡ true → RisesOnlyWhere (answer ≡ Err fault.DiskFailed) (faults_read old) (faults_read new)) → RisesOnlyWhere (answer ≡ Err fault.DiskFailed) (faults_read old) (faults_read new)
  rises old new before out answer well repeats cause = by_open (is_open old) refl
    where
      by_open : (b : Bool) → is_open old ≡ b → RisesOnlyWhere (answer ≡ Err fault.DiskFailed) (faults_read old) (faults_read new)
      by_open true e = cause e
      by_open false e =
          let again = repeats e in
          let same : faults_read new ≡ faults_read old = ap faults_read again.1 in
          (omega (arith, same), (λ failed. absurd (well e (sym again.0 ∙ failed))), (λ _. same))

  pub well_still : (new : Reading D G) (answer : Result (Option ℕ) JournalFault) → (is_open new ≡ false → answer ≡ answer_of new) → answer ≢ Err fault.DiskFailed → HasNotFailed new
  well_still new answer last ne = λ shut e. ne (last shut ∙ e)

  -- ---- a turn

  pub turn_fails : (old new : Reading D G) (core after : CoreState) (out : List ℕ) (e : JournalFault) → IsMadeBy (IsWithin old) core → Nexts old new [] out (Err e) → Repeats old new [] out (Err e) → Turns old new after (Err e)
  turn_fails old new core after out (fault.Damaged at) m nexts repeats = cut_block old new core out at m nexts repeats
  turn_fails old new core after out fault.DiskFailed m nexts repeats = tt
  turn_fails old new core after out fault.Memory m nexts repeats = tt

  pub turn_stops : (old new : Reading D G) (core after : CoreState) (out : List ℕ) (gate : ℕ) (e : JournalFault) → IsMadeBy (IsWithin old) core → Nexts old new [] out (Ok (Some gate)) → Repeats old new [] out (Ok (Some gate)) → store_read new ≡ store_read old → Follows gate out core after (Err e) → Turns old new after (Err e)
  turn_stops old new core after out gate (fault.Damaged at) m nexts repeats same f = subst (IsDamagedAt (reads_of old)) (sym f.0) (bad_block old new core out gate m nexts repeats same f.1)
  turn_stops old new core after out gate fault.DiskFailed m nexts repeats same f = tt
  turn_stops old new core after out gate fault.Memory m nexts repeats same f = tt

  -- ---- all turns

  pub opens_not : (old new : Reading D G) (core : CoreState) (image : List ℕ) (e : JournalFault) → reads_of old ≡ image → Turns old new core (Err e) → Opens image (Err e)
  opens_not old new core image (fault.Damaged at) same t = subst (λ l. IsDamagedAt l at) same t
  opens_not old new core image fault.DiskFailed same t = tt
  opens_not old new core image fault.Memory same t = tt

  pub more_is : (old new : Reading D G) (core : CoreState) (more : Bool) → more ≡ true → Turns old new core (Ok more) → IsMadeBy (IsWithin new) core
  more_is old new core more e t = subst (λ b. Turns old new core (Ok b)) e t

  pub end_is : (old new : Reading D G) (core : CoreState) (more : Bool) → more ≡ false → Turns old new core (Ok more) → IsMadeBy (IsAtEnd new) core
  end_is old new core more e t = subst (λ b. Turns old new core (Ok b)) e t

-- where no call failed, the count stays
pub stays : (Failed : Type 0) (before now : ℕ) → (Failed → ⊥) → now ≡ before → RisesOnlyWhere Failed before now
stays Failed before now none same = (omega (arith, same), (λ f. absurd (none f)), (λ _. same))

-- want of memory is no fault of the disk
pub no_fault : {T : Type 0} (r : Result T JournalFault) (e : JournalFault) → r ≡ Err e → e ≡ fault.Memory → r ≡ Err fault.DiskFailed → ⊥
no_fault r e is memory failed = let same : ◌≡◌ {A = JournalFault} fault.Memory fault.DiskFailed = cc (is, memory, failed) in absurd (cc same)

-- what a value is that was handed on unless something failed
module _ {T : Type 0} (value : T) where
  abbrev pub Handed : Result Unit JournalFault → Result T JournalFault → Type 0
  Handed done r = MatchResult done (λ _. r ≡ Ok value) (λ e. r ≡ Err e)

  pub handed : (P : Result T JournalFault → Type 0) (done : Result Unit JournalFault) (r : Result T JournalFault) → Handed done r → MatchResult done (λ _. P (Ok value)) (λ e. P (Err e)) → P r
  handed P (Ok _) r is has = subst P (sym is) has
  handed P (Err e) r is has = subst P (sym is) has

  pub handed_whole : (P : T → Type 0) (done : Result Unit JournalFault) (r : Result T JournalFault) → Handed done r → OnOk done (P value) → IfOk r P
  handed_whole P (Ok _) r is has = subst (λ a. IfOk a P) (sym is) has
  handed_whole P (Err e) r is has = subst (λ a. IfOk a P) (sym is) tt

  pub handed_ended : (P : Type 0) (done : Result Unit JournalFault) (r : Result T JournalFault) → Handed done r → OnOk done P → OnOk r P
  handed_ended P (Ok _) r is has = subst (λ a. OnOk a P) (sym is) has
  handed_ended P (Err e) r is has = subst (λ a. OnOk a P) (sym is) tt

  pub handed_cause : (done : Result Unit JournalFault) (r : Result T JournalFault) (before now : ℕ) → Handed done r → RisesOnlyWhere (done ≡ Err fault.DiskFailed) before now → RisesOnlyWhere (r ≡ Err fault.DiskFailed) before now
  handed_cause (Ok u) r before now is rise = stays _ before now (λ e. absurd (cc (is, e))) (rise.2 (λ e. absurd (cc e)))
  handed_cause (Err e) r before now is rise =
      let there : r ≡ Err fault.DiskFailed → ◌≡◌ {A = Result Unit JournalFault} (Err e) (Err fault.DiskFailed) = λ f. let k : e ≡ fault.DiskFailed = cc (is, f) in ap Err k in
      let back : ◌≡◌ {A = Result Unit JournalFault} (Err e) (Err fault.DiskFailed) → r ≡ Err fault.DiskFailed = λ f. let k : e ≡ fault.DiskFailed = cc f in is ∙ ap Err k in
      (rise.0, (λ f. rise.1 (there f)), (λ not_so. rise.2 (λ f. not_so (back f))))

pub always_ok : (P : Type 0) (r : Result Unit JournalFault) → P → OnOk r P
always_ok P (Ok _) p = p
always_ok P (Err e) p = tt
