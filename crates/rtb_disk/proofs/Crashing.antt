-- What a crash leaves by a pick is an image.
use Rattle.std.proofs.Common.{◌≡◌, ℕ, ◌+◌, ◌≤◌, ◌<◌, List, [], ◌∷◌, ◌++◌, length, take, drop, Bool, true, false, refl, sym, ◌∙◌, ap, subst, arith}
use Rattle.std.specs.Prelude.{fold, ◌==◌, ◌%◌, if◌then◌else◌}
use Rattle.std.proofs.lemmas.List.{take_min, drop_all, take_all, drop-append-le, length-take}
use Rattle.std.proofs.lemmas.List.Sums.{fold_push}
use Rattle.rtb_disk.specs.Stores.{Store, IsImage, Torn, TornCut, fresh, write, cut, changed}
use Rattle.rtb_disk.specs.Record.{all_done, done, effect, is_settling, made_of, part, replay}
use Rattle.rtb_disk.specs.Crashes.{behind_sync, by_bit, crashed, next_pick, with_picked}
use Rattle.rtb_disk.specs.Images.{cut_part, length-part, torn_written}
use Rattle.rtb_disk.proofs.Replayed.{effect_reads}
use Rattle.rtb_disk.specs.declared.calls.Call.{Call}
use Rattle.rtb_disk.specs.declared.calls.Call.TheVariants as call
use Rattle.rtb_disk.specs.declared.calls.Made.{Made}

-- a change that was not done
not_written : (place n : ℕ) (c : List ℕ) → Torn place n c c
not_written place n c = record { before = take_min place c; after = refl; no_shorter = omega arith; no_longer = omega arith }

not_cut : (n : ℕ) (c : List ℕ) → TornCut n c c
not_cut n c = record { before = take_min n c; no_shorter = omega arith; no_longer = omega arith }

-- the pick behind these calls
abbrev pick_behind : ℕ → List Made → ℕ
pick_behind pick [] = pick
pick_behind pick (m ∷ ms) = pick_behind (next_pick pick m) ms

-- one more call at the end
picked_push : (pick : ℕ) (ms : List Made) (m : Made) (c : List ℕ) → with_picked pick (ms ++ m ∷ []) c ≡ by_bit (pick_behind pick ms) m (with_picked pick ms c)
picked_push pick [] m c = refl
picked_push pick (x ∷ ms) m c = picked_push (next_pick pick x) ms m (by_bit pick x c)

abbrev EachPicked : Store → List Made → Type 0
EachPicked s later = (pick : ℕ) → IsImage s.now (with_picked pick later s.now.synced)

one_image : (c : Call) (failed : Bool) (pick : ℕ) (s : Store) (image : List ℕ) → is_settling (record { call = c; failed = failed }) ≡ false → IsImage s.now image
    → IsImage (effect c failed s).now (by_bit pick (record { call = c; failed = failed }) image)
one_image call.Length failed pick s image shut i = i
one_image (call.Read place count) failed pick s image shut i = i
one_image (call.Write place bytes) failed pick s image shut i = by (pick % 2 == 1)
  where
    by : (b : Bool) → IsImage (changed (write place (length bytes)) s.reads s).now (if b then done (call.Write place bytes) failed image else image)
    by true = (image, i, torn_written image (part failed bytes) place (length bytes) (length-part failed bytes))
    by false = (image, i, not_written place (length bytes) image)
one_image (call.Cut n) true pick s image shut i = by (pick % 2 == 1)
  where
    by : (b : Bool) → IsImage s.now (if b then image else image)
    by true = i
    by false = i
one_image (call.Cut n) false pick s image shut i = by (pick % 2 == 1)
  where
    by : (b : Bool) → IsImage (changed (cut n) s.reads s).now (if b then take n image else image)
    by true = (image, i, cut_part image n)
    by false = (image, i, not_cut n image)
one_image call.Sync true pick s image shut i = i
one_image call.Sync false pick s image shut i = absurd (cc shut)

goes : (c : Call) (failed : Bool) (later : List Made) (s : Store) → is_settling (record { call = c; failed = failed }) ≡ false → (effect c failed s).now.synced ≡ s.now.synced → EachPicked s later
    → EachPicked (effect c failed s) (later ++ made_of c failed ∷ [])
goes c failed later s shut same here = λ pick.
    let m = made_of c failed in
    let e = picked_push pick later m (effect c failed s).now.synced ∙ ap (λ z. by_bit (pick_behind pick later) m (with_picked pick later z)) same in
    subst (IsImage (effect c failed s).now) (sym e) (one_image c failed (pick_behind pick later) s (with_picked pick later s.now.synced) shut (here pick))

-- the calls behind the last sync, one call later
abbrev anew : List Made → Made → List Made
anew later m = if is_settling m then [] else later ++ m ∷ []

picks_more : (c : Call) (failed : Bool) (later : List Made) (s : Store) → EachPicked s later → EachPicked (effect c failed s) (anew later (made_of c failed))
picks_more call.Length failed later s here = goes call.Length failed later s refl refl here
picks_more (call.Read place count) failed later s here = goes (call.Read place count) failed later s refl refl here
picks_more (call.Write place bytes) failed later s here = goes (call.Write place bytes) failed later s refl refl here
picks_more (call.Cut n) true later s here = goes (call.Cut n) true later s refl refl here
picks_more (call.Cut n) false later s here = goes (call.Cut n) false later s refl refl here
picks_more call.Sync true later s here = goes call.Sync true later s refl refl here
picks_more call.Sync false later s here = λ pick. refl

picks_stand : (made : List Made) (s : Store) (later : List Made) → EachPicked s later → EachPicked (replay made s) (fold anew later made)
picks_stand [] s later here = here
picks_stand (m ∷ ms) s later here = picks_stand ms (effect m.call m.failed s) (anew later m) (picks_more m.call m.failed later s here)

pub crashed_stands : (pick : ℕ) (first : List ℕ) (made : List Made) → IsImage (replay made (fresh first)).now (crashed pick first made)
crashed_stands pick first made = picks_stand made (fresh first) [] (λ p. refl) pick

-- what is read behind all calls
pub replay_reads : (made : List Made) (s : Store) → (replay made s).reads ≡ all_done made s.reads
replay_reads [] s = refl
replay_reads (m ∷ ms) s = replay_reads ms (effect m.call m.failed s) ∙ ap (all_done ms) (effect_reads m.call m.failed s)

settles_reads : (c : Call) (failed : Bool) (s : Store) → is_settling (made_of c failed) ≡ true → (effect c failed s).now.synced ≡ done c failed s.reads
settles_reads call.Length failed s e = absurd (cc e)
settles_reads (call.Read place count) failed s e = absurd (cc e)
settles_reads (call.Write place bytes) failed s e = absurd (cc e)
settles_reads (call.Cut n) failed s e = absurd (cc e)
settles_reads call.Sync true s e = absurd (cc e)
settles_reads call.Sync false s e = refl

other_synced : (c : Call) (failed : Bool) (s : Store) → is_settling (made_of c failed) ≡ false → (effect c failed s).now.synced ≡ s.now.synced
other_synced call.Length failed s e = refl
other_synced (call.Read place count) failed s e = refl
other_synced (call.Write place bytes) failed s e = refl
other_synced (call.Cut n) true s e = refl
other_synced (call.Cut n) false s e = refl
other_synced call.Sync true s e = refl
other_synced call.Sync false s e = absurd (cc e)

-- of the first i calls, so many stand up to the last sync that succeeded
pub record IsSplit (made : List Made) (i count : ℕ) : Type 0 where
  pub bound : count ≤ i
  pub later : drop count (take i made) ≡ behind_sync (take i made)
  pub synced : (first : List ℕ) → (replay (take i made) (fresh first)).now.synced ≡ all_done (take count made) first

module _ (made : List Made) (i count : ℕ) (m : Made) (more : take (i + 1) made ≡ take i made ++ m ∷ []) (inside : i < length made) (is : IsSplit made i count) where
  behind_more : behind_sync (take (i + 1) made) ≡ anew (behind_sync (take i made)) m
  behind_more = ap behind_sync more ∙ fold_push anew [] (take i made) m

  replay_more : (s : Store) → replay (take (i + 1) made) s ≡ effect m.call m.failed (replay (take i made) s)
  replay_more s = ap (λ l. replay l s) more ∙ fold_push (λ (t : Store) (n : Made). effect n.call n.failed t) s (take i made) m

  pub split_settling : is_settling m ≡ true → IsSplit made (i + 1) (i + 1)
  split_settling e = record {
    bound = omega arith;
    later = drop_all (i + 1) (take (i + 1) made) (omega (arith, length-take (i + 1) made)) ∙ sym (behind_more ∙ ap (λ b. if b then [] else behind_sync (take i made) ++ m ∷ []) e);
    synced = λ first.
        ap (λ (s : Store). s.now.synced) (replay_more (fresh first)) ∙ settles_reads m.call m.failed (replay (take i made) (fresh first)) e
        ∙ ap (done m.call m.failed) (replay_reads (take i made) (fresh first))
        ∙ sym (ap (λ l. all_done l first) more ∙ fold_push (λ (b : List ℕ) (n : Made). done n.call n.failed b) first (take i made) m);
  }

  pub split_other : is_settling m ≡ false → IsSplit made (i + 1) count
  split_other e = record {
    bound = omega (arith, is.bound);
    later = ap (drop count) more ∙ drop-append-le count (take i made) (m ∷ []) (omega (arith, length-take i made, is.bound, inside)) ∙ ap (λ l. l ++ m ∷ []) is.later
        ∙ sym (behind_more ∙ ap (λ b. if b then [] else behind_sync (take i made) ++ m ∷ []) e);
    synced = λ first. ap (λ (s : Store). s.now.synced) (replay_more (fresh first)) ∙ other_synced m.call m.failed (replay (take i made) (fresh first)) e ∙ is.synced first;
  }

-- of all calls
pub split_later : (made : List Made) (i count : ℕ) → i ≡ length made → IsSplit made i count → drop count made ≡ behind_sync made
split_later made i count e is = let all = take_all i made (omega (arith, e)) in ap (drop count) (sym all) ∙ is.later ∙ ap behind_sync all

pub split_synced : (made : List Made) (i count : ℕ) → i ≡ length made → IsSplit made i count → (first : List ℕ) → (replay made (fresh first)).now.synced ≡ all_done (take count made) first
split_synced made i count e is first = ap (λ l. (replay l (fresh first)).now.synced) (sym (take_all i made (omega (arith, e)))) ∙ is.synced first

-- the split gives what is left
pub crashed_split : (pick count : ℕ) (first : List ℕ) (made : List Made) → drop count made ≡ behind_sync made → (replay made (fresh first)).now.synced ≡ all_done (take count made) first
    → with_picked pick (drop count made) (all_done (take count made) first) ≡ crashed pick first made
crashed_split pick count first made later synced = ap (λ l. with_picked pick l (all_done (take count made) first)) later ∙ ap (with_picked pick (behind_sync made)) (sym synced)
