-- One call more in the record.
use Rattle.std.proofs.Common.{◌≡◌, ℕ, ◌+◌, ◌-◌, ◌≤◌, List, [], ◌∷◌, ◌++◌, length, take, drop, Bool, true, false, refl, ◌∙◌, ap, inl, inr, arith, Result, Ok, Err, OnErr}
use Rattle.std.specs.Prelude.{replicate}
use Rattle.std.proofs.lemmas.List.{take-append-le}
use Rattle.std.proofs.lemmas.List.Sums.{fold_push}
use Rattle.rtb_disk.specs.Stores.{Store, Fails, fresh, write, overwritten, changed}
use Rattle.rtb_disk.specs.Record.{done, effect, filled, made_of, part, replay, written}
use Rattle.rtb_disk.specs.Memory.{Did, DiskState, recorded, store_of}
use Rattle.rtb_disk.specs.Images.{drop-filled, length-part, torn_written}
use Rattle.rtb_disk.specs.declared.calls.Call.{Call}
use Rattle.rtb_disk.specs.declared.calls.Call.TheVariants as call
use Rattle.rtb_disk.specs.declared.calls.Made.{Made}

pub replay_push : (made : List Made) (c : Call) (failed : Bool) (s : Store) → replay (made ++ made_of c failed ∷ []) s ≡ effect c failed (replay made s)
replay_push made c failed s = fold_push (λ (t : Store) (m : Made). effect m.call m.failed t) s made (made_of c failed)

-- what is known of the disk behind a call that is in the record
pub store_recorded : (c : Call) (failed : Bool) (old new : DiskState) → new ≡ recorded c failed old → store_of new ≡ effect c failed (store_of old)
store_recorded c failed old new e = ap store_of e ∙ replay_push old.made c failed (fresh old.first)

pub effect_reads : (c : Call) (failed : Bool) (s : Store) → (effect c failed s).reads ≡ done c failed s.reads
effect_reads call.Length failed s = refl
effect_reads (call.Read place count) failed s = refl
effect_reads (call.Write place bytes) failed s = refl
effect_reads (call.Cut n) true s = refl
effect_reads (call.Cut n) false s = refl
effect_reads call.Sync true s = refl
effect_reads call.Sync false s = refl

pub effect_told : (c : Call) (failed : Bool) (s : Store) → (effect c failed s).told ≡ s.told
effect_told call.Length failed s = refl
effect_told (call.Read place count) failed s = refl
effect_told (call.Write place bytes) failed s = refl
effect_told (call.Cut n) true s = refl
effect_told (call.Cut n) false s = refl
effect_told call.Sync true s = refl
effect_told call.Sync false s = refl

-- where there is no gap, nothing is filled in
pub written_inside : (old bytes : List ℕ) (place : ℕ) → place ≤ length old → written place bytes old ≡ overwritten old place bytes
written_inside old bytes place le =
    let g = filled (place + length bytes) old in
    ap (λ l. l ++ bytes ++ drop (place + length bytes) g) (take-append-le place old (replicate (place + length bytes - length old) 0) le)
    ∙ ap (λ l. take place old ++ bytes ++ l) (drop-filled (place + length bytes) (place + length bytes) old (omega arith))

-- a write that failed was done in part
pub half_fails : (place : ℕ) (bytes : List ℕ) (s t : Store) → t ≡ effect (call.Write place bytes) true s → Fails (write place (length bytes)) s t
half_fails place bytes s t e = inr (written place (part true bytes) s.reads, torn_written s.reads (part true bytes) place (length bytes) (length-part true bytes), e)

pub write_done : (place : ℕ) (bytes : List ℕ) (s t : Store) → place ≤ length s.reads → t ≡ effect (call.Write place bytes) false s → t ≡ changed (write place (length bytes)) (overwritten s.reads place bytes) s
write_done place bytes s t le e = e ∙ ap (λ r. changed (write place (length bytes)) r s) (written_inside s.reads bytes place le)

-- a write that was asked for and failed
pub write_fails : {T E : Type 0} (place : ℕ) (bytes : List ℕ) (old new : DiskState) (r : Result T E) → Did (call.Write place bytes) old new r → OnErr r (Fails (write place (length bytes)) (store_of old) (store_of new))
write_fails place bytes old new (Ok x) did = tt
write_fails place bytes old new (Err x) (inl e) = inl (ap store_of e)
write_fails place bytes old new (Err x) (inr (heard, e)) = half_fails place bytes (store_of old) (store_of new) (store_recorded (call.Write place bytes) true old new e)
