-- The law of a disk in memory, with its proof: what a read gives is one of the images. Private.
use Rattle.std.specs.Prelude.{◌≡◌, ℕ, ◌+◌, ◌-◌, ◌≤◌, ◌<◌, ◌/◌, min, List, [], ◌∷◌, ◌++◌, length, take, drop, replicate, Bool, true, false}
use Rattle.std.proofs.Common.{refl, sym, ◌∙◌, ap, arith, ⊎_elim, append_assoc, length-append, length-drop}
use Rattle.std.proofs.lemmas.List.{take_at, drop_at, drop-drop, take-take, take_min, take_all, drop_all, length-take, length-replicate, take-append-le, append-nil}
use Rattle.std.proofs.lemmas.Bool.{cases_lt, false≢true}
use Rattle.rtb_disk.specs.Stores.{Store, Torn, TornCut, IsImage, untold, fresh, overwritten}
use Rattle.rtb_disk.specs.Record.{effect, filled, part, replay, written}
use Rattle.rtb_disk.specs.Memory.{DiskState, store_of}
use Rattle.rtb_disk.specs.declared.calls.Call.{Call}
use Rattle.rtb_disk.specs.declared.calls.Call.TheVariants as call
use Rattle.rtb_disk.specs.declared.calls.Made.{Made}

-- a write that was done as far as its first bytes
pub torn_part : (old bytes : List ℕ) (place n : ℕ) → length bytes ≤ n → Torn place n old (overwritten old place bytes)
torn_part old bytes place n le = record {
  before = ap (take (min place (length old))) whole ∙ take_at (take place old) (bytes ++ drop (place + length bytes) old) (min place (length old)) front_long;
  after = ⊎_elim past inside (cases_lt (length old) place);
  no_shorter = omega (arith, long);
  no_longer = omega (arith, long, le);
}
  where
    front_long : length (take place old) ≡ min place (length old)
    front_long = length-take place old

    whole : overwritten old place bytes ≡ take place old ++ (bytes ++ drop (place + length bytes) old)
    whole = append_assoc (take place old) bytes (drop (place + length bytes) old)

    long : length (overwritten old place bytes) ≡ min place (length old) + length bytes + (length old - (place + length bytes))
    long = omega (arith, length-append (take place old ++ bytes) (drop (place + length bytes) old), length-append (take place old) bytes, length-take place old, length-drop (place + length bytes) old)

    past : length old < place → drop (place + n) (overwritten old place bytes) ≡ drop (place + n) old
    past lt = drop_all (place + n) (overwritten old place bytes) (omega (arith, long, lt, le)) ∙ sym (drop_all (place + n) old (omega (arith, lt)))

    inside : place ≤ length old → drop (place + n) (overwritten old place bytes) ≡ drop (place + n) old
    inside fits =
        let h = length bytes in
        let total : place + n ≡ (place + h) + (n - h) = omega (arith, le) in
        let begins : length (take place old ++ bytes) ≡ place + h = omega (arith, length-append (take place old) bytes, length-take place old, fits) in
        ap (λ k. drop k (overwritten old place bytes)) total
        ∙ sym (drop-drop (n - h) (place + h) (overwritten old place bytes))
        ∙ ap (drop (n - h)) (drop_at (take place old ++ bytes) (drop (place + h) old) (place + h) begins)
        ∙ drop-drop (n - h) (place + h) old
        ∙ ap (λ k. drop k old) (sym total)

pub length-filled : (n : ℕ) (old : List ℕ) → length (filled n old) ≡ length old + (n - length old)
length-filled n old = omega (arith, length-append old (replicate (n - length old) 0), length-replicate {A = ℕ} (n - length old) 0)

-- nothing was filled in behind this place
pub drop-filled : (n k : ℕ) (old : List ℕ) → n ≤ k → drop k (filled n old) ≡ drop k old
drop-filled n k old le = ⊎_elim short long (cases_lt (length old) k)
  where
    short : length old < k → drop k (filled n old) ≡ drop k old
    short lt = drop_all k (filled n old) (omega (arith, length-filled n old, le, lt)) ∙ sym (drop_all k old (omega (arith, lt)))

    long : k ≤ length old → drop k (filled n old) ≡ drop k old
    long fits =
        let none : n - length old ≡ 0 = omega (arith, le, fits) in
        ap (λ z. drop k (old ++ replicate z 0)) none ∙ ap (drop k) (append-nil old)

-- and the same where a gap was filled first
pub torn_written : (old bytes : List ℕ) (place n : ℕ) → length bytes ≤ n → Torn place n old (written place bytes old)
torn_written old bytes place n le = record {
  before = sym (take-take k (min place (length g)) new (omega (arith, long))) ∙ ap (take k) torn.before ∙ take-take k place g (omega arith)
      ∙ take-append-le k old (replicate (place + length bytes - length old) 0) (omega arith) ∙ take_min place old;
  after = torn.after ∙ drop-filled (place + length bytes) (place + n) old (omega (arith, le));
  no_shorter = omega (arith, torn.no_shorter, long);
  no_longer = omega (arith, torn.no_longer, long, le);
}
  where
    g : List ℕ
    g = filled (place + length bytes) old

    new : List ℕ
    new = overwritten g place bytes

    k : ℕ
    k = min place (length old)

    long : length g ≡ length old + (place + length bytes - length old)
    long = length-filled (place + length bytes) old

    torn : Torn place n g new
    torn = torn_part g bytes place n le

pub cut_part : (old : List ℕ) (n : ℕ) → TornCut n old (take n old)
cut_part old n = record {
  before = take_all (min n (length old)) (take n old) (omega (arith, length-take n old));
  no_shorter = omega (arith, length-take n old);
  no_longer = omega (arith, length-take n old);
}

pub length-part : (failed : Bool) (bytes : List ℕ) → length (part failed bytes) ≤ length bytes
length-part true bytes = omega (arith, length-take (length bytes / 2) bytes)
length-part false bytes = omega arith

effect_stands : (c : Call) (failed : Bool) (s : Store) → IsImage s.now s.reads → IsImage (effect c failed s).now (effect c failed s).reads
effect_stands call.Length failed s i = i
effect_stands (call.Read place count) failed s i = i
effect_stands (call.Write place bytes) failed s i = (s.reads, i, torn_written s.reads (part failed bytes) place (length bytes) (length-part failed bytes))
effect_stands (call.Cut n) false s i = (s.reads, i, cut_part s.reads n)
effect_stands (call.Cut n) true s i = i
effect_stands call.Sync false s i = refl
effect_stands call.Sync true s i = i

replay_stands : (made : List Made) (s : Store) → IsImage s.now s.reads → IsImage (replay made s).now (replay made s).reads
replay_stands [] s i = i
replay_stands (m ∷ ms) s i = replay_stands ms (effect m.call m.failed s) (effect_stands m.call m.failed s i)

pub memory_stands : (d : DiskState) → IsImage (store_of d).now (store_of d).reads
memory_stands d = replay_stands d.made (fresh d.first) refl

pub untold_stands : false ≡ true → IsImage untold.now untold.reads
untold_stands e = absurd (false≢true e)
