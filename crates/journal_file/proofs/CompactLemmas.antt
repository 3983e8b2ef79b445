-- What the calls of a compaction leave.
use Rattle.std.proofs.Common.{◌≡◌, ◌≢◌, inl, inr, ℕ, ◌+◌, ◌<◌, ◌≤◌, min, List, [], ◌∷◌, ◌++◌, length, take, drop, refl, sym, ◌∙◌, ap, subst, arith, append_assoc, length-append, length-drop, take-append-drop, Result, Ok, Err, MatchResult}
use Rattle.std.proofs.lemmas.List.{drop_all, append-nil, take-take, length-take}
use Rattle.std.proofs.lemmas.Bool.{cases_eq}
use Rattle.byte_fields.specs.Encodings.{eight_bytes}
use Rattle.byte_fields.proofs.Numbers.{length-eight}
use Rattle.rtb_disk.specs.Stores.{Store, Change, write, cut, EachImage, Always, Fails, TornCut, changed, settled, overwritten}
use Rattle.rtb_disk.proofs.Moments.{Keeps, always_changed, always_failed, always_same, always_then}
use Rattle.rtb_disk.proofs.Writes.{written_behind, front_kept, byte_kept}
use Rattle.journal_file.specs.Blocks.{HasBlocks, IsName, block_bytes, compacted_name, end_of, front_of, open_blocks}
use Rattle.journal_file.specs.Unfinished.{BeginsZero, IsUnfinished, IsUnfinishedOr}

zero_shut : (n : ℕ) → n ≡ 0 → n ≢ 1
zero_shut n z = λ e. omega (arith, z, e)

named_compacted : IsName (compacted_name ∷ []) compacted_name
named_compacted = record { known = (0, omega arith, refl); seven = refl }

pub begins_unfinished : (image : List ℕ) → BeginsZero image → IsUnfinished image
begins_unfinished image zero = inr (inl zero)

pub short_unfinished : (image : List ℕ) → length image < 9 → IsUnfinished image
short_unfinished image lt = inl lt

-- of bytes that begin alike
first_of : (x : ℕ) (rest new : List ℕ) (k n : ℕ) → 1 ≤ k → k ≤ n → take k new ≡ take n (x ∷ rest) → new ≡ x ∷ drop 1 new
first_of x rest new k n one le e =
    let front : take 1 new ≡ x ∷ [] = sym (take-take 1 k new one) ∙ ap (take 1) e ∙ take-take 1 n (x ∷ rest) (omega (arith, one, le)) in
    sym (take-append-drop 1 new) ∙ ap (λ l. l ++ drop 1 new) front

-- a cut to eight bytes
pub cut_keeps : Keeps IsUnfinished (cut 8)
cut_keeps = λ old new has torn. by old new torn has
  where
    by : (old new : List ℕ) → TornCut 8 old new → IsUnfinished old → IsUnfinished new
    by old new torn (inl lt) = inl (omega (arith, lt, torn.no_longer))
    by old new torn (inr (inl (rest, e))) =
        let long : 1 ≤ length old = omega (arith, ap length e) in
        inr (inl (drop 1 new, first_of 0 rest new (min 8 (length old)) 8 (omega (arith, long)) (omega arith) (torn.before ∙ ap (take 8) e)))
    by old new torn (inr (inr (gate, rest, shut, e))) =
        let long : min 8 (length old) ≡ 8 = omega (arith, ap length e, length-append compacted_name rest) in
        let front : take 8 new ≡ gate ∷ compacted_name = ap (λ k. take k new) (sym long) ∙ torn.before ∙ ap (take 8) e in
        inr (inr (gate, drop 8 new, shut, sym (take-append-drop 8 new) ∙ ap (λ l. l ++ drop 8 new) front))

pub cut_short : (old : List ℕ) → length (take 8 old) < 9
cut_short old = omega (arith, length-take 8 old)

pub short_keeps : Keeps (λ image. length image < 9) (write 0 1)
short_keeps = λ old new lt torn. omega (arith, lt, torn.no_longer)

-- a write behind the file gate
pub zero_keeps : (place n : ℕ) → 1 ≤ place → Keeps BeginsZero (write place n)
zero_keeps place n le = λ old new zero torn. front_kept (0 ∷ []) old new place n le zero.0 zero.1 torn

pub zero_reads : (old : List ℕ) → BeginsZero (overwritten old 0 (0 ∷ []))
zero_reads old = (drop 1 old, refl)

pub zero_short : (old : List ℕ) → length old ≤ 8 → length (overwritten old 0 (0 ∷ [])) ≤ 8
zero_short old le = omega (arith, length-drop 1 old, le)

-- the name behind the file gate of a file of at most eight bytes
pub name_reads : (old : List ℕ) → length old ≤ 8 → overwritten (overwritten old 0 (0 ∷ [])) 1 compacted_name ≡ 0 ∷ compacted_name
name_reads old le =
    written_behind (0 ∷ []) (drop 1 old) compacted_name 1 refl ∙ ap (λ l. (0 ∷ compacted_name) ++ l) (drop_all 7 (drop 1 old) (omega (arith, length-drop 1 old, le))) ∙ append-nil (0 ∷ compacted_name)

-- what is written behind all
pub written_last : (old bytes : List ℕ) (place : ℕ) → place ≡ length old → overwritten old place bytes ≡ old ++ bytes
written_last old bytes place e =
    ap (λ o. overwritten o place bytes) (sym (append-nil old)) ∙ written_behind old [] bytes place (sym e) ∙ ap (λ l. (old ++ bytes) ++ l) (drop_all (length bytes) [] (omega arith)) ∙ append-nil (old ++ bytes)

-- a block behind all
pub block_reads : (block size : List ℕ) (end : ℕ) (w1 w2 w3 : Change) (s0 s1 s2 s3 : Store) → end ≡ length s0.reads → size ≡ eight_bytes (length block)
    → s1 ≡ changed w1 (overwritten s0.reads end (1 ∷ [])) s0 → s2 ≡ changed w2 (overwritten s1.reads (end + 1) size) s1 → s3 ≡ changed w3 (overwritten s2.reads (end + 9) block) s2
    → s3.reads ≡ s0.reads ++ 1 ∷ block_bytes block
unfolding block_bytes
block_reads block size end w1 w2 w3 s0 s1 s2 s3 is size_is e1 e2 e3 =
    let r1 : s1.reads ≡ s0.reads ++ 1 ∷ [] = ap (λ (u : Store). u.reads) e1 ∙ written_last s0.reads (1 ∷ []) end is in
    let l1 : end + 1 ≡ length s1.reads = omega (arith, ap length r1, length-append s0.reads (1 ∷ []), is) in
    let r2 : s2.reads ≡ s1.reads ++ size = ap (λ (u : Store). u.reads) e2 ∙ written_last s1.reads size (end + 1) l1 in
    let l2 : end + 9 ≡ length s2.reads = omega (arith, ap length r2, length-append s1.reads size, l1, ap length size_is, length-eight (length block)) in
    let r3 : s3.reads ≡ s2.reads ++ block = ap (λ (u : Store). u.reads) e3 ∙ written_last s2.reads block (end + 9) l2 in
    r3 ∙ ap (λ l. l ++ block) (r2 ∙ ap (λ l. l ++ size) r1 ∙ ap (λ k. (s0.reads ++ 1 ∷ []) ++ k) size_is)
    ∙ append_assoc (s0.reads ++ 1 ∷ []) (eight_bytes (length block)) block ∙ append_assoc s0.reads (1 ∷ []) (eight_bytes (length block) ++ block)

-- one call more
pub zero_goes_on : (place n : ℕ) → 1 ≤ place → (s t u : Store) (reads : List ℕ) → Always BeginsZero s t → u ≡ changed (write place n) reads t → Always BeginsZero s u
zero_goes_on place n le s t u reads so_far e = always_then BeginsZero s t u so_far (always_changed BeginsZero (write place n) t u reads (zero_keeps place n le) so_far.last e)

pub zero_fails : (place n : ℕ) → 1 ≤ place → (s t u : Store) → Always BeginsZero s t → Fails (write place n) t u → Always BeginsZero s u
zero_fails place n le s t u so_far f = always_then BeginsZero s t u so_far (always_failed BeginsZero (write place n) t u (zero_keeps place n le) so_far.last f)

-- any file gate, the name, the blocks and a closed gate
abbrev pub IsSealed : List (List ℕ) → List ℕ → Type 0
IsSealed payloads image = (gate : ℕ) × (image ≡ gate ∷ (compacted_name ++ (open_blocks payloads ++ 0 ∷ [])))

pub sealed_keeps : (payloads : List (List ℕ)) → Keeps (IsSealed payloads) (write 0 1)
sealed_keeps payloads = λ old new has torn. byte_kept [] old new 0 has.0 refl (compacted_name ++ (open_blocks payloads ++ 0 ∷ [])) has.1 torn

pub sealed_open : (payloads : List (List ℕ)) (image : List ℕ) → image ≡ 1 ∷ (compacted_name ++ (open_blocks payloads ++ 0 ∷ [])) → HasBlocks (compacted_name ∷ []) payloads image
unfolding front_of
sealed_open payloads image e = record { name = compacted_name; named = named_compacted; gate = 0; rest = []; closed = zero_shut 0 refl; file = e ∙ sym (append_assoc (1 ∷ compacted_name) (open_blocks payloads) (0 ∷ [])) }

pub sealed_either : (payloads : List (List ℕ)) (image : List ℕ) → IsSealed payloads image → IsUnfinishedOr payloads image
sealed_either payloads image (gate, e) = elim (cases_eq gate 1) [
  | inl open_gate ↦ inr (sealed_open payloads image (e ∙ ap (λ g. g ∷ (compacted_name ++ (open_blocks payloads ++ 0 ∷ []))) open_gate))
  | inr shut ↦ inl (inr (inr (gate, open_blocks payloads ++ 0 ∷ [], shut, e)))
]

-- the reads of the two last writes
pub sealed_reads : (payloads : List (List ℕ)) (old : List ℕ) (end : ℕ) → end ≡ end_of payloads → old ≡ 0 ∷ compacted_name ++ open_blocks payloads → IsSealed payloads (overwritten old end (0 ∷ []))
unfolding end_of
sealed_reads payloads old end is e =
    let long : end ≡ length old = omega (arith, is, ap length e, length-append compacted_name (open_blocks payloads)) in
    (0, written_last old (0 ∷ []) end long ∙ ap (λ l. l ++ 0 ∷ []) e ∙ append_assoc (0 ∷ compacted_name) (open_blocks payloads) (0 ∷ []))

pub opened_reads : (payloads : List (List ℕ)) (old : List ℕ) → IsSealed payloads old → HasBlocks (compacted_name ∷ []) payloads (overwritten old 0 (1 ∷ []))
opened_reads payloads old (gate, e) = sealed_open payloads (overwritten old 0 (1 ∷ [])) (ap (λ r. overwritten r 0 (1 ∷ [])) e)

-- what `add` leaves to be read
pub added_reads : (payloads : List (List ℕ)) (block old : List ℕ) → old ≡ 0 ∷ compacted_name ++ open_blocks payloads → (pushed : open_blocks (payloads ++ block ∷ []) ≡ open_blocks payloads ++ 1 ∷ block_bytes block)
    → old ++ 1 ∷ block_bytes block ≡ 0 ∷ compacted_name ++ open_blocks (payloads ++ block ∷ [])
added_reads payloads block old e pushed =
    ap (λ l. l ++ 1 ∷ block_bytes block) e ∙ append_assoc (0 ∷ compacted_name) (open_blocks payloads) (1 ∷ block_bytes block) ∙ ap (λ l. 0 ∷ compacted_name ++ l) (sym pushed)

pub added_end : (payloads : List (List ℕ)) (old : List ℕ) (end : ℕ) → end ≡ end_of payloads → old ≡ 0 ∷ compacted_name ++ open_blocks payloads → end ≡ length old
unfolding end_of
added_end payloads old end is e = omega (arith, is, ap length e, length-append compacted_name (open_blocks payloads))

-- nothing was added yet
pub nothing_added : 0 ∷ compacted_name ≡ 0 ∷ compacted_name ++ open_blocks []
unfolding open_blocks
nothing_added = refl

-- a sync of a file that may be written anew
pub always_looked : (s t : Store) → t ≡ settled s → IsUnfinished s.reads → Always IsUnfinished (settled s) t
always_looked s t e un = subst (Always IsUnfinished (settled s)) (sym e) (always_same IsUnfinished (settled s) (λ i is. subst IsUnfinished (sym is) un))

pub only_read : (s t : Store) → t ≡ settled s → EachImage (λ image. image ≡ t.reads) t.now
only_read s t e = subst (λ (u : Store). EachImage (λ image. image ≡ u.reads) u.now) (sym e) (λ i is. is)

pub whatever : {T E : Type 0} (r : Result T E) (P Q : Type 0) → P → Q → MatchResult r (λ _. P) (λ _. Q)
whatever (Ok x) P Q p q = p
whatever (Err x) P Q p q = q
