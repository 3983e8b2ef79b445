-- What the calls of an append leave.
use Rattle.std.proofs.Common.{◌≡◌, inl, inr, ℕ, ◌+◌, ◌<◌, ◌≤◌, List, [], ◌∷◌, ◌++◌, length, take, drop, refl, sym, ◌∙◌, ap, subst, arith, append_assoc, length-append, length-drop}
use Rattle.std.proofs.lemmas.List.{length-take, append-nil}
use Rattle.std.proofs.lemmas.Bool.{cases_eq}
use Rattle.rtb_disk.specs.Stores.{Store, Change, write, EachImage, IsImage, Always, Fails, changed, settled, overwritten}
use Rattle.rtb_disk.specs.Images.{torn_part}
use Rattle.rtb_disk.proofs.Moments.{Keeps, always_changed, always_failed, always_settled, always_then}
use Rattle.rtb_disk.proofs.Writes.{written_behind, front_kept, byte_kept}
use Rattle.byte_fields.specs.Encodings.{eight_bytes}
use Rattle.byte_fields.proofs.Numbers.{length-eight}
use Rattle.journal_file.specs.Blocks.{HasBlocks, HasBehind, block_bytes, end_of, front_of, open_blocks}
use Rattle.journal_file.specs.Standing.{IsBeforeOrAfter}

zero≢one : ◌≡◌ {A = ℕ} 0 1 → ⊥
zero≢one e = omega (arith, e)

-- where the gate behind a front stands
pub front_long : (name : List ℕ) (payloads : List (List ℕ)) → length name ≡ 7 → length (front_of name payloads) ≡ end_of payloads
unfolding front_of end_of
front_long name payloads seven = omega (arith, length-append name (open_blocks payloads), seven)

-- a write behind the closed gate keeps what stands before it
pub behind_keeps : (names payloads : List (List ℕ)) (place n : ℕ) → end_of payloads < place → Keeps (HasBlocks names payloads) (write place n)
behind_keeps names payloads place n lt = λ old new has torn.
    let front = front_of has.name payloads ++ has.gate ∷ [] in
    let long : length front ≤ place = omega (arith, length-append (front_of has.name payloads) (has.gate ∷ []), front_long has.name payloads has.named.seven, lt) in
    let kept = front_kept front old new place n long has.rest (has.file ∙ sym (append_assoc (front_of has.name payloads) (has.gate ∷ []) has.rest)) torn in
    record { name = has.name; named = has.named; gate = has.gate; rest = kept.0; closed = has.closed; file = kept.1 ∙ append_assoc (front_of has.name payloads) (has.gate ∷ []) kept.0 }

-- what stands behind the closed gate once a block is written there
abbrev pub block_parts : List ℕ → List ℕ → List ℕ
block_parts size block = size ++ block ++ 0 ∷ []

pub parts_long : (size block : List ℕ) → size ≡ eight_bytes (length block) → length (block_parts size block) ≡ length block + 9
parts_long size block is = omega (arith, length-append (size ++ block) (0 ∷ []), length-append size block, ap length is, length-eight (length block))

-- the reads of that write behind a closed gate
pub block_written : (names payloads : List (List ℕ)) (block r0 : List ℕ) (gate : ℕ) → gate ≡ end_of payloads → HasBlocks names payloads r0
    → HasBehind names payloads block (overwritten r0 (gate + 1) (block_parts (eight_bytes (length block)) block))
unfolding block_bytes
block_written names payloads block r0 gate is has =
    let front = front_of has.name payloads ++ has.gate ∷ [] in
    let whole = eight_bytes (length block) ++ block in
    let long : length front ≡ gate + 1 = omega (arith, length-append (front_of has.name payloads) (has.gate ∷ []), front_long has.name payloads has.named.seven, is) in
    let rest = drop (length (whole ++ 0 ∷ [])) has.rest in
    let one : overwritten r0 (gate + 1) (whole ++ 0 ∷ []) ≡ (front ++ (whole ++ 0 ∷ [])) ++ rest =
    ap (λ r. overwritten r (gate + 1) (whole ++ 0 ∷ [])) (has.file ∙ sym (append_assoc (front_of has.name payloads) (has.gate ∷ []) has.rest)) ∙ written_behind front has.rest (whole ++ 0 ∷ []) (gate + 1) long in
    record {
      name = has.name;
      named = has.named;
      gate = has.gate;
      rest = rest;
      file = one
          ∙ append_assoc front (whole ++ 0 ∷ []) rest
          ∙ ap (λ l. front ++ l) (append_assoc whole (0 ∷ []) rest)
          ∙ append_assoc (front_of has.name payloads) (has.gate ∷ []) (whole ++ 0 ∷ rest);
    }

-- one call more
pub goes_on : (names payloads : List (List ℕ)) (place n : ℕ) → end_of payloads < place → (s t u : Store) (reads : List ℕ) → Always (HasBlocks names payloads) s t → u ≡ changed (write place n) reads t → Always (HasBlocks names payloads) s u
goes_on names payloads place n lt s t u reads so_far e =
    always_then _ s t u so_far (always_changed _ (write place n) t u reads (behind_keeps names payloads place n lt) so_far.last e)

pub fails_there : (names payloads : List (List ℕ)) (place n : ℕ) → end_of payloads < place → (s t u : Store) → Always (HasBlocks names payloads) s t → Fails (write place n) t u → Always (HasBlocks names payloads) s u
fails_there names payloads place n lt s t u so_far f =
    always_then _ s t u so_far (always_failed _ (write place n) t u (behind_keeps names payloads place n lt) so_far.last f)

-- how long what is read is
pub written_long : (old bytes : List ℕ) (place : ℕ) → length old ≤ length (overwritten old place bytes)
written_long old bytes place =
    omega (arith, length-append (take place old ++ bytes) (drop (place + length bytes) old), length-append (take place old) bytes, length-take place old, length-drop (place + length bytes) old)

pub written_to : (old bytes : List ℕ) (place : ℕ) → place ≤ length old → place + length bytes ≤ length (overwritten old place bytes)
written_to old bytes place le =
    omega (arith, length-append (take place old ++ bytes) (drop (place + length bytes) old), length-append (take place old) bytes, length-take place old, length-drop (place + length bytes) old)

pub changed_longer : (change : Change) (bytes : List ℕ) (place : ℕ) (s t : Store) → t ≡ changed change (overwritten s.reads place bytes) s → length s.reads ≤ length t.reads
changed_longer change bytes place s t e = omega (arith, ap (λ (u : Store). length u.reads) e, written_long s.reads bytes place)

pub fails_longer : (place n : ℕ) (s t : Store) → Fails (write place n) s t → length s.reads ≤ length t.reads
fails_longer place n s t (inl e) = omega (arith, ap (λ (u : Store). length u.reads) e)
fails_longer place n s t (inr done) = omega (arith, ap (λ (u : Store). length u.reads) done.2, done.1.no_shorter)

-- a write that is synced
pub synced_longer : (change : Change) (bytes : List ℕ) (place : ℕ) (s t : Store) → t ≡ settled (changed change (overwritten s.reads place bytes) s) → length s.reads ≤ length t.reads
synced_longer change bytes place s t e = omega (arith, ap (λ (u : Store). length u.reads) e, written_long s.reads bytes place)

pub syncs_on : (names payloads : List (List ℕ)) (place : ℕ) (bytes : List ℕ) → end_of payloads < place → (s t u : Store) → Always (HasBlocks names payloads) s t → IsImage t.now t.reads
    → u ≡ settled (changed (write place (length bytes)) (overwritten t.reads place bytes) t) → Always (HasBlocks names payloads) s u
syncs_on names payloads place bytes lt s t u so_far stands e =
    let keeps = behind_keeps names payloads place (length bytes) lt in
    let reads = overwritten t.reads place bytes in
    let one = goes_on names payloads place (length bytes) lt s t (changed (write place (length bytes)) reads t) reads so_far refl in
    always_then _ s _ u one (always_settled _ _ u one.last (keeps t.reads reads (so_far.last t.reads stands) (torn_part t.reads bytes place (length bytes) (omega arith))) e)

-- once the write is synced, the block stands behind the gate in every image
pub behind_now : (names payloads : List (List ℕ)) (block size : List ℕ) (gate : ℕ) (w : Change) (s t : Store) → gate ≡ end_of payloads → size ≡ eight_bytes (length block) → HasBlocks names payloads s.reads
    → t ≡ settled (changed w (overwritten s.reads (gate + 1) (block_parts size block)) s) → EachImage (HasBehind names payloads block) t.now
behind_now names payloads block size gate w s t is size_is has e =
    let there = subst (λ n. HasBehind names payloads block (overwritten s.reads (gate + 1) (block_parts n block))) (sym size_is) (block_written names payloads block s.reads gate is has) in
    subst (λ (u : Store). EachImage (HasBehind names payloads block) u.now) (sym e) (λ c i. subst (HasBehind names payloads block) (sym i) there)

-- a write of the gate alone keeps what stands behind it
pub gate_keeps : (names payloads : List (List ℕ)) (block : List ℕ) (gate : ℕ) → gate ≡ end_of payloads → Keeps (HasBehind names payloads block) (write gate 1)
gate_keeps names payloads block gate is = λ old new has torn.
    let kept = byte_kept (front_of has.name payloads) old new gate has.gate (front_long has.name payloads has.named.seven ∙ sym is) (block_bytes block ++ 0 ∷ has.rest) has.file torn in
    record { name = has.name; named = has.named; gate = kept.0; rest = has.rest; file = kept.1 }

pub blocks_push : (payloads : List (List ℕ)) (block : List ℕ) → open_blocks (payloads ++ block ∷ []) ≡ open_blocks payloads ++ 1 ∷ block_bytes block
unfolding open_blocks
blocks_push [] block = ap (λ l. 1 ∷ l) (append-nil (block_bytes block))
blocks_push (p ∷ payloads) block =
    ap (λ l. 1 ∷ (block_bytes p ++ l)) (blocks_push payloads block) ∙ ap (λ l. 1 ∷ l) (sym (append_assoc (block_bytes p) (open_blocks payloads) (1 ∷ block_bytes block)))

pub front_push : (name : List ℕ) (payloads : List (List ℕ)) (block rest : List ℕ) → front_of name payloads ++ 1 ∷ (block_bytes block ++ rest) ≡ front_of name (payloads ++ block ∷ []) ++ rest
unfolding front_of
front_push name payloads block rest =
    sym (append_assoc (1 ∷ name ++ open_blocks payloads) (1 ∷ block_bytes block) rest)
    ∙ ap (λ l. l ++ rest) (append_assoc (1 ∷ name) (open_blocks payloads) (1 ∷ block_bytes block) ∙ ap (λ l. 1 ∷ name ++ l) (sym (blocks_push payloads block)))

-- where the next gate stands
pub end_push : (payloads : List (List ℕ)) (block : List ℕ) → end_of payloads + 9 + length block ≡ end_of (payloads ++ block ∷ [])
unfolding end_of block_bytes
end_push payloads block =
    omega (arith, ap length (blocks_push payloads block), length-append (open_blocks payloads) (1 ∷ (eight_bytes (length block) ++ block)), length-append (eight_bytes (length block)) block, length-eight (length block))

-- an open gate counts the block, a closed one does not
pub either : (names payloads : List (List ℕ)) (block image : List ℕ) → HasBehind names payloads block image → IsBeforeOrAfter names payloads block image
either names payloads block image has = elim (cases_eq has.gate 1) [
  | inl open_gate ↦ inr (record {
    name = has.name;
    named = has.named;
    gate = 0;
    rest = has.rest;
    closed = λ e. zero≢one e;
    file = has.file ∙ ap (λ g. front_of has.name payloads ++ g ∷ (block_bytes block ++ 0 ∷ has.rest)) open_gate ∙ front_push has.name payloads block (0 ∷ has.rest);
  })
  | inr shut ↦ inl (record { name = has.name; named = has.named; gate = has.gate; rest = block_bytes block ++ 0 ∷ has.rest; closed = shut; file = has.file })
]

pub opened_reads : (names payloads : List (List ℕ)) (block old : List ℕ) (gate : ℕ) → gate ≡ end_of payloads → HasBehind names payloads block old → HasBlocks names (payloads ++ block ∷ []) (overwritten old gate (1 ∷ []))
opened_reads names payloads block old gate is has =
    let behind = block_bytes block ++ 0 ∷ has.rest in
    record {
      name = has.name;
      named = has.named;
      gate = 0;
      rest = has.rest;
      closed = λ e. zero≢one e;
      file = ap (λ r. overwritten r gate (1 ∷ [])) has.file
          ∙ written_behind (front_of has.name payloads) (has.gate ∷ behind) (1 ∷ []) gate (front_long has.name payloads has.named.seven ∙ sym is)
          ∙ append_assoc (front_of has.name payloads) (1 ∷ []) behind
          ∙ front_push has.name payloads block (0 ∷ has.rest);
    }
