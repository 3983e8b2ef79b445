-- Blocks in bytes that were read ahead.
use Rattle.std.proofs.Common.{◌≡◌, ℕ, ◌+◌, ◌-◌, ◌<◌, ◌≤◌, ◌^◌, List, [], ◌∷◌, ◌++◌, length, take, drop, true, sym, ◌∙◌, ap, subst, arith, append_assoc, length-append, length-drop, take-append-drop}
use Rattle.std.proofs.Math.Seq.{take-append_seam}
use Rattle.std.proofs.lemmas.Bool.{eqb-true}
use Rattle.std.proofs.lemmas.List.{drop-drop, drop-append-le, drop-take, length-take-le, take_all}
use Rattle.byte_fields.specs.Codes.{BeginsAt}
use Rattle.byte_fields.specs.Encodings.{eight_bytes}
use Rattle.byte_fields.proofs.Numbers.{length-eight}
use Rattle.journal_file.specs.Blocks.{block_bytes}
use Rattle.journal_file.specs.Damage.{HasBlock}
use Rattle.journal_file.specs.Gates.{begins_open}
use Rattle.journal_file.specs.Pieces.{BeginsFrom}
use Rattle.journal_file.proofs.GateLemmas.{whole_block}

-- ---- the bytes

pub filled : (place n : ℕ) (file bytes : List ℕ) → n ≤ length bytes → take n bytes ≡ take n (drop place file) → BeginsFrom place (take n bytes) file
filled place n file bytes le e = e ∙ ap (λ k. take k (drop place file)) (sym (length-take-le n bytes le))

parted : (place : ℕ) (front file : List ℕ) → BeginsFrom place front file → drop place file ≡ front ++ drop (length front) (drop place file)
parted place front file e = sym (take-append-drop (length front) (drop place file)) ∙ ap (λ l. l ++ drop (length front) (drop place file)) (sym e)

joined : (place : ℕ) (front rest file : List ℕ) → drop place file ≡ front ++ rest → BeginsFrom place front file
joined place front rest file e = sym (ap (take (length front)) e ∙ take-append_seam front rest)

pub part_there : (place at n count : ℕ) (file bytes : List ℕ) → at ≡ place + n → n ≤ count → count ≤ length bytes → BeginsFrom place (take count bytes) file → BeginsFrom at (take (count - n) (drop n bytes)) file
part_there place at n count file bytes is le fits begins =
    let front = take count bytes in
    let rest = drop (length front) (drop place file) in
    let whole : n + (count - n) ≡ count = omega (arith, le) in
    let part : drop n front ≡ take (count - n) (drop n bytes) = ap (λ k. drop n (take k bytes)) (sym whole) ∙ drop-take n (count - n) bytes in
    joined at (take (count - n) (drop n bytes)) rest file (
    ap (λ i. drop i file) is ∙ sym (drop-drop n place file) ∙ ap (drop n) (parted place front file begins)
    ∙ drop-append-le n front rest (omega (arith, le, length-take-le count bytes fits)) ∙ ap (λ l. l ++ rest) part
    )

-- ---- a block in them

opened : (bytes : List ℕ) → begins_open bytes ≡ true → bytes ≡ 1 ∷ drop 1 bytes
opened [] e = absurd (cc e)
opened (b ∷ bytes) e = ap (λ g. g ∷ bytes) (eqb-true b 1 e)

pub payload_whole : (bytes : List ℕ) (size start : ℕ) → begins_open bytes ≡ true → BeginsAt bytes 1 (eight_bytes size) start → size < length (take (length bytes - start) (drop start bytes)) → HasBlock (take size (take (length bytes - start) (drop start bytes))) bytes
payload_whole bytes size start gate begins lt =
    let rest = take (length bytes - start) (drop start bytes) in
    let same : rest ≡ drop start bytes = take_all (length bytes - start) (drop start bytes) (omega (arith, length-drop start bytes)) in
    let is : bytes ≡ 1 ∷ (eight_bytes size ++ rest) = opened bytes gate ∙ ap (λ l. 1 ∷ l) (begins.there ∙ ap (λ l. eight_bytes size ++ l) (sym same)) in
    subst (HasBlock (take size rest)) (sym is) (whole_block size rest lt)

block_long : (payload bytes : List ℕ) → HasBlock payload bytes → 10 + length payload ≤ length bytes
unfolding block_bytes
block_long payload bytes has =
    let size = length-append (eight_bytes (length payload)) payload in
    omega (arith, ap length has.there, length-append (eight_bytes (length payload) ++ payload) (has.gate ∷ has.rest), size, length-eight (length payload))

pub next_small : (gate : ℕ) (payload front : List ℕ) → gate + length front ≤ 2 ^ 63 → HasBlock payload front → gate + 9 + length payload < 2 ^ 63
next_small gate payload front le has = omega (arith, le, block_long payload front has)

pub block_there : (gate : ℕ) (payload front file : List ℕ) → BeginsFrom gate front file → HasBlock payload front → HasBlock payload (drop gate file)
block_there gate payload front file begins has =
    let rest = drop (length front) (drop gate file) in
    record {
      gate = has.gate;
      rest = has.rest ++ rest;
      there = parted gate front file begins ∙ ap (λ l. l ++ rest) has.there ∙ ap (λ l. 1 ∷ l) (append_assoc (block_bytes payload) (has.gate ∷ has.rest) rest);
    }

pub next_inside : (gate : ℕ) (payload file : List ℕ) → HasBlock payload (drop gate file) → gate + 9 + length payload < length file
next_inside gate payload file has = omega (arith, block_long payload (drop gate file) has, length-drop gate file)
