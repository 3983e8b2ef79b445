-- Blocks in bytes that were read from a gate on.
use Rattle.std.proofs.Common.{◌≡◌, inr, ℕ, ◌+◌, ◌-◌, ◌<◌, ◌≤◌, ◌^◌, List, [], ◌∷◌, ◌++◌, length, take, drop, true, false, sym, ◌∙◌, ap, subst, arith, append_assoc, length-append, length-drop, take-append-drop}
use Rattle.std.proofs.Math.Seq.{take-append_seam}
use Rattle.std.proofs.lemmas.Bool.{eqb-true}
use Rattle.std.proofs.lemmas.List.{drop-drop, drop-append-le, length-take, length-take-le, take_all}
use Rattle.std.specs.Prelude.{Bool, Ok, not}
use Rattle.byte_fields.specs.Codes.{BeginsAt}
use Rattle.byte_fields.specs.Encodings.{eight_bytes}
use Rattle.byte_fields.proofs.Numbers.{length-eight}
use Rattle.follower.specs.Following.{StandsIn}
use Rattle.follower.specs.Passing.{TurnsIn, begins_shut}
use Rattle.follower.proofs.Standing.{all_is_said}
use Rattle.journal_file.specs.Blocks.{block_bytes}
use Rattle.journal_file.specs.Damage.{HasBlock, IsShut}
use Rattle.journal_file.specs.Gates.{begins_open}
use Rattle.journal_file.specs.Pieces.{BeginsFrom}
use Rattle.journal_file.proofs.GateLemmas.{whole_block}
use Rattle.plain_exchange.specs.State.{State}

-- ---- a front of the bytes from a gate on

pub filled : (gate n : ℕ) (file bytes : List ℕ) → n ≤ length bytes → take n bytes ≡ take n (drop gate file) → BeginsFrom gate (take n bytes) file
filled gate n file bytes le e = e ∙ ap (λ k. take k (drop gate file)) (sym (length-take-le n bytes le))

parted : (gate : ℕ) (front file : List ℕ) → BeginsFrom gate front file → drop gate file ≡ front ++ drop (length front) (drop gate file)
parted gate front file e = sym (take-append-drop (length front) (drop gate file)) ∙ ap (λ l. l ++ drop (length front) (drop gate file)) (sym e)

-- and behind its first n
rest_there : (gate n : ℕ) (front file : List ℕ) → n ≤ length front → BeginsFrom gate front file → BeginsFrom (gate + n) (drop n front) file
rest_there gate n front file le begins =
    let rest = drop (length front) (drop gate file) in
    let there : drop (gate + n) file ≡ drop n front ++ rest = sym (drop-drop n gate file) ∙ ap (drop n) (parted gate front file begins) ∙ drop-append-le n front rest le in
    sym (ap (take (length (drop n front))) there ∙ take-append_seam (drop n front) rest)

-- ---- a block in them

opened : (bytes : List ℕ) → begins_open bytes ≡ true → bytes ≡ 1 ∷ drop 1 bytes
opened [] e = absurd (cc e)
opened (b ∷ bytes) e = ap (λ g. g ∷ bytes) (eqb-true b 1 e)

pub payload_whole : (bytes : List ℕ) (size start : ℕ) → begins_open bytes ≡ true → BeginsAt bytes 1 (eight_bytes size) start → size < length (take (length bytes - start) (drop start bytes)) → HasBlock (take size (take (length bytes - start) (drop start bytes))) bytes
payload_whole bytes size start gate begins lt =
    let rest = take (length bytes - start) (drop start bytes) in
    let same : rest ≡ drop start bytes = take_all (length bytes - start) (drop start bytes) (omega (arith, length-drop start bytes)) in
    let is : bytes ≡ 1 ∷ (eight_bytes size ++ rest) = opened bytes gate ∙ ap (λ l. 1 ∷ l) (begins.there ∙ ap (λ l. eight_bytes size ++ l) (sym same)) in
    subst (HasBlock (take size rest)) (sym is) (whole_block size rest lt)

pub block_long : (payload bytes : List ℕ) → HasBlock payload bytes → 10 + length payload ≤ length bytes
unfolding block_bytes
block_long payload bytes has =
    let size = length-append (eight_bytes (length payload)) payload in
    omega (arith, ap length has.there, length-append (eight_bytes (length payload) ++ payload) (has.gate ∷ has.rest), size, length-eight (length payload))

pub block_there : (gate : ℕ) (payload front file : List ℕ) → BeginsFrom gate front file → HasBlock payload front → HasBlock payload (drop gate file)
block_there gate payload front file begins has =
    let rest = drop (length front) (drop gate file) in
    record {
      gate = has.gate;
      rest = has.rest ++ rest;
      there = parted gate front file begins ∙ ap (λ l. l ++ rest) has.there ∙ ap (λ l. 1 ∷ l) (append_assoc (block_bytes payload) (has.gate ∷ has.rest) rest);
    }

-- the bytes behind a block, as a slice has them
pub next_there : (gate next : ℕ) (payload front file : List ℕ) → next ≡ gate + 9 + length payload → 9 + length payload < length front → BeginsFrom gate front file → BeginsFrom next (take (length front - (9 + length payload)) (drop (9 + length payload) front)) file
next_there gate next payload front file is lt begins =
    let n = 9 + length payload in
    let same : take (length front - n) (drop n front) ≡ drop n front = take_all (length front - n) (drop n front) (omega (arith, length-drop n front)) in
    let place : gate + n ≡ next = omega (arith, is) in
    subst (λ l. BeginsFrom next l file) (sym same) (subst (λ g. BeginsFrom g (drop n front) file) place (rest_there gate n front file (omega (arith, lt)) begins))

pub next_low : (gate next : ℕ) (payload front : List ℕ) → next ≡ gate + 9 + length payload → 9 + length payload < length front → gate + length front < 2 ^ 64 → next + length (take (length front - (9 + length payload)) (drop (9 + length payload) front)) < 2 ^ 64
next_low gate next payload front is lt low =
    let n = 9 + length payload in
    omega (arith, is, lt, low, length-take (length front - n) (drop n front), length-drop n front)

shut_there : (gate : ℕ) (front file : List ℕ) → begins_shut front ≡ true → BeginsFrom gate front file → IsShut (drop gate file)
shut_there gate [] file e begins = absurd (cc e)
shut_there gate (g ∷ front) file e begins = inr (g, front ++ drop (length (g ∷ front)) (drop gate file), (λ one. cc (one, e)), parted gate (g ∷ front) file begins)

-- behind the blocks that are whole
pub read_ends : (image : List ℕ) (s : State) (n gate done : ℕ) (rest : List ℕ) (b : Bool) → 0 < gate → StandsIn image s n gate done → BeginsFrom gate rest image → b ≡ begins_shut rest → TurnsIn image s n gate done (Ok (not b))
read_ends image s n gate done rest false begun at begins e = at
read_ends image s n gate done rest true begun at begins e = (at, all_is_said image s n gate done begun at (shut_there gate rest image (sym e) begins))
