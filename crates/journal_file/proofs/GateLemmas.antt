-- What stands at a gate.
use Rattle.std.proofs.Common.{◌≡◌, inl, inr, ℕ, ◌+◌, ◌<◌, ◌^◌, min, List, [], ◌∷◌, ◌++◌, length, take, drop, get_or, Option, Some, None, true, false, refl, sym, ◌∙◌, ap, subst, arith, append_assoc, length-append, length-drop, take-append-drop}
use Rattle.std.proofs.lemmas.List.{take_at, drop_at, drop-drop, drop_more, length-take-le, append-nil, take_min}
use Rattle.std.proofs.lemmas.Bool.{eq-eqb, eqb-true}
use Rattle.byte_fields.specs.Codes.{BeginsAt}
use Rattle.byte_fields.specs.Encodings.{FitsEight, eight_bytes}
use Rattle.byte_fields.proofs.Numbers.{length-eight, eight_code}
use Rattle.journal_file.specs.Blocks.{HasBlocks, IsName, block_bytes, end_of, front_of, open_blocks}
use Rattle.journal_file.specs.Damage.{HasBlock, IsCutShort, IsDamaged, IsShut}
use Rattle.journal_file.specs.Gates.{begins_open}
use Rattle.journal_file.specs.Sizes.{IsSizeAt}
use Rattle.journal_file.proofs.Writing.{end_push, front_long, front_push}

-- a file without blocks
pub first_front : (name : List ℕ) → 1 ∷ name ≡ front_of name []
unfolding front_of open_blocks
first_front name = sym (append-nil (1 ∷ name))

pub first_end : ◌≡◌ {A = ℕ} 8 (end_of [])
unfolding end_of open_blocks
first_end = refl

-- what was read of some bytes are the first k
pub first_bytes : (k : ℕ) (bytes front : List ℕ) (n : ℕ) → n ≡ min k (length bytes) → front ≡ take n bytes → front ≡ take k bytes
first_bytes k bytes front n is e = e ∙ ap (λ i. take i bytes) is ∙ take_min k bytes

-- the first byte tells whether the gate is open
pub open_whole : (bytes : List ℕ) → begins_open (take 1 bytes) ≡ true → (rest : List ℕ) × (bytes ≡ 1 ∷ rest)
open_whole [] e = absurd (cc e)
open_whole (b ∷ bytes) e = (bytes, ap (λ g. g ∷ bytes) (eqb-true b 1 e))

pub shut_whole : (bytes : List ℕ) → begins_open (take 1 bytes) ≡ false → IsShut bytes
shut_whole [] e = inl refl
shut_whole (b ∷ bytes) e = inr (b, bytes, (λ one. cc (eq-eqb b 1 one, e)), refl)

-- the first eight bytes tell the length
pub size_whole : (bytes : List ℕ) (found : Option ℕ) → IsSizeAt (take 8 bytes) found → IsSizeAt bytes found
size_whole bytes (Some n) (rest, fits, e) = (rest ++ drop 8 bytes, fits, sym (take-append-drop 8 bytes) ∙ ap (λ l. l ++ drop 8 bytes) e ∙ append_assoc (eight_bytes n) rest (drop 8 bytes))
size_whole bytes None none = λ n rest fits e. none n [] fits (ap (take 8) e ∙ take_at (eight_bytes n) rest 8 (length-eight n) ∙ sym (append-nil (eight_bytes n)))

pub no_size : (bytes : List ℕ) → ((n : ℕ) (next : ℕ) → FitsEight n → BeginsAt bytes 0 (eight_bytes n) next → ⊥) → IsSizeAt bytes None
unfolding eight_bytes
no_size bytes none = λ n rest fits e.
    let long = length-eight n in
    let size : length bytes ≡ 8 + length rest = omega (arith, ap length e, length-append (eight_bytes n) rest, long) in
    let behind : drop 8 bytes ≡ rest = ap (drop 8) e ∙ drop_at (eight_bytes n) rest 8 long in
    none n 8 fits (record {
      there = e ∙ ap (λ l. eight_bytes n ++ l) (sym behind);
      behind = sym long;
      inside = omega (arith, size);
    })

-- behind an open gate
pub behind_open : (image rest : List ℕ) (gate : ℕ) → drop gate image ≡ 1 ∷ rest → drop (gate + 1) image ≡ rest
behind_open image rest gate e = sym (drop-drop 1 gate image) ∙ ap (drop 1) e

-- a block has its length and its payload
has_size : (payload rest : List ℕ) (has : HasBlock payload (1 ∷ rest)) → rest ≡ eight_bytes (length payload) ++ (payload ++ has.gate ∷ has.rest)
unfolding block_bytes
has_size payload rest has = ap (drop 1) has.there ∙ append_assoc (eight_bytes (length payload)) payload (has.gate ∷ has.rest)

has_long : (payload rest : List ℕ) (has : HasBlock payload (1 ∷ rest)) → length rest ≡ 9 + length payload + length has.rest
has_long payload rest has =
    omega (arith, ap length (has_size payload rest has), length-append (eight_bytes (length payload)) (payload ++ has.gate ∷ has.rest), length-eight (length payload), length-append payload (has.gate ∷ has.rest))

pub too_few : (rest : List ℕ) → length rest < 9 → IsCutShort (1 ∷ rest)
too_few rest lt = record { rest = rest; there = refl; none = λ payload has. omega (arith, lt, has_long payload rest has) }

pub unsized : (rest : List ℕ) → length rest < 2 ^ 63 → IsSizeAt rest None → IsCutShort (1 ∷ rest)
unsized rest small none = record {
  rest = rest;
  there = refl;
  none = λ payload has. none (length payload) (payload ++ has.gate ∷ has.rest) (omega (arith, small, has_long payload rest has)) (has_size payload rest has);
}

pub too_long : (rest : List ℕ) (n : ℕ) → length rest < 2 ^ 63 → length rest < 9 + n → IsSizeAt rest (Some n) → IsCutShort (1 ∷ rest)
too_long rest n small lt (more, fits, e) = record {
  rest = rest;
  there = refl;
  none = λ payload has.
      let fits2 : FitsEight (length payload) = omega (arith, small, has_long payload rest has) in
      let same = eight_code.unique n (length payload) more (payload ++ has.gate ∷ has.rest) fits fits2 (sym e ∙ has_size payload rest has) in
      omega (arith, same.0, lt, has_long payload rest has);
}

-- a block that all lies in the file
pub whole_block : (n : ℕ) (rest : List ℕ) → n < length rest → HasBlock (take n rest) (1 ∷ (eight_bytes n ++ rest))
unfolding block_bytes
whole_block n rest lt =
    let size : length (take n rest) ≡ n = length-take-le n rest (omega (arith, lt)) in
    let split : rest ≡ take n rest ++ get_or rest n 0 ∷ drop (n + 1) rest = sym (take-append-drop n rest) ∙ ap (λ l. take n rest ++ l) (drop_more rest n 0 lt) in
    record {
      gate = get_or rest n 0;
      rest = drop (n + 1) rest;
      there = ap (λ l. 1 ∷ (eight_bytes n ++ l)) split
          ∙ ap (λ k. 1 ∷ (eight_bytes k ++ (take n rest ++ get_or rest n 0 ∷ drop (n + 1) rest))) (sym size)
          ∙ ap (λ l. 1 ∷ l) (sym (append_assoc (eight_bytes (length (take n rest))) (take n rest) (get_or rest n 0 ∷ drop (n + 1) rest)));
    }

pub payload_there : (image rest : List ℕ) (gate n : ℕ) → drop gate image ≡ 1 ∷ (eight_bytes n ++ rest) → drop (gate + 9) image ≡ rest
payload_there image rest gate n e =
    sym (drop-drop 9 gate image) ∙ ap (drop 9) e ∙ drop_at (1 ∷ eight_bytes n) rest 9 (omega (arith, length-eight n))

pub rest_long : (image rest : List ℕ) (gate n : ℕ) → drop gate image ≡ 1 ∷ (eight_bytes n ++ rest) → gate + 9 + n < length image → n < length rest
rest_long image rest gate n e lt = omega (arith, ap length e, length-drop gate image, length-append (eight_bytes n) rest, length-eight n, lt)

-- behind the payloads that were read
module _ (names : List (List ℕ)) (name : List ℕ) (payloads : List (List ℕ)) (image rest : List ℕ) (gate : ℕ) (named : IsName names name) (is : gate ≡ end_of payloads) (file : image ≡ front_of name payloads ++ rest) where
  pub behind : drop gate image ≡ rest
  behind = ap (drop gate) file ∙ drop_at (front_of name payloads) rest gate (front_long name payloads named.seven ∙ sym is)

  long : length image ≡ gate + length rest
  long = omega (arith, ap length file, length-append (front_of name payloads) rest, front_long name payloads named.seven, is)

  pub at_shut : gate < length image → IsShut (drop gate image) → HasBlocks names payloads image
  at_shut lt shut = by_gate (subst IsShut behind shut)
    where
      by_gate : IsShut rest → HasBlocks names payloads image
      by_gate (inl e) = absurd (omega (arith, lt, long, ap length e))
      by_gate (inr (x, more, closed, e)) = record { name = name; named = named; gate = x; rest = more; closed = closed; file = file ∙ ap (λ l. front_of name payloads ++ l) e }

  pub at_damage : IsCutShort (drop gate image) → IsDamaged names payloads image
  at_damage cut = record { name = name; named = named; rest = rest; cut = subst IsCutShort behind cut; file = file }

  pub one_more : (payload : List ℕ) (has : HasBlock payload (drop gate image)) → image ≡ front_of name (payloads ++ payload ∷ []) ++ has.gate ∷ has.rest
  one_more payload has = file ∙ ap (λ l. front_of name payloads ++ l) (sym behind ∙ has.there) ∙ front_push name payloads payload (has.gate ∷ has.rest)

  pub next_end : (payload : List ℕ) (next : ℕ) → next ≡ gate + 9 + length payload → next ≡ end_of (payloads ++ payload ∷ [])
  next_end payload next e = e ∙ ap (λ g. g + 9 + length payload) is ∙ end_push payloads payload
