-- What was shown of blocks, put together.
use Rattle.std.proofs.Common.{◌≡◌, inl, inr, ℕ, ◌+◌, List, [], ◌∷◌, ◌++◌, length, refl, sym, ◌∙◌, ap, subst, arith, append_assoc, length-append}
use Rattle.byte_fields.specs.Encodings.{eight_bytes}
use Rattle.byte_fields.proofs.Numbers.{length-eight}
use Rattle.compaction.specs.Seen.{AreShown, SeesBadBlock, SeesHead, Since}
use Rattle.journal_file.specs.Blocks.{block_bytes, end_of, open_blocks}
use Rattle.journal_file.specs.Shows.{ShowsBlock, ShowsShut}
use Rattle.journal_file.proofs.Shown.{at_behind, end_behind, shows_before, was_before}
use Rattle.plain_exchange.specs.State.{State}
use Rattle.rtb_disk.specs.Showing.{Shown, bytes_from}

-- ---- how long blocks are

pub no_blocks : length (open_blocks []) ≡ 0
unfolding open_blocks
no_blocks = refl

pub blocks_cons : (payload : List ℕ) (payloads : List (List ℕ)) → length (open_blocks (payload ∷ payloads)) ≡ 9 + length payload + length (open_blocks payloads)
unfolding open_blocks block_bytes
blocks_cons payload payloads =
    omega (arith, length-append (eight_bytes (length payload) ++ payload) (open_blocks payloads), length-append (eight_bytes (length payload)) payload, length-eight (length payload))

pub blocks_then : (ps qs : List (List ℕ)) → open_blocks (ps ++ qs) ≡ open_blocks ps ++ open_blocks qs
unfolding open_blocks
blocks_then [] qs = refl
blocks_then (p ∷ ps) qs =
    ap (λ l. 1 ∷ (block_bytes p ++ l)) (blocks_then ps qs) ∙ ap (λ l. 1 ∷ l) (sym (append_assoc (block_bytes p) (open_blocks ps) (open_blocks qs)))

pub end_then : (ps qs : List (List ℕ)) → end_of (ps ++ qs) ≡ end_of ps + length (open_blocks qs)
unfolding end_of
end_then ps qs = omega (arith, ap length (blocks_then ps qs), length-append (open_blocks ps) (open_blocks qs))

-- ---- more calls show no less

pub since_behind : {P : List Shown → Type 0} (t s : List Shown) → Since P s → Since P (t ++ s)
since_behind t s (earlier, since, split, p) = (t ++ earlier, since, ap (λ l. t ++ l) split ∙ sym (append_assoc t earlier since), p)

block_before : (gate : ℕ) (payload : List ℕ) (s t : List Shown) → ShowsBlock gate payload s → ShowsBlock gate payload (s ++ t)
block_before gate payload s t b = record {
  gate_open = record { first = b.gate_open.first; later = b.gate_open.later ++ t; begins = ap (λ l. l ++ t) b.gate_open.begins; is_open = b.gate_open.is_open };
  block = shows_before s t gate (1 ∷ block_bytes payload) b.block;
}

pub are_before : (s t : List Shown) (gate : ℕ) (payloads : List (List ℕ)) → AreShown s gate payloads → AreShown (s ++ t) gate payloads
are_before s t gate [] a = a
are_before s t gate (payload ∷ payloads) ((earlier, since, split, b), a) =
    ((earlier, since ++ t, ap (λ l. l ++ t) split ∙ append_assoc earlier since t, block_before gate payload since t b), are_before s t (gate + 9 + length payload) payloads a)

pub are_behind : (t s : List Shown) (gate : ℕ) (payloads : List (List ℕ)) → AreShown s gate payloads → AreShown (t ++ s) gate payloads
are_behind t s gate [] a = a
are_behind t s gate (payload ∷ payloads) (b, a) = (since_behind t s b, are_behind t s (gate + 9 + length payload) payloads a)

pub are_both : (s : List Shown) (gate gate' : ℕ) (ps qs : List (List ℕ)) → gate' ≡ gate + length (open_blocks ps) → AreShown s gate ps → AreShown s gate' qs → AreShown s gate (ps ++ qs)
are_both s gate gate' [] qs is a b = let same : gate' ≡ gate = omega (arith, is, no_blocks) in subst (λ n. AreShown s n qs) same b
are_both s gate gate' (p ∷ ps) qs is a b = (a.0, are_both s (gate + 9 + length p) gate' ps qs (omega (arith, is, blocks_cons p ps)) a.1 b)

pub shut_behind : (gate : ℕ) (t s : List Shown) → ShowsShut gate s → ShowsShut gate (t ++ s)
shut_behind gate t s (inl e) = inl (end_behind t s gate e)
shut_behind gate t s (inr (byte, not_one, a)) = inr (byte, not_one, at_behind t s gate (byte ∷ []) a)

pub bad_behind : (gate : ℕ) (state : State) (t s : List Shown) → SeesBadBlock gate state s → SeesBadBlock gate state (t ++ s)
bad_behind gate state t s (inl cut) = inl (since_behind t s cut)
bad_behind gate state t s (inr (payload, b, unfit)) = inr (payload, since_behind t s b, unfit)

pub head_before : (P : List ℕ → Type 0) (s t : List Shown) → SeesHead P s → SeesHead P (s ++ t)
head_before P s t (head, was, p) = (head, was_before s t (bytes_from 0 10 head) was, p)
