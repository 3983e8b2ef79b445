-- The end of a reading, and the journal behind it.
use Rattle.std.proofs.Common.{◌≡◌, inl, inr, ℕ, ◌≤◌, List, [], ◌∷◌, ◌++◌, length, get_or, sym, ◌∙◌, ap, subst, arith, append_assoc, length-append}
use Rattle.std.specs.Prelude.{Result, Ok, Err, MatchResult}
use Rattle.std.proofs.lemmas.List.Elements.{Contains-append_left}
use Rattle.auction_core.specs.Core.{CoreState}
use Rattle.journal_file.specs.Blocks.{HasBlocks, IsTornCreation, StandsFor, compacted_name, created_name, front_of, journal_names, open_blocks}
use Rattle.journal_file.specs.Readings.{IsCreation, IsRead, reads_of, store_read}
use Rattle.journal_file.specs.Standing.{Keeps}
use Rattle.journal_file.specs.declared.journal.Journal.{Journal}
use Rattle.journal_file.specs.declared.reading.Reading.{Reading}
use Rattle.plain_exchange.specs.declared.changes.Effect.{Effect}
use Rattle.recovery.specs.Openings.{AreKept, IsAtEnd, IsAtStart, IsMadeBy}
use Rattle.recovery.specs.Texts.{HasText, IsTextOf}
use Rattle.rtb_disk.proofs.Moments.{always_map, always_same}
use Rattle.rtb_disk.specs.Stores.{Always, EachImage, Store}
use Rattle.rtb_disk.specs.declared.disk.Disk.{Ghosts}

-- ---- names, and a creation's text

known_name : (payloads : List (List ℕ)) (image : List ℕ) → HasBlocks (created_name ∷ []) payloads image → HasBlocks journal_names payloads image
known_name payloads image has = record {
  name = has.name;
  named = record { known = Contains-append_left (created_name ∷ []) (compacted_name ∷ []) has.name has.named.known; seven = has.named.seven };
  gate = has.gate;
  rest = has.rest;
  closed = has.closed;
  file = has.file;
}

known_stands : (image : List ℕ) → StandsFor (created_name ∷ []) [] image → StandsFor journal_names [] image
known_stands image (inl has) = inl (known_name [] image has)
known_stands image (inr torn) = inr torn

blocks_whole : (payloads : List (List ℕ)) (image : List ℕ) → HasBlocks journal_names payloads image → IsTornCreation image → ⊥
unfolding front_of
blocks_whole payloads image has torn =
    let whole : image ≡ 1 ∷ has.name ++ (open_blocks payloads ++ has.gate ∷ has.rest) = has.file ∙ append_assoc (1 ∷ has.name) (open_blocks payloads) (has.gate ∷ has.rest) in
    let long : 9 ≤ length image = omega (arith, ap length whole, length-append has.name (open_blocks payloads ++ has.gate ∷ has.rest), length-append (open_blocks payloads) (has.gate ∷ has.rest), has.named.seven) in
    by_torn torn whole long
  where
    by_torn : {image more : List ℕ} → IsTornCreation image → image ≡ 1 ∷ more → 9 ≤ length image → ⊥
    by_torn (inl lt) e long = omega (arith, lt, long)
    by_torn (inr (nine, shut)) e long = shut (ap (λ l. get_or l 0 0) e)

creation_text : (image : List ℕ) (effects : List Effect) → IsTornCreation image → HasText image effects → IsTextOf [] effects
creation_text image effects torn has = by_kind has.stands has.text
  where
    by_kind : {payloads : List (List ℕ)} → StandsFor journal_names payloads image → IsTextOf payloads effects → IsTextOf [] effects
    by_kind {payloads} (inl blocks) text = absurd (blocks_whole payloads image blocks torn)
    by_kind (inr (none, _)) text = subst (λ ps. IsTextOf ps effects) none text

-- by the two cases
pub by_cases : {X E : Type 0} (r : Result X E) (A B : X → Type 0) (C F : E → Type 0) → ((x : X) → A x → B x) → ((e : E) → C e → F e) → MatchResult r A C → MatchResult r B F
by_cases (Ok x) A B C F f g h = f x h
by_cases (Err e) A B C F f g h = g e h

module _ {D : Type 0} {G : Ghosts D} where
  -- the only image of a reading says what the file says
  start_images : (reading : Reading D G) (effects : List Effect) → IsAtStart reading → HasText (reads_of reading) effects → EachImage (λ image. HasText image effects) (store_read reading).now
  start_images reading effects (inl r) has = λ image i. subst (λ l. HasText l effects) (sym (r.only image i)) has
  start_images reading effects (inr r) has = λ image i. subst (λ l. HasText l effects) (sym (r.only image i)) has

  pub still : (reading : Reading D G) (effects : List Effect) (now : Store) → IsAtStart reading → HasText (reads_of reading) effects → now ≡ store_read reading → Always (λ image. HasText image effects) (store_read reading) now
  still reading effects now start has e = subst (Always (λ image. HasText image effects) (store_read reading)) (sym e) (always_same (λ image. HasText image effects) (store_read reading) (start_images reading effects start has))

  pub completed : (old new : Reading D G) (effects : List Effect) (now : Store) → store_read new ≡ store_read old → IsCreation new → HasText (reads_of old) effects → Always (StandsFor (created_name ∷ []) []) (store_read new) now → Always (λ image. HasText image effects) (store_read old) now
  completed old new effects now same torn has a =
      let text = creation_text (reads_of old) effects (subst (λ (s : Store). IsTornCreation s.reads) same torn.torn) has in
      subst (λ s. Always (λ image. HasText image effects) s now) same
      (always_map (StandsFor (created_name ∷ []) []) (λ image. HasText image effects) (λ image s. record { payloads = []; stands = known_stands image s; text = text }) (store_read new) now a)

  pub made_journal : (reading : Reading D G) (journal : Journal D G) (core : CoreState) (image : List ℕ) → reads_of reading ≡ image → IsMadeBy (IsAtEnd reading) core
      → ((payloads : List (List ℕ)) → IsRead journal_names reading payloads → Keeps journal_names journal payloads) → (IsCreation reading → Keeps (created_name ∷ []) journal []) → IsMadeBy (AreKept image journal) core
  made_journal reading journal core image same m kept created = record { payloads = m.payloads; such = by_kind m.such; effects = m.effects; text = m.text; leads = m.leads; edits_are = m.edits_are }
    where
      by_kind : {payloads : List (List ℕ)} → IsAtEnd reading payloads → AreKept image journal payloads
      by_kind {payloads} (inl r) = (kept payloads r, inl (subst (HasBlocks journal_names payloads) same r.file))
      by_kind (inr (none, r)) =
          let k = created r in (
            subst (Keeps journal_names journal) (sym none) (record { told = k.told; end = k.end; images = λ image i. known_name [] image (k.images image i) }),
            inr (none, subst IsTornCreation same r.torn),
          )
