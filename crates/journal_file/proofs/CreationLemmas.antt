-- What the writes of a creation leave.
use Rattle.std.proofs.Common.{◌≡◌, ◌≢◌, inl, inr, ℕ, ◌<◌, ◌≤◌, List, [], ◌∷◌, ◌++◌, length, drop, get_or, refl, sym, ◌∙◌, ap, subst, arith, length-drop}
use Rattle.std.proofs.lemmas.List.{drop_all, drop_more}
use Rattle.std.proofs.lemmas.Bool.{cases_eq}
use Rattle.rtb_disk.specs.Stores.{Store, Change, write, EachImage, Always, Fails, changed, settled, overwritten}
use Rattle.rtb_disk.proofs.Moments.{Keeps, always_changed, always_failed, always_settled, always_then, always_map}
use Rattle.rtb_disk.proofs.Writes.{written_behind, front_kept, byte_kept}
use Rattle.journal_file.specs.Blocks.{HasBlocks, IsName, IsTornCreation, StandsFor, created_name, front_of, open_blocks}
use Rattle.journal_file.specs.Creations.{IsUnopened, IsNamed}

-- a write and a sync, where what the images have leads to what is said
pub always_synced : (P Q : List ℕ → Type 0) (change : Change) (s t : Store) (reads : List ℕ) → Keeps P change → ((image : List ℕ) → P image → Q image) → EachImage P s.now → Q reads → t ≡ settled (changed change reads s) → Always Q s t
always_synced P Q change s t reads keeps leads here there e =
    let u = changed change reads s in
    let one = always_map P Q leads s u (always_changed P change s u reads keeps here refl) in
    always_then Q s u t one (always_settled Q u t one.last there e)

pub always_not_synced : (P Q : List ℕ → Type 0) (change : Change) (s t : Store) → Keeps P change → ((image : List ℕ) → P image → Q image) → EachImage P s.now → Fails change s t → Always Q s t
always_not_synced P Q change s t keeps leads here f = always_map P Q leads s t (always_failed P change s t keeps here f)

-- what each image is after the sync
pub each_synced : (P : List ℕ → Type 0) (change : Change) (s t : Store) (reads : List ℕ) → P reads → t ≡ settled (changed change reads s) → EachImage P t.now
each_synced P change s t reads there e = subst (λ (u : Store). EachImage P u.now) (sym e) (λ c i. subst P (sym i) there)

pub short_keeps : Keeps (λ image. length image < 9) (write 0 1)
short_keeps = λ old new lt torn. omega (arith, lt, torn.no_longer)

pub unopened_keeps : Keeps IsUnopened (write 1 8)
unopened_keeps = λ old new has torn.
    let kept = front_kept (has.gate ∷ []) old new 1 8 (omega arith) has.rest has.file torn in
    record {
      gate = has.gate;
      rest = kept.0;
      closed = has.closed;
      short = omega (arith, torn.no_longer, ap length kept.1, ap length has.file, has.short);
      file = kept.1;
    }

pub named_keeps : Keeps IsNamed (write 0 1)
named_keeps = λ old new has torn.
    let kept = byte_kept [] old new 0 has.gate refl (created_name ++ 0 ∷ []) has.file torn in
    record { gate = kept.0; file = kept.1 }

pub unopened : (image : List ℕ) → IsUnopened image → IsTornCreation image
unopened image has = elim (cases_eq (length image) 9) [
  | inl nine ↦ inr (nine, λ e. has.closed (sym (ap (λ l. get_or l 0 0) has.file) ∙ e))
  | inr other ↦ inl (omega (arith, other, ap length has.file, has.short))
]

nothing_named : front_of created_name [] ≡ 1 ∷ created_name
unfolding front_of open_blocks
nothing_named = refl

named_created : IsName (created_name ∷ []) created_name
named_created = record { known = (0, omega arith, refl); seven = refl }

pub zero_shut : (n : ℕ) → n ≡ 0 → n ≢ 1
zero_shut n z = λ e. omega (arith, z, e)

pub named_open : (image : List ℕ) → image ≡ 1 ∷ (created_name ++ 0 ∷ []) → HasBlocks (created_name ∷ []) [] image
named_open image e = record { name = created_name; named = named_created; gate = 0; rest = []; closed = zero_shut 0 refl; file = e ∙ ap (λ l. l ++ 0 ∷ []) (sym nothing_named) }

pub named_stands : (image : List ℕ) → IsNamed image → StandsFor (created_name ∷ []) [] image
named_stands image has = elim (cases_eq has.gate 1) [
  | inl open_gate ↦ inl (named_open image (has.file ∙ ap (λ g. g ∷ (created_name ++ 0 ∷ [])) open_gate))
  | inr shut ↦ inr (refl, inr (ap length has.file, λ e. shut (sym (ap (λ l. get_or l 0 0) has.file) ∙ e)))
]

-- the reads of the three writes
pub closed_reads : (old : List ℕ) → length old < 9 → IsUnopened (overwritten old 0 (0 ∷ []))
closed_reads old lt = record { gate = 0; rest = drop 1 old; closed = zero_shut 0 refl; short = omega (arith, length-drop 1 old, lt); file = refl }

pub named_reads : (old : List ℕ) → IsUnopened old → IsNamed (overwritten old 1 (created_name ++ 0 ∷ []))
named_reads old has = record {
  gate = has.gate;
  file = ap (λ r. overwritten r 1 (created_name ++ 0 ∷ [])) has.file ∙ written_behind (has.gate ∷ []) has.rest (created_name ++ 0 ∷ []) 1 refl
      ∙ ap (λ l. has.gate ∷ ((created_name ++ 0 ∷ []) ++ l)) (drop_all 8 has.rest has.short);
}

pub opened_reads : (old : List ℕ) → IsNamed old → HasBlocks (created_name ∷ []) [] (overwritten old 0 (1 ∷ []))
opened_reads old has = named_open (overwritten old 0 (1 ∷ [])) (ap (λ r. overwritten r 0 (1 ∷ [])) has.file)

pub nine_unopened : (image : List ℕ) → IsTornCreation image → 9 ≤ length image → IsUnopened image
nine_unopened image (inl lt) le = absurd (omega (arith, lt, le))
nine_unopened image (inr (nine, shut)) le = record {
  gate = get_or image 0 0;
  rest = drop 1 image;
  closed = shut;
  short = omega (arith, length-drop 1 image, nine);
  file = drop_more image 0 0 (omega (arith, nine));
}

pub unopened_stands : (image : List ℕ) → IsUnopened image → StandsFor (created_name ∷ []) [] image
unopened_stands image has = inr (refl, unopened image has)

pub short_stands : (image : List ℕ) → length image < 9 → StandsFor (created_name ∷ []) [] image
short_stands image lt = inr (refl, inl lt)

pub each_same : (P : List ℕ → Type 0) (s : Store) → EachImage (λ image. image ≡ s.reads) s.now → P s.reads → EachImage P s.now
each_same P s only there = λ c i. subst P (sym (only c i)) there
