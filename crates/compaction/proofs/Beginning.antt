-- What a file begins as, by its first ten bytes.
use Rattle.std.proofs.Common.{◌≡◌, ℕ, ◌<◌, ◌≤◌, List, [], ◌∷◌, ◌++◌, length, take, drop, get_or, true, refl, sym, ◌∙◌, ap, arith, append_assoc, take-append-drop, length-take}
use Rattle.std.specs.Prelude.{nat_eq}
use Rattle.std.specs.Cmp.Lexicographic.{bytes_decides, pointwise}
use Rattle.journal_file.specs.Blocks.{IsName, compacted_name, journal_names}
use Rattle.journal_file.specs.Openings.{HasHeader}

first_byte : (bytes : List ℕ) → get_or bytes 0 0 ≡ 1 → bytes ≡ 1 ∷ drop 1 bytes
first_byte [] e = absurd (cc e)
first_byte (b ∷ bytes) e = ap (λ g. g ∷ bytes) e

named : IsName journal_names compacted_name
named = record { known = (1, omega arith, refl); seven = refl }

-- those of a journal that was written anew
pub begins_compacted : (head name image : List ℕ) → get_or head 0 0 ≡ 1 → 9 ≤ length head → true ≡ pointwise nat_eq (take 7 (drop 1 head)) name → name ≡ compacted_name → head ≡ take 10 image → HasHeader journal_names image × (8 < length image)
begins_compacted head name image opened long same is front =
    let behind = drop 10 image in
    let more = drop 7 (drop 1 head) in
    let text : take 7 (drop 1 head) ≡ compacted_name = (bytes_decides (take 7 (drop 1 head)) name).0 (sym same) ∙ is in
    let split : drop 1 head ≡ compacted_name ++ more = sym (take-append-drop 7 (drop 1 head)) ∙ ap (λ l. l ++ more) text in
    let whole : image ≡ head ++ behind = sym (take-append-drop 10 image) ∙ ap (λ l. l ++ behind) (sym front) in (
      record {
        name = compacted_name;
        named = named;
        rest = more ++ behind;
        file = whole ∙ ap (λ l. l ++ behind) (first_byte head opened ∙ ap (λ l. 1 ∷ l) split) ∙ ap (λ l. 1 ∷ l) (append_assoc compacted_name more behind);
      },
      omega (arith, long, ap length front, length-take 10 image),
    )
