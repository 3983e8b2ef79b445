-- Whether bytes are a text, as a test.
use Rattle.std.proofs.Common.{◌≡◌, ◌∙◌, ◌+◌, ◌<◌, ◌++◌, ℕ, List, [], ◌∷◌, Bool, Bor, true, false, ap, ap₂, get_or, length, map, refl, sym, take}
use Rattle.std.specs.Prelude.{◌&&◌}
use Rattle.std.specs.List.{list_all}
use Rattle.std.specs.Str.{IsUtf8, is_utf8}
use Rattle.std.proofs.lemmas.List.{map-append, take_more}
use Rattle.std.proofs.lemmas.List.Folds.{list_all-append}
use Rattle.std.proofs.lemmas.Str.{IsUtf8-from_is_utf8, is_utf8-from_IsUtf8}

pub never_true : (b : Bool) → (b ≡ true → ⊥) → b ≡ false
never_true true absent = absurd (absent refl)
never_true false absent = refl

pub is_text : (bs : List ℕ) → IsUtf8 bs → is_utf8 bs ≡ true
is_text bs t = is_utf8-from_IsUtf8 bs t

pub is_no_text : (bs : List ℕ) → (IsUtf8 bs → ⊥) → is_utf8 bs ≡ false
is_no_text bs f = never_true (is_utf8 bs) (λ e. f (IsUtf8-from_is_utf8 bs e))

-- one word more
pub one_text : (texts : List (Bor (List ℕ))) (words : List (List ℕ)) (i : ℕ) (d word : List ℕ) (text : Bor (List ℕ)) → i < length words → map (λ s. s.now) texts ≡ take i words → text.now ≡ word → word ≡ get_or words i d
    → map (λ s. s.now) (texts ++ text ∷ []) ≡ take (i + 1) words
one_text texts words i d word text lt so_far now is = map-append (λ s. s.now) texts (text ∷ []) ∙ ap₂ (λ a b. a ++ b ∷ []) so_far (now ∙ is) ∙ sym (take_more words i d lt)

pub each_text : (words : List (List ℕ)) (i : ℕ) (d word : List ℕ) → i < length words → list_all is_utf8 (take i words) ≡ true → is_utf8 word ≡ true → word ≡ get_or words i d → list_all is_utf8 (take (i + 1) words) ≡ true
each_text words i d word lt so_far here is =
    ap (list_all is_utf8) (take_more words i d lt) ∙ list_all-append is_utf8 (take i words) (get_or words i d ∷ [])
    ∙ ap₂ (λ a b. a && b) so_far (ap (λ w. is_utf8 w && true) (sym is) ∙ ap (λ b. b && true) here)
