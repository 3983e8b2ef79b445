-- An image stands for one list of payloads.
use Rattle.std.proofs.Common.{◌≡◌, ◌≢◌, inl, inr, ℕ, ◌+◌, ◌<◌, ◌^◌, List, [], ◌∷◌, ◌++◌, length, take, drop, get_or, refl, sym, ◌∙◌, ap, arith, append_assoc, length-append, length-drop}
use Rattle.std.proofs.lemmas.List.{take_at, drop_at}
use Rattle.byte_fields.specs.Encodings.{FitsEight, eight_bytes}
use Rattle.byte_fields.proofs.Numbers.{length-eight, eight_code}
use Rattle.journal_file.specs.Blocks.{HasBlocks, IsTornCreation, StandsFor, block_bytes, front_of, open_blocks}

first : (g h : ℕ) (r s : List ℕ) → g ∷ r ≡ h ∷ s → g ≡ h
first g h r s e = ap (λ l. get_or l 0 0) e

-- a block begins with its length and its payload
split : (p : List ℕ) (rest tail : List ℕ) → (1 ∷ block_bytes p ++ rest) ++ tail ≡ 1 ∷ (eight_bytes (length p) ++ (p ++ (rest ++ tail)))
unfolding block_bytes
split p rest tail =
    ap (λ l. 1 ∷ l) (append_assoc (eight_bytes (length p) ++ p) rest tail ∙ append_assoc (eight_bytes (length p)) p (rest ++ tail))

one_list : (ps qs : List (List ℕ)) (g h : ℕ) (r s : List ℕ) → g ≢ 1 → h ≢ 1 → length (open_blocks ps ++ g ∷ r) < 2 ^ 64 → open_blocks ps ++ g ∷ r ≡ open_blocks qs ++ h ∷ s → ps ≡ qs
unfolding open_blocks
one_list [] [] g h r s shut shut2 small e = refl
one_list [] (q ∷ qs) g h r s shut shut2 small e = absurd (shut (first g 1 r _ (e ∙ split q (open_blocks qs) (h ∷ s))))
one_list (p ∷ ps) [] g h r s shut shut2 small e = absurd (shut2 (sym (first 1 h _ s (sym (split p (open_blocks ps) (g ∷ r)) ∙ e))))
one_list (p ∷ ps) (q ∷ qs) g h r s shut shut2 small e =
    let x = open_blocks ps ++ g ∷ r in
    let y = open_blocks qs ++ h ∷ s in
    let whole : 1 ∷ (eight_bytes (length p) ++ (p ++ x)) ≡ 1 ∷ (eight_bytes (length q) ++ (q ++ y)) = sym (split p (open_blocks ps) (g ∷ r)) ∙ e ∙ split q (open_blocks qs) (h ∷ s) in
    let sizes : length ((1 ∷ block_bytes p ++ open_blocks ps) ++ g ∷ r) ≡ 1 + (8 + (length p + length x)) =
    omega (arith, ap length (split p (open_blocks ps) (g ∷ r)), length-append (eight_bytes (length p)) (p ++ x), length-append p x, length-eight (length p)) in
    let sizes2 : 1 + (8 + (length p + length x)) ≡ 1 + (8 + (length q + length y)) =
    omega (arith, ap length whole, length-append (eight_bytes (length p)) (p ++ x), length-append p x, length-eight (length p), length-append (eight_bytes (length q)) (q ++ y), length-append q y, length-eight (length q)) in
    let fits : FitsEight (length p) = omega (arith, sizes, small) in
    let fits2 : FitsEight (length q) = omega (arith, sizes, sizes2, small) in
    let same = eight_code.unique (length p) (length q) (p ++ x) (q ++ y) fits fits2 (ap (drop 1) whole) in
    let head : p ≡ q = sym (take_at p x (length p) refl) ∙ ap (take (length p)) same.1 ∙ take_at q y (length p) (sym same.0) in
    let tail : x ≡ y = sym (drop_at p x (length p) refl) ∙ ap (drop (length p)) same.1 ∙ drop_at q y (length p) (sym same.0) in
    let rest : ps ≡ qs = one_list ps qs g h r s shut shut2 (omega (arith, sizes, small)) tail in
    ap (λ a. a ∷ ps) head ∙ ap (λ l. q ∷ l) rest

behind_header : (name : List ℕ) (ps : List (List ℕ)) (g : ℕ) (r image : List ℕ) → length name ≡ 7 → image ≡ front_of name ps ++ g ∷ r → drop 8 image ≡ open_blocks ps ++ g ∷ r
unfolding front_of
behind_header name ps g r image seven e =
    ap (drop 8) (e ∙ append_assoc (1 ∷ name) (open_blocks ps) (g ∷ r)) ∙ drop_at (1 ∷ name) (open_blocks ps ++ g ∷ r) 8 (omega (arith, seven))

not_torn : (names ps : List (List ℕ)) (image : List ℕ) → HasBlocks names ps image → IsTornCreation image → ⊥
unfolding front_of
not_torn names ps image has torn = by_torn torn
  where
    whole : image ≡ 1 ∷ (has.name ++ (open_blocks ps ++ has.gate ∷ has.rest))
    whole = has.file ∙ append_assoc (1 ∷ has.name) (open_blocks ps) (has.gate ∷ has.rest)

    by_torn : IsTornCreation image → ⊥
    by_torn (inl lt) = omega (arith, lt, ap length whole, length-append has.name (open_blocks ps ++ has.gate ∷ has.rest), length-append (open_blocks ps) (has.gate ∷ has.rest), has.named.seven)
    by_torn (inr (nine, shut)) = shut (ap (λ l. get_or l 0 0) whole)

pub one_text : (names ps qs : List (List ℕ)) (image : List ℕ) → length image < 2 ^ 64 → StandsFor names ps image → StandsFor names qs image → ps ≡ qs
one_text names ps qs image small (inl a) (inl b) =
    let x = behind_header a.name ps a.gate a.rest image a.named.seven a.file in
    let y = behind_header b.name qs b.gate b.rest image b.named.seven b.file in
    one_list ps qs a.gate b.gate a.rest b.rest a.closed b.closed (omega (arith, ap length (sym x), length-drop 8 image, small)) (sym x ∙ y)
one_text names ps qs image small (inl a) (inr torn) = absurd (not_torn names ps image a torn.1)
one_text names ps qs image small (inr torn) (inl b) = absurd (not_torn names qs image b torn.1)
one_text names ps qs image small (inr a) (inr b) = a.0 ∙ sym b.0
