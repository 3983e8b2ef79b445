-- Texts, rows and lists are codes, and what is read of a row step by step.
use Rattle.std.proofs.Common.{◌≡◌, ℕ, ◌+◌, ◌-◌, ◌<◌, ◌≤◌, ◌^◌, List, [], ◌∷◌, ◌++◌, length, take, drop, Option, Some, None, refl, sym, ap, subst, ◌∙◌, arith, append_assoc, append-nil, length-append, length-drop, take-append-drop, All}
use Rattle.std.specs.List.{flat_map}
use Rattle.std.proofs.lemmas.List.{drop_at, take_at, length-take-le}
use Rattle.std.proofs.lemmas.List.Concat.{flat_map-append}
use Rattle.std.proofs.lemmas.List.Elements.{All-head, All-tail}
use Rattle.byte_fields.specs.Codes.{BeginsAt, IsReadAt, IsCode}
use Rattle.byte_fields.specs.Encodings.{FitsFour, four_bytes, IsShort, text_bytes, IsListOf, IsListWithin, CountsMore, list_bytes}
use Rattle.byte_fields.proofs.Codes.{begins_from, begins_both, begins_first, begins_second, begins_as, narrow_code, one_reading}
use Rattle.byte_fields.proofs.Numbers.{four_code}

-- two texts of one length behind each other
same_fronts : {A : Type 0} (w v s t : List A) → length w ≡ length v → w ++ s ≡ v ++ t → (w ≡ v) × (s ≡ t)
same_fronts w v s t e h =
    (sym (take_at w s (length v) e) ∙ ap (take (length v)) h ∙ take_at v t (length v) refl, sym (drop_at w s (length v) e) ∙ ap (drop (length v)) h ∙ drop_at v t (length v) refl)

pub text_code : IsCode IsShort text_bytes
unfolding text_bytes
text_code = record {
  unique = λ x y s t v w h.
      let one = four_code.unique (length x) (length y) (x ++ s) (y ++ t) v w (sym (append_assoc (four_bytes (length x)) x s) ∙ h ∙ append_assoc (four_bytes (length y)) y t) in
      same_fronts x y s t one.0 one.1;
}

-- what is read of a text: its length, and then so many bytes, if they are there
pub text_no_length : (bytes : List ℕ) (place : ℕ) → IsReadAt FitsFour four_bytes bytes place None → IsReadAt IsShort text_bytes bytes place None
unfolding text_bytes
text_no_length bytes place none = λ x m v a. none (length x) (place + length (four_bytes (length x))) v (begins_first bytes (four_bytes (length x)) x place m a)

pub text_too_short : (bytes : List ℕ) (place n count : ℕ) → IsReadAt FitsFour four_bytes bytes place (Some (count, n)) → length bytes - n < count → IsReadAt IsShort text_bytes bytes place None
unfolding text_bytes
text_too_short bytes place n count r lt = λ x m v a.
    let same = one_reading FitsFour four_bytes four_code bytes place count (length x) n (place + length (four_bytes (length x))) r.0 v r.1 (begins_first bytes (four_bytes (length x)) x place m a) in
    let second = begins_second bytes (four_bytes (length x)) x place m a in
    absurd (omega (arith, same.0, same.1, second.behind, second.inside, lt))

pub text_there : (bytes : List ℕ) (place n count : ℕ) → IsReadAt FitsFour four_bytes bytes place (Some (count, n)) → count ≤ length bytes - n → IsReadAt IsShort text_bytes bytes place (Some (take count (drop n bytes), n + count))
unfolding text_bytes
text_there bytes place n count r le =
    let text = take count (drop n bytes) in
    let size : length text ≡ count = length-take-le count (drop n bytes) (omega (arith, length-drop n bytes)) in
    let second = begins_from bytes text (drop count (drop n bytes)) n (sym (take-append-drop count (drop n bytes))) r.1.inside in (
      omega (arith, size, r.0),
      begins_both bytes (four_bytes (length text)) text place n (n + count)
          (begins_as bytes (four_bytes count) (four_bytes (length text)) place n n (ap four_bytes (sym size)) refl r.1)
          (begins_as bytes text text n (n + length text) (n + count) refl (ap (λ k. n + k) size) second),
    )

module _ {A : Type 0} (V : A → Type 0) (e : A → List ℕ) where
  -- so many in a row
  abbrev pub IsRow : ℕ → List A → Type 0
  IsRow n xs = (length xs ≡ n) × All V xs

  pub row_unique : IsCode V e → (xs ys : List A) (s t : List ℕ) → length xs ≡ length ys → All V xs → All V ys → flat_map e xs ++ s ≡ flat_map e ys ++ t → (xs ≡ ys) × (s ≡ t)
  row_unique code [] [] s t n v w h = (refl, h)
  row_unique code [] (y ∷ ys) s t n v w h = absurd (omega (arith, n))
  row_unique code (x ∷ xs) [] s t n v w h = absurd (omega (arith, n))
  row_unique code (x ∷ xs) (y ∷ ys) s t n v w h =
      let one = code.unique x y (flat_map e xs ++ s) (flat_map e ys ++ t) (All-head V x xs v) (All-head V y ys w) (sym (append_assoc (e x) (flat_map e xs) s) ∙ h ∙ append_assoc (e y) (flat_map e ys) t) in
      let more = row_unique code xs ys s t (omega (arith, n)) (All-tail V x xs v) (All-tail V y ys w) one.1 in
      let first = one.0 in
      let rest = more.0 in
      (cc, more.1)

  pub list_code : IsCode V e → IsCode (IsListOf V) (list_bytes e)
  unfolding list_bytes
  list_code code = record {
    unique = λ xs ys s t v w h.
        let one = four_code.unique (length xs) (length ys) (flat_map e xs ++ s) (flat_map e ys ++ t) v.0 w.0 (sym (append_assoc (four_bytes (length xs)) (flat_map e xs) s) ∙ h ∙ append_assoc (four_bytes (length ys)) (flat_map e ys) t) in
        row_unique code xs ys s t one.0 v.1 w.1 one.1;
  }

  -- of two rows that one list begins with, the longer goes on from the shorter
  pub row_goes_on : IsCode V e → (xs ys : List A) (s t : List ℕ) → length xs ≤ length ys → All V xs → All V ys → flat_map e xs ++ s ≡ flat_map e ys ++ t
      → (zs : List A) × (ys ≡ xs ++ zs) × (All V zs) × (s ≡ flat_map e zs ++ t)
  row_goes_on code [] ys s t n v w h = (ys, refl, w, h)
  row_goes_on code (x ∷ xs) [] s t n v w h = absurd (omega (arith, n))
  row_goes_on code (x ∷ xs) (y ∷ ys) s t n v w h =
      let one = code.unique x y (flat_map e xs ++ s) (flat_map e ys ++ t) (All-head V x xs v) (All-head V y ys w) (sym (append_assoc (e x) (flat_map e xs) s) ∙ h ∙ append_assoc (e y) (flat_map e ys) t) in
      let (zs, is, all, rest) = row_goes_on code xs ys s t (omega (arith, n)) (All-tail V x xs v) (All-tail V y ys w) one.1 in
      let first = one.0 in
      (zs, cc, all, rest)

  -- one more in a row
  pub row_more : (bytes : List ℕ) (place n m : ℕ) (xs : List A) (x : A) → BeginsAt bytes place (flat_map e xs) n → BeginsAt bytes n (e x) m → BeginsAt bytes place (flat_map e (xs ++ x ∷ [])) m
  row_more bytes place n m xs x a b =
      let one : flat_map e (x ∷ []) ≡ e x = append-nil (e x) in
      begins_as bytes (flat_map e xs ++ e x) (flat_map e (xs ++ x ∷ [])) place m m (ap (λ l. flat_map e xs ++ l) (sym one) ∙ sym (flat_map-append e xs (x ∷ []))) refl (begins_both bytes (flat_map e xs) (e x) place n m a b)

  -- where the next is not there, neither is the row
  pub row_stops : IsCode V e → (count : ℕ) (bytes : List ℕ) (place n : ℕ) (xs : List A) → BeginsAt bytes place (flat_map e xs) n → All V xs → length xs < count → IsReadAt V e bytes n None → IsReadAt (IsRow count) (flat_map e) bytes place None
  row_stops code count bytes place n xs a v lt none = λ ys m w b.
      let (zs, is, all, rest) = row_goes_on code xs ys (drop n bytes) (drop m bytes) (omega (arith, w.0)) v w.1 (sym a.there ∙ b.there) in
      next zs m all rest (omega (arith, w.0, ap length is, length-append xs zs))
    where
      next : (zs : List A) (m : ℕ) → All V zs → drop n bytes ≡ flat_map e zs ++ drop m bytes → 0 < length zs → ⊥
      next [] m all rest some = absurd (omega (arith, some))
      next (z ∷ zs) m all rest some =
          none z (n + length (e z)) (All-head V z zs all) (begins_from bytes (e z) (flat_map e zs ++ drop m bytes) n (rest ∙ append_assoc (e z) (flat_map e zs) (drop m bytes)) a.inside)

  -- a list is its count and a row of so many
  pub list_read : (bytes : List ℕ) (place n : ℕ) (count : ℕ) (xs : List A) (m : ℕ) → IsReadAt FitsFour four_bytes bytes place (Some (count, n)) → IsReadAt (IsRow count) (flat_map e) bytes n (Some (xs, m)) → IsReadAt (IsListOf V) (list_bytes e) bytes place (Some (xs, m))
  unfolding list_bytes
  list_read bytes place n count xs m a b =
      let small : length xs < 2 ^ 32 = omega (arith, a.0, b.0.0) in
      ((small, b.0.1), begins_both bytes (four_bytes (length xs)) (flat_map e xs) place n m (begins_as bytes (four_bytes count) (four_bytes (length xs)) place n n (ap four_bytes (sym b.0.0)) refl a.1) b.1)

  pub list_no_count : (bytes : List ℕ) (place : ℕ) → IsReadAt FitsFour four_bytes bytes place None → IsReadAt (IsListOf V) (list_bytes e) bytes place None
  unfolding list_bytes
  list_no_count bytes place none = λ xs m v a. none (length xs) (place + length (four_bytes (length xs))) v.0 (begins_first bytes (four_bytes (length xs)) (flat_map e xs) place m a)

  pub list_no_row : (bytes : List ℕ) (place n count : ℕ) → IsReadAt FitsFour four_bytes bytes place (Some (count, n)) → IsReadAt (IsRow count) (flat_map e) bytes n None → IsReadAt (IsListOf V) (list_bytes e) bytes place None
  unfolding list_bytes
  list_no_row bytes place n count r none = λ xs m v a.
      let same = one_reading FitsFour four_bytes four_code bytes place count (length xs) n (place + length (four_bytes (length xs))) r.0 v.0 r.1 (begins_first bytes (four_bytes (length xs)) (flat_map e xs) place m a) in
      none xs m (sym same.0, v.1) (subst (λ k. BeginsAt bytes k (flat_map e xs) m) (sym same.1) (begins_second bytes (four_bytes (length xs)) (flat_map e xs) place m a))

  pub list_from_row : IsCode V e → (bytes : List ℕ) (place n count : ℕ) (found : Option (List A × ℕ)) → IsReadAt FitsFour four_bytes bytes place (Some (count, n)) → IsReadAt (IsRow count) (flat_map e) bytes n found → IsReadAt (IsListOf V) (list_bytes e) bytes place found
  list_from_row code bytes place n count None a b = list_no_row bytes place n count a b
  list_from_row code bytes place n count (Some p) a b = list_read bytes place n count p.0 p.1 a b

  -- a list of few items is read as a list, and one of more is not there
  pub list_within : (most : ℕ) (bytes : List ℕ) (place n count : ℕ) (found : Option (List A × ℕ)) → IsCode V e → count ≤ most → IsReadAt FitsFour four_bytes bytes place (Some (count, n)) → IsReadAt (IsRow count) (flat_map e) bytes n found
      → IsReadAt (IsListWithin most V) (list_bytes e) bytes place found
  list_within most bytes place n count None code le a b = λ xs m v s. list_no_row bytes place n count a b xs m v.0 s
  list_within most bytes place n count (Some p) code le a b =
      let read = list_read bytes place n count p.0 p.1 a b in
      ((read.0, omega (arith, b.0.0, le)), read.1)

  pub list_too_long : (most : ℕ) (bytes : List ℕ) (place n count : ℕ) → IsReadAt FitsFour four_bytes bytes place (Some (count, n)) → most < count → IsReadAt (IsListWithin most V) (list_bytes e) bytes place None
  unfolding list_bytes
  list_too_long most bytes place n count r lt = λ xs m v a.
      let same = one_reading FitsFour four_bytes four_code bytes place count (length xs) n (place + length (four_bytes (length xs))) r.0 v.0.0 r.1 (begins_first bytes (four_bytes (length xs)) (flat_map e xs) place m a) in
      omega (arith, same.0, v.1, lt)

  pub within_no_count : (most : ℕ) (bytes : List ℕ) (place : ℕ) → IsReadAt FitsFour four_bytes bytes place None → IsReadAt (IsListWithin most V) (list_bytes e) bytes place None
  within_no_count most bytes place none = λ xs m v a. list_no_count bytes place none xs m v.0 a

  pub within_code : (most : ℕ) → IsCode V e → IsCode (IsListWithin most V) (list_bytes e)
  within_code most code = narrow_code (IsListOf V) (list_bytes e) (list_code code) (IsListWithin most V) (λ xs v. v.0)

-- a count that is read is the one that stands there
pub counts_here : (most : ℕ) (bytes : List ℕ) (place n count : ℕ) → IsReadAt FitsFour four_bytes bytes place (Some (count, n)) → CountsMore most bytes place → most < count
counts_here most bytes place n count r (other, next, fits, more, there) =
    let same = one_reading FitsFour four_bytes four_code bytes place count other n next r.0 fits r.1 there in
    omega (arith, same.0, more)
