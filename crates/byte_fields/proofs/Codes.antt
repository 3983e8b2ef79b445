-- Laws of what begins at a place, and of codes.
use Rattle.std.proofs.Common.{◌≡◌, ℕ, ◌+◌, ◌≤◌, List, [], ◌∷◌, ◌++◌, length, drop, Option, Some, None, Bool, true, false, refl, sym, ap, subst, ◌∙◌, arith, append_assoc, length-append, length-drop}
use Rattle.std.proofs.lemmas.List.{drop-drop, drop_at}
use Rattle.rtb_num.proofs.Plain.{heads, tails, both_same}
use Rattle.byte_fields.specs.Codes.{BeginsAt, IsReadAt, IsCode, BothValid, both_bytes}
use Rattle.byte_fields.specs.Encodings.{IsOptionOf, option_bytes, IsFlag, flag_bytes}

-- what stands behind a word is the rest
rest_is : (bytes word rest : List ℕ) (place : ℕ) → drop place bytes ≡ word ++ rest → rest ≡ drop (place + length word) bytes
rest_is bytes word rest place e =
    sym (drop_at word rest (length word) refl) ∙ ap (drop (length word)) (sym e) ∙ drop-drop (length word) place bytes

-- a word that the bytes go on with begins there
pub begins_from : (bytes word rest : List ℕ) (place : ℕ) → drop place bytes ≡ word ++ rest → place ≤ length bytes → BeginsAt bytes place word (place + length word)
begins_from bytes word rest place e le =
    let sizes : length (drop place bytes) ≡ length word + length rest = ap length e ∙ length-append word rest in
    let left = length-drop place bytes in
    record { there = e ∙ ap (λ r. word ++ r) (rest_is bytes word rest place e); behind = refl; inside = omega arith }

-- nothing has been read yet
pub begins_empty : (bytes : List ℕ) (place : ℕ) → place ≤ length bytes → BeginsAt bytes place [] place
begins_empty bytes place le = record { there = refl; behind = omega arith; inside = le }

-- two words in a row
pub begins_both : (bytes w v : List ℕ) (place n m : ℕ) → BeginsAt bytes place w n → BeginsAt bytes n v m → BeginsAt bytes place (w ++ v) m
begins_both bytes w v place n m a b = record {
  there = a.there ∙ ap (λ r. w ++ r) b.there ∙ sym (append_assoc w v (drop m bytes));
  behind = omega (arith, a.behind, b.behind, length-append w v);
  inside = b.inside;
}

-- and apart again
pub begins_first : (bytes w v : List ℕ) (place m : ℕ) → BeginsAt bytes place (w ++ v) m → BeginsAt bytes place w (place + length w)
begins_first bytes w v place m a =
    let sizes = length-append w v in
    begins_from bytes w (v ++ drop m bytes) place (a.there ∙ append_assoc w v (drop m bytes)) (omega (arith, a.behind, a.inside))

pub begins_second : (bytes w v : List ℕ) (place m : ℕ) → BeginsAt bytes place (w ++ v) m → BeginsAt bytes (place + length w) v m
begins_second bytes w v place m a = record {
  there = sym (rest_is bytes w (v ++ drop m bytes) place (a.there ∙ append_assoc w v (drop m bytes)));
  behind = omega (arith, a.behind, length-append w v);
  inside = a.inside;
}

-- the word may be said otherwise
pub begins_as : (bytes w v : List ℕ) (place n m : ℕ) → w ≡ v → n ≡ m → BeginsAt bytes place w n → BeginsAt bytes place v m
begins_as bytes w v place n m e f a = subst (λ u. BeginsAt bytes place u m) e (subst (λ k. BeginsAt bytes place w k) f a)

-- what was put behind some bytes begins at their end
pub begins_put : (front word back : List ℕ) → BeginsAt ((front ++ word) ++ back) (length front) word (length front + length word)
begins_put front word back =
    let whole : drop (length front) ((front ++ word) ++ back) ≡ word ++ back =
    ap (drop (length front)) (append_assoc front word back) ∙ drop_at front (word ++ back) (length front) refl in
    begins_from ((front ++ word) ++ back) word back (length front) whole (omega (arith, length-append (front ++ word) back, length-append front word))

pub same_pair : {A B : Type 0} (p q : A × B) → p.0 ≡ q.0 → p.1 ≡ q.1 → p ≡ q
same_pair p q e f = both_same p.0 q.0 p.1 q.1 e f

module _ {A : Type 0} (V : A → Type 0) (e : A → List ℕ) where
  -- what begins at a place is one thing, and ends at one place
  pub one_reading : IsCode V e → (bytes : List ℕ) (place : ℕ) (x y : A) (n m : ℕ) → V x → V y → BeginsAt bytes place (e x) n → BeginsAt bytes place (e y) m → (x ≡ y) × (n ≡ m)
  one_reading code bytes place x y n m v w a b =
      let same = code.unique x y (drop n bytes) (drop m bytes) v w (sym a.there ∙ b.there) in
      (same.0, omega (arith, a.behind, b.behind, ap (λ z. length (e z)) same.0))

  -- what is read is what was put
  pub read_one : IsCode V e → (bytes : List ℕ) (place : ℕ) (found : Option (A × ℕ)) (x : A) (n : ℕ) → IsReadAt V e bytes place found → V x → BeginsAt bytes place (e x) n → found ≡ Some (x, n)
  read_one code bytes place None x n r v a = absurd (r x n v a)
  read_one code bytes place (Some p) x n r v a =
      let same = one_reading code bytes place p.0 x p.1 n r.0 v r.1 a in
      ap Some (same_pair p (x, n) same.0 same.1)

  pub read_again : IsCode V e → (front back : List ℕ) (x : A) (found : Option (A × ℕ)) → V x → IsReadAt V e ((front ++ e x) ++ back) (length front) found → found ≡ Some (x, length front + length (e x))
  read_again code front back x found v r = read_one code ((front ++ e x) ++ back) (length front) found x (length front + length (e x)) r v (begins_put front (e x) back)

  -- what is read and refused: nothing that is accepted begins there
  pub read_narrow : IsCode V e → (W : A → Type 0) → ((x : A) → W x → V x) → (bytes : List ℕ) (place : ℕ) (x : A) (n : ℕ) → IsReadAt V e bytes place (Some (x, n)) → (W x → ⊥) → IsReadAt W e bytes place None
  read_narrow code W weaker bytes place x n r refuses =
      λ y m w a. refuses (subst W (sym (one_reading code bytes place x y n m r.0 (weaker y w) r.1 a).0) w)

  pub narrow_code : IsCode V e → (W : A → Type 0) → ((x : A) → W x → V x) → IsCode W e
  narrow_code code W weaker = record { unique = λ x y s t v w h. code.unique x y s t (weaker x v) (weaker y w) h }

module _ {A B : Type 0} (V : A → Type 0) (e : A → List ℕ) (W : B → Type 0) (f : B → List ℕ) where
  pub both_code : IsCode V e → IsCode W f → IsCode (BothValid V W) (both_bytes e f)
  both_code code next = record {
    unique = λ p q s t v w h.
        let one = code.unique p.0 q.0 (f p.1 ++ s) (f q.1 ++ t) v.0 w.0 (sym (append_assoc (e p.0) (f p.1) s) ∙ h ∙ append_assoc (e q.0) (f q.1) t) in
        let two = next.unique p.1 q.1 s t v.1 w.1 one.1 in
        (same_pair p q one.0 two.0, two.1);
  }

  pub read_no_first : (bytes : List ℕ) (place : ℕ) → IsReadAt V e bytes place None → IsReadAt (BothValid V W) (both_bytes e f) bytes place None
  read_no_first bytes place none = λ p m v a. none p.0 (place + length (e p.0)) v.0 (begins_first bytes (e p.0) (f p.1) place m a)

  pub read_no_second : IsCode V e → (bytes : List ℕ) (place : ℕ) (x : A) (n : ℕ) → IsReadAt V e bytes place (Some (x, n)) → IsReadAt W f bytes n None → IsReadAt (BothValid V W) (both_bytes e f) bytes place None
  read_no_second code bytes place x n r none = λ p m v a.
      let same = one_reading V e code bytes place x p.0 n (place + length (e p.0)) r.0 v.0 r.1 (begins_first bytes (e p.0) (f p.1) place m a) in
      none p.1 m v.1 (subst (λ k. BeginsAt bytes k (f p.1) m) (sym same.1) (begins_second bytes (e p.0) (f p.1) place m a))

  pub read_both : (bytes : List ℕ) (place : ℕ) (x : A) (n : ℕ) (y : B) (m : ℕ) → IsReadAt V e bytes place (Some (x, n)) → IsReadAt W f bytes n (Some (y, m)) → IsReadAt (BothValid V W) (both_bytes e f) bytes place (Some ((x, y), m))
  read_both bytes place x n y m a b = ((a.0, b.0), begins_both bytes (e x) (f y) place n m a.1 b.1)

  -- one encoding by way of another: `to` and `from` undo each other on what is valid, and keep the bytes
  pub read_as : (to : A → B) (from : B → A) → ((x : A) → V x → W (to x)) → ((y : B) → W y → V (from y)) → ((x : A) → V x → e x ≡ f (to x)) → ((y : B) → W y → f y ≡ e (from y))
      → (bytes : List ℕ) (place : ℕ) (x : A) (n : ℕ) → IsReadAt V e bytes place (Some (x, n)) → IsReadAt W f bytes place (Some (to x, n))
  read_as to from valid back same again bytes place x n r = (valid x r.0, begins_as bytes (e x) (f (to x)) place n n (same x r.0) refl r.1)

  pub read_none_as : (from : B → A) → ((y : B) → W y → V (from y)) → ((y : B) → W y → f y ≡ e (from y))
      → (bytes : List ℕ) (place : ℕ) → IsReadAt V e bytes place None → IsReadAt W f bytes place None
  read_none_as from back again bytes place none = λ y m w a. none (from y) m (back y w) (begins_as bytes (f y) (e (from y)) place m m (again y w) refl a)

  pub code_as : IsCode V e → (from : B → A) → ((y : B) → W y → V (from y)) → ((y : B) → W y → f y ≡ e (from y)) → ((y z : B) → W y → W z → from y ≡ from z → y ≡ z) → IsCode W f
  code_as code from back again apart = record {
    unique = λ y z s t v w h.
        let same = code.unique (from y) (from z) s t (back y v) (back z w) (ap (λ l. l ++ s) (sym (again y v)) ∙ h ∙ ap (λ l. l ++ t) (again z w)) in
        (apart y z v w same.0, same.1);
  }

zero_is_not_one : {P : Type 0} (s t : List ℕ) → 0 ∷ s ≡ 1 ∷ t → P
zero_is_not_one s t e = absurd (omega (arith, heads 0 1 s t e))

pub option_code : {A : Type 0} (V : A → Type 0) (e : A → List ℕ) → IsCode V e → IsCode (IsOptionOf V) (option_bytes e)
option_code {A} V e code = record { unique = cases }
  where
    cases : (x y : Option A) (s t : List ℕ) → IsOptionOf V x → IsOptionOf V y → option_bytes e x ++ s ≡ option_bytes e y ++ t → (x ≡ y) × (s ≡ t)
    cases None None s t v w h = (refl, tails 0 0 s t h)
    cases None (Some y) s t v w h = zero_is_not_one s (e y ++ t) h
    cases (Some x) None s t v w h = zero_is_not_one t (e x ++ s) (sym h)
    cases (Some x) (Some y) s t v w h =
        let same = code.unique x y s t v w (tails 1 1 (e x ++ s) (e y ++ t) h) in
        (ap Some same.0, same.1)

pub flag_code : IsCode IsFlag flag_bytes
flag_code = record { unique = cases }
  where
    cases : (x y : Bool) (s t : List ℕ) → IsFlag x → IsFlag y → flag_bytes x ++ s ≡ flag_bytes y ++ t → (x ≡ y) × (s ≡ t)
    cases true true s t v w h = (refl, tails 1 1 s t h)
    cases true false s t v w h = zero_is_not_one t s (sym h)
    cases false true s t v w h = zero_is_not_one s t h
    cases false false s t v w h = (refl, tails 0 0 s t h)

-- one or none is a flag, and the one where it is set
module _ {A : Type 0} (V : A → Type 0) (e : A → List ℕ) where
  pub option_no_flag : (bytes : List ℕ) (place : ℕ) → IsReadAt IsFlag flag_bytes bytes place None → IsReadAt (IsOptionOf V) (option_bytes e) bytes place None
  option_no_flag bytes place none = cases
    where
      cases : (x : Option A) (m : ℕ) → IsOptionOf V x → BeginsAt bytes place (option_bytes e x) m → ⊥
      cases None m v a = none false m tt a
      cases (Some x) m v a = none true (place + 1) tt (begins_first bytes (1 ∷ []) (e x) place m a)

  pub option_is_none : (bytes : List ℕ) (place n : ℕ) → IsReadAt IsFlag flag_bytes bytes place (Some (false, n)) → IsReadAt (IsOptionOf V) (option_bytes e) bytes place (Some (None, n))
  option_is_none bytes place n r = (tt, r.1)

  pub option_is_some : (bytes : List ℕ) (place n : ℕ) (x : A) (m : ℕ) → IsReadAt IsFlag flag_bytes bytes place (Some (true, n)) → IsReadAt V e bytes n (Some (x, m)) → IsReadAt (IsOptionOf V) (option_bytes e) bytes place (Some (Some x, m))
  option_is_some bytes place n x m a b = (b.0, begins_both bytes (1 ∷ []) (e x) place n m a.1 b.1)

  pub option_is_torn : (bytes : List ℕ) (place n : ℕ) → IsReadAt IsFlag flag_bytes bytes place (Some (true, n)) → IsReadAt V e bytes n None → IsReadAt (IsOptionOf V) (option_bytes e) bytes place None
  option_is_torn bytes place n r none = cases
    where
      apart : (m : ℕ) → BeginsAt bytes place (flag_bytes false) m → ⊥
      apart m a = zero_is_not_one (drop m bytes) (drop n bytes) (sym a.there ∙ r.1.there)

      cases : (x : Option A) (m : ℕ) → IsOptionOf V x → BeginsAt bytes place (option_bytes e x) m → ⊥
      cases None m v a = apart m a
      cases (Some x) m v a =
          let first = begins_first bytes (1 ∷ []) (e x) place m a in
          let same = one_reading IsFlag flag_bytes flag_code bytes place true true n (place + 1) tt tt r.1 first in
          none x m v (subst (λ k. BeginsAt bytes k (e x) m) (sym same.1) (begins_second bytes (1 ∷ []) (e x) place m a))

-- three in a row
module _ {A B C : Type 0} (V : A → Type 0) (e : A → List ℕ) (W : B → Type 0) (f : B → List ℕ) (U : C → Type 0) (g : C → List ℕ) where
  pub three_code : IsCode V e → IsCode W f → IsCode U g → IsCode (BothValid (BothValid V W) U) (both_bytes (both_bytes e f) g)
  three_code one two three = both_code (BothValid V W) (both_bytes e f) U g (both_code V e W f one two) three

  pub three_no_first : (bytes : List ℕ) (place : ℕ) → IsReadAt V e bytes place None → IsReadAt (BothValid (BothValid V W) U) (both_bytes (both_bytes e f) g) bytes place None
  three_no_first bytes place none =
      read_no_first (BothValid V W) (both_bytes e f) U g bytes place (read_no_first V e W f bytes place none)

  pub three_no_second : IsCode V e → (bytes : List ℕ) (place : ℕ) (x : A) (n : ℕ) → IsReadAt V e bytes place (Some (x, n)) → IsReadAt W f bytes n None → IsReadAt (BothValid (BothValid V W) U) (both_bytes (both_bytes e f) g) bytes place None
  three_no_second one bytes place x n a none =
      read_no_first (BothValid V W) (both_bytes e f) U g bytes place (read_no_second V e W f one bytes place x n a none)

  pub three_no_third : IsCode V e → IsCode W f → (bytes : List ℕ) (place : ℕ) (x : A) (n : ℕ) (y : B) (m : ℕ) → IsReadAt V e bytes place (Some (x, n)) → IsReadAt W f bytes n (Some (y, m)) → IsReadAt U g bytes m None
      → IsReadAt (BothValid (BothValid V W) U) (both_bytes (both_bytes e f) g) bytes place None
  three_no_third one two bytes place x n y m a b none =
      read_no_second (BothValid V W) (both_bytes e f) U g (both_code V e W f one two) bytes place (x, y) m (read_both V e W f bytes place x n y m a b) none
