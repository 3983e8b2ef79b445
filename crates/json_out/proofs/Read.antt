-- What a string says.
use Rattle.std.proofs.Common.{◌≡◌, ℕ, ◌+◌, ◌*◌, ◌/◌, ◌%◌, ◌<◌, ◌≤◌, ◌==◌, nat_lt, List, [], ◌∷◌, ◌++◌, Bool, true, false, cond, Some, None, refl, sym, ap, ◌∙◌, subst, arith, inl, inr}
use Rattle.std.specs.List.{flat_map}
use Rattle.std.proofs.lemmas.Bool.Decides.{nat_tests}
use Rattle.std.proofs.lemmas.List.{append_cancel_right}
use Rattle.json_out.specs.Strings.{hexadecimal, escape, string_text, short_escape, IsDigit, IsChar, AreChars, IsString}

is_same : (c d : ℕ) → (c == d) ≡ true → c ≡ d
is_same c d e = grind (arith, nat_tests)

is_other : (c d : ℕ) → (c == d) ≡ false → c ≡ d → ⊥
is_other c d e = grind (arith, nat_tests)

is_below : (c d : ℕ) → nat_lt c d ≡ true → c < d
is_below c d e = grind (arith, nat_tests)

is_from : (c d : ℕ) → nat_lt c d ≡ false → d ≤ c
is_from c d e = grind (arith, nat_tests)

digit_by : (n : ℕ) (b : Bool) → nat_lt n 10 ≡ b → n < 16 → IsDigit n (cond b (48 + n) (87 + n))
digit_by n true e lt = inl (is_below n 10 e, refl)
digit_by n false e lt = inr (inr (is_from n 10 e, lt, refl))

digit : (n : ℕ) → n < 16 → IsDigit n (hexadecimal n)
digit n lt = digit_by n (nat_lt n 10) refl lt

char_by : (c : ℕ) (q b k : Bool) → (c == 34) ≡ q → (c == 92) ≡ b → nat_lt c 32 ≡ k
    → IsChar c (cond q (92 ∷ 34 ∷ []) (cond b (92 ∷ 92 ∷ []) (cond k (92 ∷ 117 ∷ 48 ∷ 48 ∷ hexadecimal (c / 16) ∷ hexadecimal (c % 16) ∷ []) (c ∷ []))))
char_by c true b k e f g = inr (inl (34, ap Some (sym (is_same c 34 e)), refl))
char_by c false true k e f g = inr (inl (92, ap Some (sym (is_same c 92 f)), refl))
char_by c false false true e f g =
    let lt : c < 32 = is_below c 32 g in
    let high : c / 16 < 8 = omega arith in
    inr (inr (c / 16, c % 16, hexadecimal (c / 16), hexadecimal (c % 16), high, omega arith, digit (c / 16) (omega arith), digit (c % 16) (omega arith), refl))
char_by c false false false e f g = inl (is_from c 32 g, is_other c 34 e, is_other c 92 f, refl)

char : (c : ℕ) → IsChar c (escape c)
char c = char_by c (c == 34) (c == 92) (nat_lt c 32) refl refl refl

chars : (s : List ℕ) → AreChars s (flat_map escape s)
chars [] = refl
chars (c ∷ s) = (escape c, flat_map escape s, char c, chars s, refl)

-- what the writer writes says what it was given
pub reads_back : (s : List ℕ) → IsString s (string_text s)
reads_back s = (flat_map escape s, chars s, refl)

same_digit : (m n d e : ℕ) → IsDigit m d → IsDigit n e → d ≡ e → m ≡ n
same_digit m n d e (inl (a, p)) (inl (b, q)) h = omega arith
same_digit m n d e (inl (a, p)) (inr (inl (b, b', q))) h = omega arith
same_digit m n d e (inl (a, p)) (inr (inr (b, b', q))) h = omega arith
same_digit m n d e (inr (inl (a, a', p))) (inl (b, q)) h = omega arith
same_digit m n d e (inr (inl (a, a', p))) (inr (inl (b, b', q))) h = omega arith
same_digit m n d e (inr (inl (a, a', p))) (inr (inr (b, b', q))) h = omega arith
same_digit m n d e (inr (inr (a, a', p))) (inl (b, q)) h = omega arith
same_digit m n d e (inr (inr (a, a', p))) (inr (inl (b, b', q))) h = omega arith
same_digit m n d e (inr (inr (a, a', p))) (inr (inr (b, b', q))) h = omega arith

both : (a b x y a' b' : List ℕ) → a ++ x ≡ b ++ y → a ≡ a' → b ≡ b' → a' ++ x ≡ b' ++ y
both a b x y a' b' e p q = ap (λ l. l ++ x) (sym p) ∙ e ∙ ap (λ l. l ++ y) q

-- a long escape is no short one
not_long : (m c : ℕ) → short_escape m ≡ Some c → m ≡ 117 → ⊥
not_long m c f e =
    let none : short_escape 117 ≡ None = refl in
    let n : short_escape 117 ≡ Some c = ap short_escape (sym e) ∙ f in
    let clash : None ≡ Some c = sym none ∙ n in
    cc

same_long : (c d h l k m a b a' b' : ℕ) → c ≡ 16 * h + l → d ≡ 16 * k + m → IsDigit h a → IsDigit l b → IsDigit k a' → IsDigit m b' → a ≡ a' → b ≡ b' → c ≡ d
same_long c d h l k m a b a' b' ec ed ha lb ka mb p q = omega (arith, same_digit h k a a' ha ka p, same_digit l m b b' lb mb q)

-- of two texts that begin with a character and are the same the characters say the same
first_char : (c d : ℕ) (a b x y : List ℕ) → IsChar c a → IsChar d b → a ++ x ≡ b ++ y → (c ≡ d) × (x ≡ y)
first_char c d a b x y (inl (h, q, r, p)) (inl (h', q', r', p')) e = let k : c ∷ x ≡ d ∷ y = both a b x y (c ∷ []) (d ∷ []) e p p' in (cc, cc)
first_char c d a b x y (inl (h, q, r, p)) (inr (inl (n, f, p'))) e = let k : c ∷ x ≡ 92 ∷ n ∷ y = both a b x y (c ∷ []) (92 ∷ n ∷ []) e p p' in absurd (r (cc))
first_char c d a b x y (inl (h, q, r, p)) (inr (inr (k', m', u', v', lt', s', hu', mv', p'))) e =
    let k : c ∷ x ≡ 92 ∷ 117 ∷ 48 ∷ 48 ∷ u' ∷ v' ∷ y = both a b x y (c ∷ []) (92 ∷ 117 ∷ 48 ∷ 48 ∷ u' ∷ v' ∷ []) e p p' in absurd (r (cc))
first_char c d a b x y (inr (inl (m, f, p))) (inl (h', q', r', p')) e = let k : 92 ∷ m ∷ x ≡ d ∷ y = both a b x y (92 ∷ m ∷ []) (d ∷ []) e p p' in absurd (r' (cc))
first_char c d a b x y (inr (inl (m, f, p))) (inr (inl (n, f', p'))) e =
    let k : 92 ∷ m ∷ x ≡ 92 ∷ n ∷ y = both a b x y (92 ∷ m ∷ []) (92 ∷ n ∷ []) e p p' in
    let mn : m ≡ n = cc in
    let same : Some c ≡ Some d = sym f ∙ ap short_escape mn ∙ f' in
    (cc, cc)
first_char c d a b x y (inr (inl (m, f, p))) (inr (inr (k', m', u', v', lt', s', hu', mv', p'))) e =
    let k : 92 ∷ m ∷ x ≡ 92 ∷ 117 ∷ 48 ∷ 48 ∷ u' ∷ v' ∷ y = both a b x y (92 ∷ m ∷ []) (92 ∷ 117 ∷ 48 ∷ 48 ∷ u' ∷ v' ∷ []) e p p' in absurd (not_long m c f (cc))
first_char c d a b x y (inr (inr (h, l, u, v, lt, s, hu, lv, p))) (inl (h', q', r', p')) e =
    let k : 92 ∷ 117 ∷ 48 ∷ 48 ∷ u ∷ v ∷ x ≡ d ∷ y = both a b x y (92 ∷ 117 ∷ 48 ∷ 48 ∷ u ∷ v ∷ []) (d ∷ []) e p p' in absurd (r' (cc))
first_char c d a b x y (inr (inr (h, l, u, v, lt, s, hu, lv, p))) (inr (inl (n, f', p'))) e =
    let k : 92 ∷ 117 ∷ 48 ∷ 48 ∷ u ∷ v ∷ x ≡ 92 ∷ n ∷ y = both a b x y (92 ∷ 117 ∷ 48 ∷ 48 ∷ u ∷ v ∷ []) (92 ∷ n ∷ []) e p p' in absurd (not_long n d f' (cc))
first_char c d a b x y (inr (inr (h, l, u, v, lt, s, hu, lv, p))) (inr (inr (k', m', u', v', lt', s', hu', mv', p'))) e =
    let k : 92 ∷ 117 ∷ 48 ∷ 48 ∷ u ∷ v ∷ x ≡ 92 ∷ 117 ∷ 48 ∷ 48 ∷ u' ∷ v' ∷ y = both a b x y (92 ∷ 117 ∷ 48 ∷ 48 ∷ u ∷ v ∷ []) (92 ∷ 117 ∷ 48 ∷ 48 ∷ u' ∷ v' ∷ []) e p p' in
    let uu : u ≡ u' = cc in
    let vv : v ≡ v' = cc in
    (same_long c d h l k' m' u v u' v' s s' hu lv hu' mv' uu vv, cc)

some_byte : (c : ℕ) (a b : List ℕ) → IsChar c a → [] ≡ a ++ b → ⊥
some_byte c a b (inl (h, q, r, p)) e = let k : [] ≡ c ∷ b = e ∙ ap (λ l. l ++ b) p in cc
some_byte c a b (inr (inl (m, f, p))) e = let k : [] ≡ 92 ∷ m ∷ b = e ∙ ap (λ l. l ++ b) p in cc
some_byte c a b (inr (inr (h, l, u, v, lt, s, hu, lv, p))) e = let k : [] ≡ 92 ∷ 117 ∷ 48 ∷ 48 ∷ u ∷ v ∷ b = e ∙ ap (λ m. m ++ b) p in cc

same_chars : (s t bytes : List ℕ) → AreChars s bytes → AreChars t bytes → s ≡ t
same_chars [] [] bytes h k = refl
same_chars [] (d ∷ t) bytes h (a, b, ch, rest, e) = absurd (some_byte d a b ch (sym h ∙ e))
same_chars (c ∷ s) [] bytes (a, b, ch, rest, e) k = absurd (some_byte c a b ch (sym k ∙ e))
same_chars (c ∷ s) (d ∷ t) bytes (a, b, ch, rest, e) (a', b', ch', rest', e') =
    let (same, behind) = first_char c d a a' b b' ch ch' (sym e ∙ e') in
    let tails : s ≡ t = same_chars s t b rest (subst (AreChars t) (sym behind) rest') in
    cc

-- a string says one thing
pub says_one : (s t bytes : List ℕ) → IsString s bytes → IsString t bytes → s ≡ t
says_one s t bytes (inside, chars_, e) (inside', chars', e') =
    let ends : 34 ∷ (inside ++ 34 ∷ []) ≡ 34 ∷ (inside' ++ 34 ∷ []) = sym e ∙ e' in
    let open_ : inside ++ 34 ∷ [] ≡ inside' ++ 34 ∷ [] = cc in
    let same : inside ≡ inside' = append_cancel_right inside inside' (34 ∷ []) open_ in
    same_chars s t inside chars_ (subst (AreChars t) (sym same) chars')
