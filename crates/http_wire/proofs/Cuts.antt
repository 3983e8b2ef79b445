-- Where a head ends does not depend on what follows it, and a front of some bytes has one head at most.
use Rattle.std.proofs.Common.{◌≡◌, ℕ, zero, suc, ◌+◌, ◌-◌, ◌<◌, ◌≤◌, ◌==◌, ◌&&◌, ◌⊎◌, ◌↔◌, inl, inr, nat_lt, min, Bool, true, false, cond, List, [], ◌∷◌, ◌++◌, length, take, drop, get_or, Option, Some, None, refl, sym, ap, subst, ◌∙◌, append_assoc, length-append, take-append-drop, drop-cons, drop_of_length-le, add-one, arith}
use Rattle.std.specs.Option.{option_map}
use Rattle.std.proofs.lemmas.Bool.{cases_Bool, eqb-true, and_parts, false_from_ne_true}
use Rattle.std.proofs.lemmas.List.{length-take-le, length-take, length-drop, drop-drop, get_or-drop}
use Rattle.std.proofs.lemmas.Bool.Decides.{nat_tests}
use Rattle.std.proofs.lemmas.Grind.{flat_map-append}
use Rattle.std.proofs.lemmas.List.{append-nil}
use Rattle.httparse.specs.Grammar.{LineEnd, crlf, lf, print_end, print_blank}
use Rattle.memchr.specs.Find.{IsFirstByte, is_byte}
use Rattle.http_wire.specs.Heads.{most_head, begins_lf, empty_line, head_end, HasHead, HasNoHead}
use Rattle.http_wire.specs.Lines.{GoesTo, HasNoEnd}

-- ---- lists

-- of two fronts of one list the longer goes on from the shorter
pub goes_on : (a b x y : List ℕ) → a ++ x ≡ b ++ y → length a ≤ length b → (z : List ℕ) × (b ≡ a ++ z) × (x ≡ z ++ y)
goes_on [] b x y e h = (b, refl, e)
goes_on (c ∷ a) [] x y e h = absurd (omega arith)
goes_on (c ∷ a) (d ∷ b) x y e h =
    let first : c ≡ d = cc in
    let rest : a ++ x ≡ b ++ y = cc in
    let short : length a ≤ length b = omega arith in
    let (z, p, q) = goes_on a b x y rest short in
    (z, ap (λ k. k ∷ b) (sym first) ∙ ap (λ k. c ∷ k) p, q)

-- two fronts of one length are one
pub same_front : (a b x y : List ℕ) → a ++ x ≡ b ++ y → length a ≡ length b → (a ≡ b) × (x ≡ y)
same_front [] [] x y e h = (refl, e)
same_front [] (d ∷ b) x y e h = absurd (omega arith)
same_front (c ∷ a) [] x y e h = absurd (omega arith)
same_front (c ∷ a) (d ∷ b) x y e h =
    let first : c ≡ d = cc in
    let rest : a ++ x ≡ b ++ y = cc in
    let long : length a ≡ length b = omega arith in
    let same = same_front a b x y rest long in
    (ap (λ k. c ∷ k) same.0 ∙ ap (λ k. k ∷ b) first, same.1)

mapped_some : (o : Option ℕ) (f : ℕ → ℕ) (n : ℕ) → option_map f o ≡ Some n → (k : ℕ) × (o ≡ Some k) × (f k ≡ n)
mapped_some (Some k) f n e = (k, refl, cc)
mapped_some None f n e = cc

-- ---- empty lines

-- at a last byte, which may be LF, or CR before what follows
at_last : (t u x : Bool) → 0 < cond t 1 (cond (u && false) 2 0) → ◌≡◌ {A = ℕ} (cond t 1 (cond (u && x) 2 0)) (cond t 1 (cond (u && false) 2 0))
at_last true u x h = refl
at_last false true x h = absurd (omega arith)
at_last false false x h = absurd (omega arith)

at_most_one : (t u x : Bool) → 0 < cond t 1 (cond (u && x) 2 0) → cond t 1 (cond (u && x) 2 0) ≤ 1 → ◌≡◌ {A = ℕ} (cond t 1 (cond (u && false) 2 0)) (cond t 1 (cond (u && x) 2 0))
at_most_one true u x h k = refl
at_most_one false true true h k = absurd (omega arith)
at_most_one false true false h k = absurd (omega arith)
at_most_one false false x h k = absurd (omega arith)

one_bound : (t u : Bool) → cond t 1 (cond (u && false) 2 0) ≤ 1
one_bound true u = omega arith
one_bound false true = omega arith
one_bound false false = omega arith

two_bound : (t u : Bool) (n : ℕ) → cond t 1 (cond u 2 0) ≤ suc (suc n)
two_bound true u n = omega arith
two_bound false true n = omega arith
two_bound false false n = omega arith

line_append : (s t : List ℕ) → 0 < empty_line s → empty_line (s ++ t) ≡ empty_line s
unfolding empty_line
line_append [] t h = absurd (omega arith)
line_append (b ∷ []) t h = at_last (b == 10) (b == 13) (begins_lf t) h
line_append (b ∷ c ∷ s) t h = refl

pub line_long : (s t : List ℕ) → 2 ≤ length s → empty_line (s ++ t) ≡ empty_line s
unfolding empty_line
line_long [] t h = absurd (omega arith)
line_long (b ∷ []) t h = absurd (omega arith)
line_long (b ∷ c ∷ s) t h = refl

pub line_bound : (s : List ℕ) → empty_line s ≤ length s
unfolding empty_line
line_bound [] = omega arith
line_bound (b ∷ []) = one_bound (b == 10) (b == 13)
line_bound (b ∷ c ∷ s) = two_bound (b == 10) ((b == 13) && (c == 10)) (length s)

line_prefix : (s t : List ℕ) → 0 < empty_line (s ++ t) → empty_line (s ++ t) ≤ length s → empty_line s ≡ empty_line (s ++ t)
unfolding empty_line
line_prefix [] t h k = absurd (omega arith)
line_prefix (b ∷ []) t h k = at_most_one (b == 10) (b == 13) (begins_lf t) h k
line_prefix (b ∷ c ∷ s) t h k = refl

-- an empty line is one of the two ends of a line
is_lf : (b : ℕ) (s : List ℕ) (n : ℕ) → (b == 10) ≡ true → (e : LineEnd) × (b ∷ s ≡ print_end e ++ drop (cond (b == 10) 1 n) (b ∷ s))
is_lf b s n e = (lf, ap (λ k. k ∷ s) (eqb-true b 10 e) ∙ ap (λ t. 10 ∷ drop (cond t 1 n) (b ∷ s)) (sym e))

is_crlf : (b c : ℕ) (s : List ℕ) → (b == 10) ≡ false → (b == 13) ≡ true → (c == 10) ≡ true → (e : LineEnd) × (b ∷ c ∷ s ≡ print_end e ++ drop (cond (b == 10) 1 (cond ((b == 13) && (c == 10)) 2 0)) (b ∷ c ∷ s))
is_crlf b c s e f g = (
  crlf,
  ap (λ k. k ∷ c ∷ s) (eqb-true b 13 f) ∙ ap (λ k. 13 ∷ k ∷ s) (eqb-true c 10 g)
      ∙ ap (λ t. 13 ∷ 10 ∷ drop (cond t 1 (cond (true && true) 2 0)) (b ∷ c ∷ s)) (sym e)
      ∙ ap (λ t. 13 ∷ 10 ∷ drop (cond (b == 10) 1 (cond (t && true) 2 0)) (b ∷ c ∷ s)) (sym f)
      ∙ ap (λ t. 13 ∷ 10 ∷ drop (cond (b == 10) 1 (cond ((b == 13) && t) 2 0)) (b ∷ c ∷ s)) (sym g),
)

cr_then : (t u : Bool) → t ≡ false → 0 < cond t 1 (cond u 2 0) → u ≡ true
cr_then true u e h = cc
cr_then false true e h = refl
cr_then false false e h = absurd (omega arith)

none_last : (t u : Bool) → t ≡ false → 0 < cond t 1 (cond (u && false) 2 0) → ⊥
none_last true u e h = cc
none_last false true e h = omega arith
none_last false false e h = omega arith

line_is : (s : List ℕ) → 0 < empty_line s → (e : LineEnd) × (s ≡ print_end e ++ drop (empty_line s) s)
unfolding empty_line
line_is [] h = absurd (omega arith)
line_is (b ∷ []) h =
    elim (cases_Bool (b == 10)) [
      | inl e ↦ is_lf b [] _ e
      | inr e ↦ absurd (none_last (b == 10) (b == 13) e h)
    ]
line_is (b ∷ c ∷ s) h =
    elim (cases_Bool (b == 10)) [
      | inl e ↦ is_lf b (c ∷ s) _ e
      | inr e ↦ (let both = and_parts (b == 13) (c == 10) (cr_then (b == 10) ((b == 13) && (c == 10)) e h) in is_crlf b c s e both.0 both.1)
    ]

some_line : (e : LineEnd) (s : List ℕ) → 0 < empty_line (print_end e ++ s)
unfolding empty_line
some_line crlf s = omega arith
some_line lf s = omega arith

-- ---- the end of a head

pub split_end : (b : ℕ) (s : List ℕ) (n : ℕ) → head_end (b ∷ s) ≡ Some n
    → ((((b == 10) && nat_lt 0 (empty_line s)) ≡ true) × (n ≡ 1 + empty_line s)) ⊎ ((((b == 10) && nat_lt 0 (empty_line s)) ≡ false) × ((k : ℕ) × (head_end s ≡ Some k) × (1 + k ≡ n)))
unfolding head_end
split_end b s n e =
    elim (cases_Bool ((b == 10) && nat_lt 0 (empty_line s))) [
      | inl here ↦ (let now : ◌≡◌ {A = Option ℕ} (Some (1 + empty_line s)) (Some n) = rw here at e in inl (here, cc))
      | inr other ↦ (let now : option_map (λ k. 1 + k) (head_end s) ≡ Some n = rw other at e in inr (other, mapped_some (head_end s) (λ k. 1 + k) n now))
    ]

end_here : (b : ℕ) (s : List ℕ) → ((b == 10) && nat_lt 0 (empty_line s)) ≡ true → head_end (b ∷ s) ≡ Some (1 + empty_line s)
unfolding head_end
end_here b s e = rw e refl

end_later : (b : ℕ) (s : List ℕ) → ((b == 10) && nat_lt 0 (empty_line s)) ≡ false → head_end (b ∷ s) ≡ option_map (λ n. 1 + n) (head_end s)
unfolding head_end
end_later b s e = rw e refl

line_there : (b : ℕ) (s : List ℕ) → ((b == 10) && nat_lt 0 (empty_line s)) ≡ true → 0 < empty_line s
line_there b s e = grind (arith, nat_tests)

pub end_bounds : (s : List ℕ) (n : ℕ) → head_end s ≡ Some n → (2 ≤ n) × (n ≤ length s)
unfolding head_end
end_bounds [] n e = cc
end_bounds (b ∷ s) n e =
    elim (split_end b s n e) [
      | inl h ↦ (let some = line_there b s h.0 in (omega arith, omega (arith, line_bound s)))
      | inr h ↦ (let (k, f, g) = h.1 in let bounds = end_bounds s k f in (omega arith, omega arith))
    ]

pub end_append : (s t : List ℕ) (n : ℕ) → head_end s ≡ Some n → head_end (s ++ t) ≡ Some n
unfolding head_end
end_append [] t n e = cc
end_append (b ∷ s) t n e =
    elim (split_end b s n e) [
      | inl h ↦ (
          let same = line_append s t (line_there b s h.0) in
          end_here b (s ++ t) (ap (λ k. (b == 10) && nat_lt 0 k) same ∙ h.0) ∙ ap (λ k. Some (1 + k)) same ∙ ap Some (sym h.1))
      | inr h ↦ (
          let (k, f, g) = h.1 in
          let bounds = end_bounds s k f in
          let same = line_long s t (omega arith) in
          end_later b (s ++ t) (ap (λ k. (b == 10) && nat_lt 0 k) same ∙ h.0) ∙ ap (option_map (λ n. 1 + n)) (end_append s t k f) ∙ ap Some g)
    ]

pub end_prefix : (s t : List ℕ) (n : ℕ) → head_end (s ++ t) ≡ Some n → n ≤ length s → head_end s ≡ Some n
end_prefix [] t n e h = let bounds = end_bounds t n e in absurd (omega arith)
end_prefix (b ∷ s) t n e h =
    elim (split_end b (s ++ t) n e) [
      | inl p ↦ (
          let same = line_prefix s t (line_there b (s ++ t) p.0) (omega arith) in
          end_here b s (ap (λ k. (b == 10) && nat_lt 0 k) same ∙ p.0) ∙ ap (λ k. Some (1 + k)) same ∙ ap Some (sym p.1))
      | inr p ↦ (
          let (k, f, g) = p.1 in
          let before = end_prefix s t k f (omega arith) in
          let bounds = end_bounds s k before in
          let same = line_long s t (omega arith) in
          end_later b s (ap (λ k. (b == 10) && nat_lt 0 k) (sym same) ∙ p.0) ∙ ap (option_map (λ n. 1 + n)) before ∙ ap Some g)
    ]

-- ---- the loop that looks for it

was_test : (t : Bool) (k n : ℕ) → n ≡ cond t k 0 → 0 < n → ((t && nat_lt 0 k) ≡ true) × (n ≡ k)
was_test true k n e h = (grind (arith, nat_tests), e)
was_test false k n e h = absurd (omega arith)

not_test : (t : Bool) (k n : ℕ) → n ≡ cond t k 0 → n ≤ 0 → (t && nat_lt 0 k) ≡ false
not_test true k n e h = grind (arith, nat_tests)
not_test false k n e h = refl

open_at : (bytes : List ℕ) (i : ℕ) → i < length bytes → drop i bytes ≡ get_or bytes i 0 ∷ drop (i + 1) bytes
open_at bytes i h = rw (add-one, drop-cons bytes i 0)

mapped_twice : (o : Option ℕ) (i : ℕ) → option_map (λ k. i + k) (option_map (λ k. 1 + k) o) ≡ option_map (λ k. i + 1 + k) o
mapped_twice (Some k) i = ap Some (omega arith)
mapped_twice None i = refl

ends_at : (bytes : List ℕ) (i n : ℕ) → i < length bytes → n ≡ cond (get_or bytes i 0 == 10) (empty_line (drop (i + 1) bytes)) 0 → 0 < n
    → head_end bytes ≡ option_map (λ k. i + k) (head_end (drop i bytes)) → Some (i + 1 + n) ≡ head_end bytes
ends_at bytes i n h e some so_far =
    let here = was_test (get_or bytes i 0 == 10) (empty_line (drop (i + 1) bytes)) n e some in
    let there : head_end (drop i bytes) ≡ Some (1 + n) = ap head_end (open_at bytes i h) ∙ end_here (get_or bytes i 0) (drop (i + 1) bytes) here.0 ∙ ap (λ k. Some (1 + k)) (sym here.1) in
    let sum : i + 1 + n ≡ i + (1 + n) = omega arith in
    ap Some sum ∙ ap (option_map (λ k. i + k)) (sym there) ∙ sym so_far

goes_past : (bytes : List ℕ) (i n : ℕ) → i < length bytes → n ≡ cond (get_or bytes i 0 == 10) (empty_line (drop (i + 1) bytes)) 0 → n ≤ 0
    → head_end bytes ≡ option_map (λ k. i + k) (head_end (drop i bytes)) → head_end bytes ≡ option_map (λ k. i + 1 + k) (head_end (drop (i + 1) bytes))
goes_past bytes i n h e none so_far =
    let here = not_test (get_or bytes i 0 == 10) (empty_line (drop (i + 1) bytes)) n e none in
    let there : head_end (drop i bytes) ≡ option_map (λ k. 1 + k) (head_end (drop (i + 1) bytes)) = ap head_end (open_at bytes i h) ∙ end_later (get_or bytes i 0) (drop (i + 1) bytes) here in
    so_far ∙ ap (option_map (λ k. i + k)) there ∙ mapped_twice (head_end (drop (i + 1) bytes)) i

-- ---- from line to line

-- where the head ends, told from a place
abbrev pub IsSeenFrom : List ℕ → ℕ → Type 0
IsSeenFrom bytes at = head_end bytes ≡ option_map (λ n. at + n) (head_end (drop at bytes))

fused : (o : Option ℕ) (a b c : ℕ) → a + b ≡ c → option_map (λ k. a + k) (option_map (λ k. b + k) o) ≡ option_map (λ k. c + k) o
fused (Some k) a b c e = ap Some (omega (arith, e))
fused None a b c e = refl

zero_added : (o : Option ℕ) → o ≡ option_map (λ k. 0 + k) o
zero_added (Some k) = ap Some (omega arith)
zero_added None = refl

pub seen_at_first : (bytes : List ℕ) → IsSeenFrom bytes 0
seen_at_first bytes = zero_added (head_end bytes)

-- what has no LF is passed over
skipped : (s : List ℕ) (n : ℕ) → n ≤ length s → ((k : ℕ) → k < n → (get_or s k 0 == 10) ≡ false) → head_end s ≡ option_map (λ k. n + k) (head_end (drop n s))
skipped s zero fits none = zero_added (head_end s)
skipped [] (suc n) fits none = absurd (omega arith)
skipped (b ∷ s) (suc n) fits none =
    let first : ((b == 10) && nat_lt 0 (empty_line s)) ≡ false = ap (λ t. t && nat_lt 0 (empty_line s)) (none 0 (omega arith)) in
    end_later b s first ∙ ap (option_map (λ k. 1 + k)) (skipped s n (omega arith) (λ k less. none (suc k) (omega arith))) ∙ fused (head_end (drop n s)) 1 n (suc n) (omega arith)

no_line_ends : (s : List ℕ) → ((k : ℕ) → k < length s → (get_or s k 0 == 10) ≡ false) → head_end s ≡ None
unfolding head_end
no_line_ends s none = skipped s (length s) (omega arith) none ∙ ap (λ k. option_map (λ n. length s + n) (head_end k)) (drop_of_length-le s (omega arith))

pub goes_to : (bytes : List ℕ) (at n : ℕ) (hay : List ℕ) → hay ≡ drop at bytes → at ≤ length bytes → IsFirstByte (is_byte 10) hay (Some n) → GoesTo bytes at (at + n + 1)
goes_to bytes at n hay e fits (first, is) =
    let size : length hay ≡ length bytes - at = ap length e ∙ length-drop at bytes in
    let back : at + n + 1 - 1 ≡ at + n = omega arith in
    let gap : at + n - at ≡ n = omega arith in
    let none = λ (k : ℕ) (less : k < n). ap (λ (l : List ℕ). get_or l k 0 == 10) (sym e) ∙ false_from_ne_true (get_or hay k 0 == 10) (first.before k (omega arith) less) in
    let passed : head_end (drop at bytes) ≡ option_map (λ k. n + k) (head_end (drop (at + n) bytes)) = skipped (drop at bytes) n (omega (arith, length-drop at bytes, first.high, size)) none ∙ ap (λ l. option_map (λ k. n + k) (head_end l)) (drop-drop n at bytes) in
    let line : get_or bytes (at + n) 0 ≡ 10 = sym (get_or-drop at bytes n 0) ∙ ap (λ (l : List ℕ). get_or l n 0) (sym e) ∙ eqb-true (get_or hay n 0) 10 is in
    record {
      ahead = omega arith;
      within = omega (arith, first.high, size);
      line = ap (λ i. get_or bytes i 0) back ∙ line;
      passed = passed ∙ ap (λ m. option_map (λ k. m + k) (head_end (drop (at + n) bytes))) (sym gap) ∙ ap (λ i. option_map (λ k. i - at + k) (head_end (drop i bytes))) (sym back);
    }

pub no_line : (bytes : List ℕ) (at : ℕ) (hay : List ℕ) → hay ≡ drop at bytes → IsFirstByte (is_byte 10) hay None → HasNoEnd bytes at
no_line bytes at hay e none = ap head_end (sym e) ∙ no_line_ends hay (λ k less. false_from_ne_true (get_or hay k 0 == 10) (none k (omega arith) less))

-- at the LF before the place that was gone to
seen_at : (bytes : List ℕ) (at place : ℕ) → IsSeenFrom bytes at → GoesTo bytes at place → IsSeenFrom bytes (place - 1)
seen_at bytes at place seen g = seen ∙ ap (option_map (λ k. at + k)) g.passed ∙ fused (head_end (drop (place - 1) bytes)) at (place - 1 - at) (place - 1) (omega (arith, g.ahead))

line_here : (bytes : List ℕ) (i n : ℕ) → get_or bytes i 0 ≡ 10 → n ≡ empty_line (drop (i + 1) bytes) → n ≡ cond (get_or bytes i 0 == 10) (empty_line (drop (i + 1) bytes)) 0
line_here bytes i n is e = e ∙ ap (λ k. cond (k == 10) (empty_line (drop (i + 1) bytes)) 0) (sym is)

pub line_ends : (bytes : List ℕ) (at place n : ℕ) → IsSeenFrom bytes at → GoesTo bytes at place → n ≡ empty_line (drop place bytes) → 0 < n → Some (place + n) ≡ head_end bytes
line_ends bytes at place n seen g e some =
    let back : place ≡ place - 1 + 1 = omega (arith, g.ahead) in
    ap (λ k. Some (k + n)) back ∙ ends_at bytes (place - 1) n (omega (arith, g.ahead, g.within)) (line_here bytes (place - 1) n g.line (e ∙ ap (λ k. empty_line (drop k bytes)) back)) some (seen_at bytes at place seen g)

pub line_goes : (bytes : List ℕ) (at place n : ℕ) → IsSeenFrom bytes at → GoesTo bytes at place → n ≡ empty_line (drop place bytes) → n ≤ 0 → IsSeenFrom bytes place
line_goes bytes at place n seen g e none =
    let back : place ≡ place - 1 + 1 = omega (arith, g.ahead) in
    subst (IsSeenFrom bytes) (sym back) (goes_past bytes (place - 1) n (omega (arith, g.ahead, g.within)) (line_here bytes (place - 1) n g.line (e ∙ ap (λ k. empty_line (drop k bytes)) back)) none (seen_at bytes at place seen g))

pub line_nowhere : (bytes : List ℕ) (at : ℕ) → IsSeenFrom bytes at → HasNoEnd bytes at → None ≡ head_end bytes
line_nowhere bytes at seen none = ap (option_map (λ k. at + k)) (sym none) ∙ sym seen

-- ---- the empty lines at the front

pub blank_more : (blank : List LineEnd) (bytes rest : List ℕ) → bytes ≡ print_blank blank ++ rest → 0 < empty_line rest
    → (more : List LineEnd) × (bytes ≡ print_blank more ++ drop (empty_line rest) rest)
blank_more blank bytes rest e h =
    let (line, is) = line_is rest h in (
      blank ++ line ∷ [],
      e ∙ ap (λ k. print_blank blank ++ k) is ∙ sym (append_assoc (print_blank blank) (print_end line) (drop (empty_line rest) rest))
          ∙ ap (λ k. k ++ drop (empty_line rest) rest) (sym (printed blank line)),
    )
  where
    printed : (blank : List LineEnd) (line : LineEnd) → print_blank (blank ++ line ∷ []) ≡ print_blank blank ++ print_end line
    printed blank line = flat_map-append print_end blank (line ∷ []) ∙ ap (λ k. print_blank blank ++ k) (append-nil (print_end line))

abbrev first_or : List ℕ → ℕ
first_or [] = 0
first_or (b ∷ s) = b

blank_same : (a b : List LineEnd) (s t : List ℕ) → print_blank a ++ s ≡ print_blank b ++ t → empty_line s ≡ 0 → empty_line t ≡ 0 → (a ≡ b) × (s ≡ t)
blank_same [] [] s t e p q = (refl, e)
blank_same [] (f ∷ b) s t e p q =
    let some = some_line f (print_blank b ++ t) in
    let here : empty_line (print_end f ++ (print_blank b ++ t)) ≡ 0 = ap empty_line (sym (append_assoc (print_end f) (print_blank b) t)) ∙ ap empty_line (sym e) ∙ p in
    absurd (omega arith)
blank_same (f ∷ a) [] s t e p q =
    let some = some_line f (print_blank a ++ s) in
    let here : empty_line (print_end f ++ (print_blank a ++ s)) ≡ 0 = ap empty_line (sym (append_assoc (print_end f) (print_blank a) s)) ∙ ap empty_line e ∙ q in
    absurd (omega arith)
blank_same (crlf ∷ a) (crlf ∷ b) s t e p q =
    let rest : print_blank a ++ s ≡ print_blank b ++ t = cc in
    let same = blank_same a b s t rest p q in (ap (λ k. crlf ∷ k) same.0, same.1)
blank_same (lf ∷ a) (lf ∷ b) s t e p q =
    let rest : print_blank a ++ s ≡ print_blank b ++ t = cc in
    let same = blank_same a b s t rest p q in (ap (λ k. lf ∷ k) same.0, same.1)
blank_same (crlf ∷ a) (lf ∷ b) s t e p q = absurd (let wrong : ◌≡◌ {A = ℕ} 13 10 = ap first_or e in omega arith)
blank_same (lf ∷ a) (crlf ∷ b) s t e p q = absurd (let wrong : ◌≡◌ {A = ℕ} 10 13 = ap first_or e in omega arith)

-- ---- the head

pub head_append : {bytes : List ℕ} {blank : List LineEnd} {head rest : List ℕ} → (more : List ℕ) → HasHead bytes blank head rest → HasHead (bytes ++ more) blank head (rest ++ more)
head_append {bytes} {blank} {head} {rest} more h = record {
  parts = ap (λ k. k ++ more) h.parts ∙ append_assoc (print_blank blank) (head ++ rest) more ∙ ap (λ k. print_blank blank ++ k) (append_assoc head rest more);
  begins = h.begins;
  ends = h.ends;
  fits = h.fits;
}

pub head_front : (bytes more : List ℕ) (blank : List LineEnd) (head rest : List ℕ) → HasHead (bytes ++ more) blank head rest → length (print_blank blank) + length head ≤ length bytes
    → (left : List ℕ) × HasHead bytes blank head left × (rest ≡ left ++ more)
head_front bytes more blank head rest h fits =
    let split : (print_blank blank ++ head) ++ rest ≡ bytes ++ more = append_assoc (print_blank blank) head rest ∙ sym h.parts in
    let (left, p, q) = goes_on (print_blank blank ++ head) bytes rest more split (omega (arith, length-append (print_blank blank) head)) in
    (left, record { parts = p ∙ append_assoc (print_blank blank) head left; begins = h.begins; ends = h.ends; fits = h.fits }, q)

pub begins_so : (h r : List ℕ) → empty_line h ≡ 0 → head_end h ≡ Some (length h) → empty_line (h ++ r) ≡ 0
begins_so h r p e = let bounds = end_bounds h (length h) e in line_long h r bounds.0 ∙ p

pub one_head : (bytes : List ℕ) (a b : List LineEnd) (h k r q : List ℕ) → HasHead bytes a h r → HasHead bytes b k q → (a ≡ b) × (h ≡ k) × (r ≡ q)
one_head bytes a b h k r q x y =
    let blanks = blank_same a b (h ++ r) (k ++ q) (sym x.parts ∙ y.parts) (begins_so h r x.begins x.ends) (begins_so k q y.begins y.ends) in
    let e : Some (length h) ≡ Some (length k) = sym (end_append h r (length h) x.ends) ∙ ap head_end blanks.1 ∙ end_append k q (length k) y.ends in
    let long : length h ≡ length k = cc in
    let same = same_front h k r q blanks.1 long in
    (blanks.0, same.0, same.1)

-- ---- what `cut` finds

pub cut_found : (bytes : List ℕ) (size : ℕ) (blank : List LineEnd) (begun : List ℕ) (n : ℕ) → size ≤ most_head → take size bytes ≡ print_blank blank ++ begun → empty_line begun ≡ 0 → head_end begun ≡ Some n
    → (rest : List ℕ) × HasHead bytes blank (take n begun) rest
cut_found bytes size blank begun n small e p f =
    let bounds = end_bounds begun n f in
    let long : length (take n begun) ≡ n = length-take-le n begun bounds.1 in
    let whole = take-append-drop n begun in
    let inside : length (print_blank blank) + length begun ≤ size = omega (arith, ap length e, length-append (print_blank blank) begun, length-take size bytes) in
    let here : HasHead (take size bytes) blank (take n begun) (drop n begun) = record {
      parts = e ∙ ap (λ k. print_blank blank ++ k) (sym whole);
      begins = sym (line_long (take n begun) (drop n begun) (omega (arith, long))) ∙ ap empty_line whole ∙ p;
      ends = end_prefix (take n begun) (drop n begun) n (ap head_end whole ∙ f) (omega (arith, long)) ∙ ap Some (sym long);
      fits = omega (arith, long, inside);
    } in
    (drop n begun ++ drop size bytes, subst (λ k. HasHead k blank (take n begun) (drop n begun ++ drop size bytes)) (take-append-drop size bytes) (head_append (drop size bytes) here))

pub cut_none : (bytes : List ℕ) (size : ℕ) (blank : List LineEnd) (begun : List ℕ) → size ≡ min (length bytes) most_head → take size bytes ≡ print_blank blank ++ begun → empty_line begun ≡ 0 → head_end begun ≡ None
    → HasNoHead bytes
cut_none bytes size blank begun is e p f b h r x =
    let inside : length (print_blank b) + length h ≤ length bytes = omega (arith, ap length x.parts, length-append (print_blank b) (h ++ r), length-append h r) in
    let whole : HasHead (take size bytes ++ drop size bytes) b h r = subst (λ k. HasHead k b h r) (sym (take-append-drop size bytes)) x in
    let (left, y, q) = head_front (take size bytes) (drop size bytes) b h r whole (omega (arith, length-take size bytes, x.fits)) in
    let same = blank_same blank b begun (h ++ left) (sym e ∙ y.parts) p (begins_so h left y.begins y.ends) in
    let wrong : ◌≡◌ {A = Option ℕ} None (Some (length h)) = sym f ∙ ap head_end same.1 ∙ end_append h left (length h) y.ends in
    cc

pub no_bytes : (rest : List ℕ) (t : Bool) → t ≡ (length rest == 0) → (t ≡ true) ↔ (rest ≡ [])
no_bytes [] t e = ((λ h. refl), (λ h. e))
no_bytes (b ∷ s) t e = ((λ h. (let none : length (b ∷ s) ≡ 0 = eqb-true (length (b ∷ s)) 0 (sym e ∙ h) in absurd (omega (arith, none)))), (λ h. cc))

pub only_blank : (bytes : List ℕ) (blank : List LineEnd) (rest : List ℕ) (t : Bool) → bytes ≡ print_blank blank ++ rest → empty_line rest ≡ 0 → ((t ≡ true) ↔ (rest ≡ [])) → (t ≡ true) ↔ ((all : List LineEnd) × (bytes ≡ print_blank all))
unfolding empty_line
only_blank bytes blank rest t e stops test = (
  (λ yes_. (blank, e ∙ ap (λ k. print_blank blank ++ k) (test.0 yes_) ∙ append-nil (print_blank blank))),
  (λ (all, is). test.1 (sym (blank_same all blank [] rest (append-nil (print_blank all) ∙ sym is ∙ e) refl stops).1)),
)
