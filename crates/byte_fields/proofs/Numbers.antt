-- Numbers in four and in eight bytes are a code, and are what `u32_at` and `u64_at` read.
use Rattle.std.proofs.Common.{◌≡◌, ℕ, ◌+◌, ◌<◌, ◌≤◌, ◌^◌, nat_le, List, ◌++◌, length, take, drop, get_or, Some, None, Bool, true, false, cond, refl, sym, ap, ◌∙◌, arith, length-drop, take-append-drop}
use Rattle.std.specs.Int.{w32, w64, from_be_bytes}
use Rattle.std.proofs.lemmas.Bool.Decides.{nat_tests}
use Rattle.std.proofs.lemmas.List.{drop_at, take_at, length-take, length-take-le, get_or-take, get_or-drop, get_or_past}
use Rattle.std.proofs.lemmas.Option.{none-some, same_Some}
use Rattle.std.proofs.lemmas.Nat.{be_bytes_4, be_bytes_8, from_be_bytes-to_be_bytes_4, from_be_bytes-to_be_bytes_8}
use Rattle.rtb_num.specs.Bytes.{IsBytes}
use Rattle.rtb_num.specs.Fields.{u32_at, u64_at}
use Rattle.byte_fields.specs.Codes.{BeginsAt, IsReadAt, IsCode}
use Rattle.byte_fields.specs.Encodings.{FitsFour, four_bytes, FitsEight, eight_bytes}
use Rattle.byte_fields.proofs.Codes.{begins_from}

pub length-four : (n : ℕ) → length (four_bytes n) ≡ 4
unfolding four_bytes
length-four n = refl

pub length-eight : (n : ℕ) → length (eight_bytes n) ≡ 8
unfolding eight_bytes
length-eight n = refl

-- two words of one length
same_fronts : (k : ℕ) (w v s t : List ℕ) → length w ≡ k → length v ≡ k → w ++ s ≡ v ++ t → (w ≡ v) × (s ≡ t)
same_fronts k w v s t e f h =
    (sym (take_at w s k e) ∙ ap (take k) h ∙ take_at v t k f, sym (drop_at w s k e) ∙ ap (drop k) h ∙ drop_at v t k f)

same_four : (x y : ℕ) → x < 2 ^ 32 → y < 2 ^ 32 → four_bytes x ≡ four_bytes y → x ≡ y
unfolding four_bytes
same_four x y v w h = sym (from_be_bytes-to_be_bytes_4 x v) ∙ ap (from_be_bytes w32) h ∙ from_be_bytes-to_be_bytes_4 y w

same_eight : (x y : ℕ) → x < 2 ^ 64 → y < 2 ^ 64 → eight_bytes x ≡ eight_bytes y → x ≡ y
unfolding eight_bytes
same_eight x y v w h = sym (from_be_bytes-to_be_bytes_8 x v) ∙ ap (from_be_bytes w64) h ∙ from_be_bytes-to_be_bytes_8 y w

pub four_code : IsCode FitsFour four_bytes
four_code = record {
  unique = λ x y s t v w h.
      let same = same_fronts 4 (four_bytes x) (four_bytes y) s t (length-four x) (length-four y) h in
      (same_four x y v w same.0, same.1);
}

pub eight_code : IsCode FitsEight eight_bytes
eight_code = record {
  unique = λ x y s t v w h.
      let same = same_fronts 8 (eight_bytes x) (eight_bytes y) s t (length-eight x) (length-eight y) h in
      (same_eight x y v w same.0, same.1);
}

at_most : (m n : ℕ) → nat_le m n ≡ true → m ≤ n
at_most m n e = grind (arith, nat_tests)

more_than : (m n : ℕ) → nat_le m n ≡ false → n < m
more_than m n e = grind (arith, nat_tests)

within : (bytes : List ℕ) (place k i : ℕ) → IsBytes bytes → i < k → get_or (take k (drop place bytes)) i 0 < 256
within bytes place k i known lt =
    let e : get_or (take k (drop place bytes)) i 0 ≡ get_or bytes (place + i) 0 = get_or-take k (drop place bytes) i 0 lt ∙ get_or-drop place bytes i 0 in
    omega (arith, known (place + i))

module _ (bytes : List ℕ) (place : ℕ) (known : IsBytes bytes) where
  word_at : (k : ℕ) (i : ℕ) → get_or (take k (drop place bytes)) i 0 < 256
  word_at k i = by_place (nat_le k i) refl
    where
      by_place : (b : Bool) → nat_le k i ≡ b → get_or (take k (drop place bytes)) i 0 < 256
      by_place true e =
          let past : length (take k (drop place bytes)) ≤ i = omega (arith, length-take k (drop place bytes), at_most k i e) in
          rw (get_or_past (take k (drop place bytes)) i 0 past) (omega arith)
      by_place false e = within bytes place k i known (more_than k i e)

  length-word : (k : ℕ) → place + k ≤ length bytes → length (take k (drop place bytes)) ≡ k
  length-word k le = length-take-le k (drop place bytes) (omega (arith, length-drop place bytes))

  -- the number in the four bytes from the place on has those bytes
  pub four_there : (n : ℕ) → u32_at bytes place ≡ Some n → BeginsAt bytes place (four_bytes n) (place + 4)
  unfolding four_bytes
  four_there n e = by_room (nat_le (place + 4) (length bytes)) refl
    where
      by_room : (b : Bool) → nat_le (place + 4) (length bytes) ≡ b → BeginsAt bytes place (four_bytes n) (place + 4)
      by_room true room =
          let word = take 4 (drop place bytes) in
          let is : Some (from_be_bytes w32 word) ≡ Some n = sym (ap (λ b. cond b (Some (from_be_bytes w32 word)) None) room) ∙ e in
          let is_word : four_bytes n ≡ word = be_bytes_4 word n (length-word 4 (at_most _ _ room)) (word_at 4) (sym (same_Some _ _ is)) in
          let whole : drop place bytes ≡ four_bytes n ++ drop 4 (drop place bytes) = sym (take-append-drop 4 (drop place bytes)) ∙ ap (λ w. w ++ drop 4 (drop place bytes)) (sym is_word) in
          begins_from bytes (four_bytes n) (drop 4 (drop place bytes)) place whole (omega (arith, at_most _ _ room))
      by_room false room =
          let word = take 4 (drop place bytes) in
          absurd (none-some n (sym (ap (λ b. cond b (Some (from_be_bytes w32 word)) None) room) ∙ e))

  pub eight_there : (n : ℕ) → u64_at bytes place ≡ Some n → BeginsAt bytes place (eight_bytes n) (place + 8)
  unfolding eight_bytes
  eight_there n e = by_room (nat_le (place + 8) (length bytes)) refl
    where
      by_room : (b : Bool) → nat_le (place + 8) (length bytes) ≡ b → BeginsAt bytes place (eight_bytes n) (place + 8)
      by_room true room =
          let word = take 8 (drop place bytes) in
          let is : Some (from_be_bytes w64 word) ≡ Some n = sym (ap (λ b. cond b (Some (from_be_bytes w64 word)) None) room) ∙ e in
          let is_word : eight_bytes n ≡ word = be_bytes_8 word n (length-word 8 (at_most _ _ room)) (word_at 8) (sym (same_Some _ _ is)) in
          let whole : drop place bytes ≡ eight_bytes n ++ drop 8 (drop place bytes) = sym (take-append-drop 8 (drop place bytes)) ∙ ap (λ w. w ++ drop 8 (drop place bytes)) (sym is_word) in
          begins_from bytes (eight_bytes n) (drop 8 (drop place bytes)) place whole (omega (arith, at_most _ _ room))
      by_room false room =
          let word = take 8 (drop place bytes) in
          absurd (none-some n (sym (ap (λ b. cond b (Some (from_be_bytes w64 word)) None) room) ∙ e))

-- and where there is none, no number's bytes begin there
pub four_none : (bytes : List ℕ) (place : ℕ) → u32_at bytes place ≡ None → IsReadAt FitsFour four_bytes bytes place None
four_none bytes place e = λ n m v a. by_room m a.inside (omega (arith, a.behind, length-four n)) (nat_le (place + 4) (length bytes)) refl
  where
    by_room : (m : ℕ) → m ≤ length bytes → m ≡ place + 4 → (b : Bool) → nat_le (place + 4) (length bytes) ≡ b → ⊥
    by_room m le is true room =
        let word = take 4 (drop place bytes) in
        none-some (from_be_bytes w32 word) (sym e ∙ ap (λ b. cond b (Some (from_be_bytes w32 word)) None) room)
    by_room m le is false room = omega (arith, more_than _ _ room)

pub eight_none : (bytes : List ℕ) (place : ℕ) → u64_at bytes place ≡ None → IsReadAt FitsEight eight_bytes bytes place None
eight_none bytes place e = λ n m v a. by_room m a.inside (omega (arith, a.behind, length-eight n)) (nat_le (place + 8) (length bytes)) refl
  where
    by_room : (m : ℕ) → m ≤ length bytes → m ≡ place + 8 → (b : Bool) → nat_le (place + 8) (length bytes) ≡ b → ⊥
    by_room m le is true room =
        let word = take 8 (drop place bytes) in
        none-some (from_be_bytes w64 word) (sym e ∙ ap (λ b. cond b (Some (from_be_bytes w64 word)) None) room)
    by_room m le is false room = omega (arith, more_than _ _ room)
