-- How the pieces of a text come one after the other.
use Rattle.std.proofs.Common.{◌≡◌, ℕ, zero, suc, ◌+◌, ◌-◌, ◌≤◌, List, [], ◌∷◌, ◌++◌, length, take, drop, find, Bool, true, false, cond, Option, Some, None, inl, inr, refl, sym, ◌∙◌, ap, arith, nat_eq, ◌&&◌, min}
use Rattle.std.specs.List.{flat_map, prefix_len}
use Rattle.std.specs.Cmp.Lexicographic.{pointwise}
use Rattle.std.proofs.lemmas.Option.{none-some, same_Some}
use Rattle.std.proofs.lemmas.Bool.{cases_Bool, cond-true, cond-false, false≢true}
use Rattle.std.proofs.lemmas.Bool.Decides.{nat_tests}
use Rattle.std.proofs.lemmas.List.{length-take}
use Rattle.rtb_macros.specs.declared.macros.Macro.{Macro}
use Rattle.rtb_macros.specs.declared.macros.Macro.TheVariants.{AuctionId, BidId, ImpId, SeatId, AdId, Price, Currency}
use Rattle.rtb_macros.specs.declared.filling.MacroValues.{MacroValues}
use Rattle.rtb_macros.specs.Macros.{name_of, value_of, macro_at, begins_with, is_plain, all_macros, piece_or, pieces_behind, macro, byte, text_of, filled_in}

-- what belongs to a macro is passed over
pub passed : (n : ℕ) (s : List ℕ) → pieces_behind n s ≡ pieces_behind 0 (drop n s)
unfolding pieces_behind
passed zero s = refl
passed (suc n) [] = refl
passed (suc n) (c ∷ s) = passed n s

behind_name : (m : Macro) (c : ℕ) (s : List ℕ) → drop (length (name_of m) - 1) s ≡ drop (length (name_of m)) (c ∷ s)
behind_name AuctionId c s = refl
behind_name BidId c s = refl
behind_name ImpId c s = refl
behind_name SeatId c s = refl
behind_name AdId c s = refl
behind_name Price c s = refl
behind_name Currency c s = refl

-- what a text becomes whose first piece is known
abbrev becomes : MacroValues → ℕ → List ℕ → Option Macro → List ℕ
becomes v c s o = flat_map (text_of v) (piece_or o (byte c ∷ pieces_behind 0 s) (λ m. macro m ∷ pieces_behind (length (name_of m) - 1) s))

pub at_end : (v : MacroValues) → filled_in v [] ≡ []
unfolding pieces_behind
at_end v = refl

-- a text that begins with a macro
pub at_macro : (v : MacroValues) (m : Macro) (text : List ℕ) → macro_at text ≡ Some m → filled_in v text ≡ value_of v m ++ filled_in v (drop (length (name_of m)) text)
unfolding pieces_behind
at_macro v m [] e = absurd (none-some m e)
at_macro v m (c ∷ s) e =
    ap (becomes v c s) e ∙ ap (λ t. value_of v m ++ flat_map (text_of v) t) (passed (length (name_of m) - 1) s ∙ ap (pieces_behind 0) (behind_name m c s))

-- a byte that begins no macro
pub at_byte : (v : MacroValues) (c : ℕ) (s : List ℕ) → macro_at (c ∷ s) ≡ None → filled_in v (c ∷ s) ≡ c ∷ filled_in v s
unfolding pieces_behind
at_byte v c s e = ap (becomes v c s) e

-- no macro begins with a byte that is no `$`
pub plain_none : (c : ℕ) (s : List ℕ) → is_plain c ≡ true → macro_at (c ∷ s) ≡ None
plain_none c s e = let h : nat_eq 36 c ≡ false = grind (arith, nat_tests, e) in rw h

-- what stands before the first `$` stays
pub at_plain : (v : MacroValues) (s : List ℕ) → filled_in v s ≡ take (prefix_len is_plain s) s ++ filled_in v (drop (prefix_len is_plain s) s)
at_plain v [] = refl
at_plain v (c ∷ s) = by_first v c s (at_plain v s) (is_plain c) refl
  where
    by_first : (v : MacroValues) (c : ℕ) (s : List ℕ) → filled_in v s ≡ take (prefix_len is_plain s) s ++ filled_in v (drop (prefix_len is_plain s) s)
        → (b : Bool) → is_plain c ≡ b → filled_in v (c ∷ s) ≡ take (cond b (1 + prefix_len is_plain s) 0) (c ∷ s) ++ filled_in v (drop (cond b (1 + prefix_len is_plain s) 0) (c ∷ s))
    by_first v c s behind true e =
        let one : suc (prefix_len is_plain s) ≡ 1 + prefix_len is_plain s = omega arith in
        at_byte v c s (plain_none c s e) ∙ ap (λ t. c ∷ t) behind ∙ ap (λ k. take k (c ∷ s) ++ filled_in v (drop k (c ∷ s))) one
    by_first v c s behind false e = refl

-- what neither begins a macro nor stands before a `$`: the first byte stays
pub at_first : (v : MacroValues) (s : List ℕ) → macro_at s ≡ None → filled_in v s ≡ take 1 s ++ filled_in v (drop 1 s)
at_first v [] e = refl
at_first v (c ∷ s) e = at_byte v c s e

-- what `find` gives passes
find_passes : {X : Type 0} (p : X → Bool) (xs : List X) (x : X) → find p xs ≡ Some x → p x ≡ true
find_passes p [] x h = absurd (none-some x h)
find_passes p (y ∷ ys) x h =
    elim (cases_Bool (p y)) [
      | inl e ↦ ap p (sym (same_Some y x (sym (cond-true (p y) (Some y) (find p ys) e) ∙ h))) ∙ e
      | inr e ↦ find_passes p ys x (sym (cond-false (p y) (Some y) (find p ys) e) ∙ h)
    ]

-- texts that are the same have one length
same_length : (a b : List ℕ) → pointwise nat_eq a b ≡ true → length a ≡ length b
same_length [] [] e = refl
same_length [] (y ∷ b) e = absurd (false≢true e)
same_length (x ∷ a) [] e = absurd (false≢true e)
same_length (x ∷ a) (y ∷ b) e = ap suc (same_length a b (behind (nat_eq x y) (pointwise nat_eq a b) e))
  where
    behind : (p q : Bool) → (p && q) ≡ true → q ≡ true
    behind true q h = h
    behind false q h = absurd (false≢true h)

-- a macro that a text begins with lies within it
pub name_within : (m : Macro) (text : List ℕ) → macro_at text ≡ Some m → length (name_of m) ≤ length text
name_within m text e =
    let same : length (name_of m) ≡ length (take (length (name_of m)) text) = same_length (name_of m) (take (length (name_of m)) text) (find_passes (begins_with text) all_macros m e) in
    let cut : length (take (length (name_of m)) text) ≡ min (length (name_of m)) (length text) = length-take (length (name_of m)) text in
    omega (arith, same, cut)
