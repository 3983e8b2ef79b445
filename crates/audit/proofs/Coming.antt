-- What came of a source, piece by piece.
use Rattle.std.proofs.Common.{◌≡◌, ◌≢◌, ◌⊎◌, inl, inr, ℕ, ◌+◌, ◌-◌, ◌<◌, ◌≤◌, List, [], ◌∷◌, ◌++◌, length, drop, Bool, true, false, Option, Some, None, Result, Ok, Err, subst, sym, ap, refl, ◌∙◌, append_assoc, append-nil, le_refl, arith}
use Rattle.std.specs.Prelude.{◌↔◌, IsTrue, not}
use Rattle.std.specs.Io.KnownBytes.{Consumes, IsAtEnd, Keeps}
use Rattle.std.proofs.KnownBytes.{Consumes-trans}
use Rattle.audit.specs.Inputs.{BeginsNone, Comes, Fills, IsNext, IsThen, Looks, Takes}
use Rattle.audit.specs.declared.input.Next.{Next}
use Rattle.audit.specs.declared.input.Next.TheVariants as next
use Rattle.byte_fields.specs.Codes.{IsReadAt}
use Rattle.byte_fields.proofs.Codes.{begins_from}
use Rattle.rtb_base.specs.Faults.{RisesOnlyWhere}

none_yet : (left : Option (List ℕ)) → Consumes left left []
none_yet None = tt
none_yet (Some bytes) = refl

pub comes_none : (left : Option (List ℕ)) (held : List ℕ) → Comes left left held held
comes_none left held = record { came = []; consumes = none_yet left; held = sym (append-nil held) }

pub comes_on : (a b c : Option (List ℕ)) (first mid last : List ℕ) → Comes a b first mid → Comes b c mid last → Comes a c first last
comes_on a b c first mid last x y = record {
  came = x.came ++ y.came;
  consumes = Consumes-trans a b c x.came y.came x.consumes y.consumes;
  held = y.held ∙ ap (λ l. l ++ y.came) x.held ∙ append_assoc first x.came y.came;
}

apart : (b : Bool) → IsTrue b → b ≡ false → ⊥
apart b first second = cc

no_end : (xs ys : List ℕ) → xs ++ ys ≡ [] → ys ≡ []
no_end [] ys e = e
no_end (x ∷ xs) ys e = cc

-- no more came, or some did
pub fills_by : (left left' : Option (List ℕ)) (limit : ℕ) (old more new : List ℕ) (empty : Bool) → Consumes left left' more → IsAtEnd left' ⊎ (limit < length more) → (IsTrue empty ↔ (more ≡ [])) → new ≡ old ++ more → Fills left left' old new (not empty)
fills_by left left' limit old more new true came end is held = record {
  comes = record { came = more; consumes = came; held = held };
  grown = λ e. absurd (cc e);
  ended = λ _. (held ∙ ap (λ l. old ++ l) (is.0 refl) ∙ append-nil old, at_end end);
}
  where
    at_end : IsAtEnd left' ⊎ (limit < length more) → IsAtEnd left'
    at_end (inl e) = e
    at_end (inr some) = absurd (omega (arith, some, ap (λ (l : List ℕ). length l) (is.0 refl)))
fills_by left left' limit old more new false came end is held = record {
  comes = record { came = more; consumes = came; held = held };
  grown = λ _ none. apart false (is.1 (no_end old more (sym held ∙ none))) refl;
  ended = λ e. absurd (cc e);
}

-- something is held
pub looks_held : (left : Option (List ℕ)) (held : List ℕ) (empty : Bool) → (IsTrue empty ↔ (held ≡ [])) → empty ≡ false → Looks left left held true
looks_held left held empty is some = record { all = held; comes = comes_none left held; more = λ _ none. apart empty (is.1 none) some; none = λ e. absurd (cc e) }

pub empty_or_not : (held : List ℕ) → (held ≡ []) ⊎ (held ≢ [])
empty_or_not [] = inl refl
empty_or_not (c ∷ held) = inr (λ e. cc)

pub stands : (F : Type 0) (a b : ℕ) → b ≡ a → (F → ⊥) → RisesOnlyWhere F a b
stands F a b e none = subst (λ k. RisesOnlyWhere F a k) (sym e) (le_refl a, λ failed. absurd (none failed), λ no. refl)

module _ {A : Type 0} (V : A → Type 0) (e : A → List ℕ) where
  -- none begins at the place, so none begins what is held from there
  pub none_held : (bytes : List ℕ) (place : ℕ) (held : List ℕ) → held ≡ drop place bytes → place ≤ length bytes → IsReadAt V e bytes place None → BeginsNone V e held
  none_held bytes place held is inside none = λ x rest v here. none x (place + length (e x)) v (begins_from bytes (e x) rest place (sym is ∙ here) inside)

  pub item_next : (a b : Option (List ℕ)) (old held new : List ℕ) (x : A) (size : ℕ) → Comes a b old held → Takes V e held new (Some (x, size)) → IsNext V e a b old new (next.Item x size)
  item_next a b old held new x size comes takes = record { all = held; comes = comes; next_is = takes }

  -- nothing came behind what is no item
  pub rest_next : (a b c : Option (List ℕ)) (old held mid new : List ℕ) (some : Bool) (found : Next A) → Comes a b old held → Takes V e held mid None → Fills b c mid new some → some ≡ false
      → (new ≡ [] → found ≡ next.End) → (new ≢ [] → found ≡ next.Torn) → (new ≡ []) ⊎ (new ≢ []) → IsNext V e a c old new found
  rest_next a b c old held mid new some found comes takes fills over end torn (inl empty) = record {
    all = new;
    comes = comes_on a b c old held new comes (subst (λ l. Comes b c l new) takes.0 fills.comes);
    next_is = subst (λ f. IsThen V e c new new f) (sym (end empty)) ((fills.ended over).1, empty, refl);
  }
  rest_next a b c old held mid new some found comes takes fills over end torn (inr left) = record {
    all = new;
    comes = comes_on a b c old held new comes (subst (λ l. Comes b c l new) takes.0 fills.comes);
    next_is = subst (λ f. IsThen V e c new new f) (sym (torn left)) ((fills.ended over).1, left, subst (BeginsNone V e) (sym ((fills.ended over).0 ∙ takes.0)) takes.1, refl);
  }
