-- What is chosen by a test or by an option, one case after the other.
use Rattle.std.proofs.Common.{◌≡◌, cond, Bool, true, false, refl, Option, Some, None}
use Rattle.std.specs.Option.{option_map_or}

pub by_test : {A : Type 0} (P : A → Type 0) (b : Bool) (x y : A) → (b ≡ true → P x) → (b ≡ false → P y) → P (cond b x y)
by_test P true x y h k = h refl
by_test P false x y h k = k refl

pub by_option : {A B : Type 0} (P : B → Type 0) (f : A → B) (o : Option A) (d : B) → (o ≡ None → P d) → ((x : A) → o ≡ Some x → P (f x)) → P (option_map_or f o d)
by_option P f None d h k = h refl
by_option P f (Some x) d h k = k x refl
