-- What `parse` makes of the text of a number.
use Rattle.std.proofs.Common.{◌≡◌, ◌<◌, ◌^◌, ◌∙◌, ℕ, List, Bool, Option, None, Some, false, ap, sym, arith}
use Rattle.std.specs.Prelude.{if◌then◌else◌}
use Rattle.std.specs.Str.Parse.{IsNumeral, digits_value, without_leading_plus}
use Rattle.clap.specs.ValueTests.{accepts}
use Rattle.clap.proofs.ValueTestLemmas.{Accepts-accepts, accepts-Accepts}
use Rattle.run_words.specs.Commands.{number_in, number_parser}
use Rattle.run_words.proofs.Utf8.{never_true}

abbrev IsNumber : List ℕ → Type 0
IsNumber text = IsNumeral 10 (without_leading_plus text) × (digits_value 10 (without_leading_plus text) < 2 ^ 64)

abbrev value_if : List ℕ → Bool → Option ℕ
value_if text b = if b then Some (digits_value 10 (without_leading_plus text)) else None

pub is_number : (text : List ℕ) (n : ℕ) → IsNumber text → n ≡ digits_value 10 (without_leading_plus text) → Some n ≡ number_in text
is_number text n h e =
    let below : digits_value 10 (without_leading_plus text) < 2 ^ 64 = h.1 in
    ap Some e ∙ ap (value_if text) (sym (Accepts-accepts false number_parser text (h.0, h.1, omega arith, omega arith)))

pub is_no_number : (text : List ℕ) → (IsNumber text → ⊥) → None ≡ number_in text
is_no_number text f = ap (value_if text) (sym (never_true (accepts false number_parser text) (λ e. let a = accepts-Accepts false number_parser text e in f (a.0, a.1))))
