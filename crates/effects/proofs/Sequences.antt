-- Effects are a code, and what is decoded of effects one after another.
use Rattle.std.proofs.Common.{◌≡◌, ℕ, ◌+◌, ◌<◌, ◌≤◌, ◌==◌, ◌&&◌, not, List, [], ◌∷◌, ◌++◌, length, drop, Some, None, Result, Ok, Err, Bool, true, false, cond, All, MatchResult, refl, sym, ap, subst, ◌∙◌, arith, append_assoc, append-nil, drop_of_length-le, length-append}
use Rattle.std.specs.Option.{option_map}
use Rattle.std.proofs.lemmas.Bool.Decides.{nat_tests}
use Rattle.std.proofs.lemmas.List.{length-drop}
use Rattle.std.proofs.lemmas.List.Elements.{All-head, All-tail}
use Rattle.byte_fields.specs.Codes.{BeginsAt, IsReadAt, IsCode, BothValid, both_bytes}
use Rattle.byte_fields.specs.Encodings.{FitsEight, eight_bytes}
use Rattle.byte_fields.proofs.Codes.{begins_from, both_code, code_as, one_reading, read_no_first, read_no_second, read_none_as, read_both}
use Rattle.byte_fields.proofs.Numbers.{eight_code, length-eight}
use Rattle.byte_fields.proofs.Rows.{row_more}
use Rattle.effects.specs.Bodies.{effect_with}
use Rattle.effects.specs.Bytes.{IsChange, IsDecoded, IsEncodable, IsTorn, change_bytes, effect_bytes, effects_bytes, is_kept}
use Rattle.effects.specs.declared.fault.EffectFault.{EffectFault}
use Rattle.effects.proofs.Bodied.{change_code}
use Rattle.plain_exchange.specs.declared.changes.Change.{Change}
use Rattle.plain_exchange.specs.declared.changes.Effect.{Effect}

-- ---- one effect: a moment and a change

abbrev pub Timed : Type 0
Timed = ℕ × Change

abbrev pub IsTimed : Timed → Type 0
IsTimed = BothValid FitsEight IsChange

abbrev pub timed_bytes : Timed → List ℕ
timed_bytes = both_bytes eight_bytes change_bytes

abbrev pub timed_of : Effect → Timed
timed_of e = (e.moment, e.change)

abbrev pub effect_from : Timed → Effect
effect_from p = record { moment = p.0; change = p.1 }

pub timed_code : IsCode IsTimed timed_bytes
timed_code = both_code FitsEight eight_bytes IsChange change_bytes eight_code change_code

timed_valid : (e : Effect) → IsEncodable e → IsTimed (timed_of e)
timed_valid e v = (v.moment, v.change)

pub effect_code : IsCode IsEncodable effect_bytes
effect_code = code_as IsTimed timed_bytes IsEncodable effect_bytes timed_code timed_of timed_valid (λ e v. refl) (λ e f v w h. ap effect_from h)

effect_none : (bytes : List ℕ) (place : ℕ) → IsReadAt IsTimed timed_bytes bytes place None → IsReadAt IsEncodable effect_bytes bytes place None
effect_none = read_none_as IsTimed timed_bytes IsEncodable effect_bytes timed_of timed_valid (λ e v. refl)

pub effect_no_moment : (bytes : List ℕ) (place : ℕ) → IsReadAt FitsEight eight_bytes bytes place None → IsReadAt IsEncodable effect_bytes bytes place None
effect_no_moment bytes place none = effect_none bytes place (read_no_first FitsEight eight_bytes IsChange change_bytes bytes place none)

pub effect_no_change : (bytes : List ℕ) (place moment n : ℕ) → IsReadAt FitsEight eight_bytes bytes place (Some (moment, n)) → IsReadAt IsChange change_bytes bytes n None → IsReadAt IsEncodable effect_bytes bytes place None
effect_no_change bytes place moment n first none = effect_none bytes place (read_no_second FitsEight eight_bytes IsChange change_bytes eight_code bytes place moment n first none)

is_zero : (kept : Bool) (moment : ℕ) → (kept && not (moment == 0)) ≡ false → kept ≡ true → moment ≡ 0
is_zero true moment e is = grind (arith, nat_tests)
is_zero false moment e is = cc

is_late : (kept : Bool) (moment : ℕ) → (kept && not (moment == 0)) ≡ true → (kept ≡ true → moment ≡ 0) → ⊥
is_late true moment e zero = let z = zero refl in grind (arith, nat_tests)
is_late false moment e zero = cc

effect_late : (bytes : List ℕ) (place moment n m : ℕ) (change : Change) → IsReadAt FitsEight eight_bytes bytes place (Some (moment, n)) → IsReadAt IsChange change_bytes bytes n (Some (change, m)) → (is_kept change && not (moment == 0)) ≡ true → IsReadAt IsEncodable effect_bytes bytes place None
effect_late bytes place moment n m change first second late = λ e k v a.
    let both = read_both FitsEight eight_bytes IsChange change_bytes bytes place moment n change m first second in
    let same = one_reading IsTimed timed_bytes timed_code bytes place (moment, change) (timed_of e) m k both.0 (timed_valid e v) both.1 a in
    is_late (is_kept change) moment late
    (λ is. ap (λ (p : Timed). p.0) same.0 ∙ v.kept (ap (λ (p : Timed). is_kept p.1) (sym same.0) ∙ is))

effect_read : (bytes : List ℕ) (place moment n m : ℕ) (change : Change) → IsReadAt FitsEight eight_bytes bytes place (Some (moment, n)) → IsReadAt IsChange change_bytes bytes n (Some (change, m)) → (is_kept change && not (moment == 0)) ≡ false → IsReadAt IsEncodable effect_bytes bytes place (Some (effect_from (moment, change), m))
effect_read bytes place moment n m change first second early =
    let both = read_both FitsEight eight_bytes IsChange change_bytes bytes place moment n change m first second in
    (record { moment = both.0.0; change = both.0.1; kept = is_zero (is_kept change) moment early }, both.1)

-- what is made of the moment and the change that were read, which may be none
pub effect_made : (bytes : List ℕ) (place moment n m : ℕ) (change : Change) → IsReadAt FitsEight eight_bytes bytes place (Some (moment, n)) → IsReadAt IsChange change_bytes bytes n (Some (change, m)) → IsReadAt IsEncodable effect_bytes bytes place (option_map (λ (e : Effect). (e, m)) (effect_with moment change))
effect_made bytes place moment n m change first second = by (is_kept change && not (moment == 0)) refl
  where
    by : (late : Bool) → (is_kept change && not (moment == 0)) ≡ late → IsReadAt IsEncodable effect_bytes bytes place (option_map (λ (e : Effect). (e, m)) (cond late None (Some (effect_from (moment, change)))))
    by true is = effect_late bytes place moment n m change first second is
    by false is = effect_read bytes place moment n m change first second is

-- ---- effects one after another

-- an effect takes at least the eight bytes of its moment
pub goes_on : (bytes : List ℕ) (place n : ℕ) (e : Effect) → BeginsAt bytes place (effect_bytes e) n → place < n
goes_on bytes place n e a = omega (arith, a.behind, length-append (eight_bytes e.moment) (change_bytes e.change), length-eight e.moment)

pub effects_more : (bytes : List ℕ) (n m : ℕ) (es : List Effect) (e : Effect) → BeginsAt bytes 0 (effects_bytes es) n → BeginsAt bytes n (effect_bytes e) m → BeginsAt bytes 0 (effects_bytes (es ++ e ∷ [])) m
effects_more bytes n m es e a b = row_more IsEncodable effect_bytes bytes 0 n m es e a b

-- all bytes are read
pub effects_whole : (bytes : List ℕ) (n : ℕ) (es : List Effect) → BeginsAt bytes 0 (effects_bytes es) n → length bytes ≤ n → bytes ≡ effects_bytes es
effects_whole bytes n es a le = a.there ∙ ap (λ l. effects_bytes es ++ l) (drop_of_length-le bytes le) ∙ append-nil (effects_bytes es)

pub effects_torn : (bytes : List ℕ) (n : ℕ) (es : List Effect) → All IsEncodable es → BeginsAt bytes 0 (effects_bytes es) n → n < length bytes → IsReadAt IsEncodable effect_bytes bytes n None → IsTorn bytes n
effects_torn bytes n es valid a lt none = record {
  before = es;
  rest = drop n bytes;
  encodable = valid;
  split = a.there;
  place = omega (arith, a.behind);
  some = omega (arith, length-drop n bytes, lt);
  none = λ e more v h. none e (n + length (effect_bytes e)) v (begins_from bytes (effect_bytes e) more n h a.inside);
}

-- ---- what else the bytes could be

not_empty : (e : Effect) (s : List ℕ) → [] ≡ effect_bytes e ++ s → ⊥
not_empty e s h = omega (arith, ap length h, length-append (effect_bytes e) s, length-append (eight_bytes e.moment) (change_bytes e.change), length-eight e.moment)

same_effects : (es fs : List Effect) → All IsEncodable es → All IsEncodable fs → effects_bytes es ≡ effects_bytes fs → es ≡ fs
same_effects [] [] v w h = refl
same_effects [] (f ∷ fs) v w h = absurd (not_empty f (effects_bytes fs) h)
same_effects (e ∷ es) [] v w h = absurd (not_empty e (effects_bytes es) (sym h))
same_effects (e ∷ es) (f ∷ fs) v w h =
    let one = effect_code.unique e f (effects_bytes es) (effects_bytes fs) (All-head IsEncodable e es v) (All-head IsEncodable f fs w) h in
    let more = same_effects es fs (All-tail IsEncodable e es v) (All-tail IsEncodable f fs w) one.1 in
    let first = one.0 in
    cc

-- torn bytes are no effects one after another
torn_not_whole : (es before : List Effect) (rest : List ℕ) → All IsEncodable es → All IsEncodable before → effects_bytes es ≡ effects_bytes before ++ rest → 1 ≤ length rest → ((e : Effect) (more : List ℕ) → IsEncodable e → rest ≡ effect_bytes e ++ more → ⊥) → ⊥
torn_not_whole [] [] rest v w h some none = omega (arith, ap length h, some)
torn_not_whole (e ∷ es) [] rest v w h some none = none e (effects_bytes es) (All-head IsEncodable e es v) (sym h)
torn_not_whole [] (b ∷ before) rest v w h some none = not_empty b (effects_bytes before ++ rest) (h ∙ append_assoc (effect_bytes b) (effects_bytes before) rest)
torn_not_whole (e ∷ es) (b ∷ before) rest v w h some none =
    let one = effect_code.unique e b (effects_bytes es) (effects_bytes before ++ rest) (All-head IsEncodable e es v) (All-head IsEncodable b before w) (h ∙ append_assoc (effect_bytes b) (effects_bytes before) rest) in
    torn_not_whole es before rest (All-tail IsEncodable e es v) (All-tail IsEncodable b before w) one.1 some none

pub only_these : (es : List Effect) (found : Result (List Effect) EffectFault) → All IsEncodable es → IsDecoded (effects_bytes es) found → MatchResult found (λ fs. fs ≡ es) (λ fault. fault ≡ EffectFault.Memory)
only_these es (Ok fs) v d = same_effects fs es d.0 v (sym d.1)
only_these es (Err (EffectFault.Torn at)) v d = absurd (torn_not_whole es d.before d.rest v d.encodable d.split d.some d.none)
only_these es (Err EffectFault.Memory) v d = refl

pub only_decoded : (bytes : List ℕ) (found : Result (List Effect) EffectFault) → IsDecoded bytes found → (es : List Effect) → All IsEncodable es → bytes ≡ effects_bytes es → MatchResult found (λ fs. fs ≡ es) (λ fault. fault ≡ EffectFault.Memory)
only_decoded bytes found d es v is = only_these es found v (subst (λ l. IsDecoded l found) is d)
