-- Members and elements, written one after the other, are those of an object and of an array.
use Rattle.std.proofs.Common.{◌≡◌, ℕ, ◌==◌, List, [], ◌∷◌, ◌++◌, length, map, Bool, true, false, not, cond, refl, sym, ap, ◌∙◌, arith, append_assoc, append-nil}
use Rattle.std.specs.List.{join_with_byte}
use Rattle.std.proofs.lemmas.Bool.Decides.{nat_tests}
use Rattle.std.proofs.lemmas.List.{length-map, map_push}
use Rattle.json_out.specs.declared.places.Place.{Place}
use Rattle.json_out.specs.declared.places.Place.TheVariants.{Array, Object}
use Rattle.json_out.specs.Strings.{string_text}
use Rattle.json_out.specs.Texts.{Member, array_text, member_text, object_text}
use Rattle.json_out.specs.Writer.{Written, end, fill, put_name, blank, can_end, is_whole, name_in, put_value, separator, takes_name, takes_value, wants_name}
use Rattle.json_out.specs.Inside.{in_array, in_object, put_member, put_members}

same_written : (t u : List ℕ) (p q : List Place) → t ≡ u → p ≡ q → ◌≡◌ {A = Written} (record { text = t; places = p }) (record { text = u; places = q })
same_written t u p q e f = cc

some_there : {A : Type 0} (x : A) (xs : List A) → (length (x ∷ xs) == 0) ≡ false
some_there x xs = grind (arith, nat_tests)

never_none : {A : Type 0} (xs : List A) (y : A) → not (length (xs ++ y ∷ []) == 0) ≡ true
never_none [] y = refl
never_none (x ∷ xs) y = ap not (some_there x (xs ++ y ∷ []))

-- a piece joined to those before it
join_push : (xs : List (List ℕ)) (y : List ℕ) → join_with_byte 44 (xs ++ y ∷ []) ≡ join_with_byte 44 xs ++ (cond (length xs == 0) [] (44 ∷ []) ++ y)
join_push [] y = refl
join_push (x ∷ []) y = refl
join_push (x ∷ z ∷ xs) y =
    ap (λ l. x ++ 44 ∷ l) (join_push (z ∷ xs) y ∙ ap (λ b. join_with_byte 44 (z ∷ xs) ++ (cond b [] (44 ∷ []) ++ y)) (some_there z xs))
    ∙ sym (append_assoc x (44 ∷ join_with_byte 44 (z ∷ xs)) (44 ∷ y))
    ∙ ap (λ b. join_with_byte 44 (x ∷ z ∷ xs) ++ (cond b [] (44 ∷ []) ++ y)) (sym (some_there x (z ∷ xs)))

object_comma : (b : Bool) (ps : List Place) → separator (Object (not b) false ∷ ps) ≡ cond b [] (44 ∷ [])
object_comma true ps = refl
object_comma false ps = refl

array_comma : (b : Bool) (ps : List Place) → separator (Array (not b) ∷ ps) ≡ cond b [] (44 ∷ [])
array_comma true ps = refl
array_comma false ps = refl

no_comma : (b : Bool) (ps : List Place) → separator (Object b true ∷ ps) ≡ []
no_comma true ps = refl
no_comma false ps = refl

member_regrouped : (p j s n v : List ℕ) → (((((p ++ 123 ∷ j) ++ s) ++ n) ++ 58 ∷ []) ++ []) ++ v ≡ p ++ 123 ∷ (j ++ (s ++ (n ++ 58 ∷ v)))
member_regrouped p j s n v =
    ap (λ l. l ++ v) (append-nil ((((p ++ 123 ∷ j) ++ s) ++ n) ++ 58 ∷ []))
    ∙ append_assoc (((p ++ 123 ∷ j) ++ s) ++ n) (58 ∷ []) v
    ∙ append_assoc ((p ++ 123 ∷ j) ++ s) n (58 ∷ v)
    ∙ append_assoc (p ++ 123 ∷ j) s (n ++ 58 ∷ v)
    ∙ append_assoc p (123 ∷ j) (s ++ (n ++ 58 ∷ v))

element_regrouped : (p j s v : List ℕ) → ((p ++ 91 ∷ j) ++ s) ++ v ≡ p ++ 91 ∷ (j ++ (s ++ v))
element_regrouped p j s v = append_assoc (p ++ 91 ∷ j) s v ∙ append_assoc p (91 ∷ j) (s ++ v)

pub member_more : (w : Written) (ms : List Member) (m : Member) → put_member (in_object w ms) m ≡ in_object w (ms ++ m ∷ [])
member_more w ms m =
    let p = w.text ++ separator w.places in
    let j = join_with_byte 44 (map member_text ms) in
    let b = length ms == 0 in
    let count : length (map member_text ms) ≡ length ms = omega (arith, length-map ms member_text) in
    let text =
    ap (λ s. ((((p ++ 123 ∷ j) ++ s) ++ string_text m.0) ++ 58 ∷ []) ++ separator (Object (not b) true ∷ w.places) ++ m.1) (object_comma b w.places)
    ∙ ap (λ s. ((((p ++ 123 ∷ j) ++ cond b [] (44 ∷ [])) ++ string_text m.0) ++ 58 ∷ []) ++ s ++ m.1) (no_comma (not b) w.places)
    ∙ member_regrouped p j (cond b [] (44 ∷ [])) (string_text m.0) m.1
    ∙ ap (λ n. p ++ 123 ∷ (j ++ (cond (n == 0) [] (44 ∷ []) ++ member_text m))) (sym count)
    ∙ ap (λ l. p ++ 123 ∷ l) (sym (join_push (map member_text ms) (member_text m)))
    ∙ ap (λ l. p ++ 123 ∷ join_with_byte 44 l) (sym (map_push member_text ms m)) in
    same_written _ _ _ _ text (ap (λ c. Object c false ∷ w.places) (sym (never_none ms m)))

pub members_are : (w : Written) (ms ns : List Member) → put_members (in_object w ms) ns ≡ in_object w (ms ++ ns)
members_are w ms [] = ap (in_object w) (sym (append-nil ms))
members_are w ms (n ∷ ns) =
    ap (λ u. put_members u ns) (member_more w ms n) ∙ members_are w (ms ++ n ∷ []) ns ∙ ap (in_object w) (append_assoc ms (n ∷ []) ns)

pub element_more : (w : Written) (vs : List (List ℕ)) (v : List ℕ) → put_value (in_array w vs) v ≡ in_array w (vs ++ v ∷ [])
element_more w vs v =
    let p = w.text ++ separator w.places in
    let j = join_with_byte 44 vs in
    let b = length vs == 0 in
    let text =
    ap (λ s. (p ++ 91 ∷ j) ++ s ++ v) (array_comma b w.places)
    ∙ element_regrouped p j (cond b [] (44 ∷ [])) v
    ∙ ap (λ l. p ++ 91 ∷ l) (sym (join_push vs v)) in
    same_written _ _ _ _ text (ap (λ c. Array c ∷ w.places) (sym (never_none vs v)))

pub object_ends : (w : Written) (ms : List Member) → end (in_object w ms) ≡ put_value w (object_text ms)
object_ends w ms = ap (λ t. record { text = t; places = fill w.places }) (append_assoc (w.text ++ separator w.places) (123 ∷ join_with_byte 44 (map member_text ms)) (125 ∷ []))

pub array_ends : (w : Written) (vs : List (List ℕ)) → end (in_array w vs) ≡ put_value w (array_text vs)
array_ends w vs = ap (λ t. record { text = t; places = fill w.places }) (append_assoc (w.text ++ separator w.places) (91 ∷ join_with_byte 44 vs) (93 ∷ []))

-- behind a name a value may stand next, and behind a member a name
pub value_next : (w : Written) (n : List ℕ) → takes_name w ≡ true → takes_value (put_name w n) ≡ true
value_next w n h = by (w.text ++ separator w.places ++ string_text n ++ 58 ∷ []) w.places h
  where
    by : (t : List ℕ) (ps : List Place) → wants_name ps ≡ true → takes_value (record { text = t; places = name_in ps }) ≡ true
    by t [] e = cc
    by t (Array f ∷ ps) e = cc
    by t (Object f true ∷ ps) e = cc
    by t (Object f false ∷ ps) e = refl

pub name_next : (w : Written) (m : Member) → takes_name w ≡ true → takes_name (put_member w m) ≡ true
name_next w m h = by w.places h
  where
    by : (ps : List Place) → wants_name ps ≡ true → wants_name (fill (name_in ps)) ≡ true
    by [] e = cc
    by (Array f ∷ ps) e = cc
    by (Object f true ∷ ps) e = cc
    by (Object f false ∷ ps) e = refl

-- an object alone is a whole text
pub object_whole : (ms : List Member) → is_whole (put_value blank (object_text ms)) ≡ true
object_whole ms = ap (λ b. not b) (some_there 123 (join_with_byte 44 (map member_text ms) ++ 125 ∷ []))

-- members behind members
pub put_members-append : (w : Written) (ms ns : List Member) → put_members w (ms ++ ns) ≡ put_members (put_members w ms) ns
put_members-append w [] ns = refl
put_members-append w (m ∷ ms) ns = put_members-append (put_member w m) ms ns

-- of an object with these members, once it ends, the text is whole
abbrev pub Closes : Written → List Member → Type 0
Closes w ms = (can_end w ≡ true) × (is_whole (end w) ≡ true) × ((end w).text ≡ object_text ms)

pub closes : (w : Written) (ms : List Member) → w ≡ in_object blank ms → Closes w ms
closes w ms e = (
  ap can_end e,
  ap (λ v. is_whole (end v)) e ∙ ap is_whole (object_ends blank ms) ∙ object_whole ms,
  ap (λ v. (end v).text) e ∙ ap (λ v. v.text) (object_ends blank ms),
)
