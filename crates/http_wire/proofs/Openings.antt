-- What is decided of some bytes is decided once, and stays decided whatever follows.
use Rattle.std.proofs.Common.{◌≡◌, ℕ, ◌+◌, ◌-◌, ◌<◌, ◌≤◌, ◌⊎◌, inl, inr, nat_lt, Bool, true, false, cond, List, [], ◌∷◌, ◌++◌, length, take, drop, Result, Ok, Err, Option, Some, None, refl, sym, ap, subst, ◌∙◌, length-append, arith}
use Rattle.std.specs.Prelude.{codes, slice_range}
use Rattle.std.specs.List.{list_any, list_all}
use Rattle.std.proofs.lemmas.Bool.{cases_lt}
use Rattle.std.proofs.lemmas.Bool.Decides.{nat_tests}
use Rattle.std.proofs.lemmas.List.{append-nil, drop-append-le, take-append-le, length-drop}
use Rattle.httparse.specs.Grammar.{lf, print_blank, RequestHead}
use Rattle.httparse.proofs.GrammarLemmas.{request_unique}
use Rattle.http_wire.specs.declared.refusal.Refusal.{Refusal}
use Rattle.http_wire.specs.declared.refusal.Refusal.TheVariants as refusal
use Rattle.http_wire.specs.declared.message.Step.{Step}
use Rattle.http_wire.specs.declared.message.Step.TheVariants.{Need, Got, Refused}
use Rattle.http_wire.specs.Heads.{most_head, HasNoHead}
use Rattle.http_wire.specs.Rules.{Field, body_length, length_rule, content_length, values, is_named, is_identity, most_body}
use Rattle.http_wire.specs.Wire.{Opening, begun, refused, fields_of, opening, HeadOpens, Opens, message_of, Decides}
use Rattle.http_wire.specs.Words.{status_of, word_of}
use Rattle.http_wire.proofs.Cuts.{head_append, head_front, one_head}

head_once : (head : List ℕ) (at : ℕ) (o p : Opening) → HeadOpens head at o → HeadOpens head at p → o ≡ p
head_once head at o p (inl x) (inl y) = x.1 ∙ sym y.1
head_once head at o p (inl x) (inr (inl y)) = absurd (omega (arith, x.0, y.0))
head_once head at o p (inl x) (inr (inr y)) = absurd (omega (arith, x.0, y.1))
head_once head at o p (inr (inl x)) (inl y) = absurd (omega (arith, x.0, y.0))
head_once head at o p (inr (inl x)) (inr (inl y)) = x.2 ∙ sym y.2
head_once head at o p (inr (inl x)) (inr (inr y)) = absurd (x.1 y.0 y.2)
head_once head at o p (inr (inr x)) (inl y) = absurd (omega (arith, x.1, y.0))
head_once head at o p (inr (inr x)) (inr (inl y)) = absurd (y.1 x.0 x.2)
head_once head at o p (inr (inr x)) (inr (inr y)) =
    let same = request_unique head x.0 y.0 [] [] x.2.reads y.2.reads in
    x.3 ∙ ap (λ h. opening h at (body_length (fields_of h))) same.0 ∙ sym y.3

pub opens_once : (bytes : List ℕ) (o p : Opening) → Opens bytes o → Opens bytes p → o ≡ p
opens_once bytes o p (inl x) (inl y) = x.2 ∙ sym y.2
opens_once bytes o p (inl x) (inr (blank, head, rest, has, opens)) = absurd (x.1 blank head rest has)
opens_once bytes o p (inr (blank, head, rest, has, opens)) (inl y) = absurd (y.1 blank head rest has)
opens_once bytes o p (inr (a, h, r, x, ho)) (inr (b, k, q, y, ko)) =
    let same = one_head bytes a b h k r q x y in
    let at : length (print_blank b) + length k ≡ length (print_blank a) + length h = ap (λ z. length (print_blank z) + length k) (sym same.0) ∙ ap (λ z. length (print_blank a) + length z) (sym same.1) in
    head_once h (length (print_blank a) + length h) o p ho (subst (λ z. HeadOpens z (length (print_blank a) + length h) p) (sym same.1) (subst (λ n. HeadOpens k n p) at ko))

pub opens_stays : (bytes more : List ℕ) (o : Opening) → Opens bytes o → Opens (bytes ++ more) o
opens_stays bytes more o (inl x) =
    inl (omega (arith, x.0, length-append bytes more), (λ blank head rest has. let (left, here, split) = head_front bytes more blank head rest has (omega (arith, x.0, has.fits)) in x.1 blank head left here), x.2)
opens_stays bytes more o (inr (blank, head, rest, has, opens)) = inr (blank, head, rest ++ more, head_append more has, opens)

-- ---- the body

rule_bound : (n k : ℕ) (t plain : Bool) → t ≡ nat_lt most_body n → cond t (Err refusal.BodyTooLarge) (cond plain (Ok n) (Err refusal.ContentEncoding)) ≡ Ok k → k ≤ most_body
rule_bound n k true plain e h = cc
rule_bound n k false true e h = let same : n ≡ k = cc in grind (arith, nat_tests)
rule_bound n k false false e h = cc

length_bound : (o : Option ℕ) (plain : Bool) (k : ℕ) → length_rule o plain ≡ Ok k → k ≤ most_body
length_bound None plain k h = cc
length_bound (Some n) plain k h = rule_bound n k (nat_lt most_body n) plain refl h

fields_bound : (t : Bool) (r : Result ℕ Refusal) (k : ℕ) → ((n : ℕ) → r ≡ Ok n → n ≤ most_body) → cond t (Err refusal.TransferEncoding) r ≡ Ok k → k ≤ most_body
fields_bound true r k f h = cc
fields_bound false r k f h = f k h

pub body_bound : (fields : List Field) (k : ℕ) → body_length fields ≡ Ok k → k ≤ most_body
body_bound fields k h =
    let values_are = content_length (values (codes "content-length") fields) in
    let plain = list_all is_identity (values (codes "content-encoding") fields) in
    fields_bound (list_any (is_named (codes "transfer-encoding")) fields) (length_rule values_are plain) k (λ n e. length_bound values_are plain n e) h

opening_ends : (h k : RequestHead) (at from to : ℕ) (r : Result ℕ Refusal) → ((n : ℕ) → r ≡ Ok n → n ≤ most_body) → begun k from to ≡ opening h at r → (from ≡ at) × (from ≤ to) × (to ≤ at + most_body)
opening_ends h k at from to (Ok n) f e =
    let p : from ≡ at = cc in
    let q : to ≡ at + n = cc in
    (p, omega (arith, p, q), omega (arith, q, f n refl))
opening_ends h k at from to (Err r) f e = cc

pub begun_ends : (bytes : List ℕ) (h : RequestHead) (from to : ℕ) → Opens bytes (begun h from to) → (from ≤ to) × (to ≤ most_head + most_body) × (from ≤ length bytes)
begun_ends bytes h from to (inl x) = cc
begun_ends bytes h from to (inr (blank, head, rest, has, inl x)) = cc
begun_ends bytes h from to (inr (blank, head, rest, has, inr (inl x))) = cc
begun_ends bytes h from to (inr (blank, head, rest, has, inr (inr x))) =
    let ends = opening_ends x.0 h (length (print_blank blank) + length head) from to (body_length (fields_of x.0)) (body_bound (fields_of x.0)) x.3 in
    (ends.1, omega (arith, ends.2, has.fits), omega (arith, ends.0, ap length has.parts, length-append (print_blank blank) (head ++ rest), length-append head rest))

-- ---- what is decided

range_stays : (bytes more : List ℕ) (from to : ℕ) → from ≤ to → to ≤ length bytes → slice_range bytes from to ≡ slice_range (bytes ++ more) from to
range_stays bytes more from to h k =
    let inside : from ≤ length bytes = omega arith in
    let fits : to - from ≤ length (drop from bytes) = omega (arith, length-drop from bytes) in
    sym (ap (take (to - from)) (drop-append-le from bytes more inside) ∙ take-append-le (to - from) (drop from bytes) more fits)

pub decides_stays : (bytes more : List ℕ) (s : Step) → Decides bytes s → Decides (bytes ++ more) s
decides_stays bytes more Need d = d
decides_stays bytes more (Got message used) (h, from, opens, fits, is) =
    let ends = begun_ends bytes h from used opens in
    (h, from, opens_stays bytes more (begun h from used) opens, omega (arith, fits, length-append bytes more), is ∙ ap (message_of h) (range_stays bytes more from used ends.0 fits))
decides_stays bytes more (Refused status word) (r, opens, s, w) = (r, opens_stays bytes more (refused r) opens, s, w)

pub decides_once : (bytes : List ℕ) (s t : Step) → Decides bytes s → Decides bytes t → s ≡ t
decides_once bytes Need t d e = absurd d
decides_once bytes s Need d e = absurd e
decides_once bytes (Got m u) (Got n v) (h, from, x, fits, is) (k, at, y, fits2, is2) =
    let same = opens_once bytes (begun h from u) (begun k at v) x y in
    let heads : h ≡ k = cc in
    let froms : from ≡ at = cc in
    let ends : u ≡ v = cc in
    let one : m ≡ n = is ∙ ap (λ z. message_of z (slice_range bytes from u)) heads ∙ ap (λ z. message_of k (slice_range bytes z u)) froms ∙ ap (λ z. message_of k (slice_range bytes at z)) ends ∙ sym is2 in
    ap (λ z. Got z u) one ∙ ap (Got n) ends
decides_once bytes (Got m u) (Refused s w) (h, from, x, fits, is) (r, y, p, q) = let same = opens_once bytes (begun h from u) (refused r) x y in cc
decides_once bytes (Refused s w) (Got m u) (r, y, p, q) (h, from, x, fits, is) = let same = opens_once bytes (begun h from u) (refused r) x y in cc
decides_once bytes (Refused s w) (Refused t v) (r, x, p, q) (z, y, a, b) =
    let same = opens_once bytes (refused r) (refused z) x y in
    let one : r ≡ z = cc in
    ap (λ n. Refused n w) (p ∙ ap status_of one ∙ sym a) ∙ ap (Refused t) (q ∙ ap word_of one ∙ sym b)

pub decided_stays : (bytes more : List ℕ) (s t : Step) → Decides bytes s → Decides (bytes ++ more) t → s ≡ t
decided_stays bytes more s t d e = decides_once (bytes ++ more) s t (decides_stays bytes more s d) e

-- a head that is there, and a body that is not
pub body_needed : (bytes : List ℕ) (h : RequestHead) (from to : ℕ) → Opens bytes (begun h from to) → length bytes < to → (s : Step) → Decides bytes s → ⊥
body_needed bytes h from to x short Need d = d
body_needed bytes h from to x short (Got m u) (k, at, y, fits, is) =
    let same = opens_once bytes (begun h from to) (begun k at u) x y in
    let ends : to ≡ u = cc in
    omega (arith, ends, fits, short)
body_needed bytes h from to x short (Refused s w) (r, y, p, q) = let same = opens_once bytes (begun h from to) (refused r) x y in cc

pub none_opened : (bytes : List ℕ) → ((h : RequestHead) (from to : ℕ) (r : Refusal) → (Opens bytes (begun h from to) ⊎ Opens bytes (refused r)) → ⊥) → (s : Step) → Decides bytes s → ⊥
none_opened bytes none Need d = d
none_opened bytes none (Got m u) (h, from, x, fits, is) = none h from u refusal.Head (inl x)
none_opened bytes none (Refused s w) (r, x, p, q) =
    let any : RequestHead = record { blank = []; method = []; target = []; minor = 0; line_end = lf; fields = []; last = lf } in
    none any 0 0 r (inr x)

pub nothing_more : (bytes rest : List ℕ) → ((s : Step) → Decides bytes s → ⊥) → length bytes + length rest < length bytes + 1 → (s : Step) → Decides (bytes ++ rest) s → ⊥
nothing_more bytes [] none h s d = none s (subst (λ k. Decides k s) (append-nil bytes) d)
nothing_more bytes (b ∷ rest) none h s d = absurd (omega arith)

pub body_still_needed : (bytes rest : List ℕ) (h : RequestHead) (from to : ℕ) → Opens bytes (begun h from to) → length bytes + length rest < to → (s : Step) → Decides (bytes ++ rest) s → ⊥
body_still_needed bytes rest h from to x short = body_needed (bytes ++ rest) h from to (opens_stays bytes rest (begun h from to) x) (omega (arith, short, length-append bytes rest))

-- a head that ends within the first bytes stands there already
pub head_was_there : (bytes more : List ℕ) (h : RequestHead) (from to : ℕ) → Opens (bytes ++ more) (begun h from to) → from ≤ length bytes → Opens bytes (begun h from to)
head_was_there bytes more h from to (inl x) fits = cc
head_was_there bytes more h from to (inr (blank, head, rest, has, inl x)) fits = cc
head_was_there bytes more h from to (inr (blank, head, rest, has, inr (inl x))) fits = cc
head_was_there bytes more h from to (inr (blank, head, rest, has, inr (inr x))) fits =
    let ends = opening_ends x.0 h (length (print_blank blank) + length head) from to (body_length (fields_of x.0)) (body_bound (fields_of x.0)) x.3 in
    let (left, here, split) = head_front bytes more blank head rest has (omega (arith, ends.0, fits)) in
    inr (blank, head, left, here, inr (inr x))

-- a message that has come whole would be decided
pub not_there : (bytes : List ℕ) (h : RequestHead) (from to : ℕ) → Opens bytes (begun h from to) → ((s : Step) → Decides bytes s → ⊥) → length bytes < to
not_there bytes h from to x none =
    elim (cases_lt (length bytes) to) [
      | inl less ↦ less
      | inr more ↦ absurd (none (Got (message_of h (slice_range bytes from to)) to) (h, from, x, more, refl))
    ]

pub not_open : (bytes : List ℕ) → HasNoHead bytes → length bytes < most_head → (h : RequestHead) (from to : ℕ) (r : Refusal) → (Opens bytes (begun h from to) ⊎ Opens bytes (refused r)) → ⊥
not_open bytes none short h from to r (inl (inl x)) = omega (arith, x.0, short)
not_open bytes none short h from to r (inl (inr (blank, head, rest, has, opens))) = none blank head rest has
not_open bytes none short h from to r (inr (inl x)) = omega (arith, x.0, short)
not_open bytes none short h from to r (inr (inr (blank, head, rest, has, opens))) = none blank head rest has
