-- No attribute stands twice among the present rows, since the rows rise by attribute, and each value is
-- the text of its row.
use Rattle.std.proofs.Common.{◌≡◌, ℕ, ◌≤◌, ◌==◌, ◌&&◌, ◌||◌, not, nat_lt, List, [], ◌∷◌, ◌++◌, Bool, true, false, cond, find, Some, None, option_map, option_and_then, refl, sym, ◌∙◌, ap, arith, append-nil, append_assoc}
use Rattle.std.specs.List.{flat_map, list_any}
use Rattle.std.proofs.lemmas.Bool.{false≢true, or_parts}
use Rattle.std.proofs.lemmas.Bool.Decides.{nat_tests}
use Rattle.std.proofs.lemmas.Grind.{flat_map-append}
use Rattle.rtb_types.specs.declared.request.BidRequest.{BidRequest}
use Rattle.rtb_types.specs.declared.request.Device.{Device}
use Rattle.rtb_types.specs.declared.request.Imp.{Imp}
use Rattle.target_expr.specs.declared.attr.Attr.{Attr}
use Rattle.target_expr.specs.declared.attr.Attr.TheVariants.{Publisher}
use Rattle.target_expr.specs.Attributes.{number_of}
use Rattle.target_expr.specs.Truth.{are_single, same_attr, value_at}
use Rattle.assign.specs.Rows.{Row, app_rows, device_rows, geo_rows, imp_rows, pairs_of, pair_of, publisher_of, rows, site_rows, text_at, user_rows}

-- each row's attribute is above n, and above the one before
rise_from : ℕ → List Row → Bool
rise_from n [] = true
rise_from n (row ∷ rest) = nat_lt n (number_of row.0) && rise_from (number_of row.0) rest

left : (a b : Bool) → (a && b) ≡ true → a ≡ true
left true b h = refl
left false b h = absurd (false≢true h)

right : (a b : Bool) → (a && b) ≡ true → b ≡ true
right true b h = h
right false b h = absurd (false≢true h)

other : (m n k : ℕ) → m ≤ n → nat_lt n k ≡ true → (k == m) ≡ false
other m n k le h = grind (arith, nat_tests)

higher : (m n k : ℕ) → m ≤ n → nat_lt n k ≡ true → m ≤ k
higher m n k le h = grind (arith, nat_tests)

itself : (k : ℕ) → k ≤ k
itself k = omega arith

none_same : (a : Attr) (n : ℕ) (rest : List Row) → number_of a ≤ n → rise_from n rest ≡ true → list_any (λ (q : Attr × List ℕ). same_attr q.0 a) (flat_map pair_of rest) ≡ false
unfolding rise_from
none_same a n [] le h = refl
none_same a n ((b, None) ∷ rest) le h = none_same a (number_of b) rest (higher (number_of a) n (number_of b) le (left (nat_lt n (number_of b)) (rise_from (number_of b) rest) h)) (right (nat_lt n (number_of b)) (rise_from (number_of b) rest) h)
none_same a n ((b, Some t) ∷ rest) le h =
    let first = left (nat_lt n (number_of b)) (rise_from (number_of b) rest) h in
    ap (λ c. c || list_any (λ (q : Attr × List ℕ). same_attr q.0 a) (flat_map pair_of rest)) (other (number_of a) n (number_of b) le first)
    ∙ none_same a (number_of b) rest (higher (number_of a) n (number_of b) le first) (right (nat_lt n (number_of b)) (rise_from (number_of b) rest) h)

single : (n : ℕ) (rest : List Row) → rise_from n rest ≡ true → are_single (flat_map pair_of rest) ≡ true
unfolding rise_from
single n [] h = refl
single n ((b, None) ∷ rest) h = single (number_of b) rest (right (nat_lt n (number_of b)) (rise_from (number_of b) rest) h)
single n ((b, Some t) ∷ rest) h =
    let later = right (nat_lt n (number_of b)) (rise_from (number_of b) rest) h in
    ap (λ c. not c && are_single (flat_map pair_of rest)) (none_same b (number_of b) rest (itself (number_of b)) later) ∙ single (number_of b) rest later

all_rise : (r : BidRequest) (i : Imp) → rise_from 0 (rows r i) ≡ true
unfolding rise_from site_rows app_rows geo_rows device_rows user_rows imp_rows
all_rise r i = refl

pub pairs_single : (r : BidRequest) (i : Imp) → are_single (pairs_of r i) ≡ true
unfolding pairs_of
pairs_single r i = single 0 (rows r i) (all_rise r i)

not_found : (a : Attr) (ps : List (Attr × List ℕ)) → list_any (λ (q : Attr × List ℕ). same_attr q.0 a) ps ≡ false → value_at ps a ≡ None
not_found a [] e = refl
not_found a (p ∷ ps) e =
    let parts = or_parts (same_attr p.0 a) (list_any (λ (q : Attr × List ℕ). same_attr q.0 a) ps) e in
    ap (λ b. option_map (λ (q : Attr × List ℕ). q.1) (cond b (Some p) (find (λ (q : Attr × List ℕ). same_attr q.0 a) ps))) parts.0 ∙ not_found a ps parts.1

same_number : (k m : ℕ) → (k == m) ≡ true → m ≤ k
same_number k m e = grind (arith, nat_tests)

value : (n : ℕ) (a : Attr) (rest : List Row) → rise_from n rest ≡ true → value_at (flat_map pair_of rest) a ≡ text_at rest a
unfolding rise_from
value n a [] h = refl
value n a ((b, None) ∷ rest) h =
    let later = right (nat_lt n (number_of b)) (rise_from (number_of b) rest) h in
    elim (same_attr b a) as (λ s. same_attr b a ≡ s → value_at (flat_map pair_of rest) a ≡ option_and_then (λ (row : Row). row.1) (cond s (Some (b, None)) (find (λ (row : Row). same_attr row.0 a) rest))) [
      | true ↦ λ same. not_found a (flat_map pair_of rest) (none_same a (number_of b) rest (same_number (number_of b) (number_of a) same) later)
      | false ↦ λ same. value (number_of b) a rest later
    ] refl
value n a ((b, Some t) ∷ rest) h =
    let later = right (nat_lt n (number_of b)) (rise_from (number_of b) rest) h in
    elim (same_attr b a) as (λ s. option_map (λ (q : Attr × List ℕ). q.1) (cond s (Some (b, t)) (find (λ (q : Attr × List ℕ). same_attr q.0 a) (flat_map pair_of rest)))
    ≡ option_and_then (λ (row : Row). row.1) (cond s (Some (b, Some t)) (find (λ (row : Row). same_attr row.0 a) rest))) [
      | true ↦ refl
      | false ↦ value (number_of b) a rest later
    ]

-- an attribute's value is the text of its row
pub pairs_value : (r : BidRequest) (i : Imp) (a : Attr) → value_at (pairs_of r i) a ≡ text_at (rows r i) a
unfolding pairs_of
pairs_value r i a = value 0 a (rows r i) (all_rise r i)

abbrev pub all_present : List Row → List (Attr × List ℕ)
all_present group = flat_map pair_of group

seven : (s a p g d u i : List Row) → all_present ((((((s ++ a) ++ p) ++ g) ++ d) ++ u) ++ i) ≡ (((((all_present s ++ all_present a) ++ all_present p) ++ all_present g) ++ all_present d) ++ all_present u) ++ all_present i
seven s a p g d u i =
    flat_map-append pair_of (((((s ++ a) ++ p) ++ g) ++ d) ++ u) i
    ∙ ap (λ l. l ++ all_present i) (flat_map-append pair_of ((((s ++ a) ++ p) ++ g) ++ d) u
    ∙ ap (λ l. l ++ all_present u) (flat_map-append pair_of (((s ++ a) ++ p) ++ g) d
    ∙ ap (λ l. l ++ all_present d) (flat_map-append pair_of ((s ++ a) ++ p) g
    ∙ ap (λ l. l ++ all_present g) (flat_map-append pair_of (s ++ a) p
    ∙ ap (λ l. l ++ all_present p) (flat_map-append pair_of s a)))))

after : (o s a p g d u i : List (Attr × List ℕ)) → o ++ (((((((s ++ a) ++ p) ++ g) ++ d) ++ u) ++ i)) ≡ ((((((o ++ s) ++ a) ++ p) ++ g) ++ d) ++ u) ++ i
after o s a p g d u i =
    sym (ap (λ l. l ++ i) (ap (λ l. l ++ u) (ap (λ l. l ++ d) (ap (λ l. l ++ g) (ap (λ l. l ++ p) (append_assoc o s a)
    ∙ append_assoc o (s ++ a) p)
    ∙ append_assoc o ((s ++ a) ++ p) g)
    ∙ append_assoc o (((s ++ a) ++ p) ++ g) d)
    ∙ append_assoc o ((((s ++ a) ++ p) ++ g) ++ d) u)
    ∙ append_assoc o (((((s ++ a) ++ p) ++ g) ++ d) ++ u) i)

-- the groups of rows one after the other
in_groups : (r : BidRequest) (i : Imp) → pairs_of r i ≡ (((((flat_map pair_of (site_rows r.site) ++ flat_map pair_of (app_rows r.app)) ++ pair_of (Publisher, publisher_of r.site r.app))
    ++ flat_map pair_of (geo_rows (option_and_then (λ (d : Device). d.geo) r.device))) ++ flat_map pair_of (device_rows r.device)) ++ flat_map pair_of (user_rows r.user)) ++ flat_map pair_of (imp_rows i)
unfolding pairs_of
in_groups r i =
    let g = flat_map pair_of (geo_rows (option_and_then (λ (d : Device). d.geo) r.device)) in
    let front = flat_map pair_of (site_rows r.site) ++ flat_map pair_of (app_rows r.app) in
    let row : Row = (Publisher, publisher_of r.site r.app) in
    seven (site_rows r.site) (app_rows r.app) (row ∷ []) (geo_rows (option_and_then (λ (d : Device). d.geo) r.device)) (device_rows r.device) (user_rows r.user) (imp_rows i)
    ∙ ap (λ l. ((((front ++ l) ++ g) ++ flat_map pair_of (device_rows r.device)) ++ flat_map pair_of (user_rows r.user)) ++ flat_map pair_of (imp_rows i)) (append-nil (pair_of row))

-- and behind others
pub behind_groups : (o : List (Attr × List ℕ)) (r : BidRequest) (i : Imp) → o ++ pairs_of r i ≡ ((((((o ++ flat_map pair_of (site_rows r.site)) ++ flat_map pair_of (app_rows r.app)) ++ pair_of (Publisher, publisher_of r.site r.app))
    ++ flat_map pair_of (geo_rows (option_and_then (λ (d : Device). d.geo) r.device))) ++ flat_map pair_of (device_rows r.device)) ++ flat_map pair_of (user_rows r.user)) ++ flat_map pair_of (imp_rows i)
behind_groups o r i =
    ap (λ l. o ++ l) (in_groups r i)
    ∙ after o (flat_map pair_of (site_rows r.site)) (flat_map pair_of (app_rows r.app)) (pair_of (Publisher, publisher_of r.site r.app)) (flat_map pair_of (geo_rows (option_and_then (λ (d : Device). d.geo) r.device)))
    (flat_map pair_of (device_rows r.device)) (flat_map pair_of (user_rows r.user)) (flat_map pair_of (imp_rows i))
