-- A posting list has the entries that it was made of.
use Rattle.std.proofs.Common.{◌≡◌, ℕ, ◌+◌, ◌<◌, suc, zero, List, [], ◌∷◌, Bool, refl, sym, ◌∙◌, ap, arith, length, map, Some, option_map, slice_get, slice_index}
use Rattle.postings.specs.declared.entry.Entry.{Entry}
use Rattle.postings.specs.Order.{entry_at}
use Rattle.postings.specs.Packed.{AreMarked, id_of, is_marked, unpack, unpack_from}

marked_from : (marks : List ℕ) (n : ℕ) (es : List Entry) → ((i : ℕ) → i < length es → is_marked marks (n + i) ≡ (entry_at es i).negated) → unpack_from marks n (map id_of es) ≡ es
marked_from marks n [] marked = refl
marked_from marks n (e ∷ es) marked =
    let start : n ≡ n + 0 = omega arith in
    let here : is_marked marks n ≡ e.negated = ap (is_marked marks) start ∙ marked 0 (omega arith) in
    let rest : unpack_from marks (n + 1) (map id_of es) ≡ es = marked_from marks (n + 1) es (λ i h.
    let same : n + suc i ≡ n + 1 + i = omega arith in
    ap (is_marked marks) (sym same) ∙ marked (suc i) (omega arith)) in
    ap (λ (b : Bool). record { id = e.id; negated = b } ∷ unpack_from marks (n + 1) (map id_of es)) here ∙ ap (λ t. e ∷ t) rest

pub unpacked_is : (marks : List ℕ) (es : List Entry) → AreMarked marks es → unpack (map id_of es) marks ≡ es
unpacked_is marks es marked = marked_from marks 0 es (λ i h. ap (is_marked marks) (omega arith) ∙ marked i h)

length_from : (marks : List ℕ) (n : ℕ) (ids : List ℕ) → length (unpack_from marks n ids) ≡ length ids
length_from marks n [] = refl
length_from marks n (id ∷ ids) = ap suc (length_from marks (n + 1) ids)

pub unpacked_length : (ids marks : List ℕ) → length (unpack ids marks) ≡ length ids
unpacked_length ids marks = length_from marks 0 ids

get_from : (marks : List ℕ) (n : ℕ) (ids : List ℕ) (i : ℕ) → slice_get (unpack_from marks n ids) i ≡ option_map (λ (id : ℕ). record { id = id; negated = is_marked marks (n + i) }) (slice_get ids i)
get_from marks n [] i = refl
get_from marks n (id ∷ ids) zero = ap (λ k. Some (record { id = id; negated = is_marked marks k })) (omega arith)
get_from marks n (id ∷ ids) (suc i) =
    let same : n + 1 + i ≡ n + suc i = omega arith in
    get_from marks (n + 1) ids i ∙ ap (λ k. option_map (λ (id : ℕ). record { id = id; negated = is_marked marks k }) (slice_get ids i)) same

pub unpacked_get : (ids marks : List ℕ) (i : ℕ) → slice_get (unpack ids marks) i ≡ option_map (λ (id : ℕ). record { id = id; negated = is_marked marks i }) (slice_get ids i)
unpacked_get ids marks i = get_from marks 0 ids i ∙ ap (λ k. option_map (λ (id : ℕ). record { id = id; negated = is_marked marks k }) (slice_get ids i)) (omega arith)

at_from : (marks : List ℕ) (n : ℕ) (ids : List ℕ) (i : ℕ) → i < length ids → entry_at (unpack_from marks n ids) i ≡ record { id = slice_index ids i; negated = is_marked marks (n + i) }
at_from marks n [] i h = absurd (omega arith)
at_from marks n (id ∷ ids) zero h = ap (λ k. record { id = id; negated = is_marked marks k }) (omega arith)
at_from marks n (id ∷ ids) (suc i) h =
    let same : n + 1 + i ≡ n + suc i = omega arith in
    at_from marks (n + 1) ids i (omega arith) ∙ ap (λ k. record { id = slice_index ids i; negated = is_marked marks k }) same

pub unpacked_at : (ids marks : List ℕ) (i : ℕ) → i < length ids → entry_at (unpack ids marks) i ≡ record { id = slice_index ids i; negated = is_marked marks i }
unpacked_at ids marks i h = at_from marks 0 ids i h ∙ ap (λ k. record { id = slice_index ids i; negated = is_marked marks k }) (omega arith)
