-- What the records of a table hold, where one is put in place of another.
use Rattle.std.proofs.Common.{◌≡◌, ℕ, ◌+◌, ◌==◌, cond, ◌-◌, ◌<◌, ◌≤◌, List, length, get_or, set, slice_get, sum_by, Option, Some, None, Bool, false, ap, sym, subst, ◌∙◌, arith}
use Rattle.std.proofs.lemmas.List.{get_or-map, length-map, map-set}
use Rattle.std.proofs.lemmas.List.Sums.{sum_by-set, get_or-le-sum_by}
use Rattle.std.proofs.lemmas.Option.{slice_get-get_or}
use Rattle.std.proofs.lemmas.Bool.Decides.{nat_tests}
use Rattle.std.proofs.Math.Seq.{map-set_same}
use Rattle.std.specs.Option.{option_map_or}
use Rattle.campaign_store.specs.declared.counts.Counts.{Counts}
use Rattle.campaign_store.specs.declared.listed.Listed.{Listed}
use Rattle.campaign_store.specs.declared.record.Record.{Record}
use Rattle.campaign_store.specs.Counts.{counts_of, total_of, plus, minus, AreParts}
use Rattle.campaign_store.specs.Kept.{IsTable}
use Rattle.campaign_store.specs.Limits.{bytes_of, passed_limit}
use Rattle.campaign_store.specs.Table.{TableState, campaign_at, entries_of, with_changed, with_live}
use Rattle.target_expr.specs.Pairs.{values_of}

-- the record of the campaign at a place
entry_at : (cs : List Listed) (k : ℕ) (c : Listed) → k < length cs → get_or cs k c ≡ c → get_or (entries_of cs) k c.entry ≡ c.entry
entry_at cs k c lt is = get_or-map (λ (x : Listed). x.entry) cs k c c.entry lt ∙ ap (λ (x : Listed). x.entry) is

-- a sum knows each of its parts
part_of : (f : Record → ℕ) (rs : List Record) (k : ℕ) (r : Record) → k < length rs → get_or rs k r ≡ r → f r ≤ sum_by f rs
part_of f rs k r lt is = subst (λ x. f x ≤ sum_by f rs) is (get_or-le-sum_by f rs k r lt)

-- and the part may be another
exchanged : (f : Record → ℕ) (rs : List Record) (k : ℕ) (r q : Record) → k < length rs → get_or rs k r ≡ r → sum_by f rs - f r + f q ≡ sum_by f (set rs k q)
exchanged f rs k r q lt is =
    let moved : sum_by f (set rs k q) + f r ≡ sum_by f rs + f q = ap (λ x. sum_by f (set rs k q) + f x) (sym is) ∙ sum_by-set f rs k q r lt in
    let le = part_of f rs k r lt is in
    omega (arith, moved, le)

pub parts_there : (cs : List Listed) (k : ℕ) (c : Listed) → k < length cs → get_or cs k c ≡ c → AreParts (total_of (entries_of cs)) (counts_of c.entry)
parts_there cs k c lt is =
    let rs = entries_of cs in
    let inside : k < length rs = omega (arith, lt, length-map cs (λ (x : Listed). x.entry)) in
    let at = entry_at cs k c lt is in
    record {
      conjunctions = part_of (λ (r : Record). length r.expr) rs k c.entry inside at;
      values = part_of (λ (r : Record). values_of r.expr) rs k c.entry inside at;
      text_bytes = part_of bytes_of rs k c.entry inside at;
    }

same_counts : (a b c d e f : ℕ) → a ≡ b → c ≡ d → e ≡ f → ◌≡◌ {A = Counts} (record { conjunctions = a; values = c; text_bytes = e }) (record { conjunctions = b; values = d; text_bytes = f })
same_counts a b c d e f p q r = cc

pub part_exchanged : (cs : List Listed) (k : ℕ) (c : Listed) (q : Record) → k < length cs → get_or cs k c ≡ c → plus (minus (total_of (entries_of cs)) (counts_of c.entry)) (counts_of q) ≡ total_of (set (entries_of cs) k q)
part_exchanged cs k c q lt is =
    let rs = entries_of cs in
    let inside : k < length rs = omega (arith, lt, length-map cs (λ (x : Listed). x.entry)) in
    let at = entry_at cs k c lt is in
    same_counts _ _ _ _ _ _
    (exchanged (λ (r : Record). length r.expr) rs k c.entry q inside at)
    (exchanged (λ (r : Record). values_of r.expr) rs k c.entry q inside at)
    (exchanged bytes_of rs k c.entry q inside at)

-- ---- edits

-- another record in place of one
pub table_changed : (cs : List Listed) (k : ℕ) (live : Bool) (entry : Record) (total : Counts) → total ≡ total_of (set (entries_of cs) k entry) → passed_limit (set (entries_of cs) k entry) ≡ None → IsTable (set cs k (record { entry = entry; live = live })) total
table_changed cs k live entry total counted within =
    let same = sym (map-set (λ (x : Listed). x.entry) cs k (record { entry = entry; live = live })) in
    record { counted = counted ∙ ap total_of same; within = ap passed_limit (sym same) ∙ within }

-- the same record, paused or live
pub table_turned : (cs : List Listed) (k : ℕ) (c : Listed) (live : Bool) (total : Counts) → k < length cs → get_or cs k c ≡ c → IsTable cs total → IsTable (set cs k (with_live live c)) total
table_turned cs k c live total lt is table =
    let same : entries_of (set cs k (with_live live c)) ≡ entries_of cs = map-set_same (λ (x : Listed). x.entry) cs k (with_live live c) c (ap (λ (x : Listed). x.entry) (sym is)) in
    record { counted = table.counted ∙ ap total_of (sym same); within = ap passed_limit same ∙ table.within }

is_some_place : (n : ℕ) → 1 ≤ n → (n == 0) ≡ false
is_some_place n some = grind (arith, nat_tests)

-- campaign n stands at the place before n
pub changed_at : (change : Listed → Listed) (cs : List Listed) (n : ℕ) (c : Listed) → 1 ≤ n → n ≤ length cs → get_or cs (n - 1) c ≡ c → set cs (n - 1) (change c) ≡ with_changed change n cs
changed_at change cs n c some le is =
    let there : slice_get cs (n - 1) ≡ Some c = slice_get-get_or cs (n - 1) c (omega (arith, some, le)) ∙ ap Some is in
    let found : campaign_at cs n ≡ Some c = ap (λ test. cond test None (slice_get cs (n - 1))) (is_some_place n some) ∙ there in
    sym (ap (λ (at : Option Listed). option_map_or (λ x. set cs (n - 1) (change x)) at cs) found)

-- what contracts see after an edit
pub edited : (change : Listed → Listed) (n : ℕ) (cs ds : List Listed) (edits spare : ℕ) (v : TableState) → ds ≡ with_changed change n cs → ◌≡◌ {A = TableState} (record { campaigns = cs; edits = edits; spare = spare }) v
    → ◌≡◌ {A = TableState} (record { campaigns = ds; edits = edits + 1; spare = spare }) (record v { campaigns = with_changed change n v.campaigns; edits = v.edits + 1 })
edited change n cs ds edits spare v changed view =
    subst (λ (w : TableState). ◌≡◌ {A = TableState} (record { campaigns = ds; edits = edits + 1; spare = spare }) (record w { campaigns = with_changed change n w.campaigns; edits = w.edits + 1 })) view
    (ap (λ l. record { campaigns = l; edits = edits + 1; spare = spare }) changed)
