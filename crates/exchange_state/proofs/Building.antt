-- What it costs to make a version of a table is bounded by the limits of the table.
use Rattle.std.proofs.Common.{◌≡◌, ℕ, ◌+◌, ◌≤◌, List, [], ◌∷◌, ◌++◌, length, map, Bool, true, false, cond, nat_lt, Option, None, Some, option_map, refl, sym, ◌∙◌, ap, arith, length-append}
use Rattle.std.specs.Prelude.{sum_by}
use Rattle.std.specs.List.{enumerate_from, flat_map}
use Rattle.std.proofs.lemmas.Bool.Decides.{nat_tests}
use Rattle.std.proofs.lemmas.List.{length-map}
use Rattle.std.proofs.lemmas.List.Sums.{sum_by-append, sum_by-cons}
use Rattle.campaign_store.specs.Limits.{passed_limit}
use Rattle.campaign_store.specs.Table.{entries_of, live_record, live_records}
use Rattle.campaign_store.specs.declared.listed.Listed.{Listed}
use Rattle.campaign_store.specs.declared.listed.LiveRecord.{LiveRecord}
use Rattle.campaign_store.specs.declared.record.Record.{Record}
use Rattle.conj_index.specs.Campaigns.{expression_of}
use Rattle.exchange_state.specs.Costs.{most_version_cost}
use Rattle.index_versions.specs.Versions.{campaigns_of, version_cost}
use Rattle.target_expr.specs.declared.pred.Pair.{Pair}
use Rattle.target_expr.specs.declared.pred.Pred.{Pred}
use Rattle.target_expr.specs.Pairs.{conjunction_pairs, pairs_by, pairs_of, pred_pairs, size_of, values_in, values_of}

-- ---- an expression has as many pairs as it lists values

pairs_in : (n k : ℕ) (c : List Pred) → length (flat_map (pred_pairs n k) c) ≡ values_in c
pairs_in n k [] = refl
pairs_in n k (p ∷ c) = omega (
  arith,
  length-append (pred_pairs n k p) (flat_map (pred_pairs n k) c),
  length-map p.values (λ (v : List ℕ). one v),
  pairs_in n k c,
  sum_by-cons (λ (q : Pred). length q.values) p c,
)
  where
    one : List ℕ → Pair
    one v = record { conjunction = n; size = k; attr = p.attr; negated = p.negated; value = v }

pairs_from : (n : ℕ) (e : List (List Pred)) → length (flat_map conjunction_pairs (enumerate_from n e)) ≡ values_of e
pairs_from n [] = refl
pairs_from n (c ∷ e) = omega (
  arith,
  length-append (conjunction_pairs (n, c)) (flat_map conjunction_pairs (enumerate_from (n + 1) e)),
  pairs_in n (size_of c) c,
  pairs_from (n + 1) e,
  sum_by-cons values_in c e,
)

-- ---- the live campaigns list no more than all

-- those of a table whose first campaign is number n
abbrev live_from : ℕ → List Listed → List LiveRecord
live_from n cs = flat_map live_record (enumerate_from n cs)

abbrev values : Record → ℕ
values r = values_of r.expr

-- the campaigns, and the values that they list
abbrev held_by : List LiveRecord → ℕ
held_by live = length live + values_of (expression_of (campaigns_of live))

-- one campaign's, and the rest
abbrev with_rest : Bool → ℕ → Record → List LiveRecord → List LiveRecord
with_rest live n entry rest = cond live ((record { number = n; entry = entry }) ∷ []) [] ++ rest

held_with : (live : Bool) (n : ℕ) (entry : Record) (rest : List LiveRecord) → held_by (with_rest live n entry rest) ≤ 1 + values entry + held_by rest
held_with true n entry rest = omega (arith, sum_by-append values_in entry.expr (expression_of (campaigns_of rest)))
held_with false n entry rest = omega arith

held : (n : ℕ) (cs : List Listed) → held_by (live_from n cs) ≤ length cs + sum_by values (entries_of cs)
held n [] = omega arith
held n (c ∷ cs) = omega (arith, sum_by-cons values c.entry (entries_of cs), held_with c.live n c.entry (live_from (n + 1) cs), held (n + 1) cs)

-- ---- the limits

within : (a b c d : Bool) {X Y : Type 0} (f : X → Y) (w x y z : X) → option_map f (cond a (Some w) (cond b (Some x) (cond c (Some y) (cond d (Some z) None)))) ≡ None → (a ≡ false) × (c ≡ false)
within true b c d f w x y z e = absurd (cc e)
within false true c d f w x y z e = absurd (cc e)
within false false true d f w x y z e = absurd (cc e)
within false false false d f w x y z e = (refl, refl)

at_most : (limit n : ℕ) → nat_lt limit n ≡ false → n ≤ limit
at_most limit n e = grind (arith, nat_tests)

pub version_bounded : (cs : List Listed) → passed_limit (entries_of cs) ≡ None → version_cost (live_records cs) ≤ most_version_cost
version_bounded cs none =
    let rs = entries_of cs in
    let w = within (nat_lt 65536 (length rs)) _ (nat_lt 4194304 (sum_by values rs)) _ _ _ _ _ _ none in
    omega (
      arith,
      pairs_from 0 (expression_of (campaigns_of (live_from 1 cs))),
      held 1 cs,
      at_most 65536 (length rs) w.0,
      at_most 4194304 (sum_by values rs) w.1,
      length-map cs (λ (c : Listed). c.entry),
    )
