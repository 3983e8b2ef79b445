-- The live campaigns of a table: their numbers rise, and they hold no more than all of its records.
use Rattle.std.proofs.Common.{◌≡◌, ℕ, zero, suc, ◌+◌, ◌<◌, ◌≤◌, List, [], ◌∷◌, ◌++◌, length, get_or, Bool, true, false, cond, nat_lt, Option, None, Some, option_map, refl, subst, arith, length-append}
use Rattle.std.specs.Prelude.{sum_by}
use Rattle.std.specs.List.{enumerate_from, flat_map}
use Rattle.std.specs.List.Sorted.{IsStrictlyIncreasing}
use Rattle.std.proofs.lemmas.Bool.Decides.{nat_tests}
use Rattle.std.proofs.lemmas.List.Sums.{sum_by-cons}
use Rattle.campaign_store.specs.Limits.{passed_limit}
use Rattle.campaign_store.specs.Table.{entries_of, live_record}
use Rattle.campaign_store.specs.declared.listed.Listed.{Listed}
use Rattle.campaign_store.specs.declared.listed.LiveRecord.{LiveRecord}
use Rattle.campaign_store.specs.declared.record.Record.{Record}
use Rattle.conj_index.specs.Campaigns.{DoRise, conjunctions_in, numbers_of}
use Rattle.target_expr.specs.declared.pred.Pred.{Pred}
use Rattle.index_versions.specs.Versions.{campaigns_of, live_in}

-- those of a table whose first campaign is number n
abbrev live_from : ℕ → List Listed → List LiveRecord
live_from n cs = flat_map live_record (enumerate_from n cs)

-- one campaign's, and the rest
abbrev with_rest : Bool → ℕ → Record → List LiveRecord → List LiveRecord
with_rest live n entry rest = cond live ((record { number = n; entry = entry }) ∷ []) [] ++ rest

-- ---- their numbers rise

-- each is above the one before it, and none is below n
Climbs : ℕ → List ℕ → Type 0
Climbs n [] = Unit {0}
Climbs n (m ∷ ms) = (n ≤ m) × Climbs (m + 1) ms

climbs_lower : (n : ℕ) (ms : List ℕ) → Climbs (n + 1) ms → Climbs n ms
unfolding Climbs
climbs_lower n [] climbs = tt
climbs_lower n (m ∷ ms) climbs = (omega (arith, climbs.0), climbs.1)

climbs_with : (live : Bool) (n : ℕ) (entry : Record) (rest : List LiveRecord) → Climbs (n + 1) (numbers_of (campaigns_of rest)) → Climbs n (numbers_of (campaigns_of (with_rest live n entry rest)))
unfolding Climbs
climbs_with true n entry rest climbs = (omega arith, climbs)
climbs_with false n entry rest climbs = climbs_lower n (numbers_of (campaigns_of rest)) climbs

live_climb : (n : ℕ) (cs : List Listed) → Climbs n (numbers_of (campaigns_of (live_from n cs)))
unfolding Climbs
live_climb n [] = tt
live_climb n (c ∷ cs) = climbs_with c.live n c.entry (live_from (n + 1) cs) (live_climb (n + 1) cs)

rising_from : (n : ℕ) (ms : List ℕ) → Climbs n ms → IsStrictlyIncreasing ms
unfolding Climbs
rising_from n [] climbs k within = absurd (omega arith)
rising_from n (a ∷ []) climbs k within = absurd (omega arith)
rising_from n (a ∷ b ∷ ms) climbs zero within = omega (arith, climbs.1.0)
rising_from n (a ∷ b ∷ ms) climbs (suc k) within =
    let next : suc (k + 1) ≡ suc k + 1 = omega arith in
    subst (λ i. get_or (b ∷ ms) k 0 < get_or (a ∷ b ∷ ms) i 0) next (rising_from (a + 1) (b ∷ ms) climbs.1 k (omega arith))

pub live_rise : (campaigns : List Listed) → DoRise (live_in campaigns)
live_rise cs = rising_from 1 (numbers_of (live_in cs)) (live_climb 1 cs)

-- ---- they are few

abbrev conjunctions : Record → ℕ
conjunctions r = length r.expr

held_with : (live : Bool) (n : ℕ) (entry : Record) (rest : List LiveRecord) → conjunctions_in (campaigns_of (with_rest live n entry rest)) ≤ conjunctions entry + conjunctions_in (campaigns_of rest)
held_with true n entry rest = omega (arith, length-append entry.expr (flat_map (λ (p : ℕ × List (List Pred)). p.1) (campaigns_of rest)))
held_with false n entry rest = omega arith

held : (n : ℕ) (cs : List Listed) → conjunctions_in (campaigns_of (live_from n cs)) ≤ sum_by conjunctions (entries_of cs)
held n [] = omega arith
held n (c ∷ cs) = omega (arith, sum_by-cons conjunctions c.entry (entries_of cs), held_with c.live n c.entry (live_from (n + 1) cs), held (n + 1) cs)

not_over : {X Y : Type 0} (f : X → Y) (a b : Bool) (x y : X) (rest : Option X) → option_map f (cond a (Some x) (cond b (Some y) rest)) ≡ None → b ≡ false
not_over f true b x y rest e = cc
not_over f false true x y rest e = cc
not_over f false false x y rest e = refl

at_most : (n : ℕ) → nat_lt 1000000 n ≡ false → n ≤ 1000000
at_most n e = grind (arith, nat_tests)

within : (rs : List Record) → passed_limit rs ≡ None → sum_by conjunctions rs ≤ 1000000
within rs none = at_most (sum_by conjunctions rs) (not_over _ (nat_lt 65536 (length rs)) (nat_lt 1000000 (sum_by conjunctions rs)) _ _ _ none)

pub live_are_few : (campaigns : List Listed) → passed_limit (entries_of campaigns) ≡ None → conjunctions_in (live_in campaigns) ≤ 1000000
live_are_few cs none = omega (arith, held 1 cs, within (entries_of cs) none)
