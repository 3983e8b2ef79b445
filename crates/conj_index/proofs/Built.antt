-- The index that is built stands for the campaigns.
use Rattle.std.proofs.Common.{◌≡◌, ℕ, zero, suc, ◌+◌, ◌==◌, List, [], ◌∷◌, ◌++◌, Bool, true, false, cond, Some, All, length, map, get_or, slice_get, refl, sym, ◌∙◌, ap, subst, inl, inr}
use Rattle.std.specs.List.{IsDistinct, list_any}
use Rattle.std.proofs.lemmas.List.{length-map, map-append}
use Rattle.std.proofs.lemmas.List.Elements.{All-append, All-cons, All-map, All-nil, All-same}
use Rattle.std.proofs.lemmas.Option.{slice_get-get_or, same_Some}
use Rattle.indexmap.specs.IndexMap.{keys}
use Rattle.postings.specs.declared.entry.Entry.{Entry}
use Rattle.postings.specs.Order.{IsRising}
use Rattle.target_expr.specs.declared.pred.Pred.{Pred}
use Rattle.target_expr.specs.Kept.{is_kept_conjunction}
use Rattle.target_expr.specs.Pairs.{pairs_of, sizes_of}
use Rattle.conj_index.specs.declared.growing.Growing.{Growing}
use Rattle.conj_index.specs.declared.index.Index.{Index}
use Rattle.conj_index.specs.declared.key.Key.{Key}
use Rattle.conj_index.specs.declared.part.Part.{Part}
use Rattle.conj_index.specs.Campaigns.{AreKept, Campaigns, DoRise, expression_of}
use Rattle.conj_index.specs.Content.{IsIndexOf, IsPartOf, Listed, conjunctions_of, entries_of, with_owner, same_key, zero_entries, zero_lists}
use Rattle.conj_index.specs.Growing.{AreFull, AreGrown, HasZeroList, IsFull, IsGrown, finish, greatest, is_of, lists_of, pair_entries, zero_of}
use Rattle.conj_index.proofs.Entering.{map_agree, some_none}
use Rattle.conj_index.proofs.Members.{Has}
use Rattle.conj_index.proofs.Pairs.{AllKept, entries_by_pairs, greatest_by_sizes, named_by_pairs, preds_of, zero_by_sizes}
use Rattle.conj_index.proofs.Rising.{entries_rise, zeros_rise}
use Rattle.conj_index.proofs.Truths.{kept_member}

owned_preds : (n : ℕ) (e : List (List Pred)) → preds_of (with_owner (n, e)) ≡ e
owned_preds n [] = refl
owned_preds n (c ∷ e) = ap (λ l. c ∷ l) (owned_preds n e)

pub preds_all : (added : Campaigns) → preds_of (conjunctions_of added) ≡ expression_of added
preds_all [] = refl
preds_all (p ∷ added) =
    map-append (λ (c : Listed). c.preds) (with_owner p) (conjunctions_of added)
    ∙ ap (λ l. l ++ preds_of (conjunctions_of added)) (owned_preds p.0 p.1)
    ∙ ap (λ l. p.1 ++ l) (preds_all added)

each_kept : (cs : List Listed) → ((l : Listed) → Has l cs → is_kept_conjunction l.preds ≡ true) → AllKept cs
each_kept [] h = tt
each_kept (c ∷ cs) h = (h c (inl refl), each_kept cs (λ l has. h l (inr has)))

all_kept : (added : Campaigns) → AreKept added → AllKept (conjunctions_of added)
all_kept added kept = each_kept (conjunctions_of added) (kept_member added kept)

-- the parts with the zero list are those of the campaigns
pub full_parts : (added : Campaigns) (zeros : List Entry) (grown full : List Growing) → AreKept added → zeros ≡ zero_of (sizes_of (expression_of added))
    → AreGrown (pairs_of (expression_of added)) grown
    → ((k : ℕ) (part : Growing) → slice_get full k ≡ Some part → (x : Growing) × (slice_get grown k ≡ Some x) × HasZeroList k zeros x part)
    → AreFull (conjunctions_of added) full
full_parts added zeros grown full kept is each pushed = λ k part there.
    let t = pushed k part there in
    let x : Growing = t.0 in
    let g : IsGrown k (pairs_of (expression_of added)) x = each k x t.1 in
    record {
      unique = subst (λ m. IsDistinct same_key (keys m)) (sym t.2.0) g.unique;
      named = λ key. ap (λ m. list_any (same_key key) (keys m)) t.2.0 ∙ g.named key
          ∙ ap (λ e. list_any (is_of k key) (pairs_of e)) (sym (preds_all added)) ∙ named_by_pairs k (conjunctions_of added) key;
      lists = t.2.1 ∙ ap (λ l. l ++ cond (k == 0) (zeros ∷ []) [])
          (g.lists ∙ ap (λ m. map (pair_entries k (pairs_of (expression_of added))) (keys m)) (sym t.2.0)
          ∙ map_agree (pair_entries k (pairs_of (expression_of added))) (entries_of k (conjunctions_of added)) (by_key k) (keys part.keys))
          ∙ ap (λ z. map (entries_of k (conjunctions_of added)) (keys part.keys) ++ cond (k == 0) (z ∷ []) []) zero;
    }
  where
    by_key : (k : ℕ) (key : Key) → pair_entries k (pairs_of (expression_of added)) key ≡ entries_of k (conjunctions_of added) key
    by_key k key = ap (λ e. pair_entries k (pairs_of e) key) (sym (preds_all added)) ∙ entries_by_pairs k (conjunctions_of added) key (all_kept added kept)

    zero : zeros ≡ zero_entries (conjunctions_of added)
    zero = is ∙ ap (λ e. zero_of (sizes_of e)) (sym (preds_all added)) ∙ zero_by_sizes (conjunctions_of added)

-- so their lists rise
pub full_rise : (cs : List Listed) (full : List Growing) → AreFull cs full → All (λ (part : Growing). All IsRising (lists_of part)) full
full_rise cs full each = λ k d h.
    let part : Growing = get_or full k d in
    let f : IsFull k cs part = each k part (slice_get-get_or full k d h) in
    All-same IsRising (lists_of part) (map (entries_of k cs) (keys part.keys) ++ zero_lists k cs) f.lists
    (All-append IsRising (map (entries_of k cs) (keys part.keys)) (zero_lists k cs)
    (All-map IsRising (entries_of k cs) (keys part.keys) (λ i key within. entries_rise k cs (get_or (keys part.keys) i key)))
    (zero (k == 0)))
  where
    zero : (b : Bool) → All IsRising (cond b (zero_entries cs ∷ []) [])
    zero true = All-cons IsRising (zero_entries cs) [] (zeros_rise cs) (All-nil IsRising)
    zero false = All-nil IsRising

mapped_get : (full : List Growing) (k : ℕ) (part : Part) → slice_get (map finish full) k ≡ Some part → (x : Growing) × (slice_get full k ≡ Some x) × (finish x ≡ part)
mapped_get [] k part there = absurd (some_none part there)
mapped_get (x ∷ full) zero part there = (x, refl, same_Some (finish x) part there)
mapped_get (x ∷ full) (suc k) part there = mapped_get full k part there

-- the index of the finished parts
pub index_stands : (added : Campaigns) (index : Index) (full : List Growing) → DoRise added → AreKept added
    → index.owners ≡ map (λ (c : Listed). c.owner) (conjunctions_of added)
    → length full ≡ greatest (sizes_of (expression_of added)) + 1 → AreFull (conjunctions_of added) full → index.parts ≡ map finish full
    → IsIndexOf added index
index_stands added index full rising kept owners count each parts = record {
  rising = rising;
  kept = kept;
  owners = owners;
  sizes = ap length parts ∙ length-map full finish ∙ count
      ∙ ap (λ n. n + 1) (ap (λ e. greatest (sizes_of e)) (sym (preds_all added)) ∙ greatest_by_sizes (conjunctions_of added));
  parts = λ k part there.
      let t = mapped_get full k part (ap (λ l. slice_get l k) (sym parts) ∙ there) in
      let f : IsFull k (conjunctions_of added) t.0 = each k t.0 t.1 in
      let P : Part → Type 0 = λ p. IsPartOf k (conjunctions_of added) p in
      subst P t.2 (record { unique = f.unique; named = f.named; lists = f.lists });
}
