-- Words that are campaigns.
use Rattle.std.proofs.Common.{◌≡◌, ℕ, ◌+◌, ◌<◌, ◌≤◌, nat_le, List, [], ◌∷◌, ◌++◌, length, take, drop, get_or, Bool, true, false, cond, Option, None, Some, is_some, option_map, option_and_then, refl, sym, ap, ◌∙◌, arith, append_assoc, take-append-drop}
use Rattle.std.specs.Prelude.{IsSome, unwrap_or}
use Rattle.std.specs.List.{after_first, before_first, list_all, list_any}
use Rattle.std.proofs.lemmas.Bool.{and_parts, leb-true}
use Rattle.std.proofs.lemmas.List.{take_more}
use Rattle.exchange_run.specs.Words.{Campaign, amount_of, bid_of, campaign_of, campaigns_of, domain_of, is_at, is_within}
use Rattle.exchange_run.specs.Making.{campaigns_named, is_short}
use Rattle.exchange_run.proofs.Each as each

pub all_are : (words : List (List ℕ)) → list_all (λ word. is_some (campaign_of word)) words ≡ is_some (campaigns_of words)
all_are words = each.all_are campaign_of words

split_at : (words : List (List ℕ)) (k : ℕ) (d : List ℕ) → k < length words → words ≡ take k words ++ get_or words k d ∷ drop (k + 1) words
split_at words k d h =
    sym (take-append-drop (k + 1) words) ∙ ap (λ front. front ++ drop (k + 1) words) (take_more words k d h) ∙ append_assoc (take k words) (get_or words k d ∷ []) (drop (k + 1) words)

some : (o : Option Campaign) → (o ≡ None → ⊥) → IsSome o
some None h = absurd (h refl)
some (Some c) h = refl

nothing : (o : Option (List Campaign)) → IsSome o → o ≡ None → ⊥
nothing None h e = cc
nothing (Some cs) h e = cc

-- where each word is a campaign, the one at a place is
pub is_one : (words : List (List ℕ)) (k : ℕ) (d : List ℕ) → IsSome (campaigns_of words) → k < length words → d ≡ get_or words k d → IsSome (campaign_of d)
is_one words k d h lt e =
    some (campaign_of d) (λ none. nothing (campaigns_of words) h (ap campaigns_of (split_at words k d lt) ∙ each.none_there campaign_of (take k words) (drop (k + 1) words) (get_or words k d) (sym none ∙ ap campaign_of e)))

-- one campaign more
pub one_more : (words : List (List ℕ)) (k : ℕ) (d : List ℕ) (cs : List Campaign) (c : Campaign) → k < length words → d ≡ get_or words k d → campaigns_of (take k words) ≡ Some cs → Some c ≡ campaign_of d → campaigns_of (take (k + 1) words) ≡ Some (cs ++ c ∷ [])
one_more words k d cs c lt e read f = ap campaigns_of (take_more words k d lt) ∙ each.one_more campaign_of (take k words) (get_or words k d) cs c read (f ∙ ap campaign_of e)

-- ---- what is known of a campaign

at_least_one : (o : Option ℕ) (n : ℕ) → option_and_then (λ m. cond (nat_le 1 m) (Some m) None) o ≡ Some n → 1 ≤ n
at_least_one None n e = cc
at_least_one (Some m) n e =
    elim (nat_le 1 m) as (λ b. nat_le 1 m ≡ b → cond b (Some m) None ≡ Some n → 1 ≤ n) [
      | true ↦ λ t f. let same : m ≡ n = cc in let some : 1 ≤ m = leb-true 1 m t in omega arith
      | false ↦ λ t f. cc
    ] refl e

short_by : (a b : Bool) (x : List ℕ) (o : Option (List ℕ)) → (b ≡ true → nat_le (length x) 255 ≡ true) → cond a (cond b (Some (Some x)) None) (Some None) ≡ Some o → is_short o ≡ true
short_by true true x o h e = let same : Some x ≡ o = cc in ap is_short (sym same) ∙ h refl
short_by true false x o h e = cc
short_by false b x o h e = let same : None ≡ o = cc in ap is_short (sym same)

short_domain : (word : List ℕ) (o : Option (List ℕ)) → domain_of word ≡ Some o → is_short o ≡ true
short_domain word o e =
    let x = after_first is_at word in
    short_by (list_any is_at word) (is_within 255 (length x)) x o (λ t. (and_parts (nat_le 1 (length x)) (nat_le (length x) 255) t).1) e

limits : (b : Option ℕ) (d : Option (Option (List ℕ))) (c : Campaign) → ((n : ℕ) → b ≡ Some n → 1 ≤ n) → ((o : Option (List ℕ)) → d ≡ Some o → is_short o ≡ true)
    → Some c ≡ option_and_then (λ bid. option_map (λ domain. record { bid = bid; domain = domain }) d) b → (1 ≤ c.bid) × (is_short c.domain ≡ true)
limits None d c some short e = cc
limits (Some n) None c some short e = cc
limits (Some n) (Some o) c some short e =
    let made : Campaign = record { bid = n; domain = o } in
    let same : c ≡ made = cc in
    let bid : c.bid ≡ n = ap (λ (x : Campaign). x.bid) same in
    let most : 1 ≤ n = some n refl in
    (omega arith, ap (λ (x : Campaign). is_short x.domain) same ∙ short o refl)

-- a campaign bids at least a micro-dollar, and wants no domain of more than 255 bytes
pub in_limits : (word : List ℕ) (c : Campaign) → Some c ≡ campaign_of word → (1 ≤ c.bid) × (is_short c.domain ≡ true)
in_limits word c e = limits (bid_of word) (domain_of word) c (at_least_one (amount_of (before_first is_at word))) (short_domain word) e

-- ---- the campaigns of words that are campaigns

some_list : (o : Option (List Campaign)) → IsSome o → o ≡ Some (unwrap_or o [])
some_list None h = cc
some_list (Some cs) h = refl

pub are_named : (words : List (List ℕ)) → IsSome (campaigns_of words) → campaigns_of words ≡ Some (campaigns_named words)
are_named words h = some_list (campaigns_of words) h
