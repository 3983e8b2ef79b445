-- The exchange with one word's campaign more, and that few campaigns keep the limits.
use Rattle.std.proofs.Common.{◌≡◌, ℕ, ◌+◌, ◌*◌, ◌<◌, ◌≤◌, ◌^◌, nat_lt, List, [], ◌∷◌, ◌++◌, length, map, take, get_or, Bool, true, false, cond, Option, None, Some, option_map, refl, sym, ap, subst, ◌∙◌, arith, length-append, length-take}
use Rattle.std.specs.Prelude.{OnOk, Result, Ok, Err, codes, decimal, is_none, is_some, sum_by, unwrap_or}
use Rattle.std.specs.List.{enumerate_from}
use Rattle.std.proofs.lemmas.Bool.{leb-true}
use Rattle.std.proofs.lemmas.Bool.Decides.{nat_tests}
use Rattle.std.proofs.lemmas.List.{map_push}
use Rattle.std.proofs.lemmas.List.Sums.{sum_by_push}
use Rattle.std.proofs.lemmas.Fmt.{length-decimal-le}
use Rattle.campaign.specs.Kept.{text_bytes_of as fact_bytes_of}
use Rattle.campaign_store.specs.Limits.{bytes_of, passed_limit}
use Rattle.campaign_store.specs.declared.record.Record.{Record}
use Rattle.plain_exchange.specs.Effects.{applied, edits_in}
use Rattle.plain_exchange.specs.declared.changes.Effect.{Effect}
use Rattle.plain_exchange.specs.State.{Campaign as LiveCampaign, State, empty, record_of}
use Rattle.target_expr.specs.Pairs.{text_bytes_of, values_of}
use Rattle.exchange_run.specs.Exchange.{facts_of, live_campaign, opening, target_of}
use Rattle.exchange_run.specs.Making.{addition_of, campaigns_named, has_room_for, is_short, with_one}
use Rattle.exchange_run.specs.Words.{Campaign, campaign_of, campaigns_of}
use Rattle.exchange_run.proofs.Campaigns as campaigns
use Rattle.exchange_run.proofs.Each.{each_length, none_yet}

-- ---- one word more

numbered_push : {A : Type 0} (n : ℕ) (xs : List A) (x : A) → enumerate_from n (xs ++ x ∷ []) ≡ enumerate_from n xs ++ (n + length xs, x) ∷ []
numbered_push n [] x = ap (λ (m : ℕ). (m, x) ∷ []) (omega arith)
numbered_push n (y ∷ xs) x = ap (λ l. (n, y) ∷ l) (numbered_push (n + 1) xs x ∙ ap (λ (m : ℕ). enumerate_from (n + 1) xs ++ (m, x) ∷ []) (omega arith))

-- what is known of the words up to place k
abbrev pub AreNamed : List (List ℕ) → ℕ → Type 0
AreNamed words k = campaigns_of (take k words) ≡ Some (campaigns_named (take k words))

read_more : (words : List (List ℕ)) (k : ℕ) (d : List ℕ) (c : Campaign) → k < length words → d ≡ get_or words k d → AreNamed words k → Some c ≡ campaign_of d
    → campaigns_of (take (k + 1) words) ≡ Some (campaigns_named (take k words) ++ c ∷ [])
read_more words k d c lt e named f = campaigns.one_more words k d (campaigns_named (take k words)) c lt e named f

pub named_more : (words : List (List ℕ)) (k : ℕ) (d : List ℕ) (c : Campaign) → k < length words → d ≡ get_or words k d → AreNamed words k → Some c ≡ campaign_of d
    → campaigns_named (take (k + 1) words) ≡ campaigns_named (take k words) ++ c ∷ []
named_more words k d c lt e named f = ap (λ o. unwrap_or o []) (read_more words k d c lt e named f)

pub are_named_more : (words : List (List ℕ)) (k : ℕ) (d : List ℕ) (c : Campaign) → k < length words → d ≡ get_or words k d → AreNamed words k → Some c ≡ campaign_of d
    → AreNamed words (k + 1)
are_named_more words k d c lt e named f = read_more words k d c lt e named f ∙ ap Some (sym (named_more words k d c lt e named f))

pub opened_more : (cs : List Campaign) (n : ℕ) (c : Campaign) → n ≡ 1 + length cs → with_one (opening cs) n c ≡ opening (cs ++ c ∷ [])
unfolding with_one opening
opened_more cs n c e =
    let campaigns : map live_campaign (enumerate_from 1 (cs ++ c ∷ [])) ≡ map live_campaign (enumerate_from 1 cs) ++ live_campaign (n, c) ∷ [] =
    ap (map live_campaign) (numbered_push 1 cs c ∙ ap (λ (m : ℕ). enumerate_from 1 cs ++ (m, c) ∷ []) (sym e)) ∙ map_push live_campaign (enumerate_from 1 cs) (n, c) in
    sym (ap (λ (l : List LiveCampaign). record { campaigns = l; sales = [] }) campaigns)

-- ---- an addition

only : {A : Type 0} (b : Bool) (x y : A) → cond b (Some x) None ≡ Some y → y ≡ x
only true x y e = cc
only false x y e = cc

-- the state after an addition that fits
pub added : (s t : State) (n : ℕ) (c : Campaign) (e : Effect) → e ≡ addition_of n c → applied e s ≡ Some t → t ≡ with_one s n c
unfolding with_one addition_of
added s t n c e is after = only _ _ t (ap (λ (x : Effect). applied x s) (sym is) ∙ after)

pub on_ok : {T E : Type 0} (r : Result T E) (P Q : Type 0) → (P → Q) → OnOk r P → OnOk r Q
on_ok (Ok x) P Q f p = f p
on_ok (Err e) P Q f p = p

-- it is one edit
pub one_edit : (n : ℕ) (c : Campaign) (e : Effect) → e ≡ addition_of n c → edits_in e.change ≡ 1
unfolding addition_of
one_edit n c e is = ap (λ (x : Effect). edits_in x.change) is

there : {A : Type 0} (b : Bool) (x : A) → b ≡ true → is_some (cond b (Some x) None) ≡ true
there true x e = refl
there false x e = cc

-- one for which there is room does
pub fits : (s : State) (n : ℕ) (c : Campaign) (e : Effect) → e ≡ addition_of n c → has_room_for s n c ≡ true → is_some (applied e s) ≡ true
unfolding with_one has_room_for addition_of
fits s n c e is room = ap (λ (x : Effect). is_some (applied x s)) is ∙ there _ _ room

-- ---- limits

-- so many records, which hold little
pub record IsSmall (k : ℕ) (rs : List Record) : Type 0 where
  pub count : length rs ≡ k
  pub conjunctions : sum_by (λ (r : Record). length r.expr) rs ≤ k
  pub values : sum_by (λ (r : Record). values_of r.expr) rs ≤ k
  pub bytes : sum_by bytes_of rs ≤ k * 1000

-- the same of a state's campaigns
unfoldable pub IsSmallState : ℕ → State → Type 0
IsSmallState k s = IsSmall k (map record_of s.campaigns)

pub small_yet : (s : State) → s ≡ empty → IsSmallState 0 s
unfolding IsSmallState
small_yet s e = subst (λ (t : State). IsSmall 0 (map record_of t.campaigns)) (sym e) (record { count = refl; conjunctions = omega arith; values = omega arith; bytes = omega arith })

-- a record that holds little
record IsLittle (r : Record) : Type 0 where
  conjunction : length r.expr ≤ 1
  value : values_of r.expr ≤ 1
  size : bytes_of r ≤ 1000

digits : (n : ℕ) → n < 2 ^ 32 → length (decimal n) ≤ 10
digits n h = length-decimal-le 10 n (omega arith) (omega arith) (omega arith)

facts_little : (n bid : ℕ) → n < 2 ^ 32 → fact_bytes_of (facts_of n bid) ≤ 100
facts_little n bid h =
    let d : length (decimal n) ≤ 10 = digits n h in
    omega (arith, d, length-append (codes "s") (decimal n), length-append (codes "ad") (decimal n), length-append (codes "ad" ++ decimal n) (codes ".example"), length-append (codes "ad ") (decimal n), length-append (codes "cr") (decimal n))

target_conjunction : (o : Option (List ℕ)) → length (target_of o) ≤ 1
target_conjunction None = omega arith
target_conjunction (Some d) = omega arith

target_value : (o : Option (List ℕ)) → values_of (target_of o) ≤ 1
target_value None = omega arith
target_value (Some d) = omega arith

target_size : (o : Option (List ℕ)) → is_short o ≡ true → text_bytes_of (target_of o) ≤ 255
target_size None e = omega arith
target_size (Some d) e = let le : length d ≤ 255 = leb-true (length d) 255 e in omega arith

little : (n : ℕ) (c : Campaign) → n < 2 ^ 32 → is_short c.domain ≡ true → IsLittle (record_of (live_campaign (n, c)))
little n c h short = record {
  conjunction = target_conjunction c.domain;
  value = target_value c.domain;
  size = omega (arith, facts_little n c.bid h, target_size c.domain short);
}

pub one_more : (k : ℕ) (cs : List LiveCampaign) (n : ℕ) (c : Campaign) → n < 2 ^ 32 → is_short c.domain ≡ true → IsSmall k (map record_of cs)
    → IsSmall (k + 1) (map record_of (cs ++ live_campaign (n, c) ∷ []))
one_more k cs n c h short small =
    let rs = map record_of cs in
    let r = record_of (live_campaign (n, c)) in
    let is = little n c h short in
    subst (IsSmall (k + 1)) (sym (map_push record_of cs (live_campaign (n, c)))) (record {
      count = omega (arith, length-append rs (r ∷ []), small.count);
      conjunctions = omega (arith, sum_by_push (λ (x : Record). length x.expr) rs r, small.conjunctions, is.conjunction);
      values = omega (arith, sum_by_push (λ (x : Record). values_of x.expr) rs r, small.values, is.value);
      bytes = omega (arith, sum_by_push bytes_of rs r, small.bytes, is.size);
    })

four : {A B : Type 0} (f : A → B) (a b c d : Bool) (w x y z : A) → a ≡ false → b ≡ false → c ≡ false → d ≡ false
    → option_map f (cond a (Some w) (cond b (Some x) (cond c (Some y) (cond d (Some z) None)))) ≡ None
four f false false false false w x y z p q r s = refl
four f true b c d w x y z p q r s = cc
four f false true c d w x y z p q r s = cc
four f false false true d w x y z p q r s = cc
four f false false false true w x y z p q r s = cc

not_over : (limit n : ℕ) → n ≤ limit → nat_lt limit n ≡ false
not_over limit n le = grind (arith, nat_tests)

-- few of them keep the limits
within : (k : ℕ) (rs : List Record) → k ≤ 64 → IsSmall k rs → passed_limit rs ≡ None
within k rs few small =
    four _ _ _ _ _ _ _ _ _
    (not_over 65536 (length rs) (omega (arith, few, small.count)))
    (not_over 1000000 (sum_by (λ (r : Record). length r.expr) rs) (omega (arith, few, small.conjunctions)))
    (not_over 4194304 (sum_by (λ (r : Record). values_of r.expr) rs) (omega (arith, few, small.values)))
    (not_over 67108864 (sum_by bytes_of rs) (omega (arith, few, small.bytes)))

pub room : (k : ℕ) (s : State) (n : ℕ) (c : Campaign) → k < 64 → n < 2 ^ 32 → is_short c.domain ≡ true → IsSmallState k s → has_room_for s n c ≡ true
unfolding with_one has_room_for IsSmallState
room k s n c few h short small = ap is_none (within (k + 1) (map record_of (s.campaigns ++ live_campaign (n, c) ∷ [])) (omega arith) (one_more k s.campaigns n c h short small))

pub still_small : (k : ℕ) (s t : State) (n : ℕ) (c : Campaign) → n < 2 ^ 32 → is_short c.domain ≡ true → IsSmallState k s → t ≡ with_one s n c → IsSmallState (k + 1) t
unfolding with_one IsSmallState
still_small k s t n c h short small e = subst (λ (u : State). IsSmall (k + 1) (map record_of u.campaigns)) (sym e) (one_more k s.campaigns n c h short small)

-- ---- the words so far

none_named : campaigns_named [] ≡ []
none_named = ap (λ o. unwrap_or o []) (none_yet campaign_of)

pub opening_none : empty ≡ opening (campaigns_named [])
unfolding opening
opening_none = ap (λ (cs : List Campaign). record { campaigns = map live_campaign (enumerate_from 1 cs); sales = [] }) (sym none_named)

pub no_word : (words : List (List ℕ)) → AreNamed words 0
no_word words = none_yet campaign_of ∙ ap Some (sym none_named)

pub as_many : (words : List (List ℕ)) (k : ℕ) → k < length words → AreNamed words k → length (campaigns_named (take k words)) ≡ k
as_many words k lt named = each_length campaign_of (take k words) (campaigns_named (take k words)) named ∙ omega (arith, length-take k words)
