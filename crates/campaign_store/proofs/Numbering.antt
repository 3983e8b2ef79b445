-- The live campaigns, one campaign further.
use Rattle.std.proofs.Common.{◌≡◌, ℕ, ◌+◌, ◌<◌, ◌≤◌, List, [], ◌∷◌, ◌++◌, length, take, get_or, append-nil, ◌∙◌, ap, arith}
use Rattle.std.specs.List.{enumerate_from, flat_map}
use Rattle.std.proofs.lemmas.List.{take_more, take_all}
use Rattle.std.proofs.lemmas.List.Concat.{flat_map-append}
use Rattle.std.proofs.lemmas.List.FromFn.{length-enumerate_from, get_or-enumerate_from}
use Rattle.campaign_store.specs.declared.listed.Listed.{Listed}
use Rattle.campaign_store.specs.Table.{live_record, live_records}

pub one_campaign_more : (cs : List Listed) (i : ℕ) (c : Listed) → i < length cs
    → flat_map live_record (take (i + 1) (enumerate_from 1 cs)) ≡ flat_map live_record (take i (enumerate_from 1 cs)) ++ live_record (i + 1, get_or cs i c)
one_campaign_more cs i c h =
    let within : i < length (enumerate_from 1 cs) = omega (arith, length-enumerate_from 1 cs) in
    let number : 1 + i ≡ i + 1 = omega arith in
    ap (flat_map live_record) (take_more (enumerate_from 1 cs) i (i, c) within)
    ∙ flat_map-append live_record (take i (enumerate_from 1 cs)) (get_or (enumerate_from 1 cs) i (i, c) ∷ [])
    ∙ ap (λ l. flat_map live_record (take i (enumerate_from 1 cs)) ++ l) (append-nil (live_record (get_or (enumerate_from 1 cs) i (i, c)))
    ∙ ap live_record (get_or-enumerate_from 1 cs i (i, c) h ∙ ap (λ n. (n, get_or cs i c)) number))

pub no_campaign_more : (cs : List Listed) (i : ℕ) → length cs ≤ i → flat_map live_record (take i (enumerate_from 1 cs)) ≡ live_records cs
no_campaign_more cs i h = ap (flat_map live_record) (take_all i (enumerate_from 1 cs) (omega (arith, length-enumerate_from 1 cs)))
