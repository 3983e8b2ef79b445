use Rattle.std.proofs.Common.{◌≡◌, ◌<◌, List, [], ◌∷◌, length, slice_get, Some, refl, ap, ◌∙◌, arith}
use Rattle.std.specs.List.{list_all}
use Rattle.clearing.specs.Clearing.{is_fit}
use Rattle.deal_rules.specs.Terms.{terms_of}
use Rattle.rtb_types.specs.declared.request.Imp.{Imp}
use Rattle.market_cases.proofs.rules.put_sale.Goals as goal

first : (xs : List Imp) → 0 < length xs → (x : Imp) × (slice_get xs 0 ≡ Some x)
first [] some = absurd (omega arith)
first (x ∷ xs) some = (x, refl)

-- the offers fit the terms by the contracts alone
pub clear-win-requires : goal.clear-win-requires
clear-win-requires c =
    let r = c.args.asked.now in
    let found = first r.imps c.requires.some in
    ap (λ ts. list_all (is_fit ts) c.deref.result.now) (c.terms_at.ensures found.0 found.1)
    ∙ ap (list_all (is_fit (terms_of r found.0))) c.deref.ensures.value
    ∙ c.in_ok-offers.ensures found.0 found.1
