-- The facts of a numbered campaign have no fault.
use Rattle.std.proofs.Common.{◌≡◌, ℕ, ◌<◌, ◌≤◌, ◌^◌, nat_le, List, [], ◌++◌, length, length-append, Bool, true, Ok, Err, ap, ◌∙◌, arith}
use Rattle.std.specs.Prelude.{codes, decimal}
use Rattle.std.proofs.lemmas.Bool.{and_from, le-leb}
use Rattle.std.proofs.lemmas.Fmt.{decimal_nonempty, length-decimal-le}
use Rattle.campaign.specs.declared.parts.FactFault.{FactFault}
use Rattle.campaign.specs.declared.parts.FactParts.{FactParts}
use Rattle.campaign.specs.declared.parts.FactFault.TheVariants.{BidZero, TextLength}
use Rattle.campaign.specs.declared.field.CampField.TheVariants.{Adm, Adomain, Crid, Seat}
use Rattle.campaign.specs.Faults.{ok_unless, fact_faults, fault_unless, is_text}
use Rattle.exchange_run.specs.Exchange.{facts_of}

-- a number has 1 to 10 digits
digits : (n : ℕ) → n < 2 ^ 32 → length (decimal n) ≤ 10
digits n h = length-decimal-le 10 n (omega arith) (omega arith) (omega arith)

some_digit : (n : ℕ) → n < 2 ^ 32 → 1 ≤ length (decimal n)
some_digit n h = let some : 0 < length (decimal n) = decimal_nonempty n (omega arith) in omega arith

is_one : (t : List ℕ) → 1 ≤ length t → length t ≤ 255 → is_text t ≡ true
is_one t some few = and_from (nat_le 1 (length t)) (nat_le (length t) 255) (le-leb 1 (length t) some) (le-leb (length t) 255 few)

behind : (front : List ℕ) (n : ℕ) → n < 2 ^ 32 → length front ≤ 20 → is_text (front ++ decimal n) ≡ true
behind front n h few =
    let some : 1 ≤ length (decimal n) = some_digit n h in
    let most : length (decimal n) ≤ 10 = digits n h in
    is_one (front ++ decimal n) (omega (arith, length-append front (decimal n))) (omega (arith, length-append front (decimal n)))

within : (front back : List ℕ) (n : ℕ) → n < 2 ^ 32 → length front ≤ 20 → length back ≤ 20 → is_text (front ++ decimal n ++ back) ≡ true
within front back n h few short =
    let some : 1 ≤ length (decimal n) = some_digit n h in
    let most : length (decimal n) ≤ 10 = digits n h in
    is_one (front ++ decimal n ++ back) (omega (arith, length-append front (decimal n), length-append (front ++ decimal n) back))
    (omega (arith, length-append front (decimal n), length-append (front ++ decimal n) back))

by_tests : Bool → Bool → Bool → Bool → Bool → List FactFault
by_tests seat adomain bid adm crid =
    fault_unless seat (TextLength Seat) ++ fault_unless adomain (TextLength Adomain) ++ [] ++ [] ++ [] ++ fault_unless bid BidZero ++ [] ++ fault_unless adm (TextLength Adm) ++ fault_unless crid (TextLength Crid) ++ []

all_right : (seat adomain bid adm crid : Bool) → seat ≡ true → adomain ≡ true → bid ≡ true → adm ≡ true → crid ≡ true → by_tests seat adomain bid adm crid ≡ []
unfolding by_tests
all_right seat adomain bid adm crid s a b m c =
    ap (λ t. by_tests t adomain bid adm crid) s ∙ ap (λ t. by_tests true t bid adm crid) a ∙ ap (λ t. by_tests true true t adm crid) b ∙ ap (λ t. by_tests true true true t crid) m ∙ ap (λ t. by_tests true true true true t) c

pub faultless : (n bid : ℕ) → n < 2 ^ 32 → 1 ≤ bid → fact_faults (facts_of n bid) ≡ []
unfolding by_tests
faultless n bid h some =
    let most : length (decimal n) ≤ 10 = digits n h in
    let adm : length (codes "ad " ++ decimal n) ≤ 65536 = omega (arith, length-append (codes "ad ") (decimal n)) in
    all_right _ _ _ _ _ (behind (codes "s") n h (omega arith)) (within (codes "ad") (codes ".example") n h (omega arith) (omega arith)) (le-leb 1 bid some)
    (le-leb (length (codes "ad " ++ decimal n)) 65536 adm) (behind (codes "cr") n h (omega arith))

-- so making the facts answers none
pub never : (n bid : ℕ) (p : FactParts) (f : FactFault) → n < 2 ^ 32 → 1 ≤ bid → p ≡ facts_of n bid → Err f ≡ ok_unless (fact_faults p) p → ⊥
never n bid p f h some e fault =
    let none : fact_faults p ≡ [] = ap fact_faults e ∙ faultless n bid h some in
    let all : Err f ≡ Ok p = fault ∙ ap (λ fs. ok_unless fs p) none in
    cc
