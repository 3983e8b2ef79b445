-- The list of rules, read rule by rule and in the order of the code.
use Rattle.std.proofs.Common.{◌≡◌, ◌&&◌, ◌||◌, not, List, [], ◌∷◌, ◌++◌, Bool, true, false, cond, Option, Some, find, option_map, refl, ap, sym, ◌∙◌, rules}
use Rattle.std.specs.List.{list_any}
use Rattle.std.specs.List.Sorted.{IsPermutation}
use Rattle.std.proofs.lemmas.List.Folds.{list_any-append}
use Rattle.std.proofs.lemmas.List.Sorted.{list_any-IsPermutation}
use Rattle.deal_rules.specs.declared.rule.Rule.{Rule}
use Rattle.deal_rules.specs.declared.rule.Rule.TheVariants.{Request, NoBanner, Size, Attribute, Secure, SeatNotAllowed, SeatBlocked, Category, Advertiser, Budget, Capped, Private, Currency, Floor}
use Rattle.deal_rules.specs.Offers.{first_reason, is_excluded}
use Rattle.deal_rules.specs.Rules.{Opportunity, Tested, common_rules, public_rules, stated_rules, test_of, tested, allows, has_text, takes}

abbrev common : List Rule
common = Request ∷ NoBanner ∷ Size ∷ Attribute ∷ Secure ∷ SeatNotAllowed ∷ SeatBlocked ∷ Category ∷ Advertiser ∷ Budget ∷ Capped ∷ []

-- the same where the floor comes first
abbrev floor_first : List Rule
floor_first = Floor ∷ Private ∷ Currency ∷ []

abbrev public : List Rule
public = Private ∷ Currency ∷ Floor ∷ []

some_excludes : (o : Opportunity) (rules : List Rule) → list_any (λ r. test_of r o) rules ≡ is_excluded (tested rules) o
some_excludes o [] = refl
some_excludes o (r ∷ rules) = ap (λ b. test_of r o || b) (some_excludes o rules)

first_excludes : (o : Opportunity) (rules : List Rule) → find (λ r. test_of r o) rules ≡ first_reason (tested rules) o
first_excludes o [] = refl
first_excludes o (r ∷ rules) = by_test (test_of r o) r (find (λ (t : Tested). t.1 o) (tested rules)) (find (λ s. test_of s o) rules) (first_excludes o rules)
  where
    by_test : (b : Bool) (r : Rule) (rest : Option Tested) (other : Option Rule) → other ≡ option_map (λ (t : Tested). t.0) rest
        → cond b (Some r) other ≡ option_map (λ (t : Tested). t.0) (cond b (Some (r, test_of r)) rest)
    by_test true r rest other e = refl
    by_test false r rest other e = e

floor_reordered : IsPermutation public floor_first
floor_reordered = record { moves = (1, 2) ∷ (0, 2) ∷ []; below = search rules; is = refl }

pub public_excludes : (o : Opportunity) → list_any (λ r. test_of r o) floor_first ≡ is_excluded public_rules o
unfolding public_rules
public_excludes o = sym (list_any-IsPermutation (λ r. test_of r o) public floor_first floor_reordered) ∙ some_excludes o public

pub common_reason : (o : Opportunity) → find (λ r. test_of r o) common ≡ first_reason common_rules o
unfolding common_rules public_rules
common_reason o = first_excludes o common

pub reason_of_all : (o : Opportunity) → find (λ r. test_of r o) (common ++ public) ≡ first_reason (common_rules ++ public_rules) o
unfolding common_rules public_rules
reason_of_all o = first_excludes o (common ++ public)

abbrev stated : List Rule
stated = Request ∷ NoBanner ∷ Size ∷ Attribute ∷ Secure ∷ SeatNotAllowed ∷ SeatBlocked ∷ Category ∷ Advertiser ∷ []

-- the tests of the impression, and those of the request's lists
abbrev at_sight : List Rule
at_sight = NoBanner ∷ Secure ∷ Size ∷ Request ∷ Attribute ∷ []

abbrev by_lists : List Rule
by_lists = SeatNotAllowed ∷ SeatBlocked ∷ Category ∷ Advertiser ∷ []

reordered : IsPermutation stated (at_sight ++ by_lists)
reordered = record {
  moves = (3, 4) ∷ (1, 4) ∷ (0, 1) ∷ [];
  below = search rules;
  is = refl;
}

against : (a b c d : Bool) → (not a || (b || (c || (d || false)))) ≡ not (a && (not b && (not c && not d)))
against false b c d = refl
against true true c d = refl
against true false true d = refl
against true false false true = refl
against true false false false = refl

pub stated_excludes : (o : Opportunity) → (list_any (λ r. test_of r o) at_sight || not (takes o.request o.facts)) ≡ is_excluded stated_rules o
unfolding stated_rules
stated_excludes o =
    let q = o.request in
    let f = o.facts in
    ap (λ (b : Bool). list_any (λ r. test_of r o) at_sight || b) (sym (against (allows q.wseat f.seat) (has_text q.bseat f.seat) (list_any (has_text q.bcat) f.cat) (has_text q.badv f.adomain)))
    ∙ sym (list_any-append (λ r. test_of r o) at_sight by_lists)
    ∙ sym (list_any-IsPermutation (λ r. test_of r o) stated (at_sight ++ by_lists) reordered)
    ∙ some_excludes o stated
