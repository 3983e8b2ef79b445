-- What is asked for where addresses are signed.
use Rattle.std.proofs.Common.{◌≡◌, ℕ, ◌++◌, ◌&&◌, not, if◌then◌else◌, List, [], ◌∷◌, Bool, true, false, Option, Some, None, Result, Ok, Err, is_some, is_none, codes, decimal, refl, sym, ap, ◌∙◌, subst, option_map, option_and_then}
use Rattle.std.specs.Option.{option_map_or}
use Rattle.address_keys.specs.Tokens.{is_signed}
use Rattle.address_keys.specs.declared.keys.Keys.{Keys}
use Rattle.campaign.specs.declared.parts.FactParts.{FactParts}
use Rattle.campaign_read.specs.Campaign.{campaign_faults, campaign_from}
use Rattle.campaign_read.specs.declared.fault.CampFault.{CampFault}
use Rattle.command_read.specs.Commands.{IsCommandOf, IsOfBody, IsOfMethod, IsOfPath, IsOfRoute, IsWhereOpen, IsWhereTaken, campaign_by, campaign_command, faulty, request_by, request_command, said}
use Rattle.command_read.specs.Methods.{method_of, takes}
use Rattle.command_read.specs.Paths.{before_token, has_token, is_open, methods_of, path_of, place_of, route_of, signed_path, signed_place, token_of}
use Rattle.command_read.specs.Signed.{AreNoticesSigned, HasTokenOf, has_wrong_token}
use Rattle.command_read.specs.declared.methods.Method.{Method}
use Rattle.command_read.specs.declared.methods.Method.TheVariants as method
use Rattle.command_read.specs.declared.paths.Route.{Route}
use Rattle.command_read.specs.declared.paths.Route.TheVariants as route
use Rattle.exact_json.specs.Tree.{Tree}
use Rattle.http_wire.specs.declared.answer.Answer.{Answer}
use Rattle.http_wire.specs.declared.message.Message.{Message}
use Rattle.plain_exchange.specs.declared.commands.Act.{Act}
use Rattle.plain_exchange.specs.declared.commands.Act.TheVariants as act
use Rattle.plain_exchange.specs.declared.commands.Command.{Command}
use Rattle.plain_exchange.specs.declared.commands.Command.TheVariants as command
use Rattle.rtb_read.specs.Request.{request_faults, request_from}
use Rattle.rtb_read.specs.declared.fault.ReqFault.{ReqFault}
use Rattle.rtb_types.specs.declared.request.BidRequest.{BidRequest}
use Rattle.target_expr.specs.declared.pred.Pred.{Pred}

-- ---- only the route of a notice asks for it

-- the route of a notice that is asked for
abbrev notice_in : Act → Option Route
notice_in (act.Add facts expr) = None
notice_in (act.Change n facts expr) = None
notice_in (act.Pause n) = None
notice_in (act.Resume n) = None
notice_in (act.Bill n) = Some (route.Bill n)
notice_in (act.Lose n) = Some (route.Lose n)
notice_in (act.Forget keep) = None
notice_in (act.Look l) = None

abbrev notice_of : Result Command Answer → Option Route
notice_of (Ok (command.Auction r)) = None
notice_of (Ok (command.Act a)) = notice_in a
notice_of (Err a) = None

by_request : (faults : List ReqFault) (r : BidRequest) → notice_of (request_by faults r) ≡ None
by_request [] r = refl
by_request (f ∷ faults) r = refl

by_campaign : (make : FactParts → List (List Pred) → Act) → ((facts : FactParts) (expr : List (List Pred)) → notice_in (make facts expr) ≡ None) → (t : Tree) → notice_of (campaign_command make t) ≡ None
by_campaign make none t = each (campaign_faults t)
  where
    each : (faults : List CampFault) → notice_of (campaign_by make faults (campaign_from t)) ≡ None
    each [] = none _ _
    each (f ∷ faults) = refl

by_body : (by : Tree → Result Command Answer) → ((t : Tree) → notice_of (by t) ≡ None) → (body : List ℕ) (found : Result Command Answer) → IsOfBody by body found → notice_of found ≡ None
by_body by none body found (said t text e) = ap notice_of e ∙ none t
by_body by none body found (faulty f some explains e) = ap notice_of e

-- what is asked for at a route is a notice only where the route is that notice's
no_notice : (found : Result Command Answer) (r k : Route) → notice_of found ≡ None → notice_of found ≡ Some k → r ≡ k
no_notice found r k none some = absurd (cc (none, some))

this_notice : (found : Result Command Answer) (r k : Route) → notice_of found ≡ Some r → notice_of found ≡ Some k → r ≡ k
this_notice found r k one other = cc (one, other)

by_route : (r : Route) (m : Method) (body : List ℕ) (found : Result Command Answer) (k : Route) → IsOfRoute r m body found → notice_of found ≡ Some k → r ≡ k
by_route route.Auction m body found k h e = no_notice found _ k (by_body request_command (λ t. by_request (request_faults t) (request_from t)) body found h) e
by_route route.Campaigns m body found k h e = no_notice found _ k (by_body (campaign_command act.Add) (by_campaign act.Add (λ facts expr. refl)) body found h) e
by_route (route.Campaign n) method.Get body found k h e = no_notice found _ k (ap notice_of h) e
by_route (route.Campaign n) method.Post body found k h e = no_notice found _ k (by_body (campaign_command (act.Change n)) (by_campaign (act.Change n) (λ facts expr. refl)) body found h) e
by_route (route.Pause n) m body found k h e = no_notice found _ k (ap notice_of h) e
by_route (route.Resume n) m body found k h e = no_notice found _ k (ap notice_of h) e
by_route (route.Bill n) m body found k h e = this_notice found (route.Bill n) k (ap notice_of h) e
by_route (route.Lose n) m body found k h e = this_notice found (route.Lose n) k (ap notice_of h) e
by_route (route.Forget keep) m body found k h e = no_notice found _ k (ap notice_of h) e

-- ---- what is asked for may be asked for

-- the place of a command, which is a route that is open
record IsOpenAt (place : Option (Route × Bool)) (m : Method) (body : List ℕ) (c : Command) : Type 0 where
  of_route : Route
  place_is : place ≡ Some (of_route, true)
  asks : IsOfRoute of_route m body (Ok c)

where_open : (may : Bool) (r : Route) (m : Method) (body : List ℕ) (c : Command) → IsWhereOpen may r m body (Ok c) → IsOpenAt (Some (r, may)) m body c
where_open false r m body c h = absurd (cc h)
where_open true r m body c h = record { of_route = r; place_is = refl; asks = h }

where_taken : (taken : Bool) (place : Route × Bool) (m : Method) (body : List ℕ) (c : Command) → IsWhereTaken taken place m body (Ok c) → IsOpenAt (Some place) m body c
where_taken false place m body c h = absurd (cc h)
where_taken true (r, may) m body c h = where_open may r m body c h

at_path : (place : Option (Route × Bool)) (m : Method) (body : List ℕ) (c : Command) → IsOfPath place m body (Ok c) → IsOpenAt place m body c
at_path None m body c h = absurd (cc h)
at_path (Some place) m body c h = where_taken (takes (methods_of place.0) m) place m body c h

-- ---- the place of a path, where addresses are signed

not_none : (o : Option (List ℕ)) → is_some o ≡ true → is_none o ≡ false
not_none None e = absurd (cc e)
not_none (Some key) e = refl

behind_token : (unsigned has : Bool) (a s b v : Option (Route × Bool)) → unsigned ≡ false → has ≡ true → (if unsigned then a else if has then s else b) ≡ v → s ≡ v
behind_token true has a s b v e f h = absurd (cc e)
behind_token false false a s b v e f h = absurd (cc f)
behind_token false true a s b v e f h = h

with_token : (unsigned has : Bool) (a s b v : Option (Route × Bool)) → unsigned ≡ false → (b ≡ v → ⊥) → (if unsigned then a else if has then s else b) ≡ v → has ≡ true
with_token true has a s b v e shut h = absurd (cc e)
with_token false true a s b v e shut h = refl
with_token false false a s b v e shut h = absurd (shut h)

-- the places of a path: where addresses are not signed, without a token, and by its token
abbrev unsigned_place : Option Route → Option (Route × Bool)
unsigned_place o = option_map (λ r. (r, true)) o

abbrev bare_place : Option Route → Option (Route × Bool)
bare_place o = option_map (λ r. (r, is_open r)) o

abbrev by_path : Keys → List ℕ → Route → Option (List ℕ) → Option (Route × Bool)
by_path keys digits r q = option_map (λ p. (r, is_signed keys p digits)) q

abbrev by_token : Keys → List ℕ → Option Route → Option (Route × Bool)
by_token keys digits o = option_and_then (λ r. by_path keys digits r (signed_path r)) o

-- the route of a place, and whether it is open
abbrev route_or : Route → Option (Route × Bool) → Route
route_or r None = r
route_or r (Some place) = place.0

abbrev may_in : Option (Route × Bool) → Bool
may_in None = false
may_in (Some place) = place.1

route_is : (r k : Route) (a b : Bool) → ◌≡◌ {A = Option (Route × Bool)} (Some (r, a)) (Some (k, b)) → r ≡ k
route_is r k a b e = ap (route_or r) e

may_is : (r k : Route) (a b : Bool) → ◌≡◌ {A = Option (Route × Bool)} (Some (r, a)) (Some (k, b)) → a ≡ b
may_is r k a b e = ap may_in e

apart : true ≡ false → ⊥
apart e = absurd (cc e)

closed : (k : Route) → is_open k ≡ false → (o : Option Route) → bare_place o ≡ Some (k, true) → ⊥
closed k e None h = absurd (cc h)
closed k e (Some r) h = apart (sym (may_is r k (is_open r) true h) ∙ ap is_open (route_is r k (is_open r) true h) ∙ e)

-- the token that opens a route is that of its path
token_is : (keys : Keys) (digits : List ℕ) (k r : Route) (p : List ℕ) (q : Option (List ℕ)) → signed_path k ≡ Some p → signed_path r ≡ q
    → by_path keys digits r q ≡ Some (k, true) → is_signed keys p digits ≡ true
token_is keys digits k r p None e f h = absurd (cc h)
token_is keys digits k r p (Some x) e f h =
    let both : ◌≡◌ {A = Option (List ℕ)} (Some x) (Some p) = sym f ∙ ap signed_path (route_is r k (is_signed keys x digits) true h) ∙ e in
    let same : x ≡ p = cc both in
    subst (λ y. is_signed keys y digits ≡ true) same (may_is r k (is_signed keys x digits) true h)

opened : (keys : Keys) (digits : List ℕ) (k : Route) (p : List ℕ) (o : Option Route) → signed_path k ≡ Some p → by_token keys digits o ≡ Some (k, true) → is_signed keys p digits ≡ true
opened keys digits k p None e h = absurd (cc h)
opened keys digits k p (Some r) e h = token_is keys digits k r p (signed_path r) e refl h

-- ---- notices

at_notice : (keys : Keys) (path : List ℕ) (k : Route) (p : List ℕ) → is_some keys.key ≡ true → is_open k ≡ false → signed_path k ≡ Some p
    → place_of keys path ≡ Some (k, true) → (has_token path ≡ true) × (is_signed keys p (token_of path) ≡ true)
at_notice keys path k p some shut e h =
    let signs = not_none keys.key some in
    let a = unsigned_place (route_of path) in
    let b = bare_place (route_of path) in
    let has = with_token (is_none keys.key) (has_token path) a (signed_place keys path) b (Some (k, true)) signs (closed k shut (route_of path)) h in
    let there = behind_token (is_none keys.key) (has_token path) a (signed_place keys path) b (Some (k, true)) signs has h in
    (has, opened keys (token_of path) k p (route_of (before_token path)) e there)

by_method : (keys : Keys) (m : Option Method) (target body : List ℕ) (c : Command) (k : Route) (p : List ℕ) → is_some keys.key ≡ true → is_open k ≡ false → signed_path k ≡ Some p
    → notice_of (Ok c) ≡ Some k → IsOfMethod keys m target body (Ok c) → (has_token (path_of target) ≡ true) × (is_signed keys p (token_of (path_of target)) ≡ true)
by_method keys None target body c k p some shut e is h = absurd (cc h)
by_method keys (Some m) target body c k p some shut e is h =
    let there = at_path (place_of keys (path_of target)) m body c h in
    let same = by_route there.of_route m body (Ok c) k there.asks is in
    at_notice keys (path_of target) k p some shut e (subst (λ (r : Route). place_of keys (path_of target) ≡ Some (r, true)) same there.place_is)

notice : (keys : Keys) (message : Message) (c : Command) (k : Route) (p : List ℕ) → is_some keys.key ≡ true → is_open k ≡ false → signed_path k ≡ Some p
    → notice_of (Ok c) ≡ Some k → IsCommandOf keys message (Ok c) → HasTokenOf keys message p
notice keys message c k p some shut e is h =
    let both = by_method keys (method_of message.method) message.target message.body c k p some shut e is h in
    record { has = both.0; signed = both.1 }

pub notices : (keys : Keys) (message : Message) → is_some keys.key ≡ true → AreNoticesSigned keys message
notices keys message some = record {
  bill = λ n h. notice keys message (command.Act (act.Bill n)) (route.Bill n) (codes "/bill/" ++ decimal n) some refl refl refl h;
  lose = λ n h. notice keys message (command.Act (act.Lose n)) (route.Lose n) (codes "/lose/" ++ decimal n) some refl refl refl h;
}

-- ---- wrong tokens

first_of : (a b c : Bool) → (a && b && c) ≡ true → a ≡ true
first_of true b c e = refl
first_of false b c e = absurd (cc e)

second_of : (a b c : Bool) → (a && b && c) ≡ true → b ≡ true
second_of true true c e = refl
second_of true false c e = absurd (cc e)
second_of false b c e = absurd (cc e)

third_of : (a b c : Bool) → (a && b && c) ≡ true → c ≡ true
third_of true true true e = refl
third_of true true false e = absurd (cc e)
third_of true false c e = absurd (cc e)
third_of false b c e = absurd (cc e)

not_wrong : (b : Bool) → b ≡ true → not b ≡ true → ⊥
not_wrong true e f = absurd (cc f)
not_wrong false e f = absurd (cc e)

-- a token is wrong that is not that of the path
abbrev is_wrong : Keys → List ℕ → Option (List ℕ) → Bool
is_wrong keys digits q = option_map_or (λ p. not (is_signed keys p digits)) q false

not_by_path : (keys : Keys) (digits : List ℕ) (r k : Route) (q : Option (List ℕ)) → by_path keys digits r q ≡ Some (k, true) → is_wrong keys digits q ≡ true → ⊥
not_by_path keys digits r k None h e = absurd (cc h)
not_by_path keys digits r k (Some x) h e = not_wrong (is_signed keys x digits) (may_is r k (is_signed keys x digits) true h) e

not_by_token : (keys : Keys) (digits : List ℕ) (k : Route) (o : Option Route) → by_token keys digits o ≡ Some (k, true) → is_wrong keys digits (option_and_then signed_path o) ≡ true → ⊥
not_by_token keys digits k None h e = absurd (cc h)
not_by_token keys digits k (Some r) h e = not_by_path keys digits r k (signed_path r) h e

not_there : (keys : Keys) (path : List ℕ) (k : Route) → has_wrong_token keys path ≡ true → place_of keys path ≡ Some (k, true) → ⊥
not_there keys path k wrong h =
    let other = is_wrong keys (token_of path) (option_and_then signed_path (route_of (before_token path))) in
    let signs = not_none keys.key (first_of (is_some keys.key) (has_token path) other wrong) in
    let has = second_of (is_some keys.key) (has_token path) other wrong in
    let there = behind_token (is_none keys.key) (has_token path) (unsigned_place (route_of path)) (signed_place keys path) (bare_place (route_of path)) (Some (k, true)) signs has h in
    not_by_token keys (token_of path) k (route_of (before_token path)) there (third_of (is_some keys.key) (has_token path) other wrong)

wrong_method : (keys : Keys) (m : Option Method) (target body : List ℕ) (c : Command) → has_wrong_token keys (path_of target) ≡ true → IsOfMethod keys m target body (Ok c) → ⊥
wrong_method keys None target body c wrong h = absurd (cc h)
wrong_method keys (Some m) target body c wrong h =
    let there = at_path (place_of keys (path_of target)) m body c h in
    not_there keys (path_of target) there.of_route wrong there.place_is

pub wrong_token : (keys : Keys) (message : Message) → has_wrong_token keys (path_of message.target) ≡ true → (c : Command) → IsCommandOf keys message (Ok c) → ⊥
wrong_token keys message wrong c h = wrong_method keys (method_of message.method) message.target message.body c wrong h
