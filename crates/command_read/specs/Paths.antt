-- The paths that are listed, the methods that each takes, and which of them a token opens (RFC 9110, sections 9.1,
-- 15.5.4 and 15.5.6; RFC 9112, section 3.2.1).
use Rattle.std.specs.Prelude.{ℕ, ◌==◌, ◌-◌, ◌&&◌, ◌||◌, not, nat_le, if◌then◌else◌, List, [], ◌∷◌, ◌++◌, Bool, true, false, length, take, drop, Option, Some, None, is_none, option_map, codes, decimal}
use Rattle.std.specs.List.{list_all, prefix_len}
use Rattle.std.specs.Option.{option_and_then, option_or}
use Rattle.std.specs.Str.{bytes_eq}
use Rattle.address_keys.specs.Tokens.{is_signed}
use Rattle.address_keys.specs.declared.keys.Keys.{Keys}
use Rattle.command_read.specs.Numbers.{number_in, number_up_to}
use Rattle.command_read.specs.declared.paths.Route.{Route}
use Rattle.command_read.specs.declared.paths.Route.TheVariants as route
use Rattle.http_wire.specs.declared.answer.Allow.{Allow}
use Rattle.http_wire.specs.declared.answer.Allow.TheVariants as allow

abbrev pub is_of_path : ℕ → Bool
is_of_path c = not (c == 63)

-- what stands before the first `?` of a target: its query plays no part
abbrev pub path_of : List ℕ → List ℕ
path_of target = take (prefix_len is_of_path target) target

-- the number that is all that stands behind the front
abbrev pub number_behind : List ℕ → List ℕ → Option ℕ
number_behind front path = if bytes_eq (take (length front) path) front then number_in (drop (length front) path) else None

-- how many sales stay where others are forgotten, behind the front
abbrev pub keep_behind : List ℕ → List ℕ → Option ℕ
keep_behind front path = if bytes_eq (take (length front) path) front then number_up_to 67108864 (drop (length front) path) else None

abbrev pub numbered_route : List ℕ → Option Route
numbered_route path =
    option_or (option_map route.Campaign (number_behind (codes "/campaign/") path))
    (option_or (option_map route.Pause (number_behind (codes "/pause/") path))
    (option_or (option_map route.Resume (number_behind (codes "/resume/") path))
    (option_or (option_map route.Bill (number_behind (codes "/bill/") path))
    (option_or (option_map route.Lose (number_behind (codes "/lose/") path))
    (option_map route.Forget (keep_behind (codes "/forget/") path))))))

abbrev pub route_of : List ℕ → Option Route
route_of path =
    if bytes_eq path (codes "/openrtb2/auction") then Some route.Auction
    else if bytes_eq path (codes "/campaign") then Some route.Campaigns
    else numbered_route path

abbrev pub methods_of : Route → Allow
methods_of route.Auction = allow.Post
methods_of route.Campaigns = allow.Post
methods_of (route.Campaign n) = allow.GetPost
methods_of (route.Pause n) = allow.Post
methods_of (route.Resume n) = allow.Post
methods_of (route.Bill n) = allow.GetPost
methods_of (route.Lose n) = allow.GetPost
methods_of (route.Forget keep) = allow.Post

-- ---- where addresses are signed

-- 0 to 9 and a to f
abbrev pub is_token_digit : ℕ → Bool
is_token_digit c = (nat_le 48 c && nat_le c 57) || (nat_le 97 c && nat_le c 102)

-- a token is 32 of these digits, behind a `/` at the end of a path
abbrev pub is_token_end : List ℕ → Bool
is_token_end [] = false
is_token_end (c ∷ digits) = c == 47 && list_all is_token_digit digits

abbrev pub has_token : List ℕ → Bool
has_token path = nat_le 33 (length path) && is_token_end (drop (length path - 33) path)

abbrev pub before_token : List ℕ → List ℕ
before_token path = take (length path - 33) path

abbrev pub token_of : List ℕ → List ℕ
token_of path = drop (length path - 32) path

-- The path whose token opens a route: that of the campaign, or of the notice. The others are opened by none.
abbrev pub signed_path : Route → Option (List ℕ)
signed_path route.Auction = None
signed_path route.Campaigns = None
signed_path (route.Campaign n) = Some (codes "/campaign/" ++ decimal n)
signed_path (route.Pause n) = Some (codes "/campaign/" ++ decimal n)
signed_path (route.Resume n) = Some (codes "/campaign/" ++ decimal n)
signed_path (route.Bill n) = Some (codes "/bill/" ++ decimal n)
signed_path (route.Lose n) = Some (codes "/lose/" ++ decimal n)
signed_path (route.Forget keep) = None

-- without a token bills and losses are not taken; the others are the operator's
abbrev pub is_open : Route → Bool
is_open route.Auction = true
is_open route.Campaigns = true
is_open (route.Campaign n) = true
is_open (route.Pause n) = true
is_open (route.Resume n) = true
is_open (route.Bill n) = false
is_open (route.Lose n) = false
is_open (route.Forget keep) = true

-- what a path that ends in a token stands for, and whether it is the token that opens it
abbrev pub signed_place : Keys → List ℕ → Option (Route × Bool)
signed_place keys path = option_and_then (λ r. option_map (λ p. (r, is_signed keys p (token_of path))) (signed_path r)) (route_of (before_token path))

-- a listed path, and whether what is asked there may be asked so
abbrev pub place_of : Keys → List ℕ → Option (Route × Bool)
place_of keys path =
    if is_none keys.key then option_map (λ r. (r, true)) (route_of path)
    else if has_token path then signed_place keys path
    else option_map (λ r. (r, is_open r)) (route_of path)
