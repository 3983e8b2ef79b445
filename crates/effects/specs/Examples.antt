-- Four effects and their bytes, written out.
use Rattle.std.specs.Prelude.{ℕ, List, [], ◌∷◌}
use Rattle.plain_exchange.specs.declared.changes.Change.{Change}
use Rattle.plain_exchange.specs.declared.changes.Effect.{Effect}
use Rattle.plain_exchange.specs.declared.changes.SoldItem.{SoldItem}

-- campaign 1 is paused at moment 1000
abbrev pub pause : Effect
pause = record { moment = 1000; change = Change.Paused 1 }

abbrev pub pause_bytes : List ℕ
pause_bytes = 0 ∷ 0 ∷ 0 ∷ 0 ∷ 0 ∷ 0 ∷ 3 ∷ 232 ∷ 4 ∷ 0 ∷ 0 ∷ 0 ∷ 1 ∷ []

-- campaign 1 buys an impression for 1,010,000 nano-dollars, which is due at moment 301000
abbrev pub item : SoldItem
item = record { campaign = 1; price = 1010000; due = 301000 }

abbrev pub sold_bytes : List ℕ
sold_bytes = 1 ∷ 0 ∷ 0 ∷ 0 ∷ 1 ∷ 0 ∷ 0 ∷ 0 ∷ 0 ∷ 0 ∷ 15 ∷ 105 ∷ 80 ∷ 0 ∷ 0 ∷ 0 ∷ 0 ∷ 0 ∷ 4 ∷ 151 ∷ 200 ∷ []

abbrev pub sale : Effect
sale = record { moment = 1000; change = Change.Sold (item ∷ []) }

abbrev pub sale_bytes : List ℕ
sale_bytes = 0 ∷ 0 ∷ 0 ∷ 0 ∷ 0 ∷ 0 ∷ 3 ∷ 232 ∷ 1 ∷ sold_bytes

-- the same to the user u1
abbrev pub sale_to_user : Effect
sale_to_user = record { moment = 1000; change = Change.SoldTo (117 ∷ 49 ∷ []) (item ∷ []) }

abbrev pub sale_to_user_bytes : List ℕ
sale_to_user_bytes = 0 ∷ 0 ∷ 0 ∷ 0 ∷ 0 ∷ 0 ∷ 3 ∷ 232 ∷ 8 ∷ 0 ∷ 0 ∷ 0 ∷ 2 ∷ 117 ∷ 49 ∷ sold_bytes

-- one sale is forgotten in all
abbrev pub forgot : Effect
forgot = record { moment = 1000; change = Change.Forgot 1 }

abbrev pub forgot_bytes : List ℕ
forgot_bytes = 0 ∷ 0 ∷ 0 ∷ 0 ∷ 0 ∷ 0 ∷ 3 ∷ 232 ∷ 13 ∷ 0 ∷ 0 ∷ 0 ∷ 0 ∷ 0 ∷ 0 ∷ 0 ∷ 1 ∷ []
