-- What a token is, and which tokens are taken.
use Rattle.std.specs.Prelude.{ℕ, ◌||◌, ◌&&◌, nat_le, if◌then◌else◌, Bool, false, List, length, take, Option, Some, None}
use Rattle.std.specs.Option.{option_map_or}
use Rattle.std.specs.Str.{bytes_eq}
use Rattle.hex.specs.Hex.{encode_lower}
use Rattle.address_keys.specs.Hmac.{hmac}
use Rattle.address_keys.specs.declared.keys.Keys.{Keys}

-- the token of a path: the first 16 bytes, as 32 digits
abbrev pub token : List ℕ → List ℕ → List ℕ
token key path = encode_lower (take 16 (hmac key path))

-- these bytes as a key, which has 32 to 64
abbrev pub key_of : List ℕ → Option (List ℕ)
key_of bytes = if nat_le 32 (length bytes) && nat_le (length bytes) 64 then Some bytes else None

-- no address is signed
abbrev pub no_keys : Keys
no_keys = record { key = None; former = None }

-- the digits are the token of the path by this key
abbrev pub is_by : Option (List ℕ) → List ℕ → List ℕ → Bool
is_by key path digits = option_map_or (λ k. bytes_eq digits (token k path)) key false

-- the digits are the path's token by the key, or by the former one
abbrev pub is_signed : Keys → List ℕ → List ℕ → Bool
is_signed keys path digits = is_by keys.key path digits || is_by keys.former path digits
