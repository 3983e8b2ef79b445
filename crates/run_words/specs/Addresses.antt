-- The port of an address, and what stands before the paths of notices.
use Rattle.std.specs.Prelude.{ℕ, List, [], ◌∷◌, Bool, false, ◌==◌, ◌&&◌, ◌||◌, length, take, drop, codes, nat_le, nat_lt}
use Rattle.std.specs.List.{list_all}
use Rattle.std.specs.Str.{bytes_eq}
use Rattle.clap.specs.Words.{Text}

-- the digit 0
abbrev pub is_zero : ℕ → Bool
is_zero byte = byte == 48

-- that digit, once or more
abbrev pub are_zeros : Text → Bool
are_zeros digits = nat_lt 0 (length digits) && list_all is_zero digits

-- behind a colon of the address stand zeros alone: its port is 0
abbrev pub has_port_0 : Text → Bool
has_port_0 [] = false
has_port_0 (byte ∷ bytes) = (byte == 58 && are_zeros bytes) || has_port_0 bytes

-- a letter, a digit or an opening bracket: what a host begins with (RFC 1123 section 2.1, RFC 3986 section 3.2.2)
abbrev pub is_host_byte : ℕ → Bool
is_host_byte byte = (nat_le 97 byte && nat_le byte 122) || ((nat_le 65 byte && nat_le byte 90) || ((nat_le 48 byte && nat_le byte 57) || byte == 91))

abbrev pub begins_host : Text → Bool
begins_host [] = false
begins_host (byte ∷ bytes) = is_host_byte byte

-- the text begins with the scheme, and a host behind it
abbrev pub host_behind : Text → Text → Bool
host_behind scheme text = bytes_eq (take (length scheme) text) scheme && begins_host (drop (length scheme) text)

-- what may stand before the paths of notices: a URI of HTTP with a host (RFC 9110 section 4.2)
abbrev pub is_public : Text → Bool
is_public text = host_behind (codes "http://") text || host_behind (codes "https://") text
