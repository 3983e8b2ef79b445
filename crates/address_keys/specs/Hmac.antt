-- HMAC (RFC 2104, section 2) over SHA-256, whose blocks have 64 bytes.
use Rattle.std.specs.Prelude.{ℕ, ◌-◌, bit_xor, List, ◌++◌, length, map, replicate}
use Rattle.sha2.specs.Sha256.{sha256}

-- a key of at most 64 bytes, with zeros behind it
abbrev pub whole_block : List ℕ → List ℕ
whole_block key = key ++ replicate (64 - length key) 0

abbrev pub masked : ℕ → List ℕ → List ℕ
masked mask block = map (λ byte. bit_xor byte mask) block

-- the masks are 0x36 and 0x5c
abbrev pub hmac : List ℕ → List ℕ → List ℕ
hmac key text = sha256 (masked 92 (whole_block key) ++ sha256 (masked 54 (whole_block key) ++ text))
