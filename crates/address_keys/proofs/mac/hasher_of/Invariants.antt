use Rattle.std.proofs.Common.{◌≡◌, length, take}
use Rattle.address_keys.specs.Hmac.{masked}
use Rattle.address_keys.proofs.mac.hasher_of.Given as goal

abbrev pub invariant-bytes : goal.invariant-bytes
invariant-bytes l = (length l.bytes ≡ 64) × (take l.i l.bytes ≡ masked l.mask (take l.i l.block))
