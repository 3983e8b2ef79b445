use Rattle.std.proofs.Common.{All, ◌-◌, length}
use Rattle.byte_fields.specs.Codes.{BeginsAt}
use Rattle.effects.specs.Bytes.{IsEncodable, effects_bytes}
use Rattle.effects.proofs.decoder.decode.Given as goal

abbrev pub invariant-loop-place : goal.invariant-loop-place
invariant-loop-place l = record {
  valid : All IsEncodable l.effects;
  there : BeginsAt l.bytes 0 (effects_bytes l.effects) l.place;
}

abbrev pub decreases-loop-place : goal.decreases-loop-place
decreases-loop-place l = length l.bytes - l.place
