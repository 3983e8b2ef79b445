use Rattle.std.proofs.Common.{◌≡◌, map, drop}
use Rattle.std.specs.List.{list_any}
use Rattle.httparse.specs.Spans.{header_bytes}
use Rattle.http_wire.specs.Rules.{is_named}
use Rattle.http_wire.proofs.fields.has_named.Given as goal

abbrev pub invariant-loop-field : goal.invariant-loop-field
invariant-loop-field l = list_any (is_named l.name) (map (header_bytes l.head) l.fields) ≡ list_any (is_named l.name) (map (header_bytes l.head) (drop l.field-index l.fields))
