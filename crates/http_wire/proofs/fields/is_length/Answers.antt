use Rattle.std.proofs.Common.{bytes_eq, sym, ap, ◌∙◌}
use Rattle.httparse.specs.Spans.{header_bytes}
use Rattle.http_wire.proofs.Usual.{usual_name}
use Rattle.http_wire.proofs.fields.is_length.Goals as goal

pub returns-then-eq : goal.returns-then-eq
returns-then-eq c =
    let same = sym (ap (bytes_eq c.of-name.result.now) c.as_slice.ensures) ∙ sym c.eq.ensures ∙ c.if-eq.true in
    c.if-eq.true ∙ sym (usual_name c.of-name.result.now (header_bytes c.args.head.now c.args.field.now) (sym c.of-name.ensures) same)
