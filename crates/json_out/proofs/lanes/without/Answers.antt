use Rattle.std.proofs.Common.{replicate, eqb, ap, ◌∙◌, w8}
use Rattle.std.specs.Simd.Lanes.{sel_l}
use Rattle.std.proofs.lemmas.Simd.{tops_compared, zip2_splat}
use Rattle.json_out.proofs.Plain.{sel_left}
use Rattle.json_out.proofs.lanes.without.Goals as goal

pub returns : goal.returns
returns c =
    let v = c.args.v in
    let byte = c.args.byte in
    ap (λ ms. sel_l ms (replicate 16 0) v) (tops_compared w8 eqb v (replicate 16 byte) ∙ zip2_splat eqb v 16 byte c.fits-v.0) ∙ sel_left (λ x. eqb x byte) 0 v 16 c.fits-v.0
