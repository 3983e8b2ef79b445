use Rattle.std.proofs.Common.{◌≡◌, refl}
use Rattle.conj_index.proofs.Rising.{added_rises}
use Rattle.conj_index.proofs.builder.Builder.add.Goals as goal

pub invariant_of-self-2 : goal.invariant_of-self-2
invariant_of-self-2 g c =
    let same : c.self.inside.added.items ≡ c.args.self.now = cc in
    added_rises c.args.self.now c.self.inside.added.items c.push.new.self.items c.args.number c.args.expr.now c.args.expr.now
    same refl c.in_ok-push.ensures.items c.self.invariant.0 c.requires.above c.requires.room
