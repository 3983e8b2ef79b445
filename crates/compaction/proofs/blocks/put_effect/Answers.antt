use Rattle.std.proofs.Common.{[], ◌∷◌, ◌++◌}
use Rattle.compaction.proofs.Gathered.{both, gathers_held, gathers_more}
use Rattle.compaction.proofs.blocks.put_effect.Goals as goal

pub returns-then-len-lt-FULL-clause-put : goal.returns-then-len-lt-FULL-clause-put
returns-then-len-lt-FULL-clause-put g c = λ before gathers.
    gathers_more before c.args.effect.now c.args.file.now c.args.block.now c.encode.new.out c.in_ok-encode.ensures.encodable c.in_ok-encode.ensures.ok gathers

pub returns-clause-put : goal.returns-clause-put
returns-clause-put g c = λ before gathers.
    let all = before ++ c.args.effect.now ∷ [] in
    let more = gathers_more before c.args.effect.now c.args.file.now c.args.block.now c.encode.new.out c.in_ok-encode.ensures.encodable c.in_ok-encode.ensures.ok gathers in
    both _ _ _ c.put_block.result (λ held empty. gathers_held all c.put_block.new.file c.put_block.new.block held empty) (c.put_block.ensures.put all more) c.put_block.ensures.emptied

pub returns-clause-any_moment : goal.returns-clause-any_moment
returns-clause-any_moment g c = λ before gathers.
    let more = gathers_more before c.args.effect.now c.args.file.now c.args.block.now c.encode.new.out c.in_ok-encode.ensures.encodable c.in_ok-encode.ensures.ok gathers in
    c.put_block.ensures.any_moment (before ++ c.args.effect.now ∷ []) more
