use Rattle.std.proofs.Common.{◌≡◌, ◌+◌, ◌∙◌, ◌++◌, ◌∷◌, [], ap, sym, subst, take, List}
use Rattle.std.proofs.lemmas.List.{take_more}
use Rattle.rtb_disk.specs.declared.calls.Made.{Made}
use Rattle.rtb_disk.proofs.Crashing.{IsSplit, split_other, split_settling}
use Rattle.rtb_disk.proofs.log.settled_count.Goals as goal
use Rattle.rtb_disk.proofs.log.settled_count.Goals.{then-settles, else-settles}

pub loop-i-preserved : goal.loop-i-preserved
loop-i-preserved c =
    let made : List Made = c.args.made.now in
    let i = c.loop-i.i in
    let m : Made = c.index-made-i.result in
    let more : take (i + 1) made ≡ take i made ++ m ∷ [] = take_more made i m c.loop-i-test.true ∙ ap (λ (x : Made). take i made ++ x ∷ []) (sym c.index-made-i.is) in
    elim c.if-settles.branch [
      | then-settles w ↦ subst (IsSplit made (i + 1)) (sym w.count-is) (split_settling made i c.loop-i.count m more c.loop-i-test.true c.loop-i.invariant (sym c.settles.ensures ∙ w.if-settles.true))
      | else-settles w ↦ subst (IsSplit made (i + 1)) (sym w.count-is) (split_other made i c.loop-i.count m more c.loop-i-test.true c.loop-i.invariant (sym c.settles.ensures ∙ w.if-settles.false))
    ]
