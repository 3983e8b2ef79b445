use Rattle.std.proofs.Common.{◌≡◌, ◌∙◌, ◌++◌, List, ap, append_assoc, ℕ}
use Rattle.std.specs.Prelude.{codes, decimal}
use Rattle.compaction.proofs.line.put_counts.Goals as goal

further : (out more new next last : List ℕ) → new ≡ out ++ more → last ≡ new ++ next → last ≡ out ++ (more ++ next)
further out more new next last e f = f ∙ ap (λ l. l ++ next) e ∙ append_assoc out more next

pub returns : goal.returns
returns c =
    let out = c.args.line.now in
    let a = codes "compacted sales=" in
    let b = a ++ decimal c.args.sales in
    let d = b ++ codes " forgotten=" in
    let e1 : c.extend.new.self ≡ out ++ a = c.in_ok-extend.ensures.ok in
    let e2 = further out a c.extend.new.self (decimal c.args.sales) c.write_decimal.new.out e1 c.in_ok-write_decimal.ensures.ok in
    let e3 = further out b c.write_decimal.new.out (codes " forgotten=") c.extend-2.new.self e2 c.in_ok-extend-2.ensures.ok in
    let e4 = further out d c.extend-2.new.self (decimal c.args.forgotten) c.write_decimal-2.new.out e3 c.in_ok-write_decimal-2.ensures.ok in
    further out (d ++ decimal c.args.forgotten) c.write_decimal-2.new.out (codes "\n") c.extend-3.new.self e4 c.in_ok-extend-3.ensures.ok
