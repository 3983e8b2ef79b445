use Rattle.std.proofs.Common.{heap_items, ◌≡◌, ◌∙◌, false, refl, sym}
use Rattle.std.specs.Prelude.{OnOk}
use Rattle.std.specs.Result.{is_err}
use Rattle.std.proofs.lemmas.Bool.{true≢false}
use Rattle.std.specs.declared.result.Result.{Result}
use Rattle.std.specs.declared.result.Result.TheVariants.{Ok, Err}
use Rattle.budget_book.proofs.Waiting.{dues_added, dues_unheld}
use Rattle.budget_book.proofs.dues.await_sale.Goals as goal

pub returns-then-not-is_held-clause-dues : goal.returns-then-not-is_held-clause-dues
returns-then-not-is_held-clause-dues c = λ f rows number h. dues_unheld f rows (heap_items c.args.dues.now) c.args.row.now (sym c.is_held.ensures ∙ c.if-not-is_held.true) h

on_ok : {A E : Type 0} (P : Type 0) (r : Result A E) → OnOk r P → is_err r ≡ false → P
on_ok P (Ok x) h e = h
on_ok P (Err x) h e = absurd (true≢false e)

pub returns-clause-dues : goal.returns-clause-dues
returns-clause-dues c = λ f rows number h.
    let done = sym c.is_err.ensures.value ∙ c.if-is_err.false in
    let moved = on_ok _ c.push.result c.push.ensures.permutation done in
    let ordered = on_ok _ c.push.result c.push.ensures.heap_order done h.ordered in
    dues_added f rows (heap_items c.args.dues.now) (heap_items c.push.new.self) c.args.row.now _ number refl (sym c.is_held.ensures ∙ c.if-not-is_held.false) moved ordered h
