use Rattle.std.proofs.Common.{◌≡◌, ◌+◌, ◌-◌, get_or, set, sym, ◌∙◌, ap, subst, arith}
use Rattle.budget_book.specs.declared.sales.SaleRow.{SaleRow}
use Rattle.budget_book.specs.declared.sales.SaleState.TheVariants.{Held, Expired}
use Rattle.budget_book.specs.Dues.{AreDues}
use Rattle.budget_book.specs.Expiry.{IsExpiry}
use Rattle.budget_book.specs.Sales.{in_state, is_held}
use Rattle.budget_book.proofs.Expiring.{entry_due, expiry_one, held_state, popped_expired, popped_forgotten, popped_other}
use Rattle.budget_book.proofs.dues.expire.Goals as goal

pub returns-then-entry-forgotten-clause-dues : goal.returns-then-entry-forgotten-clause-dues
returns-then-entry-forgotten-clause-dues c = λ old dues moved ordered h. popped_forgotten c.args.forgotten c.args.rows.now.items c.args.entry old dues c.if-entry-forgotten.true moved ordered h

pub returns-then-not-is_held-clause-dues : goal.returns-then-not-is_held-clause-dues
returns-then-not-is_held-clause-dues c = λ old dues moved ordered h.
    let entry = c.requires.entry in
    let i = c.args.entry.number - c.args.forgotten - 1 in
    let x = c.index.result.now in
    let number : c.args.entry.number ≡ c.args.forgotten + i + 1 = omega (arith, entry) in
    popped_other c.args.forgotten c.args.rows.now.items c.args.entry old dues i x number (omega (arith, entry))
    (ap (λ (s : SaleRow). is_held s.state) (sym c.index.ensures) ∙ sym c.is_held.ensures ∙ c.if-not-is_held.true) moved ordered h

pub returns-clause-expiry : goal.returns-clause-expiry
returns-clause-expiry c =
    let entry = c.requires.entry in
    let rows = c.args.rows.now.items in
    let i = c.args.entry.number - c.args.forgotten - 1 in
    let x = c.index.result.now in
    let number : c.args.entry.number ≡ c.args.forgotten + i + 1 = omega (arith, entry) in
    let at : get_or rows i x ≡ x = sym c.index.ensures in
    let held : x.state ≡ Held = held_state x.state (sym c.is_held.ensures ∙ c.if-not-is_held.false) in
    let due = entry_due c.args.forgotten c.args.moment rows c.args.entry i x number (omega (arith, entry)) at held c.requires.due entry in
    let new : c.settle.new.rows.items ≡ set rows i (in_state Expired x) = c.settle.ensures.rows x ∙ ap (λ s. set rows i (in_state Expired s)) at in
    subst (λ rs. IsExpiry c.args.moment rows rs 1) (sym new) (expiry_one c.args.moment rows i x (omega (arith, entry)) at due)

pub returns-clause-dues : goal.returns-clause-dues
returns-clause-dues c = λ old dues moved ordered h.
    let entry = c.requires.entry in
    let rows = c.args.rows.now.items in
    let i = c.args.entry.number - c.args.forgotten - 1 in
    let x = c.index.result.now in
    let number : c.args.entry.number ≡ c.args.forgotten + i + 1 = omega (arith, entry) in
    let at : get_or rows i x ≡ x = sym c.index.ensures in
    let new : c.settle.new.rows.items ≡ set rows i (in_state Expired x) = c.settle.ensures.rows x ∙ ap (λ s. set rows i (in_state Expired s)) at in
    subst (λ rs. AreDues c.args.forgotten rs dues) (sym new) (popped_expired c.args.forgotten rows c.args.entry old dues i x number (omega (arith, entry)) at moved ordered h)
