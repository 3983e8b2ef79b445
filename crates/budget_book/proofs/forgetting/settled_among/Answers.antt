use Rattle.std.proofs.Common.{◌≡◌, ◌∙◌, sym, arith, None}
use Rattle.budget_book.specs.declared.sales.SaleRow.{SaleRow}
use Rattle.budget_book.specs.declared.sales.SaleState.TheVariants.{Held}
use Rattle.budget_book.proofs.Settled.{front_ends, front_more}
use Rattle.budget_book.proofs.forgetting.settled_among.Goals as goal

any : SaleRow
any = record { campaign = 0; state = Held; price = 0; moment = 0; due = 0; user = None }

pub returns : goal.returns
returns c =
    front_ends c.args.moment c.args.most c.args.rows.now.items c.loop-count.count any c.requires c.loop-count.invariant.low c.loop-count.invariant.front (sym (c.goes_on.ensures any) ∙ c.loop-count-test.false)

pub loop-count-preserved : goal.loop-count-preserved
loop-count-preserved c =
    let more = front_more c.args.moment c.args.most c.args.rows.now.items c.loop-count.count any c.requires c.loop-count.invariant.front (sym (c.goes_on.ensures any) ∙ c.loop-count-test.true) in
    record { low = more.0; front = more.1 }

pub loop-count-smaller : goal.loop-count-smaller
loop-count-smaller c =
    let more = front_more c.args.moment c.args.most c.args.rows.now.items c.loop-count.count any c.requires c.loop-count.invariant.front (sym (c.goes_on.ensures any) ∙ c.loop-count-test.true) in
    omega (arith, more.0)
