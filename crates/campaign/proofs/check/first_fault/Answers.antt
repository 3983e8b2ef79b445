use Rattle.std.proofs.Common.{sym}
use Rattle.campaign.specs.Kept.{IsInRange}
use Rattle.campaign.proofs.check.first_fault.Goals as goal
use Rattle.campaign.proofs.Firsts.{first_of_ten, fifth_of_ten, known_range}

pub returns-clause-value : goal.returns-clause-value
returns-clause-value c =
    rw (c.or-9.ensures, c.or-8.ensures, c.or-7.ensures, c.or-6.ensures, c.or-5.ensures, c.or-4.ensures, c.or-3.ensures, c.or-2.ensures, c.or.ensures)
    (rw (c.text_fault.ensures, c.text_fault-2.ensures, c.cat_fault.ensures, c.as_slice.ensures, c.size_fault.ensures, c.attr_fault.ensures.value, c.as_slice-2.ensures, c.bid_fault.ensures.value, c.deals_fault.ensures, c.as_slice-3.ensures, c.markup_fault.ensures, c.text_fault-3.ensures, c.adid_fault.ensures)
    (sym (first_of_ten _ _ _ _ _ _ _ _ _ _)))

pub returns-clause-range : goal.returns-clause-range
returns-clause-range c =
    let p = c.args.parts.now in
    let known = known_range p c.attr_fault.result c.bid_fault.ensures.range (rw c.get-budget.ensures.value at c.get-budget.ensures.bound) (rw c.as_slice-2.ensures at c.attr_fault.ensures.range) in
    let P = IsInRange p in
    rw (c.or-9.ensures, c.or-8.ensures, c.or-7.ensures, c.or-6.ensures, c.or-5.ensures, c.or-4.ensures)
    (fifth_of_ten P c.or-3.result c.attr_fault.result c.bid_fault.result c.deals_fault.result c.markup_fault.result c.text_fault-3.result c.adid_fault.result known)
