use Rattle.std.proofs.Common.{◌-◌, ◌∙◌, true, ap, subst, length, arith}
use Rattle.postings.specs.Order.{IsRising}
use Rattle.conj_match.specs.Place.{IsFirstFrom, Place}
use Rattle.conj_match.proofs.Digits.{digits_mono}
use Rattle.conj_match.proofs.Skips.{asked_for, one_look}
use Rattle.conj_match.proofs.skipping.is_asked.Goals as goal

pub returns-clause-value : goal.returns-clause-value
returns-clause-value g c =
    let es = c.args.list.now in
    let at = c.load.ensures.value ∙ ap (λ (p : Place). record p { loaded = true }) c.start-cursor.ensures in
    let same = c.skip_to.ensures.entries ∙ ap (λ (p : Place). p.entries) at in
    let rising = subst IsRising (ap (λ (p : Place). p.entries) at) c.load.ensures.rising in
    let first = subst (λ (p : Place). IsFirstFrom p.entries p.place c.args.id c.skip_to.new.self.place) at c.skip_to.ensures.first in
    c.shows_plain.ensures ∙ asked_for c.args.id es c.skip_to.new.self rising same c.skip_to.ensures.loaded first

pub returns-clause-cost : goal.returns-clause-cost
returns-clause-cost g c =
    let es = c.args.list.now in
    let at = c.load.ensures.value ∙ ap (λ (p : Place). record p { loaded = true }) c.start-cursor.ensures in
    let first = subst (λ (p : Place). IsFirstFrom p.entries p.place c.args.id c.skip_to.new.self.place) at c.skip_to.ensures.first in
    let start = ap (λ (p : Place). p.place) at in
    let within = first.1 in
    let fewer = digits_mono (c.skip_to.new.self.place - c.load.new.self.place) (length es) (omega arith) in
    let loaded = one_look c.start-cursor.result.place (length c.start-cursor.result.entries) c.args.steps.now c.load.new.steps c.load.ensures.read c.load.ensures.past in
    omega (arith, c.skip_to.ensures.digits, fewer, loaded)
