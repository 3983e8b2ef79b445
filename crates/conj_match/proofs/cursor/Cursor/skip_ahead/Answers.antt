use Rattle.std.proofs.Common.{◌≡◌, ◌≤◌, ◌<◌, ◌+◌, ◌-◌, ◌^◌, ◌∙◌, ap, sym, subst, slice_get, length, arith}
use Rattle.postings.specs.Order.{IsRising, entry_at}
use Rattle.conj_match.specs.Place.{IsFirstFrom, Place}
use Rattle.conj_match.proofs.Skips.{first_next, first_reached, one_look, short_is, short_not}
use Rattle.conj_match.proofs.Digits.{leapt, leapt_digits}
use Rattle.conj_match.proofs.cursor.Cursor.skip_ahead.Goals as goal

pub leap-reach-requires-clause-there : goal.leap-reach-requires-clause-there
leap-reach-requires-clause-there g c =
    let old = c.args.self.now in
    let new = c.advance.new.self in
    let origin : c.self.inside.place ≡ old.place = ap (λ (p : Place). p.place) c.self.view_is in
    let list : c.self-2.inside.list.now ≡ new.entries = ap (λ (p : Place). p.entries) c.self-2.view_is in
    let short = short_is c.args.id old c.requires.loaded c.requires.short in
    let place : new.place ≡ old.place + 1 = ap (λ (p : Place). p.place) (c.advance.ensures.moved short.0) in
    let far = short_is c.args.id new c.advance.ensures.loaded (sym c.falls_short.ensures.value ∙ c.if-not-falls_short.false) in
    subst (λ l. c.self.inside.place + 1 < length l) (sym list) (omega (arith, far.0, place, origin))

pub stand-requires-clause-shown : goal.stand-requires-clause-shown
stand-requires-clause-shown g c =
    let list : c.self-2.inside.list.now ≡ c.advance.new.self.entries = ap (λ (p : Place). p.entries) c.self-2.view_is in
    c.halve-reach.ensures.reach.shown ∙ ap (λ l. slice_get l (c.self.inside.place + c.halve-reach.result.high)) list

pub returns-clause-first : goal.returns-clause-first
returns-clause-first g c =
    let old = c.args.self.now in
    let new = c.advance.new.self in
    let id = c.args.id in
    let end = c.self.inside.place + c.halve-reach.result.high in
    let origin : c.self.inside.place ≡ old.place = ap (λ (p : Place). p.place) c.self.view_is in
    let list : c.self-2.inside.list.now ≡ new.entries = ap (λ (p : Place). p.entries) c.self-2.view_is in
    let short = short_is id old c.requires.loaded c.requires.short in
    let entries : new.entries ≡ old.entries = ap (λ (p : Place). p.entries) (c.advance.ensures.moved short.0) in
    let at : c.stand.new.self.place ≡ end = ap (λ (p : Place). p.place) c.stand.ensures in
    let reached = first_reached c.self-2.inside.list.now c.self.inside.place id c.halve-reach.result (subst IsRising (sym list) c.falls_short.ensures.rising) c.halve-reach.ensures.reach c.halve-reach.ensures.next in
    subst (λ n. IsFirstFrom old.entries old.place id n) (sym at)
    (subst (λ n. IsFirstFrom old.entries n id end) origin
    (subst (λ l. IsFirstFrom l c.self.inside.place id end) (list ∙ entries) reached))

pub returns-then-not-falls_short-clause-first : goal.returns-then-not-falls_short-clause-first
returns-then-not-falls_short-clause-first g c =
    let old = c.args.self.now in
    let new = c.advance.new.self in
    let id = c.args.id in
    let short = short_is id old c.requires.loaded c.requires.short in
    let moved = c.advance.ensures.moved short.0 in
    let place : new.place ≡ old.place + 1 = ap (λ (p : Place). p.place) moved in
    let far = subst (λ (p : Place). p.place < length p.entries → id ≤ (entry_at p.entries p.place).id) moved (short_not id new c.advance.ensures.loaded (sym c.falls_short.ensures.value ∙ c.if-not-falls_short.true)) in
    subst (λ n. IsFirstFrom old.entries old.place id n) (sym place) (first_next old.entries old.place id short.0 short.1 far)

pub returns-clause-cost : goal.returns-clause-cost
returns-clause-cost g c =
    let old = c.args.self.now in
    let (m, is, wide, spent) = c.leap-reach.ensures.cost in
    let half = c.halve-reach.ensures.cost m (omega (arith, is, wide)) in
    let one = one_look (old.place + 1) (length old.entries) c.args.steps.now c.advance.new.steps c.advance.ensures.read c.advance.ensures.past in
    let origin : c.self.inside.place ≡ old.place = ap (λ (p : Place). p.place) c.self.view_is in
    let at : c.stand.new.self.place ≡ c.self.inside.place + c.halve-reach.result.high = ap (λ (p : Place). p.place) c.stand.ensures in
    let far : 2 ^ m < c.stand.new.self.place - old.place = omega (arith, is, c.halve-reach.ensures.from, c.halve-reach.ensures.next, at, origin) in
    omega (arith, leapt m (c.stand.new.self.place - old.place) (c.halve-reach.new.steps - c.args.steps.now) far (omega (arith, one, spent, half)))

pub returns-clause-digits : goal.returns-clause-digits
returns-clause-digits g c =
    let old = c.args.self.now in
    let (m, is, wide, spent) = c.leap-reach.ensures.cost in
    let half = c.halve-reach.ensures.cost m (omega (arith, is, wide)) in
    let one = one_look (old.place + 1) (length old.entries) c.args.steps.now c.advance.new.steps c.advance.ensures.read c.advance.ensures.past in
    let origin : c.self.inside.place ≡ old.place = ap (λ (p : Place). p.place) c.self.view_is in
    let at : c.stand.new.self.place ≡ c.self.inside.place + c.halve-reach.result.high = ap (λ (p : Place). p.place) c.stand.ensures in
    let far : 2 ^ m < c.stand.new.self.place - old.place = omega (arith, is, c.halve-reach.ensures.from, c.halve-reach.ensures.next, at, origin) in
    omega (arith, leapt_digits m (c.stand.new.self.place - old.place) (c.halve-reach.new.steps - c.args.steps.now) far (omega (arith, one, spent, half)))
