use Rattle.std.proofs.Common.{◌≡◌, ◌∙◌, ap, arith, length, refl, slice_get, sym, Some, option_map, ℕ}
use Rattle.std.proofs.lemmas.Option.{slice_get_past, slice_get_read}
use Rattle.postings.specs.Packed.{is_marked}
use Rattle.postings.proofs.Unpacked.{unpacked_get, unpacked_length}
use Rattle.postings.proofs.Postings.at.Goals as goal

pub returns-in_err-id-clause-value : goal.returns-in_err-id-clause-value
returns-in_err-id-clause-value g c =
    c.from_residual.ensures ∙ sym (slice_get_past c.args.self.now c.args.place (omega (arith, c.in_err-id.ensures.lookup.3, c.deref.ensures.len, ap length c.deref.ensures.value, unpacked_length c.self.inside.ids.items c.self.inside.marks.items, ap length c.self.view_is)))

pub returns-in_err-id-clause-read : goal.returns-in_err-id-clause-read
returns-in_err-id-clause-read g c = λ within.
    absurd (omega (arith, within, c.in_err-id.ensures.lookup.3, ap length c.deref.ensures.value, unpacked_length c.self.inside.ids.items c.self.inside.marks.items, ap length c.self.view_is))

pub returns-clause-value : goal.returns-clause-value
returns-clause-value g c =
    let ids = c.self.inside.ids.items in
    let marks = c.self.inside.marks.items in
    let place = c.args.place in
    let id = c.in_ok-id.field-0.now in
    let got : slice_get ids place ≡ Some id = ap (λ l. slice_get l place) (sym c.deref.ensures.value) ∙ slice_get_read c.deref.result.now (length c.deref.result.now) place id refl c.in_ok-id.ensures.lookup.3.0 c.in_ok-id.ensures.lookup.1 in
    ap (λ b. Some (record { id = id; negated = b })) (c.is_marked.ensures ∙ ap (λ m. is_marked m place) c.as_slice.ensures.value)
    ∙ ap (option_map (λ (n : ℕ). record { id = n; negated = is_marked marks place })) (sym got)
    ∙ sym (unpacked_get ids marks place)
    ∙ ap (λ l. slice_get l place) c.self.view_is

pub returns-clause-past : goal.returns-clause-past
returns-clause-past g c = λ past.
    absurd (omega (arith, past, c.in_ok-id.ensures.lookup.3.0, ap length c.deref.ensures.value, unpacked_length c.self.inside.ids.items c.self.inside.marks.items, ap length c.self.view_is))
