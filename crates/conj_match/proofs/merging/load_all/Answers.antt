use Rattle.std.proofs.Common.{◌≡◌, ℕ, ◌+◌, ◌<◌, ◌≤◌, false, cond, All, List, [], ◌∷◌, ◌++◌, map, take, get_or, Result, Ok, Err, sym, ap, subst, ◌∙◌, arith}
use Rattle.std.specs.Result.{is_err, is_ok}
use Rattle.std.proofs.lemmas.Bool.{false≢true}
use Rattle.std.proofs.lemmas.List.{get_or_read, map-append, take_more}
use Rattle.std.proofs.lemmas.List.Elements.{All-push}
use Rattle.conj_match.specs.Matching.{lists_at}
use Rattle.conj_match.specs.Merge.{Stands, entries_of}
use Rattle.conj_match.specs.Place.{Place}
use Rattle.conj_match.proofs.merging.load_all.Goals as goal

pushed : {T E X : Type 0} (r : Result T E) (new more old : List X) → new ≡ cond (is_ok r) more old → false ≡ is_err r → new ≡ more
pushed (Ok x) new more old e not_err = e
pushed (Err x) new more old e not_err = absurd (false≢true not_err)

paid : (place long old new : ℕ) → (place < long → new ≡ old + 1) → (long ≤ place → new ≡ old) → new ≤ old + 1
paid place long old new read past = grind arith

pub loop-place-preserved : goal.loop-place-preserved
loop-place-preserved g c =
    let inv = c.loop-place.invariant in
    let lists = c.args.lists.now in
    let chosen = c.args.chosen.now in
    let i = c.loop-place.place-index in
    let cursor = c.load.new.self in
    let items = c.loop-place.cursors.items in
    let grown = pushed c.push.result c.push.new.self.items (items ++ cursor ∷ []) items c.push.ensures.items c.if-is_err.ensures.value in
    let first = ap (λ (p : Place). p.place) c.load.ensures.value ∙ ap (λ (p : Place). p.place) c.start-cursor.ensures in
    let entries = ap (λ (p : Place). p.entries) c.load.ensures.value ∙ ap (λ (p : Place). p.entries) c.start-cursor.ensures in
    let chosen_list = entries ∙ get_or_read lists (get_or chosen i 0) _ (c.requires i 0 c.loop-place-test.true) c.index-lists-place.is [] in
    let stands : Stands 0 cursor = record {
      loaded = ap (λ (p : Place). p.loaded) c.load.ensures.value;
      rising = c.load.ensures.rising;
      within = c.load.ensures.within;
      before = λ k lt. absurd (omega (arith, lt, first));
      after = λ k le lt. omega arith;
    } in
    record {
      lists = ap (map entries_of) grown ∙ map-append entries_of items (cursor ∷ []) ∙ ap (λ l. l ++ cursor.entries ∷ []) inv.lists
          ∙ ap (λ es. lists_at lists (take i chosen) ++ es ∷ []) chosen_list
          ∙ sym (map-append (λ n. get_or lists n []) (take i chosen) (get_or chosen i 0 ∷ []))
          ∙ ap (lists_at lists) (sym (take_more chosen i 0 c.loop-place-test.true));
      stand = subst (All (Stands 0)) (sym grown) (All-push (Stands 0) items cursor inv.stand stands);
      cost = omega (arith, paid _ _ _ _ c.load.ensures.read c.load.ensures.past, inv.cost);
    }
