use Rattle.std.proofs.Common.{◌≡◌, ℕ, ◌+◌, ◌<◌, List, [], ◌∷◌, ◌++◌, length, take, get_or, sym, ap, ◌∙◌, append_assoc}
use Rattle.std.specs.List.{flat_map}
use Rattle.std.proofs.lemmas.List.{append-nil, take_all, take_more}
use Rattle.std.proofs.lemmas.List.Concat.{flat_map-append}
use Rattle.std.proofs.lemmas.Result.{IfOk-from_err}
use Rattle.byte_fields.specs.Encodings.{four_bytes, list_bytes}
use Rattle.byte_fields.proofs.lists.append_list.Goals as goal

-- one item more
next : {A : Type 0} (e : A → List ℕ) (xs : List A) (k : ℕ) (x : A) → k < length xs → x ≡ get_or xs k x → flat_map e (take k xs) ++ e x ≡ flat_map e (take (k + 1) xs)
next e xs k x h is =
    ap (λ l. flat_map e (take k xs) ++ l) (ap e is ∙ sym (append-nil (e (get_or xs k x))))
    ∙ sym (ap (flat_map e) (take_more xs k x h) ∙ flat_map-append e (take k xs) (get_or xs k x ∷ []))

pub returns-clause-ok : goal.returns-clause-ok
unfolding list_bytes
returns-clause-ok g c =
    let xs = c.args.items.now in
    let all : take c.loop-item.item-index xs ≡ xs = take_all c.loop-item.item-index xs c.loop-item-test.false in
    c.loop-item.invariant ∙ ap (λ is. c.args.out.now ++ (four_bytes (length xs) ++ flat_map g.E.Element.encode is)) all

pub returns-clause-front : goal.returns-clause-front
returns-clause-front g c =
    let xs = c.args.items.now in
    (four_bytes (length xs) ++ flat_map g.E.Element.encode (take c.loop-item.item-index xs), c.loop-item.invariant)

pub loop-item-preserved : goal.loop-item-preserved
loop-item-preserved g c =
    let xs = c.args.items.now in
    let k = c.loop-item.item-index in
    let x = c.item-item.result in
    let e = g.E.Element.encode in
    let old = c.args.out.now in
    let four = four_bytes (length xs) in
    c.in_ok-put.ensures.ok ∙ ap (λ o. o ++ e x) c.loop-item.invariant ∙ append_assoc old (four ++ flat_map e (take k xs)) (e x)
    ∙ ap (λ l. old ++ l) (append_assoc four (flat_map e (take k xs)) (e x) ∙ ap (λ l. four ++ l) (next e xs k x c.loop-item-test.true c.item-item.is))

pub returns-in_err-put-clause-front : goal.returns-in_err-put-clause-front
returns-in_err-put-clause-front g c =
    let xs = c.args.items.now in
    let done = four_bytes (length xs) ++ flat_map g.E.Element.encode (take c.loop-item.item-index xs) in
    let (more, is) = c.put.ensures.front in
    (done ++ more, is ∙ ap (λ o. o ++ more) c.loop-item.invariant ∙ append_assoc c.args.out.now done more)

pub returns-in_err-put-clause-ok : goal.returns-in_err-put-clause-ok
returns-in_err-put-clause-ok g c = IfOk-from_err c.from_residual-in_err-put.result _ c.from_residual-in_err-put.ensures.0

pub returns-in_err-put_four-clause-front : goal.returns-in_err-put_four-clause-front
returns-in_err-put_four-clause-front g c = ([], c.in_err-put_four.ensures.err ∙ sym (append-nil c.args.out.now))

pub returns-in_err-put_four-clause-ok : goal.returns-in_err-put_four-clause-ok
returns-in_err-put_four-clause-ok g c = IfOk-from_err c.from_residual.result _ c.from_residual.ensures.0
