use Rattle.std.proofs.Common.{◌≡◌, ◌++◌, length, take, ap, sym, subst, ◌∙◌, All, List, ℕ, append_assoc}
use Rattle.std.specs.List.{flat_map}
use Rattle.std.proofs.lemmas.List.{take_all}
use Rattle.std.proofs.lemmas.List.Elements.{All-push}
use Rattle.effects.proofs.PartCodes.{item_bytes_more, items_more}
use Rattle.byte_fields.specs.Encodings.{byte_bytes}
use Rattle.effects.specs.Bytes.{IsItem, item_bytes}
use Rattle.effects.proofs.items.put_items.Goals as goal

pub returns-clause-ok : goal.returns-clause-ok
returns-clause-ok c =
    let xs = c.args.items.now in
    let all : take c.loop-item.item-index xs ≡ xs = take_all c.loop-item.item-index xs c.loop-item-test.false in
    c.loop-item.invariant.put ∙ ap (λ is. c.args.out.now ++ (byte_bytes (length xs) ++ flat_map item_bytes is)) all

pub returns-clause-valid : goal.returns-clause-valid
returns-clause-valid c =
    let xs = c.args.items.now in
    let all : take c.loop-item.item-index xs ≡ xs = take_all c.loop-item.item-index xs c.loop-item-test.false in
    (c.requires, subst (All IsItem) all c.loop-item.invariant.valid)

pub loop-item-preserved : goal.loop-item-preserved
loop-item-preserved c =
    let xs = c.args.items.now in
    let i = c.loop-item.item-index in
    let x = c.item-item.result in
    let more = items_more xs i x c.loop-item-test.true c.item-item.is in
    let bytes = ap (flat_map item_bytes) more ∙ item_bytes_more (take i xs) x in
    let front = byte_bytes (length xs) in
    record {
      put = c.in_ok-put_item.ensures.ok ∙ ap (λ o. o ++ item_bytes x) c.loop-item.invariant.put ∙ onto c.args.out.now front (flat_map item_bytes (take i xs)) (item_bytes x) ∙ ap (λ l. c.args.out.now ++ (front ++ l)) (sym bytes);
      valid = subst (All IsItem) (sym more) (All-push IsItem (take i xs) x c.loop-item.invariant.valid c.in_ok-put_item.ensures.valid);
    }
  where
    onto : (o a b d : List ℕ) → (o ++ (a ++ b)) ++ d ≡ o ++ (a ++ (b ++ d))
    onto o a b d = append_assoc o (a ++ b) d ∙ ap (λ l. o ++ l) (append_assoc a b d)
