-- Effects that are gathered into blocks.
use Rattle.std.proofs.Common.{◌≡◌, ◌∙◌, inl, inr, ℕ, ◌+◌, List, [], ◌∷◌, ◌++◌, length, take, ap, append_assoc, arith, length-append, refl, subst, sym, None, Some}
use Rattle.std.specs.Prelude.{OnOk, Result, Ok, Err, slice_get}
use Rattle.std.proofs.lemmas.List.{append-nil, take_all, take_more}
use Rattle.std.proofs.lemmas.List.Concat.{flat_map-append}
use Rattle.std.proofs.lemmas.List.Elements.{All-nil, All-push}
use Rattle.std.proofs.lemmas.Option.{get_or_from_slice_get, slice_get_cases, slice_get_within}
use Rattle.byte_fields.specs.Encodings.{eight_bytes}
use Rattle.byte_fields.proofs.Numbers.{length-eight}
use Rattle.compaction.specs.Gathering.{Gathers, Holds}
use Rattle.effects.specs.Bytes.{IsEncodable, change_bytes, effect_bytes, effects_bytes}
use Rattle.journal_file.specs.Compaction.{Adds, store_written}
use Rattle.journal_file.specs.Unfinished.{IsUnfinished}
use Rattle.journal_file.specs.declared.compaction.Compact.{Compact}
use Rattle.plain_exchange.specs.declared.changes.Effect.{Effect}
use Rattle.recovery.specs.Texts.{IsTextOf}
use Rattle.recovery.proofs.Joining.{no_text, text_more}
use Rattle.rtb_disk.specs.Stores.{Always}
use Rattle.rtb_disk.specs.declared.disk.Disk.{Ghosts}
use Rattle.rtb_disk.proofs.Moments.{always_same}

-- ---- the effects at places of a list

pub one_more : (es : List Effect) (k : ℕ) (e : Effect) → slice_get es k ≡ Some e → take k es ++ e ∷ [] ≡ take (k + 1) es
one_more es k e at = sym (take_more es k e (slice_get_within es k e at) ∙ ap (λ x. take k es ++ x ∷ []) (get_or_from_slice_get es k e e at))

pub no_more : (es : List Effect) (k : ℕ) → slice_get es k ≡ None → take k es ≡ es
no_more es k none = elim (slice_get_cases es k).1 [
  | inl (e, lt, at, same) ↦ absurd (cc (at, none))
  | inr (past, same) ↦ take_all k es past
]

some_bytes : (pending : List Effect) → effects_bytes pending ≡ [] → pending ≡ []
some_bytes [] e = refl
some_bytes (x ∷ pending) e =
    let eight = length-eight x.moment in
    let first = length-append (eight_bytes x.moment) (change_bytes x.change) in
    let all = length-append (effect_bytes x) (effects_bytes pending) in
    let none : length (effects_bytes (x ∷ pending)) ≡ 0 = ap length e in
    absurd (omega (arith, eight, first, all, none))

pub both : {E : Type 0} (A B C : Type 0) (r : Result Unit E) → (A → B → C) → OnOk r A → OnOk r B → OnOk r C
both A B C (Ok _) f a b = f a b
both A B C (Err e) f a b = tt

module _ {D : Type 0} {G : Ghosts D} where
  -- a file that was begun is unfinished as it stands
  pub begun_stays : (file : Compact D G) (payloads : List (List ℕ)) → Adds file payloads → Always IsUnfinished (store_written file) (store_written file)
  begun_stays file payloads adds = always_same IsUnfinished (store_written file) (λ image is. inr (inl (adds.images image is)))

  pub gathers_none : (file : Compact D G) (block : List ℕ) → Adds file [] → block ≡ [] → Gathers [] file block
  gathers_none file block adds is = record {
    before = [];
    held = record { payloads = []; text = no_text; adds = adds };
    pending = [];
    encodable = All-nil IsEncodable;
    effects_are = refl;
    block_is = is;
  }

  pub gathers_more : (es : List Effect) (e : Effect) (file : Compact D G) (old new : List ℕ) → IsEncodable e → new ≡ old ++ effect_bytes e → Gathers es file old → Gathers (es ++ e ∷ []) file new
  gathers_more es e file old new each is g = record {
    before = g.before;
    held = g.held;
    pending = g.pending ++ e ∷ [];
    encodable = All-push IsEncodable g.pending e g.encodable each;
    effects_are = ap (λ l. l ++ e ∷ []) g.effects_are ∙ append_assoc g.before g.pending (e ∷ []);
    block_is = is ∙ ap (λ l. l ++ effect_bytes e) g.block_is
        ∙ ap (λ l. effects_bytes g.pending ++ l) (sym (append-nil (effect_bytes e)))
        ∙ sym (flat_map-append effect_bytes g.pending (e ∷ []));
  }

  -- the block was added
  pub held_more : (es : List Effect) (old new : Compact D G) (block : List ℕ) → Gathers es old block → ((payloads : List (List ℕ)) → Adds old payloads → Adds new (payloads ++ block ∷ [])) → Holds es new
  held_more es old new block g adds = record {
    payloads = g.held.payloads ++ block ∷ [];
    text = subst (IsTextOf (g.held.payloads ++ block ∷ [])) (sym g.effects_are) (text_more g.held.payloads block g.before g.pending g.held.text (g.encodable, g.block_is));
    adds = adds g.held.payloads g.held.adds;
  }

  pub gathers_held : (es : List Effect) (file : Compact D G) (block : List ℕ) → Holds es file → block ≡ [] → Gathers es file block
  gathers_held es file block held is = record {
    before = es;
    held = held;
    pending = [];
    encodable = All-nil IsEncodable;
    effects_are = sym (append-nil es);
    block_is = is;
  }

  -- nothing is left to be added
  pub held_empty : (es : List Effect) (file : Compact D G) (block : List ℕ) → Gathers es file block → block ≡ [] → Holds es file
  held_empty es file block g is =
      let none = some_bytes g.pending (sym g.block_is ∙ is) in
      let same : g.before ≡ es = sym (g.effects_are ∙ ap (λ l. g.before ++ l) none ∙ append-nil g.before) in
      subst (λ l. Holds l file) same g.held

  -- the file is unfinished as it stands
  pub stays : (es : List Effect) (file : Compact D G) (block : List ℕ) → Gathers es file block → Always IsUnfinished (store_written file) (store_written file)
  stays es file block g = begun_stays file g.held.payloads g.held.adds
