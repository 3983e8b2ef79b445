-- What a crash left at each moment since the exchange was opened.
use Rattle.std.proofs.Common.{◌≡◌, inl, inr, ℕ, suc, ◌+◌, ◌-◌, ◌≤◌, List, [], ◌∷◌, ◌++◌, All, length, take, refl, sym, ◌∙◌, ap, subst, arith, append_assoc}
use Rattle.std.proofs.lemmas.List.{length-append, length-take, take-append-le, take-take, take_all}
use Rattle.effects.specs.Bytes.{IsEncodable, effects_bytes}
use Rattle.exchange_state.specs.declared.entries.Entry.{Entry}
use Rattle.exchange_state.specs.declared.entries.Origin.{Origin}
use Rattle.exchange_state.specs.Standing.{SaidBehind, SaidFrom, SaysFrom, SaysSome, SaysSomeSince, Since, text_to}
use Rattle.exchange_state.specs.Tickets.{effects_after}
use Rattle.exchange_state.specs.Views.{calls}
use Rattle.exchange_state.proofs.Texts.{block_more}
use Rattle.journal_file.specs.Blocks.{HasBlocks, journal_names}
use Rattle.journal_file.specs.Standing.{IsBeforeOrAfter, store_of}
use Rattle.journal_file.specs.declared.journal.Journal.{Journal}
use Rattle.plain_exchange.specs.declared.changes.Effect.{Effect}
use Rattle.plain_exchange.specs.History.{Call}
use Rattle.recovery.specs.Texts.{HasText, IsTextOf}
use Rattle.rtb_disk.specs.Stores.{Always, EachMoment, Moment, Store}
use Rattle.rtb_disk.specs.declared.disk.Disk.{Ghosts}
use Rattle.rtb_disk.proofs.Moments.{always_map}

-- ---- moments

both : (P : List ℕ → Type 0) (xs ys : List Moment) → EachMoment P xs → EachMoment P ys → EachMoment P (xs ++ ys)
both P [] ys a b = b
both P (x ∷ xs) ys a b = (a.0, both P xs ys a.1 b)

each_map : (P Q : List ℕ → Type 0) → ((c : List ℕ) → P c → Q c) → (xs : List Moment) → EachMoment P xs → EachMoment Q xs
each_map P Q f [] a = tt
each_map P Q f (x ∷ xs) a = (λ c i. f c (a.0 c i), each_map P Q f xs a.1)

-- a weaker property
pub since_map : (n : ℕ) (P Q : List ℕ → Type 0) (s : Store) → ((c : List ℕ) → P c → Q c) → Since n P s → Since n Q s
since_map n P Q s f a = record { since = a.since; before = a.before; all = a.all; first = a.first; each = each_map P Q f a.since a.each }

-- and then a run of calls
pub since_then : (n : ℕ) (P : List ℕ → Type 0) (s t : Store) → Since n P s → Always P s t → Since n P t
since_then n P s t a b = record {
  since = b.since ++ a.since;
  before = a.before;
  all = b.grown ∙ ap (λ l. b.since ++ l) a.all ∙ sym (append_assoc b.since a.since a.before);
  first = a.first;
  each = both P b.since a.since b.each a.each;
}

-- the moments of a run of calls
pub since_first : (P : List ℕ → Type 0) (s t : Store) → Always P s t → Since (length s.past) P t
since_first P s t a = record {
  since = a.since ++ s.now ∷ [];
  before = s.past;
  all = a.grown ∙ sym (append_assoc a.since (s.now ∷ []) s.past);
  first = refl;
  each = both P a.since (s.now ∷ []) a.each (a.first, tt);
}

-- ---- fronts of a text

pub has_text : (payloads : List (List ℕ)) (es : List Effect) (image : List ℕ) → IsTextOf payloads es → HasBlocks journal_names payloads image → HasText image es
has_text payloads es image t b = record { payloads = payloads; stands = inl b; text = t }

-- the whole text is one
pub from_all : (o : Origin) (text : List Effect) (image : List ℕ) → length o.effects ≤ length text → HasText image text → SaysFrom o text image
from_all o text image le has = (length text, le, omega arith, subst (HasText image) (sym (take_all (length text) text (omega arith))) has)

-- one of a text is one of a longer text
from_more : (o : Origin) (text es : List Effect) (image : List ℕ) → SaysFrom o text image → SaysFrom o (text ++ es) image
from_more o text es image (n, least, most, has) = (n, least, omega (arith, most, length-append text es), subst (HasText image) (sym (take-append-le n text es most)) has)

pub said_more : (o : Origin) (text es : List Effect) (s : Store) → SaidFrom o text s → SaidFrom o (text ++ es) s
said_more o text es s a = since_map o.moments (SaysFrom o text) (SaysFrom o (text ++ es)) s (from_more o text es) a

-- what is left where an append stops says the text, or the text with the block
either_from : (o : Origin) (payloads : List (List ℕ)) (text es : List Effect) (block image : List ℕ) → length o.effects ≤ length text → IsTextOf payloads text → block ≡ effects_bytes es → All IsEncodable es
    → IsBeforeOrAfter journal_names payloads block image → SaysFrom o (text ++ es) image
either_from o payloads text es block image le t is can (inl b) = from_more o text es image (from_all o text image le (has_text payloads text image t b))
either_from o payloads text es block image le t is can (inr b) =
    from_all o (text ++ es) image (omega (arith, le, length-append text es)) (has_text (payloads ++ block ∷ []) (text ++ es) image (block_more payloads text es block t is can) b)

-- ---- the effects of a history

pub least_text : (o : Origin) (h : List Call) (n : ℕ) → length o.effects ≤ length (text_to o h n)
least_text o h n = omega (arith, length-append o.effects (take n (effects_after o h)))

take_behind : (xs ys : List Effect) (k : ℕ) → take (length xs + k) (xs ++ ys) ≡ xs ++ take k ys
take_behind [] ys k = ap (λ n. take n ys) (none k)
  where
    none : (k : ℕ) → 0 + k ≡ k
    none k = omega arith
take_behind (x ∷ xs) ys k = ap (λ n. take n (x ∷ (xs ++ ys))) (one (length xs) k) ∙ ap (λ l. x ∷ l) (take_behind xs ys k)
  where
    one : (n k : ℕ) → suc n + k ≡ suc (n + k)
    one n k = omega arith

-- a front of a text of the history's effects
pub some_of : (o : Origin) (l : List Entry) (k : ℕ) (image : List ℕ) → SaysFrom o (text_to o (calls l) k) image → SaysSome o l image
some_of o l k image (n, least, most, has) =
    let es = effects_after o (calls l) in
    let m = n - length o.effects in
    let whole = length-append o.effects (take k es) in
    let part = length-take k es in
    let le : m ≤ k = omega (arith, least, most, whole, part) in
    let at : n ≡ length o.effects + m = omega (arith, least) in
    record {
      count = m;
      there = omega (arith, least, most, whole, part);
      text = subst (HasText image) (ap (λ i. take i (o.effects ++ take k es)) at ∙ take_behind o.effects (take k es) m ∙ ap (λ x. o.effects ++ x) (take-take m k es le)) has;
    }

pub some_since : (o : Origin) (l : List Entry) (k : ℕ) (s : Store) → SaidFrom o (text_to o (calls l) k) s → SaysSomeSince o l s
some_since o l k s a = since_map o.moments (SaysFrom o (text_to o (calls l) k)) (SaysSome o l) s (some_of o l k) a

-- ---- an append that was tried

module _ {D : Type 0} {G : Ghosts D} where
  pub tried_said : (o : Origin) (payloads : List (List ℕ)) (text es : List Effect) (old new : Journal D G) (block : List ℕ) → length o.effects ≤ length text → IsTextOf payloads text → block ≡ effects_bytes es → All IsEncodable es
      → SaidFrom o (text ++ es) (store_of old) → Always (IsBeforeOrAfter journal_names payloads block) (store_of old) (store_of new) → SaidFrom o (text ++ es) (store_of new)
  tried_said o payloads text es old new block le t is can said run =
      since_then o.moments (SaysFrom o (text ++ es)) (store_of old) (store_of new) said
      (always_map (IsBeforeOrAfter journal_names payloads block) (SaysFrom o (text ++ es)) (λ image. either_from o payloads text es block image le t is can) (store_of old) (store_of new) run)
