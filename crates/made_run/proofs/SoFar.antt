-- A run that goes on by an entry, and one that is whole.
use Rattle.std.proofs.Common.{◌≡◌, ℕ, ◌+◌, List, [], ◌∷◌, ◌++◌, Option, None, Some, false, refl, sym, ap, subst, ◌∙◌, arith, append-nil}
use Rattle.std.specs.Prelude.{All, Err, IfSome, Ok, OnOk, Result, codes, count_by, if◌then◌else◌, map}
use Rattle.std.specs.List.{flat_map}
use Rattle.std.specs.Option.{option_map}
use Rattle.std.proofs.lemmas.List.{flat_map_more, map-append}
use Rattle.std.proofs.lemmas.List.Elements.{All-append, All-cons, All-nil}
use Rattle.std.proofs.lemmas.List.Sums.{sum_by-append}
use Rattle.address_keys.specs.Tokens.{no_keys}
use Rattle.address_keys.specs.declared.keys.Keys.{Keys}
use Rattle.audit.proofs.Judging.{accounts_more}
use Rattle.audit.specs.Accounts.{LeadsTo, passes}
use Rattle.http_wire.specs.declared.message.Message.{Message}
use Rattle.made_run.specs.Runs.{IsCounted, IsMade, IsRunOf, has_status, header, post_of, posted, reserved_in, trace_text, with_status}
use Rattle.made_run.specs.Standing.{IsReady, IsSoFar}
use Rattle.made_run.specs.declared.gathering.Gathering.{Gathering}
use Rattle.made_run.specs.declared.run.Made.{Made}
use Rattle.plain_exchange.specs.State.{State, empty}
use Rattle.trace.specs.Traces.{entry_bytes, header_bytes}
use Rattle.trace.specs.declared.entry.Entry.{Entry}
use Rattle.trace.specs.declared.header.Header.{Header}

-- the entries that tell neither of memory nor of the store
abbrev Answers : Entry → Type 0
Answers e = passes e ≡ false

abbrev one_if : ℕ → Entry → ℕ
one_if status e = if has_status status e then 1 else 0

-- a trace that is kept, with no entry yet
kept_begins : (kept : Option (List ℕ)) → IfSome kept (λ t. t ≡ header_bytes header) → IfSome kept (λ t. t ≡ trace_text [])
kept_begins (Some t) is = is ∙ sym (append-nil (header_bytes header))
kept_begins None is = is

-- and with one more
kept_more : (old new : Option (List ℕ)) (es : List Entry) (e : Entry) → IfSome old (λ t. t ≡ trace_text es) → new ≡ option_map (λ t. t ++ entry_bytes e) old → IfSome new (λ t. t ≡ trace_text (es ++ e ∷ []))
kept_more (Some t) new es e is more =
    subst (λ (o : Option (List ℕ)). IfSome o (λ u. u ≡ trace_text (es ++ e ∷ []))) (sym more)
    (ap (λ (l : List ℕ). l ++ entry_bytes e) is ∙ flat_map_more entry_bytes (header_bytes header) es e)
kept_more None new es e is more = subst (λ (o : Option (List ℕ)). IfSome o (λ u. u ≡ trace_text (es ++ e ∷ []))) (sym more) tt

pub none_yet : (g : Gathering) → g.core.state ≡ empty → IfSome g.trace (λ t. t ≡ header_bytes header) → g.sold ≡ 0 → g.no_bid ≡ 0 → IsSoFar [] g
none_yet g state trace sold no_bid = record {
  entries = [];
  run = record { messages = refl; account = state; answered = All-nil Answers };
  trace_is = kept_begins g.trace trace;
  sold_is = sold;
  no_bid_is = no_bid;
}

none_before : (n : ℕ) → 0 + n ≡ n
none_before n = omega arith

status_more : (status : ℕ) (es : List Entry) (e : Entry) → with_status status (es ++ e ∷ []) ≡ with_status status es + one_if status e
status_more status es e = sum_by-append (one_if status) es (e ∷ []) ∙ ap (λ (n : ℕ). with_status status es + n) (none_before (one_if status e))

pub one_more : (old new : Gathering) (e : Entry) → IsReady old → LeadsTo old.keys old.header old.core.state e (Some new.core.state) → passes e ≡ false → new.trace ≡ option_map (λ t. t ++ entry_bytes e) old.trace → new.sold ≡ old.sold + one_if 200 e
    → new.no_bid ≡ old.no_bid + one_if 204 e → (posts : List (ℕ × Message)) → IsSoFar posts old → IsSoFar (posts ++ post_of e ∷ []) new
one_more old new e ready leads answered trace sold no_bid posts far =
    let unsigned = subst (λ (k : Keys). LeadsTo k old.header old.core.state e (Some new.core.state)) ready.keys_are leads in
    let led = subst (λ (h : Header). LeadsTo no_keys h old.core.state e (Some new.core.state)) ready.header_is unsigned in
    record {
      entries = far.entries ++ e ∷ [];
      run = record {
        messages = map-append post_of far.entries (e ∷ []) ∙ ap (λ (l : List (ℕ × Message)). l ++ post_of e ∷ []) far.run.messages;
        account = accounts_more no_keys header empty old.core.state new.core.state far.entries e far.run.account led;
        answered = All-append Answers far.entries (e ∷ []) far.run.answered (All-cons Answers e [] answered (All-nil Answers));
      };
      trace_is = kept_more old.trace new.trace far.entries e far.trace_is trace;
      sold_is = sold ∙ ap (λ (n : ℕ). n + one_if 200 e) far.sold_is ∙ sym (status_more 200 far.entries e);
      no_bid_is = no_bid ∙ ap (λ (n : ℕ). n + one_if 204 e) far.no_bid_is ∙ sym (status_more 204 far.entries e);
    }

pub made_so : (start n : ℕ) (g : Gathering) (made : Made) → IsSoFar (posted start n) g → g.trace ≡ Some made.trace → made.sold ≡ g.sold → made.no_bid ≡ g.no_bid → made.reserved ≡ reserved_in g.core.state.sales → IsMade start n made
made_so start n g made far trace sold no_bid reserved = record {
  entries = far.entries;
  behind = g.core.state;
  run = far.run;
  trace_is = subst (λ (o : Option (List ℕ)). IfSome o (λ t. t ≡ trace_text far.entries)) trace far.trace_is;
  sold_is = sold ∙ far.sold_is;
  no_bid_is = no_bid ∙ far.no_bid_is;
  reserved_is = reserved;
}

-- without its trace
pub counted_so : (start n : ℕ) (g : Gathering) (made : Made) → IsSoFar (posted start n) g → made.trace ≡ [] → made.sold ≡ g.sold → made.no_bid ≡ g.no_bid → made.reserved ≡ reserved_in g.core.state.sales → IsCounted start n made
counted_so start n g made far trace sold no_bid reserved =
    let whole : Made = record { trace = trace_text far.entries; sold = made.sold; no_bid = made.no_bid; reserved = made.reserved } in
    let is : IsMade start n whole = record {
      entries = far.entries;
      behind = g.core.state;
      run = far.run;
      trace_is = refl;
      sold_is = sold ∙ far.sold_is;
      no_bid_is = no_bid ∙ far.no_bid_is;
      reserved_is = reserved;
    } in (whole, is, ap (λ (t : List ℕ). record { trace = t; sold = made.sold; no_bid = made.no_bid; reserved = made.reserved }) trace)

-- where it is Ok, one follows from the other
pub on_ok : {A E : Type 0} (r : Result A E) (P Q : Type 0) → OnOk r P → (P → Q) → OnOk r Q
on_ok (Ok x) P Q holds follows = follows holds
on_ok (Err e) P Q holds follows = tt

-- the header that has this public text
abbrev header_with : List ℕ → Header
header_with public = record { ttl = 300000; public = public }

pub header_for : {public : List ℕ} → public ≡ codes "http://make.example" → header_with public ≡ header
header_for is = ap (λ (p : List ℕ). header_with p) is

-- the header's bytes, where they are kept
pub kept_header : {public : List ℕ} (kept : Option (List ℕ)) → public ≡ codes "http://make.example" → IfSome kept (λ t. t ≡ header_bytes (header_with public)) → IfSome kept (λ t. t ≡ header_bytes header)
kept_header (Some t) is begun = begun ∙ ap header_bytes (header_for is)
kept_header None is begun = begun
