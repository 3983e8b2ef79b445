-- A trace that was read and judged in part.
use Rattle.std.proofs.Common.{◌≡◌, ◌≢◌, ℕ, ◌+◌, ◌<◌, ◌≤◌, ◌^◌, List, [], ◌∷◌, ◌++◌, length, Bool, true, false, Option, Some, None, Result, Ok, Err, refl, sym, ap, subst, ◌∙◌, arith, append_assoc, append-nil, length-append}
use Rattle.std.specs.Prelude.{All, count_by, cond, if◌then◌else◌}
use Rattle.std.specs.List.{flat_map}
use Rattle.std.specs.Io.KnownBytes.{Consumes, IsAtEnd}
use Rattle.std.proofs.KnownBytes.{Consumes-trans}
use Rattle.std.proofs.lemmas.List.{flat_map_more}
use Rattle.std.proofs.lemmas.List.Elements.{All-append, All-cons, All-nil}
use Rattle.std.proofs.lemmas.List.Sums.{sum_by-append}
use Rattle.address_keys.specs.declared.keys.Keys.{Keys}
use Rattle.audit.specs.Accounts.{Accounts, LeadsTo, passes}
use Rattle.audit.specs.Inputs.{BeginsNone, Comes, IsNext, Looks}
use Rattle.audit.specs.Standing.{Goes, IsBefore, IsStanding, Said, SaysOf}
use Rattle.audit.specs.Verdicts.{Begins, BreaksOff, IsLegal, IsTooLong, IsTorn, of_source}
use Rattle.audit.specs.declared.entries.Audit.{Audit}
use Rattle.audit.specs.declared.input.Next.{Next}
use Rattle.audit.specs.declared.input.Next.TheVariants as next
use Rattle.audit.specs.declared.verdict.AuditFault.{AuditFault}
use Rattle.audit.specs.declared.verdict.AuditFault.TheVariants as fault
use Rattle.audit.specs.declared.verdict.Verdict.TheVariants as verdict
use Rattle.plain_exchange.specs.State.{State}
use Rattle.rtb_io.specs.declared.ReadFault.{ReadFault}
use Rattle.rtb_io.specs.declared.ReadFault.TheVariants as read
use Rattle.trace.specs.Traces.{IsEntry, IsHeader, entry_bytes, header_bytes}
use Rattle.trace.specs.declared.entry.Entry.{Entry}
use Rattle.trace.specs.declared.header.Header.{Header}

-- the same, but that these bytes are held
abbrev pub with_held : Audit → List ℕ → Audit
with_held a all = record { core = a.core; header = a.header; input = all; entries = a.entries; passed = a.passed; place = a.place }

pub accounts_more : (keys : Keys) (h : Header) (s mid t : State) (es : List Entry) (e : Entry) → Accounts keys h s es mid → LeadsTo keys h mid e (Some t) → Accounts keys h s (es ++ e ∷ []) t
accounts_more keys h s mid t [] e is leads = (t, subst (λ (q : State). LeadsTo keys h q e (Some t)) is leads, refl)
accounts_more keys h s mid t (x ∷ es) e (q, first, rest) leads = (q, first, accounts_more keys h q mid t es e rest leads)

none_before : (n : ℕ) → 0 + n ≡ n
none_before n = omega arith

count_more : (es : List Entry) (e : Entry) → count_by passes (es ++ e ∷ []) ≡ count_by passes es + cond (passes e) 1 0
count_more es e = sum_by-append (λ (x : Entry). cond (passes x) 1 0) es (e ∷ []) ∙ ap (λ n. count_by passes es + n) (none_before (cond (passes e) 1 0))

-- more was read
pub stands_on : (keys : Keys) (s : State) (left mid left' : Option (List ℕ)) (a : Audit) (all : List ℕ) → IsStanding keys s left mid a → Comes mid left' a.input all → IsStanding keys s left left' (with_held a all)
stands_on keys s left mid left' a all st comes =
    let front = header_bytes a.header ++ flat_map entry_bytes st.entries in
    let sizes = length-append st.bytes comes.came in
    let whole = length-append a.input comes.came in
    record {
      bytes = st.bytes ++ comes.came;
      consumes = Consumes-trans left mid left' st.bytes comes.came st.consumes comes.consumes;
      such = st.such;
      entries = st.entries;
      each = st.each;
      bytes_are = ap (λ l. l ++ comes.came) st.bytes_are ∙ append_assoc front a.input comes.came ∙ ap (λ l. front ++ l) (sym comes.held);
      account = st.account;
      count_is = st.count_is;
      passed_is = st.passed_is;
      place_is = omega (arith, sizes, whole, st.place_is, ap (λ (l : List ℕ). length l) comes.held);
    }

-- an entry was taken
pub before_of : (keys : Keys) (s : State) (left mid left' : Option (List ℕ)) (a : Audit) (new : List ℕ) (e : Entry) (size : ℕ) → IsStanding keys s left mid a → IsNext IsEntry entry_bytes mid left' a.input new (next.Item e size) → IsBefore keys s left left' e (with_held a new)
before_of keys s left mid left' a new e size st found =
    let on = stands_on keys s left mid left' a found.all st found.comes in
    let is = found.next_is.1 in
    record {
      bytes = on.bytes;
      consumes = on.consumes;
      such = on.such;
      entries = on.entries;
      each = on.each;
      bytes_are = subst (λ (l : List ℕ). on.bytes ≡ header_bytes a.header ++ flat_map entry_bytes on.entries ++ l) is on.bytes_are;
      account = on.account;
      count_is = on.count_is;
      passed_is = on.passed_is;
      place_is = subst (λ (l : List ℕ). a.place + length l ≡ length on.bytes) is on.place_is;
    }

-- it accounts for its answer
pub stands_more : (keys : Keys) (s : State) (left left' : Option (List ℕ)) (e : Entry) (old new : Audit) → IsEntry e → IsBefore keys s left left' e old → LeadsTo keys old.header old.core.state e (Some new.core.state)
    → new.header ≡ old.header → new.input ≡ old.input → new.entries ≡ old.entries + 1 → new.passed ≡ old.passed + (if passes e then 1 else 0) → new.place ≡ old.place + length (entry_bytes e) → IsStanding keys s left left' new
stands_more keys s left left' e old new is b leads same held counted passing place =
    let front = header_bytes old.header ++ flat_map entry_bytes b.entries in
    let whole : b.bytes ≡ (header_bytes old.header ++ flat_map entry_bytes (b.entries ++ e ∷ [])) ++ old.input =
    b.bytes_are ∙ sym (append_assoc front (entry_bytes e) old.input) ∙ ap (λ l. l ++ old.input) (flat_map_more entry_bytes (header_bytes old.header) b.entries e) in
    let sizes = length-append (entry_bytes e) old.input in
    let size = length-append b.entries (e ∷ []) in
    record {
      bytes = b.bytes;
      consumes = b.consumes;
      such = subst IsHeader (sym same) b.such;
      entries = b.entries ++ e ∷ [];
      each = All-append IsEntry b.entries (e ∷ []) b.each (All-cons IsEntry e [] is (All-nil IsEntry));
      bytes_are = subst (λ (h : Header). b.bytes ≡ header_bytes h ++ flat_map entry_bytes (b.entries ++ e ∷ []) ++ new.input) (sym same) (subst (λ (l : List ℕ). b.bytes ≡ header_bytes old.header ++ flat_map entry_bytes (b.entries ++ e ∷ []) ++ l) (sym held) whole);
      account = subst (λ (h : Header). Accounts keys h s (b.entries ++ e ∷ []) new.core.state) (sym same) (accounts_more keys old.header s old.core.state new.core.state b.entries e b.account leads);
      count_is = omega (arith, counted, size, b.count_is);
      passed_is = passing ∙ ap (λ n. n + cond (passes e) 1 0) b.passed_is ∙ sym (count_more b.entries e);
      place_is = omega (arith, place, sizes, b.place_is, ap (λ (l : List ℕ). length l) held);
    }

-- it does not
pub breaks_off : (keys : Keys) (s : State) (left left' : Option (List ℕ)) (e : Entry) (a : Audit) → IsEntry e → a.entries < 2 ^ 32 → IsBefore keys s left left' e a → LeadsTo keys a.header a.core.state e None → Said keys s left left' (Ok (verdict.Illegal a.entries))
breaks_off keys s left left' e a is few b leads = (
  b.bytes,
  b.consumes,
  record {
    rest = entry_bytes e ++ a.input;
    begins = record { header = a.header; such = b.such; entries = b.entries; each = b.each; bytes_are = b.bytes_are; behind = a.core.state; account = b.account };
    entry = e;
    such = is;
    more = a.input;
    rest_is = refl;
    fits_not = leads;
    at_is = b.count_is;
    few = few;
  },
)

begins_with : (keys : Keys) (s : State) (left left' : Option (List ℕ)) (a : Audit) → (st : IsStanding keys s left left' a) → Begins keys s st.bytes a.input
begins_with keys s left left' a st = record { header = a.header; such = st.such; entries = st.entries; each = st.each; bytes_are = st.bytes_are; behind = a.core.state; account = st.account }

-- nothing is left
legal_held : (keys : Keys) (s : State) (left left' : Option (List ℕ)) (a : Audit) (all : List ℕ) → a.entries ≤ 2 ^ 32 → IsAtEnd left' → all ≡ [] → IsStanding keys s left left' (with_held a all) → Said keys s left left' (Ok (verdict.Legal a.entries a.passed))
legal_held keys s left left' a all few end none st =
    let whole = subst (λ (l : List ℕ). st.bytes ≡ header_bytes a.header ++ flat_map entry_bytes st.entries ++ l) none st.bytes_are in
    let begins : Begins keys s st.bytes [] = record { header = a.header; such = st.such; entries = st.entries; each = st.each; bytes_are = whole; behind = a.core.state; account = st.account } in
    (st.bytes, st.consumes, (end, record { begins = begins; entries_are = st.count_is; passed_are = st.passed_is; few = few }))

pub ends_legal : (keys : Keys) (s : State) (left mid left' : Option (List ℕ)) (a : Audit) (new : List ℕ) → a.entries < 2 ^ 32 → IsStanding keys s left mid a → IsNext IsEntry entry_bytes mid left' a.input new next.End → Said keys s left left' (Ok (verdict.Legal a.entries a.passed))
ends_legal keys s left mid left' a new few st found =
    legal_held keys s left left' a found.all (omega (arith, few)) found.next_is.0 found.next_is.1 (stands_on keys s left mid left' a found.all st found.comes)

-- what is left is no entry
pub ends_torn : (keys : Keys) (s : State) (left mid left' : Option (List ℕ)) (a : Audit) (new : List ℕ) → a.entries < 2 ^ 32 → IsStanding keys s left mid a → IsNext IsEntry entry_bytes mid left' a.input new next.Torn → Said keys s left left' (Err (fault.Torn a.place))
unfolding begins_with stands_on
ends_torn keys s left mid left' a new few st found =
    let on = stands_on keys s left mid left' a found.all st found.comes in
    let begins = begins_with keys s left left' (with_held a found.all) on in
    (on.bytes, on.consumes, (found.next_is.0, IsTorn.in_entry found.all begins found.next_is.1 found.next_is.2 (subst (λ n. n < 2 ^ 32) on.count_is few) on.place_is))

-- what is left behind the most entries
pub ends_at_most : (keys : Keys) (s : State) (left mid left' : Option (List ℕ)) (a : Audit) (some : Bool) → a.entries ≡ 2 ^ 32 → IsStanding keys s left mid a → Looks mid left' a.input some → some ≡ true → Said keys s left left' (Err fault.TooLong)
unfolding begins_with stands_on
ends_at_most keys s left mid left' a some most st looks more =
    let on = stands_on keys s left mid left' a looks.all st looks.comes in
    (on.bytes, on.consumes, record { rest = looks.all; begins = begins_with keys s left left' (with_held a looks.all) on; most = sym on.count_is ∙ most; some = looks.more more })

pub ends_with_most : (keys : Keys) (s : State) (left mid left' : Option (List ℕ)) (a : Audit) (some : Bool) → a.entries ≡ 2 ^ 32 → IsStanding keys s left mid a → Looks mid left' a.input some → some ≡ false → Said keys s left left' (Ok (verdict.Legal a.entries a.passed))
ends_with_most keys s left mid left' a some most st looks none =
    legal_held keys s left left' a looks.all (omega (arith, most)) (looks.none none).1 (looks.none none).0 (stands_on keys s left mid left' a looks.all st looks.comes)

-- a source that failed
pub said_unread : (keys : Keys) (s : State) (left left' : Option (List ℕ)) (f : ReadFault) → Said keys s left left' (Err (of_source f))
said_unread keys s left left' read.Failed = tt
said_unread keys s left left' read.Memory = tt

-- nothing was judged yet
pub stands_first : (keys : Keys) (s : State) (left left' : Option (List ℕ)) (h : Header) (size : ℕ) (new : List ℕ) (a : Audit) → IsNext IsHeader header_bytes left left' [] new (next.Item h size)
    → a.header ≡ h → a.input ≡ new → a.core.state ≡ s → a.entries ≡ 0 → a.passed ≡ 0 → a.place ≡ size → IsStanding keys s left left' a
stands_first keys s left left' h size new a found same held at none passed place =
    let is : found.all ≡ header_bytes h ++ new = found.next_is.1 in
    let sizes = length-append (header_bytes h) new in
    let bytes : found.comes.came ≡ header_bytes h ++ new = sym found.comes.held ∙ is in
    record {
      bytes = found.comes.came;
      consumes = found.comes.consumes;
      such = subst IsHeader (sym same) found.next_is.0;
      entries = [];
      each = All-nil IsEntry;
      bytes_are = bytes ∙ ap (λ l. l ++ new) (sym (append-nil (header_bytes h))) ∙ ap (λ (x : Header). header_bytes x ++ [] ++ new) (sym same) ∙ ap (λ l. header_bytes a.header ++ [] ++ l) (sym held);
      account = at;
      count_is = none;
      passed_is = passed;
      place_is = omega (arith, place, sizes, found.next_is.2, ap (λ (l : List ℕ). length l) held, ap (λ (l : List ℕ). length l) bytes);
    }

nothing_first : (x : ℕ) (xs : List ℕ) → [] ≡ x ∷ xs → ⊥
nothing_first x xs e = cc

no_header_in_nothing : (h : Header) (rest : List ℕ) → [] ≡ header_bytes h ++ rest → ⊥
unfolding header_bytes
no_header_in_nothing h rest e = nothing_first 82 _ e

-- no header came
pub ends_at_once : (keys : Keys) (s : State) (left left' : Option (List ℕ)) (new : List ℕ) → IsNext IsHeader header_bytes left left' [] new next.End → Said keys s left left' (Err (fault.Torn 0))
ends_at_once keys s left left' new found =
    let torn = IsTorn.in_header refl (λ (h : Header) (rest : List ℕ) _ e. no_header_in_nothing h rest (sym found.next_is.1 ∙ e)) in
    (found.all, subst (Consumes left left') (sym found.comes.held) found.comes.consumes, (found.next_is.0, torn))

pub torn_at_once : (keys : Keys) (s : State) (left left' : Option (List ℕ)) (new : List ℕ) → IsNext IsHeader header_bytes left left' [] new next.Torn → Said keys s left left' (Err (fault.Torn 0))
torn_at_once keys s left left' new found = (found.all, subst (Consumes left left') (sym found.comes.held) found.comes.consumes, (found.next_is.0, IsTorn.in_header refl found.next_is.2))
