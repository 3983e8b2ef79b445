-- A trace over a journal has one verdict.
use Rattle.std.proofs.Common.{◌≡◌, ◌≢◌, ◌⊎◌, ℕ, ◌+◌, ◌<◌, ◌≤◌, ◌^◌, All, List, [], ◌∷◌, ◌++◌, length, Bool, true, false, Option, None, Some, Result, Ok, Err, refl, sym, ap, subst, ◌∙◌, arith, append_assoc, append-nil}
use Rattle.std.specs.Prelude.{count_by}
use Rattle.std.specs.List.{flat_map}
use Rattle.std.specs.Io.KnownBytes.{Consumes, IsAtEnd}
use Rattle.std.proofs.lemmas.Bool.{false≢true}
use Rattle.std.proofs.lemmas.List.Elements.{All-head, All-tail}
use Rattle.address_keys.specs.declared.keys.Keys.{Keys}
use Rattle.audit.specs.Accounts.{Accounts, LeadsTo, account, done, passes, undone}
use Rattle.audit.specs.Verdicts.{Audits, Begins, BeginsNoEntry, BeginsNoHeader, IsTorn, Says, WasRead, damaged, in_entry, in_header, judged, unread}
use Rattle.audit.specs.declared.verdict.AuditFault.{AuditFault}
use Rattle.audit.specs.declared.verdict.AuditFault.TheVariants as fault
use Rattle.audit.specs.declared.verdict.Verdict.{Verdict}
use Rattle.audit.specs.declared.verdict.Verdict.TheVariants as verdict
use Rattle.byte_fields.specs.Encodings.{eight_bytes, four_bytes, text_bytes}
use Rattle.byte_fields.proofs.Numbers.{length-eight}
use Rattle.command_read.specs.Commands.{IsCommandOf}
use Rattle.command_read.proofs.Once.{IsOneThing, one_reading}
use Rattle.exact_json.specs.Grammar.{max_depth}
use Rattle.exact_json.proofs.OneFault.{no_fault, one_fault}
use Rattle.exact_json.proofs.Texts.{one_tree}
use Rattle.http_wire.specs.declared.answer.Answer.{Answer}
use Rattle.http_wire.specs.declared.message.Message.{Message}
use Rattle.plain_exchange.specs.State.{State}
use Rattle.plain_exchange.specs.declared.commands.Command.{Command}
use Rattle.recovery.proofs.Parting.{not_both, one_place, one_state}
use Rattle.rtb_disk.specs.Stores.{Store}
use Rattle.trace.specs.Traces.{IsEntry, IsHeader, entry_bytes, header_bytes}
use Rattle.trace.specs.declared.entry.Entry.{Entry}
use Rattle.trace.specs.declared.header.Header.{Header}
use Rattle.trace.proofs.Reading.{entry_code, header_code}

-- ---- an entry

-- a message asks for one thing
one_thing : (body : List ℕ) → IsOneThing body
one_thing body = record {
  tree = λ t u a b. one_tree max_depth body t u a b;
  fault = λ e f some other a b. one_fault body e f some other a b;
  neither = λ e t some a b. no_fault body e t some a b;
}

one_command : (keys : Keys) (m : Message) (a b : Result Command Answer) → IsCommandOf keys m a → IsCommandOf keys m b → a ≡ b
one_command keys m a b h k = one_reading keys m m.body refl (one_thing m.body) a b h k

-- so an entry leads to one state, or to none
leads_once : (keys : Keys) (h : Header) (s : State) (e : Entry) (a b : Option State) → LeadsTo keys h s e a → LeadsTo keys h s e b → a ≡ b
leads_once keys h s e a b (undone x is) (undone y so) = is ∙ sym so
leads_once keys h s e a b (undone x is) (done not_undone found read leads) = absurd (false≢true (sym not_undone ∙ x))
leads_once keys h s e a b (done not_undone found read leads) (undone x is) = absurd (false≢true (sym not_undone ∙ x))
leads_once keys h s e a b (done not_undone found read leads) (done not other same to) =
    sym leads ∙ ap (λ (r : Result Command Answer). account keys h s e r) (one_command keys e.message found other read same) ∙ to

not_both_ways : (keys : Keys) (h : Header) (s t : State) (e : Entry) → LeadsTo keys h s e None → LeadsTo keys h s e (Some t) → ⊥
not_both_ways keys h s t e none some = cc (leads_once keys h s e None (Some t) none some)

-- its bytes are some
front_nil : (xs ys : List ℕ) → xs ++ ys ≡ [] → xs ≡ []
front_nil [] ys e = refl
front_nil (x ∷ xs) ys e = absurd (cc e)

entry_some : (e : Entry) (rest : List ℕ) → entry_bytes e ++ rest ≡ [] → ⊥
unfolding entry_bytes
entry_some e rest is =
    let a : List ℕ = eight_bytes e.moment in
    let b : List ℕ = a ++ text_bytes e.message.method in
    let c : List ℕ = b ++ text_bytes e.message.target in
    let d : List ℕ = c ++ text_bytes e.message.body in
    let f : List ℕ = d ++ four_bytes e.status in
    let none : a ≡ [] = front_nil a (text_bytes e.message.method) (front_nil b (text_bytes e.message.target) (front_nil c (text_bytes e.message.body)
    (front_nil d (four_bytes e.status) (front_nil f (text_bytes e.answer) (front_nil (f ++ text_bytes e.answer) rest is))))) in
    omega (arith, ap (λ (l : List ℕ). length l) none, length-eight e.moment)

-- ---- where a trace ends

-- what was said behind entries, of which this is left
data IsEnd (keys : Keys) (all : List ℕ) (h : Header) (s : State) (entries : List Entry) (rest : List ℕ) (said : Result Verdict AuditFault) : Type 0 where
  whole : rest ≡ [] → said ≡ Ok (verdict.Legal (length entries) (count_by passes entries)) → IsEnd keys all h s entries rest said
  refused : (e : Entry) (more : List ℕ) → IsEntry e → rest ≡ entry_bytes e ++ more → LeadsTo keys h s e None → length entries < 2 ^ 32 → said ≡ Ok (verdict.Illegal (length entries)) → IsEnd keys all h s entries rest said
  torn : (at : ℕ) → BeginsNoEntry rest → rest ≢ [] → length entries < 2 ^ 32 → at + length rest ≡ length all → said ≡ Err (fault.Torn at) → IsEnd keys all h s entries rest said
  long : rest ≢ [] → length entries ≡ 2 ^ 32 → said ≡ Err fault.TooLong → IsEnd keys all h s entries rest said

-- no further entry accounts for itself
abbrev IsStop : Keys → Header → State → List ℕ → ℕ → Type 0
IsStop keys h s rest n = (e : Entry) (more : List ℕ) (t : State) → IsEntry e → rest ≡ entry_bytes e ++ more → LeadsTo keys h s e (Some t) → n < 2 ^ 32 → ⊥

stop_of : (keys : Keys) (all : List ℕ) (h : Header) (s : State) (entries : List Entry) (rest : List ℕ) (said : Result Verdict AuditFault) → IsEnd keys all h s entries rest said → IsStop keys h s rest (length entries)
stop_of keys all h s entries rest said (whole none is) = λ e more t such at leads few. entry_some e more (sym at ∙ none)
stop_of keys all h s entries rest said (refused f behind valid there not few is) = λ e more t such at leads _.
    let same = entry_code.unique f e behind more valid such (sym there ∙ at) in
    not_both_ways keys h s t e (subst (λ (x : Entry). LeadsTo keys h s x None) same.0 not) leads
stop_of keys all h s entries rest said (torn place none some few place_is is) = λ e more t such at leads _. none e more such at
stop_of keys all h s entries rest said (long some most is) = λ e more t such at leads few. omega (arith, most, few)

-- two lists of entries that account for themselves, behind which none does, are one
record IsSame (es fs : List Entry) (x y : List ℕ) (u v : State) : Type 0 where
  entries : es ≡ fs
  rest : x ≡ y
  states : u ≡ v

entries_same : (keys : Keys) (h : Header) (es fs : List Entry) (s u v : State) (x y : List ℕ) (n j k : ℕ) → All IsEntry es → All IsEntry fs → flat_map entry_bytes es ++ x ≡ flat_map entry_bytes fs ++ y
    → Accounts keys h s es u → Accounts keys h s fs v → IsStop keys h u x j → IsStop keys h v y k → j ≡ n + length es → k ≡ n + length fs → j ≤ 2 ^ 32 → k ≤ 2 ^ 32 → IsSame es fs x y u v
entries_same keys h [] [] s u v x y n j k ve vf e a b stop stop2 js ks jl kl = record { entries = refl; rest = e; states = a ∙ sym b }
entries_same keys h [] (f ∷ fs) s u v x y n j k ve vf e a (mid, leads, rest) stop stop2 js ks jl kl =
    absurd (stop f (flat_map entry_bytes fs ++ y) mid (All-head IsEntry f fs vf) (e ∙ append_assoc (entry_bytes f) (flat_map entry_bytes fs) y) (subst (λ (q : State). LeadsTo keys h q f (Some mid)) (sym a) leads) (omega (arith, js, ks, kl)))
entries_same keys h (g ∷ es) [] s u v x y n j k ve vf e (mid, leads, rest) b stop stop2 js ks jl kl =
    absurd (stop2 g (flat_map entry_bytes es ++ x) mid (All-head IsEntry g es ve) (sym e ∙ append_assoc (entry_bytes g) (flat_map entry_bytes es) x) (subst (λ (q : State). LeadsTo keys h q g (Some mid)) (sym b) leads) (omega (arith, js, ks, jl)))
entries_same keys h (g ∷ es) (f ∷ fs) s u v x y n j k ve vf e (mid, leads, rest) (other, to, others) stop stop2 js ks jl kl =
    let whole_ = sym (append_assoc (entry_bytes g) (flat_map entry_bytes es) x) ∙ e ∙ append_assoc (entry_bytes f) (flat_map entry_bytes fs) y in
    let one = entry_code.unique g f (flat_map entry_bytes es ++ x) (flat_map entry_bytes fs ++ y) (All-head IsEntry g es ve) (All-head IsEntry f fs vf) whole_ in
    let both : Some mid ≡ Some other = leads_once keys h s g (Some mid) (Some other) leads (subst (λ (q : Entry). LeadsTo keys h s q (Some other)) (sym one.0) to) in
    let same : other ≡ mid = cc both in
    let more = entries_same keys h es fs mid u v x y (n + 1) j k (All-tail IsEntry g es ve) (All-tail IsEntry f fs vf) one.1 rest (subst (λ (q : State). Accounts keys h q fs v) same others) stop stop2
    (omega (arith, js)) (omega (arith, ks)) jl kl in
    let head = one.0 in
    let tail = more.entries in
    record { entries = cc (head, tail); rest = more.rest; states = more.states }

-- ---- what is said

-- at one end one thing is said
one_end : (keys : Keys) (all : List ℕ) (h : Header) (u v : State) (es fs : List Entry) (x y : List ℕ) (a b : Result Verdict AuditFault) → IsSame es fs x y u v → IsEnd keys all h u es x a → IsEnd keys all h v fs y b → a ≡ b
one_end keys all h u v es fs x y a b same (whole none is) (whole none2 so) = is ∙ ap (λ (l : List Entry). Ok (verdict.Legal (length l) (count_by passes l))) same.entries ∙ sym so
one_end keys all h u v es fs x y a b same (whole none is) (refused e more such at not few so) = absurd (entry_some e more (sym at ∙ sym same.rest ∙ none))
one_end keys all h u v es fs x y a b same (whole none is) (torn place begins_none some few place_is so) = absurd (some (sym same.rest ∙ none))
one_end keys all h u v es fs x y a b same (whole none is) (long some most so) = absurd (some (sym same.rest ∙ none))
one_end keys all h u v es fs x y a b same (refused e more such at not few is) (whole none so) = absurd (entry_some e more (sym at ∙ same.rest ∙ none))
one_end keys all h u v es fs x y a b same (refused e more such at not few is) (refused f more2 such2 at2 not2 few2 so) = is ∙ ap (λ (l : List Entry). Ok (verdict.Illegal (length l))) same.entries ∙ sym so
one_end keys all h u v es fs x y a b same (refused e more such at not few is) (torn place begins_none some few2 place_is so) = absurd (begins_none e more such (sym same.rest ∙ at))
one_end keys all h u v es fs x y a b same (refused e more such at not few is) (long some most so) = absurd (omega (arith, few, most, ap (λ (l : List Entry). length l) same.entries))
one_end keys all h u v es fs x y a b same (torn place begins_none some few place_is is) (whole none so) = absurd (some (same.rest ∙ none))
one_end keys all h u v es fs x y a b same (torn place begins_none some few place_is is) (refused e more such at not few2 so) = absurd (begins_none e more such (same.rest ∙ at))
one_end keys all h u v es fs x y a b same (torn place begins_none some few place_is is) (torn place2 no2 some2 few2 place2_is so) =
    let one : place ≡ place2 = omega (arith, place_is, place2_is, ap (λ (l : List ℕ). length l) same.rest) in
    is ∙ ap (λ n. Err (fault.Torn n)) one ∙ sym so
one_end keys all h u v es fs x y a b same (torn place begins_none some few place_is is) (long some2 most so) = absurd (omega (arith, few, most, ap (λ (l : List Entry). length l) same.entries))
one_end keys all h u v es fs x y a b same (long some most is) (whole none so) = absurd (some (same.rest ∙ none))
one_end keys all h u v es fs x y a b same (long some most is) (refused e more such at not few so) = absurd (omega (arith, few, most, ap (λ (l : List Entry). length l) same.entries))
one_end keys all h u v es fs x y a b same (long some most is) (torn place begins_none some2 few place_is so) = absurd (omega (arith, few, most, ap (λ (l : List Entry). length l) same.entries))
one_end keys all h u v es fs x y a b same (long some most is) (long some2 most2 so) = is ∙ sym so

-- what was said of all bytes: no header begins them, or it was said behind entries
data Concludes (keys : Keys) (s : State) (all : List ℕ) (said : Result Verdict AuditFault) : Type 0 where
  headless : BeginsNoHeader all → said ≡ Err (fault.Torn 0) → Concludes keys s all said
  behind : (rest : List ℕ) (b : Begins keys s all rest) → length b.entries ≤ 2 ^ 32 → IsEnd keys all b.header b.behind b.entries rest said → Concludes keys s all said

-- the bytes from the header on
from_header : (h : Header) (es : List Entry) (rest all : List ℕ) → all ≡ header_bytes h ++ flat_map entry_bytes es ++ rest → all ≡ header_bytes h ++ (flat_map entry_bytes es ++ rest)
from_header h es rest all is = is ∙ append_assoc (header_bytes h) (flat_map entry_bytes es) rest

one_behind : (keys : Keys) (all : List ℕ) (h : Header) (s u v : State) (es fs : List Entry) (x y : List ℕ) (a b : Result Verdict AuditFault) → All IsEntry es → All IsEntry fs → flat_map entry_bytes es ++ x ≡ flat_map entry_bytes fs ++ y
    → Accounts keys h s es u → Accounts keys h s fs v → length es ≤ 2 ^ 32 → length fs ≤ 2 ^ 32 → IsEnd keys all h u es x a → IsEnd keys all h v fs y b → a ≡ b
one_behind keys all h s u v es fs x y a b ve vf e ae af le lf ea eb =
    let same = entries_same keys h es fs s u v x y 0 (length es) (length fs) ve vf e ae af (stop_of keys all h u es x a ea) (stop_of keys all h v fs y b eb) (omega arith) (omega arith) le lf in
    one_end keys all h u v es fs x y a b same ea eb

one_conclusion : (keys : Keys) (s : State) (all : List ℕ) (a b : Result Verdict AuditFault) → Concludes keys s all a → Concludes keys s all b → a ≡ b
one_conclusion keys s all a b (headless none is) (headless none2 so) = is ∙ sym so
one_conclusion keys s all a b (headless none is) (behind y c few end) = absurd (none c.header (flat_map entry_bytes c.entries ++ y) c.such (from_header c.header c.entries y all c.bytes_are))
one_conclusion keys s all a b (behind x c few end) (headless none so) = absurd (none c.header (flat_map entry_bytes c.entries ++ x) c.such (from_header c.header c.entries x all c.bytes_are))
one_conclusion keys s all a b (behind x c few end) (behind y d few2 end2) =
    let left = flat_map entry_bytes c.entries ++ x in
    let right = flat_map entry_bytes d.entries ++ y in
    let one = header_code.unique c.header d.header left right c.such d.such (sym (from_header c.header c.entries x all c.bytes_are) ∙ from_header d.header d.entries y all d.bytes_are) in
    one_behind keys all c.header s c.behind d.behind c.entries d.entries x y a b c.each d.each one.1 c.account (subst (λ (h : Header). Accounts keys h s d.entries d.behind) (sym one.0) d.account) few few2
    end (subst (λ (h : Header). IsEnd keys all h d.behind d.entries y b) (sym one.0) end2)

-- ---- of what came of a trace

-- more bytes stand behind what came
longer : (keys : Keys) (s : State) (bytes all rest more : List ℕ) → all ≡ bytes ++ more → Begins keys s bytes rest → Begins keys s all (rest ++ more)
longer keys s bytes all rest more is b = record {
  header = b.header;
  such = b.such;
  entries = b.entries;
  each = b.each;
  bytes_are = is ∙ ap (λ l. l ++ more) b.bytes_are ∙ append_assoc (header_bytes b.header ++ flat_map entry_bytes b.entries) rest more;
  behind = b.behind;
  account = b.account;
}

-- at its end all came
all_came : (all bytes more : List ℕ) → all ≡ bytes ++ more → more ≡ [] → all ≡ bytes
all_came all bytes more is none = is ∙ ap (λ l. bytes ++ l) none ∙ append-nil bytes

torn_so : (keys : Keys) (s : State) (all bytes more : List ℕ) (at : ℕ) → all ≡ bytes ++ more → more ≡ [] → IsTorn keys s bytes at → Concludes keys s all (Err (fault.Torn at))
unfolding longer
torn_so keys s all bytes more at is none (in_header zero begins_none) = headless (λ h rest such e. begins_none h rest such (sym (all_came all bytes more is none) ∙ e)) (ap (λ n. Err (fault.Torn n)) zero)
torn_so keys s all bytes more at is none (in_entry rest b some begins_none few place) =
    let same : rest ++ more ≡ rest = ap (λ l. rest ++ l) none ∙ append-nil rest in
    let left = ap (λ (l : List ℕ). length l) same in
    let whole_ = ap (λ (l : List ℕ). length l) (all_came all bytes more is none) in
    behind (rest ++ more) (longer keys s bytes all rest more is b) (omega (arith, few))
    (torn at (λ e tail such there. begins_none e tail such (sym same ∙ there)) (λ e. some (sym same ∙ e)) few (omega (arith, place, left, whole_)) refl)

concludes_by : (keys : Keys) (s : State) (all more bytes : List ℕ) (said : Result Verdict AuditFault) → all ≡ bytes ++ more → Says keys s (Some more) bytes said → Concludes keys s all said
unfolding longer
concludes_by keys s all more bytes (Ok (verdict.Legal entries passed)) is (none, legal) =
    let said = ap (λ n. Ok (verdict.Legal n passed)) legal.entries_are ∙ ap (λ n. Ok (verdict.Legal (length legal.begins.entries) n)) legal.passed_are in
    behind ([] ++ more) (longer keys s bytes all [] more is legal.begins) (omega (arith, legal.few, legal.entries_are)) (whole none said)
concludes_by keys s all more bytes (Ok (verdict.Illegal at)) is off =
    behind (off.rest ++ more) (longer keys s bytes all off.rest more is off.begins) (omega (arith, off.few, off.at_is))
    (refused off.entry (off.more ++ more) off.such (ap (λ l. l ++ more) off.rest_is ∙ append_assoc (entry_bytes off.entry) off.more more) off.fits_not (omega (arith, off.few, off.at_is)) (ap (λ n. Ok (verdict.Illegal n)) off.at_is))
concludes_by keys s all more bytes (Err fault.DiskFailed) is says = absurd says
concludes_by keys s all more bytes (Err (fault.Damaged at)) is says = absurd says
concludes_by keys s all more bytes (Err fault.SourceFailed) is says = absurd says
concludes_by keys s all more bytes (Err (fault.Torn at)) is (none, torn_) = torn_so keys s all bytes more at is none torn_
concludes_by keys s all more bytes (Err fault.TooLong) is long_ =
    behind (long_.rest ++ more) (longer keys s bytes all long_.rest more is long_.begins) (omega (arith, long_.most)) (long (λ e. long_.some (front_nil long_.rest more e)) long_.most refl)
concludes_by keys s all more bytes (Err fault.Memory) is says = absurd says

concludes : (keys : Keys) (s : State) (all : List ℕ) (left' : Option (List ℕ)) (bytes : List ℕ) (said : Result Verdict AuditFault) → Consumes (Some all) left' bytes → Says keys s left' bytes said → Concludes keys s all said
concludes keys s all None bytes said came says = absurd came
concludes keys s all (Some more) bytes said came says = concludes_by keys s all more bytes said came says

-- ---- over a journal

pub one_verdict : (keys : Keys) (store : Store) (all : List ℕ) (left' left'' : Option (List ℕ)) (a b : Result Verdict AuditFault) → store.told ≡ true → length store.reads < 2 ^ 64 → Audits keys store (Some all) left' a → Audits keys store (Some all) left'' b → WasRead a → WasRead b → a ≡ b
one_verdict keys store all l m a b told small (unread none) h ra rb = absurd (ra none)
one_verdict keys store all l m a b told small h (unread none) ra rb = absurd (rb none)
one_verdict keys store all l m a b told small (damaged at is d) (damaged at2 so d2) ra rb = is ∙ ap (λ n. Err (fault.Damaged n)) (one_place store.reads at at2 small (d told) (d2 told)) ∙ sym so
one_verdict keys store all l m a b told small (damaged at is d) (judged t bytes j came says) ra rb = absurd (not_both store.reads t at small (j told) (d told))
one_verdict keys store all l m a b told small (judged s bytes j came says) (damaged at so d) ra rb = absurd (not_both store.reads s at small (j told) (d told))
one_verdict keys store all l m a b told small (judged s bytes j came says) (judged t bytes2 j2 came2 says2) ra rb =
    let same : t ≡ s = one_state store.reads t s small (j2 told) (j told) in
    one_conclusion keys s all a b (concludes keys s all l bytes a came says) (concludes keys s all m bytes2 b came2 (subst (λ (q : State). Says keys q m bytes2 b) same says2))
