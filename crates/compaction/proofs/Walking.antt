-- Blocks that are passed, one after the other.
use Rattle.std.proofs.Common.{◌≡◌, inl, inr, ℕ, ◌+◌, ◌≤◌, All, List, [], ◌∷◌, ◌++◌, true, length, map, drop, refl, sym, ◌∙◌, ap, subst, arith, append_assoc, length-append, Option, Some, None}
use Rattle.std.specs.Prelude.{MatchOption, Result, Ok, Err, option_and_then}
use Rattle.std.specs.List.{flat_map}
use Rattle.std.proofs.lemmas.List.{append-nil, map-append}
use Rattle.std.proofs.lemmas.List.Concat.{flat_map-append}
use Rattle.std.proofs.lemmas.List.Elements.{All-append}
use Rattle.auction_core.specs.Core.{CoreState}
use Rattle.compaction.specs.Beside.{BeginsWith}
use Rattle.compaction.specs.Passing.{AnyBytes, AnyShown, AreAdded, WalkedOn, WalkedToBad, WalkedToEnd, Walks, WhyNot, WhyNotWritten}
use Rattle.compaction.specs.declared.fault.CompactionFault.{CompactionFault}
use Rattle.compaction.specs.declared.fault.CompactionFault.TheVariants.{Memory, NotEmpty, NotRead, WriteFailed}
use Rattle.compaction.specs.Seen.{SeesBadBlock}
use Rattle.compaction.proofs.Showing.{are_before, are_behind, are_both, bad_behind, blocks_cons, blocks_then, end_then, no_blocks, shut_behind}
use Rattle.effects.specs.Bytes.{IsDecoded, IsEncodable, effects_bytes}
use Rattle.journal_file.specs.Blocks.{end_of, journal_names, open_blocks}
use Rattle.journal_file.specs.Compaction.{Adds}
use Rattle.journal_file.specs.Damage.{HasBlock, IsBlockAt, IsShut}
use Rattle.journal_file.specs.Shows.{IsBlockShown, ShowsBlock, ShowsMore, ShowsShut}
use Rattle.journal_file.specs.declared.compaction.Compact.{Compact}
use Rattle.journal_file.specs.declared.faults.JournalFault.{JournalFault}
use Rattle.journal_file.specs.declared.faults.JournalFault.TheVariants as journal
use Rattle.journal_file.proofs.GateLemmas.{one_more}
use Rattle.journal_file.proofs.Shown.{shown_none, shown_so, shown_then}
use Rattle.plain_exchange.specs.declared.changes.Effect.{Effect}
use Rattle.plain_exchange.specs.Effects.{all_applied}
use Rattle.plain_exchange.specs.State.{State}
use Rattle.plain_exchange.proofs.Applying.{all_applied_both}
use Rattle.recovery.specs.Damage.{IsBadBlock, IsUnfit}
use Rattle.recovery.specs.Texts.{IsTextOf}
use Rattle.recovery.specs.Turns.{Follows}
use Rattle.recovery.proofs.Joining.{no_text, text_more}
use Rattle.rtb_base.specs.Faults.{RisesOnlyWhere, Rose}
use Rattle.rtb_disk.specs.Showing.{Shown}
use Rattle.rtb_disk.specs.Stores.{Store}
use Rattle.rtb_disk.specs.declared.disk.Disk.{Ghosts}

pub text_then : (ps qs : List (List ℕ)) (es fs : List Effect) → IsTextOf ps es → IsTextOf qs fs → IsTextOf (ps ++ qs) (es ++ fs)
text_then ps qs es fs t u = record {
  blocks = t.blocks ++ u.blocks;
  encodable = All-append (All IsEncodable) t.blocks u.blocks t.encodable u.encodable;
  payloads_are = ap (λ l. l ++ qs) t.payloads_are ∙ ap (λ l. map effects_bytes t.blocks ++ l) u.payloads_are ∙ sym (map-append effects_bytes t.blocks u.blocks);
  effects_are = ap (λ l. l ++ fs) t.effects_are
      ∙ ap (λ l. flat_map (λ (block : List Effect). block) t.blocks ++ l) u.effects_are
      ∙ sym (flat_map-append (λ (block : List Effect). block) t.blocks u.blocks);
}

-- a fault is handed on
pub rises_then : {T U E : Type 0} (r : Result T E) (inner : Result U E) (e which : E) (first before now : ℕ) → r ≡ Err e → inner ≡ Err e → before ≡ first → RisesOnlyWhere (inner ≡ Err which) before now → RisesOnlyWhere (r ≡ Err which) first now
rises_then {T} {U} {E} r inner e which first before now is is2 same rise =
    let there : r ≡ Err which → inner ≡ Err which = λ f. let k : e ≡ which = cc (is, f) in is2 ∙ ap Err k in
    let back : inner ≡ Err which → r ≡ Err which = λ f. let k : e ≡ which = cc (is2, f) in is ∙ ap Err k in
    (subst (λ n. n ≤ now) same rise.0, (λ f. subst (λ n. Rose n now) same (rise.1 (there f))), (λ not_so. rise.2 (λ f. not_so (back f)) ∙ same))

-- the bytes behind the front
pub begins_more : (before : List (List ℕ)) (payload image : List ℕ) (gate : ℕ) → gate ≡ end_of before → BeginsWith before image → HasBlock payload (drop gate image) → BeginsWith (before ++ payload ∷ []) image
begins_more before payload image gate is b has = record {
  name = b.name;
  named = b.named;
  next = has.gate;
  rest = has.rest;
  file = one_more journal_names b.name before image (b.next ∷ b.rest) gate b.named is b.file payload has;
}

begins_still : (before : List (List ℕ)) (image : List ℕ) → BeginsWith before image → BeginsWith (before ++ []) image
begins_still before image b = subst (λ ps. BeginsWith ps image) (sym (append-nil before)) b

module _ {D : Type 0} (G : Ghosts D) where
  pub none_walked : (d : D) (s : State) (gate : ℕ) → WalkedOn G d d [] s s gate gate
  none_walked d s gate = record {
    effects = [];
    text = no_text;
    applied = refl;
    place = omega (arith, no_blocks);
    told = λ told before is b. (begins_still before (G.store d).reads b, tt);
    shows = shown_none _ _ refl (tt, tt);
  }

  pub walks_then : (There : List ℕ → Type 0) (Seen : List Shown → Type 0) → ((t s : List Shown) → Seen s → Seen (t ++ s))
      → (old mid new : D) (ps qs : List (List ℕ)) (s t u : State) (gate gate' gate'' : ℕ) → G.store mid ≡ G.store old
      → WalkedOn G old mid ps s t gate gate' → Walks G There Seen mid new qs t u gate' gate'' → Walks G There Seen old new (ps ++ qs) s u gate gate''
  walks_then There Seen behind old mid new ps qs s t u gate gate' gate'' same a b = record {
    effects = a.effects ++ b.effects;
    text = text_then ps qs a.effects b.effects a.text b.text;
    applied = all_applied_both a.effects b.effects s ∙ ap (option_and_then (all_applied b.effects)) a.applied ∙ b.applied;
    place = omega (arith, a.place, b.place, ap length (blocks_then ps qs), length-append (open_blocks ps) (open_blocks qs));
    told = λ told before is begins.
        let first = a.told told before is begins in
        let place : gate' ≡ end_of (before ++ ps) = omega (arith, a.place, is, end_then before ps) in
        let there = subst (λ (store : Store). store.told ≡ true → (front : List (List ℕ)) → gate' ≡ end_of front → BeginsWith front store.reads → BeginsWith (front ++ qs) store.reads × There (drop gate'' store.reads)) same b.told in
        let last = there told (before ++ ps) place first.0 in
        (subst (λ l. BeginsWith l (G.store old).reads) (append_assoc before ps qs) last.0, last.1);
    shows = shown_then _ _ _ a.shows b.shows (λ more back first last.
        (are_both (more ++ back) gate gate' ps qs a.place (are_before more back gate ps first.0) (are_behind more back gate' qs last.0), behind more back last.1));
  }

  any_behind : (t s : List Shown) → AnyShown s → AnyShown (t ++ s)
  any_behind t s a = tt

  module _ (old mid new : D) (ps : List (List ℕ)) (s t : State) (gate gate' : ℕ) (same : G.store mid ≡ G.store old) (a : WalkedOn G old mid ps s t gate gate') where
    pub walks_on : (qs : List (List ℕ)) (u : State) (gate'' : ℕ) → WalkedOn G mid new qs t u gate' gate'' → WalkedOn G old new (ps ++ qs) s u gate gate''
    walks_on qs u gate'' b = walks_then AnyBytes AnyShown any_behind old mid new ps qs s t u gate gate' gate'' same a b

    pub walks_to_end : (qs : List (List ℕ)) (u : State) (gate'' : ℕ) → WalkedToEnd G mid new qs t u gate' gate'' → WalkedToEnd G old new (ps ++ qs) s u gate gate''
    walks_to_end qs u gate'' b = walks_then IsShut (ShowsShut gate'') (shut_behind gate'') old mid new ps qs s t u gate gate' gate'' same a b

    pub why_then : (fault : JournalFault) → WhyNot G mid new t gate' fault → WhyNot G old new s gate fault
    why_then (journal.Damaged at) (qs, u, b) = (ps ++ qs, u, walks_then (λ bytes. IsBadBlock bytes u) (SeesBadBlock at u) (bad_behind at u) old mid new ps qs s t u gate gate' at same a b)
    why_then journal.DiskFailed b = tt
    why_then journal.Memory b = tt

    pub why_written_then : (fault : CompactionFault) → WhyNotWritten G mid new t gate' fault → WhyNotWritten G old new s gate fault
    why_written_then (NotRead fault) b = why_then fault b
    why_written_then NotEmpty b = b
    why_written_then WriteFailed b = tt
    why_written_then Memory b = tt

  pub added_then : (file file' file'' : Compact D G) (ps qs : List (List ℕ)) → AreAdded G file file' ps → AreAdded G file' file'' qs → AreAdded G file file'' (ps ++ qs)
  added_then file file' file'' ps qs a b = λ written adds. subst (λ l. Adds file'' l) (append_assoc written ps qs) (b (written ++ ps) (a written adds))

  -- ---- one block

  block_walked : (old new : D) (payload : List ℕ) (effects : List Effect) (s t : State) (gate next : ℕ) → IsDecoded payload (Ok effects) → all_applied effects s ≡ Some t → next ≡ gate + 9 + length payload
      → ((G.store old).told ≡ true → HasBlock payload (drop gate (G.store old).reads)) → ShowsMore (G.shown old) (G.shown new) (ShowsBlock gate payload) → WalkedOn G old new (payload ∷ []) s t gate next
  block_walked old new payload effects s t gate next decoded applied place has shows = record {
    effects = effects;
    text = text_more [] payload [] effects no_text decoded;
    applied = applied;
    place = omega (arith, place, blocks_cons payload [], no_blocks);
    told = λ told before is b. (begins_more before payload (G.store old).reads gate is b (has told), tt);
    shows = shown_so _ _ shows (λ shown b. ((([], shown, refl, b), tt), tt));
  }

  bad_walked : (old new : D) (s : State) (gate at : ℕ) → at ≡ gate → ((G.store old).told ≡ true → IsBadBlock (drop gate (G.store old).reads) s) → ShowsMore (G.shown old) (G.shown new) (SeesBadBlock gate s) → WalkedToBad G old new s gate at
  bad_walked old new s gate at is bad shows = (
    [],
    s,
    record {
      effects = [];
      text = no_text;
      applied = refl;
      place = omega (arith, is, no_blocks);
      told = λ told before place b. (begins_still before (G.store old).reads b, subst (λ n. IsBadBlock (drop n (G.store old).reads) s) (sym is) (bad told));
      shows = shown_so _ _ shows (λ shown b. (tt, subst (λ n. SeesBadBlock n s shown) (sym is) b));
    },
  )

  module _ (old new : D) (before out : List ℕ) (gate : ℕ) (empty : before ≡ []) where
    abbrev Finds : Result (Option ℕ) JournalFault → Type 0
    Finds r = (G.store old).told ≡ true → IsBlockAt gate (drop gate (G.store old).reads) before out r

    abbrev ShowsIt : Result (Option ℕ) JournalFault → Type 0
    ShowsIt r = ShowsMore (G.shown old) (G.shown new) (λ shown. IsBlockShown gate shown before out r)

    there : (next : ℕ) → Finds (Ok (Some next)) → (G.store old).told ≡ true → HasBlock out (drop gate (G.store old).reads)
    there next finds told =
        let found = finds told in
        let same : out ≡ found.0 = found.3 ∙ ap (λ l. l ++ found.0) empty in
        subst (λ p. HasBlock p (drop gate (G.store old).reads)) (sym same) found.1

    shown_there : (next : ℕ) → ShowsIt (Ok (Some next)) → ShowsMore (G.shown old) (G.shown new) (ShowsBlock gate out)
    shown_there next shows = shown_so _ _ shows (λ shown found.
        let same : out ≡ found.0 = found.3 ∙ ap (λ l. l ++ found.0) empty in
        subst (λ p. ShowsBlock gate p shown) (sym same) found.1)

    abbrev IsPlaced : Option ℕ → Type 0
    IsPlaced found = MatchOption found (out ≡ before) (λ next. (more : List ℕ) × (out ≡ before ++ more) × (next ≡ gate + 9 + length more))

    placed : (next : ℕ) → IsPlaced (Some next) → next ≡ gate + 9 + length out
    placed next p = let same : out ≡ p.0 = p.1 ∙ ap (λ l. l ++ p.0) empty in omega (arith, p.2, ap length same)

    -- the block that was found was carried out
    pub step_passed : (payload : List ℕ) (core after : CoreState) (next : ℕ) (found : Option ℕ) → payload ≡ out → found ≡ Some next → Finds (Ok found) → ShowsIt (Ok found) → IsPlaced found → Follows gate payload core after (Ok tt) → WalkedOn G old new (out ∷ []) core.state after.state gate next
    step_passed payload core after next found is e finds shows place led =
        block_walked old new out led.effects core.state after.state gate next (subst (λ p. IsDecoded p (Ok led.effects)) is led.decoded) led.applied (placed next (subst (λ o. IsPlaced o) e place))
        (there next (subst (λ o. Finds (Ok o)) e finds)) (shown_there next (subst (λ o. ShowsIt (Ok o)) e shows))

    -- or not
    pub step_refused : (payload : List ℕ) (core after : CoreState) (next : ℕ) (found : Option ℕ) (fault : JournalFault) → payload ≡ out → found ≡ Some next → Finds (Ok found) → ShowsIt (Ok found) → Follows gate payload core after (Err fault) → WhyNot G old new core.state gate fault
    step_refused payload core after next found (journal.Damaged at) is e finds shows (same, unfit) =
        let none : IsUnfit out core.state = subst (λ p. IsUnfit p core.state) is unfit in
        bad_walked old new core.state gate at same (λ told. inr (out, there next (subst (λ o. Finds (Ok o)) e finds) told, none))
        (shown_so _ _ (shown_there next (subst (λ o. ShowsIt (Ok o)) e shows)) (λ shown b. inr (out, ([], shown, refl, b), none)))
    step_refused payload core after next found journal.DiskFailed is e finds shows f = tt
    step_refused payload core after next found journal.Memory is e finds shows f = tt

    -- none was found
    pub step_none : (s : State) (found : Option ℕ) → found ≡ None → Finds (Ok found) → ShowsIt (Ok found) → WalkedToEnd G old new [] s s gate gate
    step_none s found e finds shows = record {
      effects = [];
      text = no_text;
      applied = refl;
      place = omega (arith, no_blocks);
      told = λ told front is b. (begins_still front (G.store old).reads b, ((subst (λ o. Finds (Ok o)) e finds) told).0);
      shows = shown_so _ _ (subst (λ o. ShowsIt (Ok o)) e shows) (λ shown b. (tt, b.0));
    }

    abbrev IsAtGate : Result (Option ℕ) JournalFault → Type 0
    IsAtGate r = (at : ℕ) → r ≡ Err (journal.Damaged at) → at ≡ gate

    pub step_fails : (s : State) (fault : JournalFault) → Finds (Err fault) → ShowsIt (Err fault) → IsAtGate (Err fault) → WhyNot G old new s gate fault
    step_fails s (journal.Damaged at) finds shows place =
        bad_walked old new s gate at (place at refl) (λ told. inl (finds told).0) (shown_so _ _ shows (λ shown b. inl ([], shown, refl, b.0)))
    step_fails s journal.DiskFailed finds shows place = tt
    step_fails s journal.Memory finds shows place = tt
