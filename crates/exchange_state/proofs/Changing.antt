-- A change that is written before it is carried out.
use Rattle.std.proofs.Common.{◌≡◌, ◌==◌, ◌&&◌, inl, inr, ℕ, ◌+◌, ◌≤◌, Bool, true, false, not, List, [], ◌∷◌, ◌++◌, All, length, drop, take, refl, sym, ◌∙◌, ap, subst, arith, append_assoc, length-append, Option, Some, None, option_to_list}
use Rattle.std.specs.Prelude.{IfSome, is_none, is_some}
use Rattle.std.specs.Option.{option_map_or}
use Rattle.std.proofs.lemmas.Bool.{eqb-true, false≢true}
use Rattle.std.proofs.lemmas.List.{drop-append-le, drop_all, take-append-le, take-take, take_all}
use Rattle.std.proofs.lemmas.List.Elements.{All-append}
use Rattle.std.proofs.lemmas.List.Sums.{fold-append}
use Rattle.auction_core.specs.Core.{CoreState}
use Rattle.auction_core.specs.Draft.{IsDraftOf}
use Rattle.auction_core.specs.declared.draft.Draft.{Draft}
use Rattle.effects.specs.Bytes.{IsEncodable, effects_bytes}
use Rattle.exchange_state.specs.declared.entries.Entry.{Entry}
use Rattle.exchange_state.specs.declared.entries.Origin.{Origin}
use Rattle.exchange_state.specs.declared.errand.Errand.{Errand}
use Rattle.exchange_state.specs.declared.state.ExchangeState.{ExchangeState}
use Rattle.exchange_state.specs.declared.state.Placing.{Placing}
use Rattle.exchange_state.specs.declared.state.Settled.{Settled}
use Rattle.exchange_state.specs.Ahead.{CarriesAhead, block_with, is_idle}
use Rattle.exchange_state.specs.Errands.{IsDone, IsStaged, IsTried, Starts, taking_mark, taking_of}
use Rattle.exchange_state.specs.Placing.{IsCommitted, IsSame, noted, noted_in, placed_as, touched_with, count_in}
use Rattle.exchange_state.specs.Settling.{Enters}
use Rattle.exchange_state.specs.Standing.{IsPlaced, SaidBehind, SaidFrom, StandsFor, between, is_ahead, text_to, version_of}
use Rattle.exchange_state.specs.Tickets.{IsLegalFrom, IsVersionOf, edits_after, effects_after, opening, state_after, touched_since}
use Rattle.exchange_state.specs.Views.{AreInTurn, Taking, Window, called, calls, durable_of, failures, faults_of, faults_told, kept, out, out_of, own, published, stable, taken, told_or, window_by}
use Rattle.exchange_state.proofs.Committing.{noted_count, noted_oldest, noted_touched, same_drafts}
use Rattle.exchange_state.proofs.Entering.{both_true, calls_then, effect_as, none_of, says_same, some_of, stands_ahead, step_as, window_then}
use Rattle.exchange_state.proofs.Growing.{edits_more, effect_then, effects_more, legal_more, since_more, state_then, version_more}
use Rattle.exchange_state.proofs.Journals.{count_then, home_out, marked, taken_then}
use Rattle.exchange_state.proofs.Later.{calls_on, front_later}
use Rattle.exchange_state.proofs.Marks.{told_then, turn_then}
use Rattle.exchange_state.proofs.Moments.{least_text, said_more, tried_said}
use Rattle.exchange_state.proofs.Owning.{left_alone}
use Rattle.exchange_state.proofs.Rising.{called_rising, taken_rising}
use Rattle.exchange_state.proofs.Texts.{block_more}
use Rattle.index_versions.specs.Recent.{RecentEdits}
use Rattle.index_versions.specs.declared.version.Version.{Version}
use Rattle.journal_file.specs.Standing.{Keeps, is_broken, store_of}
use Rattle.journal_file.specs.Standing as journal
use Rattle.journal_file.specs.declared.journal.Journal.{Journal}
use Rattle.plain_exchange.proofs.Applying.{replayed}
use Rattle.plain_exchange.specs.declared.changes.Effect.{Effect}
use Rattle.plain_exchange.specs.declared.commands.Command.{Command}
use Rattle.plain_exchange.specs.declared.commands.Reply.{Reply}
use Rattle.plain_exchange.specs.Effects.{edits, state_of}
use Rattle.plain_exchange.specs.History.{Call}
use Rattle.plain_exchange.specs.State.{State}
use Rattle.plain_exchange.specs.Step.{Transition, effect_of}
use Rattle.recovery.specs.Texts.{IsTextOf}
use Rattle.rtb_base.specs.Faults.{RoseBy}
use Rattle.rtb_disk.specs.declared.disk.Disk.{Ghosts}

-- ---- answers

pub some_map : {A : Type 0} (P Q : A → Type 0) (r : Option A) → ((x : A) → P x → Q x) → IfSome r P → IfSome r Q
some_map P Q None f h = tt
some_map P Q (Some x) f h = f x h

pub some_any : {A : Type 0} (P : A → Type 0) (r : Option A) → ((x : A) → P x) → IfSome r P
some_any P None f = tt
some_any P (Some x) f = f x

same_in : {A : Type 0} (a b : A) → Some a ≡ Some b → a ≡ b
same_in a b e = cc

-- the block is that of an effect
pub block_some : (effect : Option Effect) (block : List ℕ) → Some block ≡ block_with effect → (e : Effect) × (effect ≡ Some e) × (block ≡ effects_bytes (e ∷ []))
block_some None block h = absurd (cc h)
block_some (Some e) block h = (e, refl, same_in block (effects_bytes (e ∷ [])) h)

-- ---- the journal is home and whole, and all effects are durable

is_not : (b : Bool) → not b ≡ true → b ≡ false
is_not true h = absurd (false≢true h)
is_not false h = refl

module _ {D : Type 0} {G : Ghosts D} where
  idle_as : (j : Option (Journal D G)) (same : Bool) → option_map_or (λ (k : Journal D G). not (is_broken k) && same) j false ≡ true → (k : Journal D G) × (j ≡ Some k) × (is_broken k ≡ false) × (same ≡ true)
  idle_as None same h = absurd (false≢true h)
  idle_as (Some k) same h = let b = both_true (not (is_broken k)) same h in (k, refl, is_not (is_broken k) b.0, b.1)

  pub same_idle : (old mid : ExchangeState D G) → IsSame old mid → is_idle mid ≡ is_idle old
  same_idle old mid e = ap (λ j. option_map_or (λ (k : Journal D G). not (is_broken k) && (mid.durable == mid.placed)) j false) e.journal
      ∙ ap (λ n. option_map_or (λ (k : Journal D G). not (is_broken k) && (n == mid.placed)) old.journal false) e.durable
      ∙ ap (λ n. option_map_or (λ (k : Journal D G). not (is_broken k) && (old.durable == n)) old.journal false) e.placed

  pub idle_home : (x : ExchangeState D G) → is_idle x ≡ true → is_some x.journal ≡ true
  idle_home x is = ap (λ (j : Option (Journal D G)). is_some j) (idle_as x.journal (x.durable == x.placed) is).1

  -- ---- it is staged

  idle_whole : (x : ExchangeState D G) (j : Journal D G) → is_idle x ≡ true → x.journal ≡ Some j → (is_broken j ≡ false) × (x.durable ≡ x.placed)
  idle_whole x j idle home =
      let h = idle_as x.journal (x.durable == x.placed) idle in
      (ap is_broken (same_in j h.0 (sym home ∙ h.1)) ∙ h.2, eqb-true x.durable x.placed h.3)

  pub staged : (o : Origin) (l : List Entry) (command : Command) (m : ℕ) (x : ExchangeState D G) (e : Errand D G) (effect : Effect) → is_idle x ≡ true → effect_of o.settings m (state_after o (calls l)) command ≡ Some effect → All IsEncodable (effect ∷ [])
      → x.journal ≡ Some e.journal → e ≡ record { journal = e.journal; block = effects_bytes (effect ∷ []); upto = x.placed + 1; again = false } → StandsFor o x l → IsStaged o l command m e
  staged o l command m x e effect idle has can home is s =
      let w = idle_whole x e.journal idle home in
      let p = home_out o l x.journal e.journal x.block x.upto home s.journal in
      let b = p.2 w.0 in
      record {
        opened = s.opened;
        home = p.0;
        durable = sym s.durable ∙ w.1 ∙ s.placed;
        effect = effect;
        has = has;
        encodable = can;
        again = ap (λ (r : Errand D G). r.again) is;
        end = ap (λ (r : Errand D G). r.upto) is ∙ ap (λ n. n + 1) s.placed;
        block = ap (λ (r : Errand D G). r.block) is;
        broken = w.0;
        faults = p.1;
        whole = b.text;
      }

  -- the mark of it tells of one effect more than the list has
  taken_ahead : (o : Origin) (l : List Entry) (w : ℕ) (x : ExchangeState D G) (j : Journal D G) → is_idle x ≡ true → x.journal ≡ Some j → StandsFor o x l → StandsFor o (record x { journal = None }) (l ++ taken w (x.placed + 1) false (journal.faults_of j) ∷ [])
  taken_ahead o l w x j idle home s =
      let new : ExchangeState D G = record x { journal = None } in
      let e = taken w (x.placed + 1) false (journal.faults_of j) in
      let h = idle_whole x j idle home in
      let p = home_out o l x.journal j x.block x.upto home s.journal in
      let same = h.1 in
      let told = told_then durable_of 0 l e in
      let from = s.from_durable in
      let there = s.there in
      let end : x.placed ≡ x.upto = omega (arith, same, from, there) in
      marked o l (l ++ e ∷ []) x new (taken_then l w (x.placed + 1) false (journal.faults_of j)) (fold-append window_by _ l (e ∷ []))
      (record { core = refl; version = refl; recent = refl; placed = refl })
      (s.durable ∙ sym told)
      from
      there
      s.pending (
        record { worker = w; upto = x.placed + 1; again = false; faults = journal.faults_of j },
        told_then out_of None l e,
        inr (record {
          end = ap (λ n. n + 1) end;
          durable = told ∙ sym s.durable ∙ same ∙ end;
          all = sym end ∙ s.placed ∙ ap (λ g. length (effects_after o g)) (sym (taken_then l w (x.placed + 1) false (journal.faults_of j)));
        }),
      )
      (turn_then None l e s.in_turn p.0)
      (subst (RoseBy (failures (l ++ e ∷ [])) o.faults) (sym (told_then faults_of o.faults l e ∙ p.1))
      (subst (λ n. RoseBy n o.faults (faults_told o l)) (sym (count_then l e ∙ omega arith)) s.counted))
      (taken_rising o l w (x.placed + 1) false (journal.faults_of j) s.rising (subst (λ n. faults_told o l ≤ n) (sym p.1) (omega arith)))
      s

  pub staged_stands : (o : Origin) (l : List Entry) (w : ℕ) (x new : ExchangeState D G) (e : Errand D G) (block : List ℕ) → is_idle x ≡ true → x.journal ≡ Some e.journal → e ≡ record { journal = e.journal; block = block; upto = x.placed + 1; again = false }
      → new ≡ record x { journal = None } → StandsFor o x l → StandsFor o new (l ++ taking_mark w e ∷ [])
  staged_stands o l w x new e block idle home is after s =
      subst (λ (y : ExchangeState D G). StandsFor o y (l ++ taking_mark w e ∷ [])) (sym after)
      (subst (λ (r : Errand D G). StandsFor o (record x { journal = None }) (l ++ taken w r.upto r.again (journal.faults_of r.journal) ∷ [])) (sym is) (taken_ahead o l w x e.journal idle home s))

  -- ---- it is carried out

  -- the draft's bytes came to those that are pending, it was carried out and noted, and nothing is pending any more
  pub carried_ahead : (command : Command) (moment : ℕ) (d : Draft) (p : Placing) (old mid v new : ExchangeState D G) (s : Settled) → is_some d.effect ≡ true
      → IsDraftOf old.core.settings old.core.state command moment d → placed_as (length old.core.state.campaigns) d.effect p → All IsEncodable (option_to_list d.effect)
      → mid ≡ record old { pending = old.pending ++ effects_bytes (option_to_list d.effect) }
      → (IsDraftOf mid.core.settings mid.core.state command moment d → IsCommitted command moment mid.core v.core s.reply)
      → v ≡ record (noted p mid) { core = v.core } → s.upto ≡ v.placed → s.durable ≡ v.durable → new ≡ record v { pending = []; upto = v.placed }
      → CarriesAhead command moment old new s
  carried_ahead command moment d p old mid v new s some draft placing can before commits after upto durable last =
      let effect = d.effect in
      let is : effect ≡ effect_of old.core.settings moment old.core.state command = draft.effect in
      let f = some_of effect some in
      let core : mid.core ≡ old.core = ap (λ (x : ExchangeState D G). x.core) before in
      let k = commits (same_drafts command moment old.core mid.core d (ap (λ (x : CoreState). x.settings) core) (ap (λ (x : CoreState). x.state) core) draft) in
      let here = subst (λ (x : CoreState). IsCommitted command moment x v.core s.reply) core k in
      let recent : v.recent ≡ noted_in p mid.recent = ap (λ (x : ExchangeState D G). x.recent) after in
      let recent_before : mid.recent ≡ old.recent = ap (λ (x : ExchangeState D G). x.recent) before in
      subst (λ (z : ExchangeState D G). CarriesAhead command moment old z s) (sym last) (record {
        effect = f.0;
        has = sym is ∙ f.1;
        state = here.state;
        reply = here.reply_is;
        upto = upto;
        durable = durable;
        places = record {
          edits_are = here.edits_are;
          settings = here.settings;
          version = ap (λ (x : ExchangeState D G). version_of x) after ∙ ap (λ (x : ExchangeState D G). version_of x) before;
          oldest = ap (λ (r : RecentEdits). r.oldest) recent ∙ noted_oldest p mid.recent ∙ ap (λ (r : RecentEdits). r.oldest) recent_before;
          touched = ap (λ (r : RecentEdits). r.touched) recent ∙ noted_touched (length old.core.state.campaigns) effect p mid.recent placing
              ∙ ap (λ (r : RecentEdits). r.touched ++ touched_with (length old.core.state.campaigns) effect) recent_before
              ∙ ap (λ g. old.recent.touched ++ touched_with (length old.core.state.campaigns) g) is;
          journal = ap (λ (x : ExchangeState D G). x.journal) after ∙ ap (λ (x : ExchangeState D G). x.journal) before;
          block = ap (λ (x : ExchangeState D G). x.block) after ∙ ap (λ (x : ExchangeState D G). x.block) before;
          pending = refl;
          encodable = subst (λ g. All IsEncodable (option_to_list g)) is can;
          upto = refl;
          placed = ap (λ (x : ExchangeState D G). x.placed) after ∙ ap (λ (x : ExchangeState D G). x.placed + count_in p) before
              ∙ ap (λ n. old.placed + n) (noted_count (length old.core.state.campaigns) effect p placing) ∙ ap (λ (g : Option Effect). old.placed + length (option_to_list g)) is;
          durable = ap (λ (x : ExchangeState D G). x.durable) after ∙ ap (λ (x : ExchangeState D G). x.durable) before;
        };
        none_left = refl;
        end = refl;
      })

  -- the block that is out ends with it
  pub ahead_end : (o : Origin) (l : List Entry) (x : ExchangeState D G) (t : Taking) → StandsFor o x l → is_ahead x ≡ true → out l ≡ Some t → t.upto ≡ length (effects_after o (calls l)) + 1
  ahead_end o l x t s is has =
      let p = stands_ahead o l x s is in
      let a = p.2 in
      ap (λ (u : Taking). u.upto) (same_in t p.0 (sym has ∙ p.1)) ∙ a.end ∙ ap (λ n. n + 1) a.all

  -- the state stands for the list with the call, whose effect is the last of the block that is out
  pub entered_ahead : (o : Origin) (l : List Entry) (w m : ℕ) (command : Command) (old new : ExchangeState D G) (s : Settled) → CarriesAhead command m old new s → is_ahead old ≡ true → StandsFor o old l → Enters o l w command m new s
  entered_ahead o l w m command old new s k ahead x =
      let h = calls l in
      let c : Call = record { worker = w; command = command; moment = m; reply = s.reply } in
      let e = called w command m s.reply in
      let is = calls_then l w m command s.reply in
      let p = k.places in
      let one = step_as o h command m old.core.settings old.core.state x.settings x.state in
      let eff = effect_as o h command m old.core.settings old.core.state x.settings x.state in
      let es : option_to_list (effect_of old.core.settings m old.core.state command) ≡ effect_then o h c = ap (λ f. option_to_list f) eff in
      let grown : effects_after o (calls (l ++ e ∷ [])) ≡ effects_after o h ++ effect_then o h c = ap (effects_after o) is ∙ effects_more o h c in
      let win = window_then o l w m command s.reply in
      let same_kept : kept o (l ++ e ∷ []) ≡ kept o l = ap (λ (v : Window). v.kept) win in
      let same_published : published o (l ++ e ∷ []) ≡ published o l = ap (λ (v : Window). v.published) win in
      let says = says_same o l w m command s.reply in
      let placed_now : new.placed ≡ length (effects_after o (calls (l ++ e ∷ []))) =
      p.placed ∙ ap (λ n. n + length (option_to_list (effect_of old.core.settings m old.core.state command))) x.placed ∙ ap (λ d. length (effects_after o h) + length d) es
      ∙ sym (length-append (effects_after o h) (effect_then o h c)) ∙ ap (λ d. length d) (sym grown) in
      let one_more : new.placed ≡ old.placed + 1 = p.placed ∙ ap (λ (f : Option Effect). old.placed + length (option_to_list f)) k.has in
      let within : kept o l ≤ edits_after o h = let a = x.order in let b = x.edition in let v = x.version in let past = v.past in omega (arith, a, b, past) in
      let gone = stands_ahead o l old x ahead in
      let a = gone.2 in
      let end = a.end in
      let all = a.all in
      let long = x.placed in
      let last = k.end in
      record {
        stands = record {
          opened = x.opened;
          few = x.few;
          legal = subst (IsLegalFrom o) (sym is) (legal_more o h c x.legal (k.reply ∙ ap (λ (t : Transition). t.reply) one));
          state = k.state ∙ ap (λ (t : Transition). t.after) one ∙ sym (state_then o h c) ∙ ap (state_after o) (sym is);
          settings = p.settings ∙ x.settings;
          edits_are = p.edits_are ∙ ap (λ n. n + edits (option_to_list (effect_of old.core.settings m old.core.state command))) x.edits_are ∙ ap (λ d. edits_after o h + edits d) es
              ∙ sym (edits_more o h c) ∙ ap (edits_after o) (sym is);
          placed = placed_now;
          encodable = subst (All IsEncodable) (sym grown) (All-append IsEncodable (effects_after o h) (effect_then o h c) x.encodable (subst (All IsEncodable) es p.encodable));
          edition = ap (λ (v : Version). v.edit) p.version ∙ x.edition ∙ sym same_published;
          version = subst (λ g. IsVersionOf o g (version_of new)) (sym is) (version_more o h c (version_of new) (subst (IsVersionOf o h) (sym p.version) x.version));
          first = subst (λ n. edits o.effects ≤ n) (sym same_kept) x.first;
          order = subst (λ n. n ≤ published o (l ++ e ∷ [])) (sym same_kept) (subst (λ n. kept o l ≤ n) (sym same_published) x.order);
          oldest = p.oldest ∙ x.oldest ∙ sym same_kept;
          touched = p.touched ∙ ap (λ t. t ++ touched_with (length old.core.state.campaigns) (effect_of old.core.settings m old.core.state command)) x.touched
              ∙ ap (λ f. touched_since o h (kept o l) ++ touched_with (length old.core.state.campaigns) f) eff
              ∙ ap (λ (t : State). touched_since o h (kept o l) ++ touched_with (length t.campaigns) (effect_of o.settings m (state_after o h) command)) x.state
              ∙ sym (since_more o h c (kept o l) x.first within)
              ∙ ap (λ g. touched_since o g (kept o l)) (sym is) ∙ ap (touched_since o (calls (l ++ e ∷ []))) (sym same_kept);
          durable = p.durable ∙ x.durable ∙ sym says.same_stable;
          from_durable = let f = x.from_durable in let t = x.there in let d = p.durable in omega (arith, f, t, d, one_more, last);
          there = omega (arith, last);
          pending = k.none_left ∙ sym (ap effects_bytes (drop_all new.upto (effects_after o (calls (l ++ e ∷ []))) (omega (arith, last, placed_now))));
          journal = subst (λ j. IsPlaced o (l ++ e ∷ []) j new.block new.upto) (sym (p.journal ∙ none_ahead old ahead)) (
            gone.0,
            says.same_out ∙ gone.1,
            inl (record {
              end = omega (arith, last, one_more, end, all, long);
              above = let d = a.durable in let same = says.same_stable in omega (arith, last, one_more, d, all, long, same);
            }),
          );
          in_turn = turn_then None l e x.in_turn tt;
          counted = subst (λ n. RoseBy n o.faults (faults_told o (l ++ e ∷ []))) (sym says.same_failures) (subst (RoseBy (failures l) o.faults) (sym says.same_faults) x.counted);
          rising = called_rising o l w command m s.reply x.rising;
        };
        upto = k.upto ∙ placed_now;
        durable = k.durable ∙ p.durable ∙ x.durable;
      }
    where
      none_ahead : (y : ExchangeState D G) → is_ahead y ≡ true → y.journal ≡ None
      none_ahead y h = none_of y.journal (both_true (is_none y.journal) (y.durable == y.placed) h).0

-- ---- it is put back

-- where calls have no effect, the state stays
pub made_state : (o : Origin) (h : List Call) → state_of o.effects ≡ Some (opening o) → state_of (o.effects ++ effects_after o h) ≡ Some (state_after o h)
unfolding state_after effects_after
made_state o h opened = replayed o.settings o.effects (opening o) h opened

same_after : (o : Origin) (h more : List Call) → state_of o.effects ≡ Some (opening o) → length (effects_after o (h ++ more)) ≡ length (effects_after o h) → (effects_after o (h ++ more) ≡ effects_after o h) × (state_after o (h ++ more) ≡ state_after o h)
same_after o h more opened same =
    let n = length (effects_after o h) in
    let f = front_later o more h n (omega arith) in
    let es : effects_after o (h ++ more) ≡ effects_after o h = sym (take_all n (effects_after o (h ++ more)) (omega (arith, same))) ∙ f.0 ∙ take_all n (effects_after o h) (omega arith) in
    (es, same_in (state_after o (h ++ more)) (state_after o h) (sym (made_state o (h ++ more) opened) ∙ ap (λ d. state_of (o.effects ++ d)) es ∙ made_state o h opened))

-- and the effect of a command is the one that it had, wherever it comes behind them
change_effects : (o : Origin) (h more behind : List Call) (c : Call) (effect : Effect) → state_of o.effects ≡ Some (opening o) → length (effects_after o (h ++ more)) ≡ length (effects_after o h) → effect_of o.settings c.moment (state_after o h) c.command ≡ Some effect
    → (take (length (effects_after o h) + 1) (effects_after o (((h ++ more) ++ c ∷ []) ++ behind)) ≡ effects_after o h ++ effect ∷ []) × (length (effects_after o h) + 1 ≤ length (effects_after o (((h ++ more) ++ c ∷ []) ++ behind)))
change_effects o h more behind c effect opened same has =
    let n = length (effects_after o h) in
    let s = same_after o h more opened same in
    let one : effect_then o (h ++ more) c ≡ effect ∷ [] = ap (λ st. option_to_list (effect_of o.settings c.moment st c.command)) s.1 ∙ ap (λ (f : Option Effect). option_to_list f) has in
    let grown : effects_after o ((h ++ more) ++ c ∷ []) ≡ effects_after o h ++ effect ∷ [] =
    effects_more o (h ++ more) c ∙ ap (λ es. es ++ effect_then o (h ++ more) c) s.0 ∙ ap (λ es. effects_after o h ++ es) one in
    let pushed = length-append (effects_after o h) (effect ∷ []) in
    let long = ap (λ (es : List Effect). length es) grown in
    let f = front_later o behind ((h ++ more) ++ c ∷ []) (n + 1) (omega (arith, long, pushed)) in
    (f.0 ∙ ap (take (n + 1)) grown ∙ take_all (n + 1) (effects_after o h ++ effect ∷ []) (omega (arith, pushed)), f.1)

-- each front of a list in turn is in turn
turn_before : (has : Option Taking) (l more : List Entry) → AreInTurn has (l ++ more) → AreInTurn has l
turn_before has [] more a = tt
turn_before has (x ∷ l) more a = (a.0, turn_before (told_or out_of has x) l more a.1)

module _ {D : Type 0} {G : Ghosts D} where
  -- others may carry out calls without effect before the change, and whatever they like behind it
  pub change_done : (o : Origin) (l more behind : List Entry) (w moment : ℕ) (command : Command) (reply : Reply) (old new : Errand D G) (written : Bool) → IsStaged o l command moment old → All IsEncodable (effects_after o (calls l)) → IsTried old new written
      → old.upto ≡ length (effects_after o (calls ((l ++ taking_mark w old ∷ []) ++ more))) + 1
      → AreInTurn None ((((l ++ taking_mark w old ∷ []) ++ more) ++ called w command moment reply ∷ []) ++ behind) → own w more ≡ [] → own w behind ≡ []
      → IsDone o ((((l ++ taking_mark w old ∷ []) ++ more) ++ called w command moment reply ∷ []) ++ behind) (taking_of w old) new written
  change_done o l more behind w moment command reply old new written i can tried up turn none_more none_behind =
      let t = taking_of w old in
      let mark = taking_mark w old in
      let call = called w command moment reply in
      let c : Call = record { worker = w; command = command; moment = moment; reply = reply } in
      let l1 = l ++ mark ∷ [] in
      let l2 = l1 ++ more in
      let l3 = l2 ++ call ∷ [] in
      let l4 = l3 ++ behind in
      let es = effects_after o (calls l) in
      let effect = i.effect in
      let turn3 = turn_before None l3 behind turn in
      let turn2 = turn_before None l2 (call ∷ []) turn3 in
      let out1 : out l1 ≡ Some t = told_then out_of None l mark in
      let q2 = left_alone o t l1 more turn2 out1 none_more in
      let out3 : out l3 ≡ Some t = told_then out_of None l2 call ∙ q2.same_out ∙ out1 in
      let q4 = left_alone o t l3 behind turn out3 none_behind in
      let stable4 : stable l4 ≡ stable l = q4.same_stable ∙ told_then durable_of 0 l2 call ∙ q2.same_stable ∙ told_then durable_of 0 l mark in
      let calls2 : calls l2 ≡ calls l ++ calls more = calls_on l1 more ∙ ap (λ k. k ++ calls more) (taken_then l w old.upto old.again (journal.faults_of old.journal)) in
      let calls4 : calls l4 ≡ ((calls l ++ calls more) ++ c ∷ []) ++ calls behind =
      calls_on l3 behind ∙ ap (λ k. k ++ calls behind) (calls_then l2 w moment command reply ∙ ap (λ k. k ++ c ∷ []) calls2) in
      let end = i.end in
      let durable = i.durable in
      let same2 = ap (λ k. length (effects_after o k)) calls2 in
      let e = change_effects o (calls l) (calls more) (calls behind) c effect i.opened (omega (arith, end, up, same2)) i.has in
      let all4 = effects_after o (calls l4) in
      let front4 : take old.upto all4 ≡ es ++ effect ∷ [] = ap (λ k. take k all4) end ∙ ap (λ k. take (length es + 1) (effects_after o k)) calls4 ∙ e.0 in
      let there4 : old.upto ≤ length all4 = let at = e.1 in let same = ap (λ k. length (effects_after o k)) calls4 in omega (arith, at, same, end) in
      let between4 : between o (calls l4) (stable l4) old.upto ≡ effect ∷ [] = ap (drop (stable l4)) front4 ∙ ap (λ k. drop k (es ++ effect ∷ [])) (stable4 ∙ durable)
      ∙ drop-append-le (length es) es (effect ∷ []) (omega arith) ∙ ap (λ k. k ++ effect ∷ []) (drop_all (length es) es (omega arith)) in
      let first4 : take (stable l4) all4 ≡ take (stable l) es = ap (λ k. take k all4) stable4 ∙ sym (take-take (stable l) old.upto all4 (omega (arith, end, durable)))
      ∙ ap (take (stable l)) front4 ∙ take-append-le (stable l) es (effect ∷ []) (omega (arith, durable)) in
      let text4 : text_to o (calls l4) (stable l4) ≡ text_to o (calls l) (stable l) = ap (λ k. o.effects ++ k) first4 in
      let next4 : text_to o (calls l) (stable l) ++ effect ∷ [] ≡ text_to o (calls l4) old.upto = append_assoc o.effects (take (stable l) es) (effect ∷ [])
      ∙ ap (λ k. o.effects ++ (k ++ effect ∷ [])) (take_all (stable l) es (omega (arith, durable))) ∙ ap (λ k. o.effects ++ k) (sym front4) in
      let again = i.again in
      subst (λ (r : Errand D G). IsDone o l4 t r written) (sym tried.same) (record {
        is_out = q4.same_out ∙ out3;
        end = refl;
        there = there4;
        again = refl;
        block = i.block ∙ ap effects_bytes (sym between4);
        broken = tried.broken;
        no_less = tried.no_less;
        rose = tried.rose;
        whole = λ is told.
            let p = i.whole told in
            let s : Starts old p.0 = ((λ no_more. p.2), (λ yes. absurd (cc (again, yes)))) in (
              p.0 ++ old.block ∷ [],
              subst (IsTextOf (p.0 ++ old.block ∷ [])) next4 (block_more p.0 (text_to o (calls l) (stable l)) (effect ∷ []) old.block p.1 i.block i.encodable),
              tried.kept is p.0 s,
              subst (λ text. SaidFrom o text (store_of new.journal)) next4
                  (tried_said o p.0 (text_to o (calls l) (stable l)) (effect ∷ []) old.journal new.journal old.block (least_text o (calls l) (stable l)) p.1 i.block i.encodable
                  (said_more o (text_to o (calls l) (stable l)) (effect ∷ []) (store_of old.journal) p.3) (tried.always p.0 s)),
            );
        behind = λ is told.
            let p = i.whole told in
            let s : Starts old p.0 = ((λ no_more. p.2), (λ yes. absurd (cc (again, yes)))) in (
              p.0,
              subst (IsTextOf p.0) (sym text4) p.1,
              tried.stopped is p.0 s,
              subst (λ text. SaidBehind o text old.block (store_of new.journal)) (sym text4) (λ es can_be block.
                  tried_said o p.0 (text_to o (calls l) (stable l)) es old.journal new.journal old.block (least_text o (calls l) (stable l)) p.1 block can_be
                  (said_more o (text_to o (calls l) (stable l)) es (store_of old.journal) p.3) (tried.always p.0 s)),
            );
      })
