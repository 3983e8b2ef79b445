-- What is written of the blocks that were passed.
use Rattle.std.proofs.Common.{◌≡◌, inl, inr, ℕ, List, [], ◌++◌, refl, sym, ◌∙◌, ap, subst, append_assoc, Option, Some, None}
use Rattle.std.specs.Prelude.{Ok, option_and_then}
use Rattle.std.proofs.lemmas.List.{append-nil}
use Rattle.compaction.specs.Beside.{Moves, Says}
use Rattle.compaction.specs.Trimming.{CanBeGone}
use Rattle.compaction.proofs.Fronts.{same_text}
use Rattle.compaction.proofs.Trimmed.{goes_on, kept_are_left, kept_goes_on}
use Rattle.compaction.proofs.Walking.{text_then}
use Rattle.effects.specs.Bytes.{IsDecoded}
use Rattle.plain_exchange.specs.Consistent.{IsConsistent}
use Rattle.plain_exchange.specs.declared.changes.Effect.{Effect}
use Rattle.plain_exchange.specs.Effects.{all_applied, kept_effects, state_of}
use Rattle.plain_exchange.specs.State.{State, empty, forget, forget_first}
use Rattle.plain_exchange.proofs.Applying.{all_applied_both}
use Rattle.plain_exchange.proofs.Compacting.{forgotten_kept}
use Rattle.plain_exchange.proofs.Each.{some_same}
use Rattle.plain_exchange.proofs.Keeping.{made_consistent}
use Rattle.recovery.specs.Damage.{IsBadBlock, IsUnfit}
use Rattle.recovery.specs.Texts.{IsTextOf}
use Rattle.recovery.proofs.Joining.{leads_more, no_text}

module _ (keep : ℕ) (read since kept : List (List ℕ)) (first state : State) (gained : List Effect) (said : Says read first) (kept_are : IsTextOf kept (kept_effects (forget keep first))) (gained_are : IsTextOf since gained) (leads : all_applied gained (forget keep first) ≡ Some state) where
  written_says : Says (kept ++ since) state
  written_says = record {
    effects = kept_effects (forget keep first) ++ gained;
    text = text_then kept since (kept_effects (forget keep first)) gained kept_are gained_are;
    leads = leads_more (kept_effects (forget keep first)) gained (forget keep first) state (forgotten_kept said.effects first keep said.leads) leads;
  }

  same_without : (whole : State) → Says (read ++ since) whole → (n : ℕ) × CanBeGone n whole × (state ≡ forget_first n whole)
  unfolding written_says
  same_without whole says =
      let es : says.effects ≡ said.effects ++ gained = same_text (read ++ since) says.effects (said.effects ++ gained) says.text (text_then read since said.effects gained said.text gained_are) in
      let all : state_of (said.effects ++ gained) ≡ Some whole = ap (λ (l : List Effect). state_of l) (sym es) ∙ says.leads in
      let rest : all_applied gained first ≡ Some whole = sym (all_applied_both said.effects gained empty ∙ ap (option_and_then (all_applied gained)) said.leads) ∙ all in
      let law = kept_goes_on keep said.effects gained first whole said.leads rest in
      (law.0, law.1, some_same state (forget_first law.0 whole) (sym written_says.leads ∙ law.2))

  pub makes_moves : (passed written : List (List ℕ)) → passed ≡ read ++ since → written ≡ kept ++ since → Moves keep passed written state
  makes_moves passed written passed_are written_are = record {
    read = read;
    since = since;
    passed_are = passed_are;
    first = first;
    first_said = said;
    left = kept_are_left keep first;
    kept = kept;
    kept_are = kept_are;
    written_are = written_are;
    gained = gained;
    gained_are = gained_are;
    leads = leads;
    says = subst (λ l. Says l state) (sym written_are) written_says;
    same = λ whole says. same_without whole (subst (λ l. Says l whole) passed_are says);
  }

-- at the reading
pub first_moves : (keep : ℕ) (read kept : List (List ℕ)) (first : State) → Says read first → IsTextOf kept (kept_effects (forget keep first)) → Moves keep read kept (forget keep first)
first_moves keep read kept first said kept_are =
    makes_moves keep read [] kept first (forget keep first) [] said kept_are no_text refl read kept (sym (append-nil read)) (sym (append-nil kept))

-- and behind it
pub moves_on : (keep : ℕ) (passed written more : List (List ℕ)) (state after : State) (effects : List Effect) → Moves keep passed written state → IsTextOf more effects → all_applied effects state ≡ Some after → Moves keep (passed ++ more) (written ++ more) after
moves_on keep passed written more state after effects m text applied =
    makes_moves keep m.read (m.since ++ more) m.kept m.first after (m.gained ++ effects) m.first_said m.kept_are (text_then m.since more m.gained effects m.gained_are text)
    (all_applied_both m.gained effects (forget keep m.first) ∙ ap (option_and_then (all_applied effects)) m.leads ∙ applied)
    (passed ++ more) (written ++ more)
    (ap (λ l. l ++ more) m.passed_are ∙ append_assoc m.read m.since more) (ap (λ l. l ++ more) m.written_are ∙ append_assoc m.kept m.since more)

-- ---- what is bad

-- effects that do not fit an exchange without its oldest sales do not fit the whole one
unfit_whole : (payload : List ℕ) (whole state : State) (n : ℕ) → IsConsistent whole → CanBeGone n whole → state ≡ forget_first n whole → IsUnfit payload state → IsUnfit payload whole
unfit_whole payload whole state n consistent can is unfit = λ effects decoded. by_end effects decoded (all_applied effects whole) refl
  where
    by_end : (effects : List Effect) → IsDecoded payload (Ok effects) → (o : Option State) → all_applied effects whole ≡ o → all_applied effects whole ≡ None
    by_end effects decoded None e = e
    by_end effects decoded (Some after) e =
        let law = goes_on effects whole after n consistent can e in
        let none : all_applied effects (forget_first n whole) ≡ None = subst (λ (s : State). all_applied effects s ≡ None) is (unfit effects decoded) in
        absurd (cc (law.leads, none))

bad_whole : (bytes : List ℕ) (whole state : State) (n : ℕ) → IsConsistent whole → CanBeGone n whole → state ≡ forget_first n whole → IsBadBlock bytes state → IsBadBlock bytes whole
bad_whole bytes whole state n consistent can is (inl cut) = inl cut
bad_whole bytes whole state n consistent can is (inr (payload, has, unfit)) = inr (payload, has, unfit_whole payload whole state n consistent can is unfit)

-- what is bad in the state that these effects lead to is so in that of the journal
abbrev pub BadToo : List (List ℕ) → State → Type 0
BadToo before s = (more : List (List ℕ)) (state : State) (effects : List Effect) → IsTextOf more effects → all_applied effects s ≡ Some state → (whole : State) → Says (before ++ more) whole → (bytes : List ℕ) → IsBadBlock bytes state → IsBadBlock bytes whole

pub bad_at_first : (s : State) → s ≡ empty → BadToo [] s
bad_at_first s none more state effects text applied whole says bytes bad =
    let es : says.effects ≡ effects = same_text more says.effects effects says.text text in
    let leads : all_applied effects empty ≡ Some state = subst (λ (x : State). all_applied effects x ≡ Some state) none applied in
    let same : state ≡ whole = some_same state whole (sym leads ∙ ap (λ (l : List Effect). state_of l) (sym es) ∙ says.leads) in
    subst (IsBadBlock bytes) same bad

pub bad_behind_it : (keep : ℕ) (passed written : List (List ℕ)) (s : State) → Moves keep passed written s → BadToo passed s
bad_behind_it keep passed written s m more state effects text applied whole says bytes bad =
    let g = (moves_on keep passed written more s state effects m text applied).same whole says in
    bad_whole bytes whole state g.0 (made_consistent says.effects whole says.leads) g.1 g.2 bad
