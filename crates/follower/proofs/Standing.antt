-- Where a follower stands in a file, before and after a block.
use Rattle.std.proofs.Common.{◌≡◌, ◌≢◌, inl, inr, ℕ, ◌+◌, ◌<◌, ◌≤◌, ◌^◌, List, [], ◌∷◌, ◌++◌, All, length, take, drop, get_or, refl, sym, ◌∙◌, ap, subst, arith, append_assoc, length-append, length-drop, take-append-drop, Some, None}
use Rattle.std.specs.Prelude.{Result, Ok, Err, option_and_then}
use Rattle.std.proofs.lemmas.List.{append-nil, length-take-le, take_at, drop_at}
use Rattle.std.proofs.lemmas.Option.{option_and_then_some}
use Rattle.auction_core.specs.declared.fault.ApplyFault.{ApplyFault}
use Rattle.auction_core.specs.declared.fault.ApplyFault.TheVariants as apply
use Rattle.byte_fields.specs.Encodings.{FitsEight, eight_bytes}
use Rattle.byte_fields.proofs.Numbers.{eight_code, length-eight}
use Rattle.effects.specs.Bytes.{IsDecoded, IsEncodable, effects_bytes}
use Rattle.effects.proofs.Sequences.{only_these}
use Rattle.follower.specs.Following.{GoesOn, IsBehind, IsPart, IsUpTo, SaysAll, StandsIn}
use Rattle.follower.specs.Passing.{IsCarried, TurnsIn, at_gate}
use Rattle.follower.specs.declared.follower.Follower.{Follower}
use Rattle.journal_file.specs.Blocks.{IsTornCreation, block_bytes, end_of, front_of, journal_names}
use Rattle.journal_file.specs.Damage.{HasBlock, IsBlockAt, IsCutShort, IsShut}
use Rattle.journal_file.specs.Openings.{HasHeader}
use Rattle.journal_file.specs.declared.faults.JournalFault.{JournalFault}
use Rattle.journal_file.specs.declared.faults.JournalFault.TheVariants as fault
use Rattle.journal_file.proofs.GateLemmas.{first_end, first_front}
use Rattle.journal_file.proofs.Writing.{end_push, front_long, front_push}
use Rattle.plain_exchange.specs.declared.changes.Effect.{Effect}
use Rattle.plain_exchange.specs.Effects.{all_applied, state_of}
use Rattle.plain_exchange.specs.State.{State, empty}
use Rattle.plain_exchange.proofs.Applying.{all_applied_both}
use Rattle.recovery.specs.Damage.{IsDamagedAt, IsUnfit}
use Rattle.recovery.specs.Texts.{HasText, IsTextOf}
use Rattle.recovery.proofs.Joining.{leads_more, no_text, text_more}

split_applied : (es fs : List Effect) (s u : State) → all_applied (es ++ fs) s ≡ Some u → (t : State) × (all_applied es s ≡ Some t) × (all_applied fs t ≡ Some u)
split_applied es fs s u e = option_and_then_some (all_applied fs) (all_applied es s) u (sym (all_applied_both es fs s) ∙ e) (λ t one rest. (t, one, rest))

-- a front and a middle that are a front together
take_both : (xs more left : List Effect) (n : ℕ) → n ≤ length xs → drop n xs ≡ more ++ left → take n xs ++ more ≡ take (n + length more) xs
take_both xs more left n le e =
    let whole : (take n xs ++ more) ++ left ≡ xs = append_assoc (take n xs) more left ∙ ap (λ l. take n xs ++ l) (sym e) ∙ take-append-drop n xs in
    let long : length (take n xs ++ more) ≡ n + length more = omega (arith, length-append (take n xs) more, length-take-le n xs le) in
    sym (take_at (take n xs ++ more) left (n + length more) long) ∙ ap (take (n + length more)) whole

both_le : (xs more left : List Effect) (n : ℕ) → n ≤ length xs → drop n xs ≡ more ++ left → n + length more ≤ length xs
both_le xs more left n le e = omega (arith, le, length-drop n xs, ap length e, length-append more left)

pub same_block : (p q x y : List ℕ) → length (block_bytes p ++ x) < 2 ^ 64 → block_bytes p ++ x ≡ block_bytes q ++ y → p ≡ q
unfolding block_bytes
same_block p q x y small e =
    let apart = append_assoc (eight_bytes (length p)) p x in
    let apart2 = append_assoc (eight_bytes (length q)) q y in
    let a : eight_bytes (length p) ++ (p ++ x) ≡ eight_bytes (length q) ++ (q ++ y) = sym apart ∙ e ∙ apart2 in
    let sizes : length (block_bytes p ++ x) ≡ 8 + (length p + length x) = omega (arith, ap length apart, length-append (eight_bytes (length p)) (p ++ x), length-append p x, length-eight (length p)) in
    let sizes2 : length (block_bytes q ++ y) ≡ 8 + (length q + length y) = omega (arith, ap length apart2, length-append (eight_bytes (length q)) (q ++ y), length-append q y, length-eight (length q)) in
    let fits : FitsEight (length p) = omega (arith, sizes, small) in
    let fits2 : FitsEight (length q) = omega (arith, sizes2, ap length e, small) in
    let same = eight_code.unique (length p) (length q) (p ++ x) (q ++ y) fits fits2 a in
    sym (take_at p x (length p) refl) ∙ ap (take (length p)) same.1 ∙ take_at q y (length p) (sym same.0)

pub same_effects : (b c : List Effect) → All IsEncodable b → All IsEncodable c → effects_bytes b ≡ effects_bytes c → b ≡ c
same_effects b c v w e = only_these c (Ok b) w (v, sym e)

front_part : (bytes payload : List ℕ) (done : ℕ) (part block : List Effect) → length bytes < 2 ^ 64 → IsPart done bytes part → HasBlock payload bytes → IsDecoded payload (Ok block) → (done ≤ length block) × (part ≡ take done block)
front_part bytes payload done part block small (inl (none, empty)) has d = (omega (arith, none), empty ∙ ap (λ n. take n block) (sym none))
front_part bytes payload done part block small (inr (other, next, rest, encodable, there, le, is)) has d =
    let e : block_bytes payload ++ has.gate ∷ has.rest ≡ block_bytes (effects_bytes other) ++ next ∷ rest = ap (drop 1) (sym has.there ∙ there) in
    let same = same_block payload (effects_bytes other) (has.gate ∷ has.rest) (next ∷ rest) (omega (arith, ap length has.there, small)) e in
    let one : other ≡ block = same_effects other block encodable d.0 (sym same ∙ d.1) in
    (subst (λ (l : List Effect). done ≤ length l) one le, is ∙ ap (take done) one)

no_gate : (payloads : List (List ℕ)) → end_of payloads ≡ 0 → ⊥
unfolding end_of
no_gate payloads e = omega (arith, e)

module _ (image : List ℕ) (gate done : ℕ) (effects : List Effect) (b : IsBehind image gate done effects) where
  at_gate_is : drop gate image ≡ b.next ∷ b.rest
  at_gate_is = ap (drop gate) b.file ∙ drop_at (front_of b.name b.payloads) (b.next ∷ b.rest) gate (front_long b.name b.payloads b.named.seven ∙ sym b.place)

  below : gate < length image
  below = omega (arith, ap length b.file, length-append (front_of b.name b.payloads) (b.next ∷ b.rest), front_long b.name b.payloads b.named.seven, b.place)

  before_block : (s : State) → state_of effects ≡ Some s → (t : State) × (state_of b.before ≡ Some t) × (all_applied b.part t ≡ Some s)
  before_block s leads = split_applied b.before b.part empty s (ap (λ (es : List Effect). state_of es) (sym b.effects_are) ∙ leads)

  all_said : IsShut (b.next ∷ b.rest) → HasText image effects
  all_said (inl none) = absurd (cc none)
  all_said (inr (g, more, closed, e)) = by_part b.part_is
    where
      shut : b.next ≢ 1
      shut is = closed (sym (ap (λ l. get_or l 0 0) e) ∙ is)

      by_part : IsPart done (b.next ∷ b.rest) b.part → HasText image effects
      by_part (inl (none, empty)) = record {
        payloads = b.payloads;
        stands = inl (record { name = b.name; named = b.named; gate = b.next; rest = b.rest; closed = shut; file = b.file });
        text = subst (λ (es : List Effect). IsTextOf b.payloads es) (sym (b.effects_are ∙ ap (λ (l : List Effect). b.before ++ l) empty ∙ append-nil b.before)) b.text;
      }
      by_part (inr (block, next, rest, encodable, there, le, is)) = absurd (shut (ap (λ l. get_or l 0 0) there))

  cut_damages : (s : State) → state_of effects ≡ Some s → IsCutShort (b.next ∷ b.rest) → IsDamagedAt image gate
  cut_damages s leads cut =
      let (t, before, behind) = before_block s leads in
      inr (record { name = b.name; named = b.named; payloads = b.payloads; effects = b.before; text = b.text; state = t; leads = before; rest = b.next ∷ b.rest; file = b.file; place = b.place; bad = inl cut })

  unfit_damages : (payload : List ℕ) (t : State) → state_of b.before ≡ Some t → HasBlock payload (b.next ∷ b.rest) → IsUnfit payload t → IsDamagedAt image gate
  unfit_damages payload t before has unfit =
      inr (record { name = b.name; named = b.named; payloads = b.payloads; effects = b.before; text = b.text; state = t; leads = before; rest = b.next ∷ b.rest; file = b.file; place = b.place; bad = inr (payload, has, unfit) })

  module _ (payload : List ℕ) (block more left : List Effect) (small : length image < 2 ^ 64) (has : HasBlock payload (b.next ∷ b.rest)) (d : IsDecoded payload (Ok block)) (e : drop done block ≡ more ++ left) where
    few : length (b.next ∷ b.rest) < 2 ^ 64
    few = omega (arith, small, ap length b.file, length-append (front_of b.name b.payloads) (b.next ∷ b.rest))

    front : (done ≤ length block) × (b.part ≡ take done block)
    front = front_part (b.next ∷ b.rest) payload done b.part block few b.part_is has d

    further : IsBehind image gate (done + length more) (effects ++ more)
    further = record {
      name = b.name;
      named = b.named;
      payloads = b.payloads;
      before = b.before;
      text = b.text;
      part = b.part ++ more;
      next = b.next;
      rest = b.rest;
      file = b.file;
      place = b.place;
      part_is = inr (
        block,
        has.gate,
        has.rest,
        d.0,
        has.there ∙ ap (λ (p : List ℕ). 1 ∷ (block_bytes p ++ has.gate ∷ has.rest)) d.1,
        both_le block more left done front.0 e,
        ap (λ (l : List Effect). l ++ more) front.1 ∙ take_both block more left done front.0 e,
      );
      effects_are = ap (λ (l : List Effect). l ++ more) b.effects_are ∙ append_assoc b.before b.part more;
    }

    behind : left ≡ [] → IsBehind image (gate + 9 + length payload) 0 (effects ++ more)
    behind none =
        let whole : b.part ++ more ≡ block = ap (λ (l : List Effect). l ++ more) front.1 ∙ ap (λ (l : List Effect). take done block ++ l) (sym (append-nil more) ∙ ap (λ (l : List Effect). more ++ l) (sym none) ∙ sym e) ∙ take-append-drop done block in
        record {
          name = b.name;
          named = b.named;
          payloads = b.payloads ++ payload ∷ [];
          before = b.before ++ block;
          text = text_more b.payloads payload b.before block b.text d;
          part = [];
          next = has.gate;
          rest = has.rest;
          file = b.file ∙ ap (λ l. front_of b.name b.payloads ++ l) has.there ∙ front_push b.name b.payloads payload (has.gate ∷ has.rest);
          place = ap (λ n. n + 9 + length payload) b.place ∙ end_push b.payloads payload;
          part_is = inl (refl, refl);
          effects_are = ap (λ (l : List Effect). l ++ more) b.effects_are ∙ append_assoc b.before b.part more ∙ ap (λ (l : List Effect). b.before ++ l) whole ∙ sym (append-nil (b.before ++ block));
        }

    stops_unfit : (s t u : State) → all_applied b.part t ≡ Some s → all_applied more s ≡ Some u → all_applied left u ≡ None → IsUnfit payload t
    stops_unfit s t u one two three es other =
        let same : es ≡ block = same_effects es block other.0 d.0 (sym other.1 ∙ d.1) in
        let whole : block ≡ (b.part ++ more) ++ left = sym (take-append-drop done block) ∙ ap (λ (l : List Effect). l ++ drop done block) (sym front.1) ∙ ap (λ (l : List Effect). b.part ++ l) e ∙ sym (append_assoc b.part more left) in
        ap (λ (l : List Effect). all_applied l t) (same ∙ whole)
        ∙ all_applied_both (b.part ++ more) left t
        ∙ ap (option_and_then (all_applied left)) (all_applied_both b.part more t ∙ ap (option_and_then (all_applied more)) one ∙ two)
        ∙ three

pub journal_begins : (image : List ℕ) (s : State) (n gate done : ℕ) → HasHeader journal_names image → 8 < length image → gate ≡ 0 → StandsIn image s n gate done → StandsIn image s n 8 done
journal_begins image s n gate done has long zero at = record { effects = at.effects; leads = at.leads; counted = at.counted; up_to = by_place at.up_to }
  where
    behind : (next : ℕ) (rest : List ℕ) → has.rest ≡ next ∷ rest → done ≡ 0 → at.effects ≡ [] → IsBehind image 8 done at.effects
    behind next rest split none empty = record {
      name = has.name;
      named = has.named;
      payloads = [];
      before = [];
      text = no_text;
      part = [];
      next = next;
      rest = rest;
      file = has.file ∙ ap (λ l. 1 ∷ has.name ++ l) split ∙ ap (λ l. l ++ next ∷ rest) (first_front has.name);
      place = first_end;
      part_is = inl (none, refl);
      effects_are = empty;
    }

    some : (rest : List ℕ) → has.rest ≡ rest → done ≡ 0 → at.effects ≡ [] → IsBehind image 8 done at.effects
    some [] split none empty = absurd (omega (arith, long, ap length has.file, length-append has.name has.rest, ap length split, has.named.seven))
    some (next ∷ rest) split none empty = behind next rest split none empty

    by_place : IsUpTo image gate done at.effects → IsUpTo image 8 done at.effects
    by_place (inl (z, none, empty)) = inr (some has.rest refl none empty)
    by_place (inr b) = absurd (no_gate b.payloads (sym b.place ∙ zero))

pub creation_says : (image : List ℕ) (s : State) (n gate done : ℕ) → IsTornCreation image → gate ≡ 0 → StandsIn image s n gate done → SaysAll image s n
creation_says image s n gate done torn zero at = record { effects = at.effects; has = by_place at.up_to; leads = at.leads; counted = at.counted }
  where
    by_place : IsUpTo image gate done at.effects → HasText image at.effects
    by_place (inl (z, none, empty)) = record { payloads = []; stands = inr (refl, torn); text = subst (λ (es : List Effect). IsTextOf [] es) (sym empty) no_text }
    by_place (inr b) = absurd (no_gate b.payloads (sym b.place ∙ zero))

module _ (image : List ℕ) (s : State) (n gate done : ℕ) (begun : 0 < gate) (at : StandsIn image s n gate done) where
  behind_gate : IsBehind image gate done at.effects
  behind_gate = by_place at.up_to
    where
      by_place : IsUpTo image gate done at.effects → IsBehind image gate done at.effects
      by_place (inl (z, none, empty)) = absurd (omega (arith, begun, z))
      by_place (inr b) = b

  pub inside : gate < length image
  inside = below image gate done at.effects behind_gate

  pub all_is_said : IsShut (drop gate image) → SaysAll image s n
  all_is_said shut =
      let b = behind_gate in
      record { effects = at.effects; has = all_said image gate done at.effects b (subst IsShut (at_gate_is image gate done at.effects b) shut); leads = at.leads; counted = at.counted }

  pub cut_is_damage : IsCutShort (drop gate image) → IsDamagedAt image gate
  cut_is_damage cut =
      let b = behind_gate in
      cut_damages image gate done at.effects b s at.leads (subst IsCutShort (at_gate_is image gate done at.effects b) cut)

  module _ (small : length image < 2 ^ 64) (payload : List ℕ) (has : HasBlock payload (drop gate image)) where
    b : IsBehind image gate done at.effects
    b = behind_gate

    block : HasBlock payload (b.next ∷ b.rest)
    block = subst (HasBlock payload) (at_gate_is image gate done at.effects b) has

    pub block_passed : (done' n' : ℕ) (t : State) → IsCarried payload done done' s t n n' (Ok tt) → StandsIn image t n' (gate + 9 + length payload) 0
    block_passed done' n' t (inr (unread, same, count, place)) = absurd unread
    block_passed done' n' t (inl c) =
        let a = c.applies in
        record {
          effects = at.effects ++ a.more;
          leads = leads_more at.effects a.more s t at.leads a.lead.applied;
          counted = a.lead.counted ∙ omega (arith, at.counted, length-append at.effects a.more);
          up_to = inr (behind image gate done at.effects b payload c.block a.more a.left small block c.decoded a.split a.stops);
        }

    pub block_stopped : (done' n' : ℕ) (t : State) (r : Result Unit ApplyFault) → IsCarried payload done done' s t n n' r → StandsIn image t n' gate done'
    block_stopped done' n' t r (inr (unread, same, count, place)) =
        subst (λ (u : State). StandsIn image u n' gate done') (sym same)
        (record { effects = at.effects; leads = at.leads; counted = count ∙ at.counted; up_to = subst (λ k. IsUpTo image gate k at.effects) (sym place) at.up_to })
    block_stopped done' n' t r (inl c) =
        let a = c.applies in
        record {
          effects = at.effects ++ a.more;
          leads = leads_more at.effects a.more s t at.leads a.lead.applied;
          counted = a.lead.counted ∙ omega (arith, at.counted, length-append at.effects a.more);
          up_to = subst (λ k. IsUpTo image gate k (at.effects ++ a.more)) (sym c.place) (inr (further image gate done at.effects b payload c.block a.more a.left small block c.decoded a.split));
        }

    pub block_damaged : (done' n' : ℕ) (t : State) → IsCarried payload done done' s t n n' (Err apply.Unfit) → IsDamagedAt image gate
    block_damaged done' n' t (inr (unread, same, count, place)) =
        let (u, before, front) = before_block image gate done at.effects b s at.leads in
        unfit_damages image gate done at.effects b payload u before block (λ es d. absurd (unread es d))
    block_damaged done' n' t (inl c) =
        let a = c.applies in
        let (u, before, front) = before_block image gate done at.effects b s at.leads in
        unfit_damages image gate done at.effects b payload u before block (stops_unfit image gate done at.effects b payload c.block a.more a.left small block c.decoded a.split s u t front a.lead.applied a.stops)

pub found_block : (gate next : ℕ) (bytes before out : List ℕ) → before ≡ [] → IsBlockAt gate bytes before out (Ok (Some next)) → HasBlock out bytes × (next ≡ gate + 9 + length out)
found_block gate next bytes before out empty (payload, has, place, is) =
    let same : out ≡ payload = is ∙ ap (λ l. l ++ payload) empty in
    (subst (λ p. HasBlock p bytes) (sym same) has, place ∙ ap (λ p. gate + 9 + length p) (sym same))

pub found_shut : (gate : ℕ) (bytes before out : List ℕ) → IsBlockAt gate bytes before out (Ok None) → IsShut bytes
found_shut gate bytes before out found = found.0

module _ (image : List ℕ) (s : State) (n gate done : ℕ) (begun : 0 < gate) (w : StandsIn image s n gate done) where
  pub not_found : (e : JournalFault) (before out : List ℕ) → IsBlockAt gate (drop gate image) before out (Err e) → TurnsIn image s n gate done (Err e)
  not_found (fault.Damaged at) before out (cut, place, same) = (w, subst (λ g. IsDamagedAt image g) (sym place) (cut_is_damage image s n gate done begun w cut))
  not_found fault.DiskFailed before out found = w
  not_found fault.Memory before out found = w

  module _ (small : length image < 2 ^ 64) (payload : List ℕ) (has : HasBlock payload (drop gate image)) (t : State) (m done' : ℕ) where
    pub not_passed : (gate' : ℕ) (e : JournalFault) (r : Result Unit ApplyFault) → IsCarried payload done done' s t n m r → Err e ≡ at_gate gate r → gate' ≡ gate → TurnsIn image t m gate' done' (Err e)
    not_passed gate' e (Ok u) c is same = absurd (cc is)
    not_passed gate' e (Err apply.Unfit) c is same =
        let one = block_stopped image s n gate done begun w small payload has done' m t (Err apply.Unfit) c in
        let two = block_damaged image s n gate done begun w small payload has done' m t c in
        let which : e ≡ fault.Damaged gate = cc is in
        subst (λ x. TurnsIn image t m gate' done' (Err x)) (sym which) (subst (λ g. StandsIn image t m g done') (sym same) one, two)
    not_passed gate' e (Err apply.Memory) c is same =
        let one = block_stopped image s n gate done begun w small payload has done' m t (Err apply.Memory) c in
        let which : e ≡ fault.Memory = cc is in
        subst (λ x. TurnsIn image t m gate' done' (Err x)) (sym which) (subst (λ g. StandsIn image t m g done') (sym same) one)

    pub passed : (u : Unit) (next : ℕ) (r : Result Unit ApplyFault) → next ≡ gate + 9 + length payload → IsCarried payload done done' s t n m r → Ok u ≡ at_gate gate r → StandsIn image t m next 0
    passed u next (Ok v) place c is = subst (λ g. StandsIn image t m g 0) (sym place) (block_passed image s n gate done begun w small payload has done' m t c)
    passed u next (Err apply.Unfit) place c is = absurd (cc is)
    passed u next (Err apply.Memory) place c is = absurd (cc is)

pub goes_none : {D : Type 0} (f : Follower D) → GoesOn f f
goes_none f = ([], record { applied = refl; counted = omega arith })

-- one after the other
pub goes_then : {D : Type 0} (f g h : Follower D) → GoesOn f g → GoesOn g h → GoesOn f h
goes_then f g h (more, a) (behind, b) = (
  more ++ behind,
  record {
    applied = all_applied_both more behind f.core.state ∙ ap (option_and_then (all_applied behind)) a.applied ∙ b.applied;
    counted = b.counted ∙ omega (arith, a.counted, length-append more behind);
  },
)
