use Rattle.std.proofs.Common.{◌≡◌, ℕ, ◌+◌, ◌-◌, ◌≤◌, List, ◌++◌, length, take, drop, Result, Ok, Err, ap, subst, sym, ◌∙◌, arith, le_trans}
use Rattle.std.specs.Prelude.{IfOk, OnErr}
use Rattle.std.specs.Result.{IsErr}
use Rattle.std.proofs.lemmas.Bool.{false≢true}
use Rattle.std.proofs.lemmas.List.{drop-append-le, length-take-le, take_at}
use Rattle.rtb_base.specs.Faults.{CountsErrors, Rose}
use Rattle.session.specs.contracts.input.Input.{the_view}
use Rattle.session.proofs.input.Input.fill.Goals.{then-is_far, else-is_far}
use Rattle.session.proofs.input.Input.fill.Goals as goal

-- A room of the same length in its place.
kept_room : (len start end : ℕ) (new rest : List ℕ) → length new ≡ len → drop start (take end (take len (new ++ rest))) ≡ drop start (take end new)
kept_room len start end new rest e = ap (λ l. drop start (take end l)) (take_at new rest len e)

filled : (len start end n : ℕ) (old new rest held more : List ℕ) → length new ≡ len → start ≤ end → end ≤ length old → take (end + n) new ≡ take end old ++ more → drop start (take end old) ≡ held
    → drop start (take (end + n) (take len (new ++ rest))) ≡ held ++ more
filled len start end n old new rest held more e ordered within came is =
    let inside : start ≤ length (take end old) = omega (arith, length-take-le end old within) in
    kept_room len start (end + n) new rest e ∙ ap (drop start) came ∙ drop-append-le start (take end old) more inside ∙ ap (λ l. l ++ more) is

unfilled : (len start end : ℕ) (old new rest held : List ℕ) → length new ≡ len → take end new ≡ take end old → drop start (take end old) ≡ held → drop start (take end (take len (new ++ rest))) ≡ held
unfilled len start end old new rest held e same is = kept_room len start end new rest e ∙ ap (drop start) same ∙ is

fronted : (len start end : ℕ) (new rest slice items held : List ℕ) → length new ≡ len → take (end - start) new ≡ drop start (take end slice) → slice ≡ items → drop start (take end items) ≡ held
    → drop 0 (take (end - start) (take len (new ++ rest))) ≡ held
fronted len start end new rest slice items held e moved is shown = kept_room len 0 (end - start) new rest e ∙ moved ∙ ap (λ l. drop start (take end l)) is ∙ shown

no_ok : {T E : Type 0} (r : Result T E) (P : T → Type 0) → IsErr r → IfOk r P
no_ok (Ok x) P e = absurd (false≢true e)
no_ok (Err x) P e = tt

on_err : {T E : Type 0} (r : Result T E) (A : Type 0) → A → OnErr r A
on_err (Ok x) A a = tt
on_err (Err x) A a = a

counts_err : {T E : Type 0} (r : Result T E) (a b : ℕ) → IsErr r → (a ≤ b) × Rose a b × (b ≤ a + 1) → CountsErrors a b r
counts_err (Ok x) a b e h = absurd (false≢true e)
counts_err (Err x) a b e h = h

-- What is shown of a room in its place is shown of the room.
shown_as : {A B : Type 0} (f : A → B) (x y : A) (z : B) → x ≡ y → f y ≡ z → f x ≡ z
shown_as f x y z is shown = ap f is ∙ shown

pub is_far-requires : goal.is_far-requires
is_far-requires g c = record { within = le_trans c.self.invariant.0 c.self.invariant.1; fits = c.requires.fits }

pub to_front-requires : goal.to_front-requires
to_front-requires g c = record {
  ordered = c.self.invariant.0;
  within = subst (λ l. c.self.inside.end ≤ length l) (sym c.as_mut_slice.ensures.value) (subst (λ n. c.self.inside.end ≤ n) (sym c.self.invariant.2) c.self.invariant.1);
}

pub overflow_sub-self : goal.overflow_sub-self
overflow_sub-self g c = c.self.invariant.0

pub returns-clause-ok : goal.returns-clause-ok
returns-clause-ok g c =
    let came = c.in_ok-n.ensures.ok in
    let from = c.self.inside in
    let to = c.if-is_far.self-inside in
    let size : length c.read_behind.new.room ≡ to.room.len = omega (arith, c.read_behind.auto.room, c.as_mut_slice-2.ensures.len) in
    let end_within : to.end ≤ length c.as_mut_slice-2.result.now = omega (arith, c.read_behind.auto.room, came.2) in
    let ordered : c.if-is_far.self-inside.start ≤ c.if-is_far.self-inside.end = elim c.if-is_far.branch [
      | then-is_far w ↦ rw w.self-inside-is (omega arith)
      | else-is_far w ↦ rw w.self-inside-is c.self.invariant.0
    ] in
    let shown : drop to.start (take to.end to.room.items) ≡ c.args.self.now = elim c.if-is_far.branch [
      | then-is_far w ↦
          let len : length w.to_front.new.room ≡ from.room.len = omega (arith, w.to_front.auto.room, w.as_mut_slice.ensures.len) in
          shown_as the_view to _ _ w.self-inside-is (fronted from.room.len from.start from.end w.to_front.new.room (drop (length w.to_front.new.room) from.room.items) w.as_mut_slice.result.now from.room.items c.args.self.now
          len w.to_front.ensures w.as_mut_slice.ensures.value c.self.view_is)
      | else-is_far w ↦ shown_as the_view to _ _ w.self-inside-is c.self.view_is
    ] in
    let more = drop (length c.read_behind.new.room) to.room.items in
    let held = ap (λ l. drop to.start (take to.end l)) c.as_mut_slice-2.ensures.value ∙ shown in
    (came.0, came.1, filled to.room.len to.start to.end c.in_ok-n.n c.as_mut_slice-2.result.now c.read_behind.new.room more c.args.self.now came.0 size ordered end_within came.3 held, came.4, came.5)

pub returns-in_err-n-clause-err : goal.returns-in_err-n-clause-err
returns-in_err-n-clause-err g c =
    let from = c.self.inside in
    let to = c.if-is_far.self-inside in
    let size : length c.read_behind.new.room ≡ to.room.len = omega (arith, c.read_behind.auto.room, c.as_mut_slice-2.ensures.len) in
    let shown : drop to.start (take to.end to.room.items) ≡ c.args.self.now = elim c.if-is_far.branch [
      | then-is_far w ↦
          let len : length w.to_front.new.room ≡ from.room.len = omega (arith, w.to_front.auto.room, w.as_mut_slice.ensures.len) in
          shown_as the_view to _ _ w.self-inside-is (fronted from.room.len from.start from.end w.to_front.new.room (drop (length w.to_front.new.room) from.room.items) w.as_mut_slice.result.now from.room.items c.args.self.now
          len w.to_front.ensures w.as_mut_slice.ensures.value c.self.view_is)
      | else-is_far w ↦ shown_as the_view to _ _ w.self-inside-is c.self.view_is
    ] in
    let more = drop (length c.read_behind.new.room) to.room.items in
    let held = ap (λ l. drop to.start (take to.end l)) c.as_mut_slice-2.ensures.value ∙ shown in
    on_err c.from_residual.result _ (unfilled to.room.len to.start to.end c.as_mut_slice-2.result.now c.read_behind.new.room more c.args.self.now size c.in_err-n.ensures.err.0 held, c.in_err-n.ensures.err.1)

pub returns-in_err-n-clause-ok : goal.returns-in_err-n-clause-ok
returns-in_err-n-clause-ok g c = no_ok c.from_residual.result _ c.from_residual.ensures.0

pub returns-clause-err : goal.returns-clause-err
returns-clause-err g c = tt

pub returns-clause-sent : goal.returns-clause-sent
returns-clause-sent g c = c.read_behind.ensures.sent

pub returns-clause-cause : goal.returns-clause-cause
returns-clause-cause g c = c.in_ok-n.ensures.cause

pub returns-in_err-n-clause-sent : goal.returns-in_err-n-clause-sent
returns-in_err-n-clause-sent g c = c.read_behind.ensures.sent

pub returns-in_err-n-clause-cause : goal.returns-in_err-n-clause-cause
returns-in_err-n-clause-cause g c = counts_err c.from_residual.result _ _ c.from_residual.ensures.0 c.in_err-n.ensures.cause
