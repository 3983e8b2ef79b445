use Rattle.std.proofs.Common.{◌≡◌, ℕ, ◌+◌, ◌<◌, ◌≤◌, List, [], ◌++◌, Option, Some, None, Result, Ok, Err, inr, take, length, arith, length-append, length-take, subst, sym, ap, refl, ◌∙◌, le_refl}
use Rattle.std.specs.Io.KnownBytes.{Consumes, Keeps}
use Rattle.std.proofs.KnownBytes.{Consumes-trans}
use Rattle.std.proofs.lemmas.List.{append-nil}
use Rattle.rtb_base.specs.Faults.{RisesOnlyWhere, RoseAtMost, Rose}
use Rattle.rtb_io.specs.declared.ReadFault.{ReadFault}
use Rattle.rtb_io.specs.declared.ReadFault.TheVariants.{Failed}
use Rattle.rtb_io.proofs.read_all.Goals as goal

none_yet : (left : Option (List ℕ)) → Consumes left left []
none_yet None = tt
none_yet (Some bytes) = refl

none_room : (limit : ℕ) (all : List ℕ) → all ≡ [] → length all ≤ limit + 4096
none_room limit all e = omega (arith, ap length e)

-- A read that found nothing, and one that failed.
none_more : (a b c : Option (List ℕ)) (all piece : List ℕ) (n : ℕ) → n ≡ 0 → Consumes a b all → Consumes b c (take n piece) → Consumes a c all
none_more a b c all piece n e came more =
    subst (λ l. Consumes a c l) (ap (λ k. all ++ take k piece) e ∙ append-nil all) (Consumes-trans a b c all (take n piece) came more)

kept : (a b c : Option (List ℕ)) (all : List ℕ) → Consumes a b all → Keeps b c → Consumes a c all
kept None b c all came same = tt
kept (Some xs) None c all came same = absurd came
kept (Some xs) (Some ys) None all came same = absurd same
kept (Some xs) (Some ys) (Some zs) all came same = came ∙ ap (λ l. all ++ l) (sym same)

-- What the count of faults did where it stands.
stands : (F : Type 0) (a b : ℕ) → b ≡ a → (F → ⊥) → RisesOnlyWhere F a b
stands F a b e none = subst (λ k. RisesOnlyWhere F a k) (sym e) (le_refl a, λ failed. absurd (none failed), λ no. refl)

stands_once : (a b : ℕ) → b ≡ a → RoseAtMost 1 a b
stands_once a b e = (omega (arith, e), omega (arith, e))

rose_once : (a b c : ℕ) → b ≡ a → (b ≤ c) × Rose b c × (c ≤ b + 1) → RoseAtMost 1 a c
rose_once a b c e h = subst (λ k. RoseAtMost 1 k c) e (h.0, h.2)

no_failure : {T : Type 0} (x : T) → ◌≡◌ {A = Result T ReadFault} (Ok x) (Err Failed) → ⊥
no_failure x e = cc

pub loop-piece-init : goal.loop-piece-init
loop-piece-init g c = record {
  came = subst (λ l. Consumes (g.S.Source.left c.args.source.now) (g.S.Source.left c.args.source.now) l) (sym c.new-all.ensures) (none_yet (g.S.Source.left c.args.source.now));
  most = none_room c.args.limit c.new-all.result c.new-all.ensures;
  counted = refl;
}

pub loop-piece-preserved : goal.loop-piece-preserved
loop-piece-preserved g c =
    let all = c.loop-piece.all in
    let piece = c.read.new.out in
    let n = c.in_ok-n.n in
    record {
      came = subst (λ l. Consumes (g.S.Source.left c.args.source.now) (g.S.Source.left c.read.new.self) l) (sym c.in_ok-extend.ensures.ok) (Consumes-trans _ _ _ _ _ c.loop-piece.invariant.came c.in_ok-n.ensures.bytes.0);
      most = omega (arith, c.len.ensures, c.loop-piece-test.true, c.in_ok-n.ensures.bound, length-append all (take n piece), length-take n piece, ap length c.in_ok-extend.ensures.ok);
      counted = c.in_ok-n.ensures.cause ∙ c.loop-piece.invariant.counted;
    }

pub returns-then-n-eq0-clause-bytes : goal.returns-then-n-eq0-clause-bytes
returns-then-n-eq0-clause-bytes g c = none_more _ _ _ _ c.read.new.out c.in_ok-n.n c.if-n-eq0.true c.loop-piece.invariant.came c.in_ok-n.ensures.bytes.0

pub returns-then-n-eq0-clause-most : goal.returns-then-n-eq0-clause-most
returns-then-n-eq0-clause-most g c = c.loop-piece.invariant.most

pub returns-then-n-eq0-clause-taken : goal.returns-then-n-eq0-clause-taken
returns-then-n-eq0-clause-taken g c =
    (c.loop-piece.all, none_more _ _ _ _ c.read.new.out c.in_ok-n.n c.if-n-eq0.true c.loop-piece.invariant.came c.in_ok-n.ensures.bytes.0, c.loop-piece.invariant.most)

pub returns-then-n-eq0-clause-cause : goal.returns-then-n-eq0-clause-cause
returns-then-n-eq0-clause-cause g c = stands _ _ _ (c.in_ok-n.ensures.cause ∙ c.loop-piece.invariant.counted) (no_failure c.loop-piece.all)

pub returns-then-n-eq0-clause-once : goal.returns-then-n-eq0-clause-once
returns-then-n-eq0-clause-once g c = stands_once _ _ (c.in_ok-n.ensures.cause ∙ c.loop-piece.invariant.counted)

pub returns-in_err-n-clause-taken : goal.returns-in_err-n-clause-taken
returns-in_err-n-clause-taken g c = (c.loop-piece.all, kept _ _ _ _ c.loop-piece.invariant.came c.in_err-n.ensures.bytes, c.loop-piece.invariant.most)

pub returns-in_err-n-clause-once : goal.returns-in_err-n-clause-once
returns-in_err-n-clause-once g c = rose_once _ _ _ c.loop-piece.invariant.counted c.in_err-n.ensures.cause

pub returns-in_err-extend-clause-taken : goal.returns-in_err-extend-clause-taken
returns-in_err-extend-clause-taken g c =
    let all = c.loop-piece.all in
    let piece = c.read.new.out in
    let n = c.in_ok-n.n in (
      all ++ take n piece,
      Consumes-trans _ _ _ _ _ c.loop-piece.invariant.came c.in_ok-n.ensures.bytes.0,
      omega (arith, c.len.ensures, c.loop-piece-test.true, c.in_ok-n.ensures.bound, length-append all (take n piece), length-take n piece),
    )

pub returns-in_err-extend-clause-once : goal.returns-in_err-extend-clause-once
returns-in_err-extend-clause-once g c = stands_once _ _ (c.in_ok-n.ensures.cause ∙ c.loop-piece.invariant.counted)

pub returns-clause-bytes : goal.returns-clause-bytes
returns-clause-bytes g c = c.loop-piece.invariant.came

pub returns-clause-end : goal.returns-clause-end
returns-clause-end g c = inr (subst (λ n. c.args.limit < n) c.len.ensures c.loop-piece-test.false)

pub returns-clause-most : goal.returns-clause-most
returns-clause-most g c = c.loop-piece.invariant.most

pub returns-clause-taken : goal.returns-clause-taken
returns-clause-taken g c = (c.loop-piece.all, c.loop-piece.invariant.came, c.loop-piece.invariant.most)

pub returns-clause-cause : goal.returns-clause-cause
returns-clause-cause g c = stands _ _ _ c.loop-piece.invariant.counted (no_failure c.loop-piece.all)

pub returns-clause-once : goal.returns-clause-once
returns-clause-once g c = stands_once _ _ c.loop-piece.invariant.counted
