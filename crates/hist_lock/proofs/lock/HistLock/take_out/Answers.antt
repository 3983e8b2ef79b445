use Rattle.std.proofs.Common.{◌≡◌, ℕ, ◌<◌, List, [], ◌∷◌, ◌++◌, Option, length, refl, sym, ap, subst, ◌∙◌, le_refl, Some, None}
use Rattle.hist_lock.specs.Rule.{boxed}
use Rattle.atomic_table.specs.Table.{Me, rest}
use Rattle.hist_lock.specs.Entries.{entries_of}
use Rattle.hist_lock.specs.Steps.{Served, seeing}
use Rattle.hist_lock.specs.declared.view.View.{View}
use Rattle.hist_lock.specs.declared.view.Stage.TheVariants.{Holding}
use Rattle.hist_lock.proofs.Turns.{looks}
use Rattle.hist_lock.proofs.lock.HistLock.take_out.Goals as goal

-- The look of a seat that was p and is q behind it, and r behind the exchange.
module _ {S O E : Type 0} (stands : O → S → List E → Type 0) (worker : E → ℕ) where
  served : (p p' q : Me (Option S) (View O E)) (seen ticket : ℕ) → ((seen ≡ p'.0.ticket → Served stands worker p' q) × ((seen ≡ p'.0.ticket → ⊥) → q ≡ p')) → seen ≡ ticket → p' ≡ p → p.0.ticket ≡ ticket → Served stands worker p q
  served p p' q seen ticket look turn is waits = subst (λ m. Served stands worker m q) is (look.0 (turn ∙ sym (ap (λ m. m.0.ticket) is ∙ waits)))

  took : (p q r : Me (Option S) (View O E)) → Served stands worker p q → r ≡ (q.0, (0, None) ∷ rest q.1)
      → (l : List E) × (r ≡ (seeing Holding (p.0.seen ++ l) p.0, (0, None) ∷ p.1)) × (entries_of worker p.0.worker l ≡ []) × (length (p.0.seen ++ l) < 4611686018427387904)
  took p q r s e = (s.0, e ∙ ap (λ m. (m.0, (0, None) ∷ rest m.1)) s.2, s.3, s.5)

  room : (p r : Me (Option S) (View O E)) (l : List E) → r ≡ (seeing Holding (p.0.seen ++ l) p.0, (0, None) ∷ p.1) → length (p.0.seen ++ l) < 4611686018427387904 → length r.0.seen < 4611686018427387904
  room p r l e few = subst (λ h. length h < 4611686018427387904) (sym (ap (λ m. m.0.seen) e)) few

pub loop-init : goal.loop-init
loop-init g c = (refl, refl, refl)

pub load-served-requires : goal.load-served-requires
load-served-requires g c = (
  c.loop.invariant.0 ∙ c.requires.lock ∙ sym c.self.view_is,
  subst (λ n. 2 < n) (sym c.self.invariant.0) (le_refl 3),
  looks _ _ _ _ _ (ap (λ m. m.0.stage) c.loop.invariant.2 ∙ c.requires.waits.1),
)

pub loop-preserved : goal.loop-preserved
loop-preserved g c =
    let still = c.load-served.ensures.2.1 (λ e. c.if-served-ticket.false (e ∙ ap (λ m. m.0.ticket) c.loop.invariant.2 ∙ c.requires.waits.2)) in
    (c.load-served.ensures.0 ∙ c.loop.invariant.0, c.load-served.ensures.1 ∙ c.loop.invariant.1, still ∙ c.loop.invariant.2)

pub exchange-requires : goal.exchange-requires
exchange-requires g c =
    let look = c.load-served.ensures.2.0 (c.if-served-ticket.true ∙ sym (ap (λ m. m.0.ticket) c.loop.invariant.2 ∙ c.requires.waits.2)) in
    let has = ap (λ m. m.1) look.2 in
    (c.load-served.ensures.0 ∙ c.loop.invariant.0 ∙ c.requires.lock ∙ sym c.self.view_is, (Some look.1, has ∙ (λ i. (0, Some look.1) ∷ sym (ap rest has) i)))

pub returns-then-served-ticket-clause-same : goal.returns-then-served-ticket-clause-same
returns-then-served-ticket-clause-same g c =
    let s = served (boxed g.S.Stands.stands) g.S.Stands.worker c.args.place.now.me c.loop.place.me c.load-served.new.seat.me c.load-served.result c.args.ticket c.load-served.ensures.2 c.if-served-ticket.true c.loop.invariant.2 c.requires.waits.2 in
    let t = (took (boxed g.S.Stands.stands) g.S.Stands.worker c.args.place.now.me c.load-served.new.seat.me c.exchange.new.seat.me s c.exchange.ensures.3).1 in
    (c.exchange.ensures.0 ∙ c.load-served.ensures.0 ∙ c.loop.invariant.0, ap (λ m. m.0.origin) t, ap (λ m. m.0.worker) t, ap (λ m. m.0.made) t, ap (λ m. m.0.out) t, ap (λ m. m.0.ended) t)

pub returns-then-served-ticket-clause-turn : goal.returns-then-served-ticket-clause-turn
returns-then-served-ticket-clause-turn g c =
    let s = served (boxed g.S.Stands.stands) g.S.Stands.worker c.args.place.now.me c.loop.place.me c.load-served.new.seat.me c.load-served.result c.args.ticket c.load-served.ensures.2 c.if-served-ticket.true c.loop.invariant.2 c.requires.waits.2 in
    let t = (took (boxed g.S.Stands.stands) g.S.Stands.worker c.args.place.now.me c.load-served.new.seat.me c.exchange.new.seat.me s c.exchange.ensures.3).1 in
    (ap (λ m. m.1) t ∙ ap (λ l. (0, None) ∷ l) c.requires.waits.0, ap (λ m. m.0.stage) t)

pub returns-then-served-ticket-clause-grew : goal.returns-then-served-ticket-clause-grew
returns-then-served-ticket-clause-grew g c =
    let s = served (boxed g.S.Stands.stands) g.S.Stands.worker c.args.place.now.me c.loop.place.me c.load-served.new.seat.me c.load-served.result c.args.ticket c.load-served.ensures.2 c.if-served-ticket.true c.loop.invariant.2 c.requires.waits.2 in
    let t = took (boxed g.S.Stands.stands) g.S.Stands.worker c.args.place.now.me c.load-served.new.seat.me c.exchange.new.seat.me s c.exchange.ensures.3 in
    (t.0, ap (λ m. m.0.seen) t.1, t.2)

pub returns-then-served-ticket-clause-room : goal.returns-then-served-ticket-clause-room
returns-then-served-ticket-clause-room g c =
    let s = served (boxed g.S.Stands.stands) g.S.Stands.worker c.args.place.now.me c.loop.place.me c.load-served.new.seat.me c.load-served.result c.args.ticket c.load-served.ensures.2 c.if-served-ticket.true c.loop.invariant.2 c.requires.waits.2 in
    let t = took (boxed g.S.Stands.stands) g.S.Stands.worker c.args.place.now.me c.load-served.new.seat.me c.exchange.new.seat.me s c.exchange.ensures.3 in
    room (boxed g.S.Stands.stands) g.S.Stands.worker c.args.place.now.me c.exchange.new.seat.me t.0 t.1 t.3
