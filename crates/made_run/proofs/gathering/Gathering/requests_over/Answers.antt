use Rattle.std.proofs.Common.{◌++◌, ◌∷◌, [], ℕ, refl, subst, sym}
use Rattle.std.specs.Prelude.{codes}
use Rattle.http_wire.specs.declared.message.Message.{Message}
use Rattle.made_run.proofs.Taken.{none_requested, request_drawn, request_taken}
use Rattle.made_run.specs.Runs.{requests_from}
use Rattle.made_run.specs.Standing.{IsPostTo, IsSoFar}
use Rattle.made_run.proofs.gathering.Gathering.requests_over.Goals as goal

pub loop-done-init : goal.loop-done-init
loop-done-init g c = record {
  ready = c.requires.ready;
  fits = c.requires.index;
  post = c.requires.post;
  so_far = λ posts far. none_requested c.args.drawn.now c.args.self.now posts far;
  drawn = refl;
}

pub loop-done-preserved : goal.loop-done-preserved
loop-done-preserved g c =
    let before = c.loop-done.invariant in
    let x = c.args.drawn.now in
    let k = c.loop-done.done in
    let message = c.next_request.new.message in
    let drawn = c.in_ok-next_request.ensures in
    let taken = c.in_ok-take.ensures in
    record {
      ready = taken.ready;
      fits = taken.fits;
      post = subst (λ (m : Message). IsPostTo (codes "/openrtb2/auction") m) (sym taken.message) drawn.post;
      so_far = λ posts far.
          let one = taken.one _ (before.so_far posts far) in
          let at = subst (λ (m : ℕ). IsSoFar ((posts ++ requests_from x 1 k) ++ (m, message) ∷ []) c.take.new.self) c.from-entry.ensures one in
          request_taken x k c.loop-done.drawn message c.take.new.self posts before.drawn drawn.message at;
      drawn = request_drawn x k c.loop-done.drawn c.next_request.new.drawn before.drawn drawn.behind;
    }
