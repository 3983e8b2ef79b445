use Rattle.std.proofs.Common.{◌∙◌}
use Rattle.exchange_shared.specs.Seats.{lock_of}
use Rattle.door_worker.specs.Languages.{rtb}
use Rattle.worker_pool.proofs.Joining.{all_back}
use Rattle.worker_pool.proofs.jobs.serve_jobs.Goals as goal

pub gather-requires-clause-back : goal.gather-requires-clause-back
gather-requires-clause-back g c κs within =
    all_back g.G.Link.Link g.G.Door.held g.G.Door.faults (rtb c.args.public.now c.args.keys.now) (lock_of c.args.exchange.now) c.requires.hired.0 c.args.jobs.now c.work_all.new.jobs c.requires.hired.1 c.work_all.ensures

pub returns : goal.returns
returns g c = record {
  jobs = c.work_all.new.jobs;
  done = c.work_all.ensures;
  back = all_back g.G.Link.Link g.G.Door.held g.G.Door.faults (rtb c.args.public.now c.args.keys.now) (lock_of c.args.exchange.now) c.requires.hired.0 c.args.jobs.now c.work_all.new.jobs c.requires.hired.1 c.work_all.ensures;
  joined = c.gather.ensures.joined;
  failed_is = c.has_failed-failed.ensures;
  many = c.gather.ensures.many ∙ c.work_all.ensures.many;
  doors = c.gather.ensures.doors;
}
