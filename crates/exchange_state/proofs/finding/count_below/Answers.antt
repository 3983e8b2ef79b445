use Rattle.std.proofs.Common.{nat_lt, rules}
use Rattle.std.proofs.lemmas.List.Sorted.{IsPartitionPoint-from_clause, IsPartitionedBy-ltb}
use Rattle.campaign_store.specs.declared.listed.LiveRecord.{LiveRecord}
use Rattle.exchange_state.proofs.Walks.{numbers_rise}
use Rattle.exchange_state.proofs.finding.count_below.Goals as goal

pub returns-clause-place : goal.returns-clause-place
returns-clause-place c = λ rise.
    IsPartitionPoint-from_clause (λ (x : LiveRecord). nat_lt x.number c.args.n) c.args.live.now c.partition_point.result c.partition_point.ensures.partitioned
    (IsPartitionedBy-ltb (λ (x : LiveRecord). x.number) c.args.live.now c.args.n (numbers_rise c.args.live.now rise)) (λ a r q k. search rules)
