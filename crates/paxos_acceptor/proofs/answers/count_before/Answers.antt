use Rattle.std.proofs.Common.{nat_lt, rules}
use Rattle.std.proofs.lemmas.List.Sorted.{IsPartitionPoint-from_clause, IsPartitionedBy-ltb}
use Rattle.paxos_acceptor.proofs.Reports.{dropped_at, places_rise}
use Rattle.paxos_acceptor.proofs.answers.count_before.Goals as goal

-- the closure tests whether a vote's place is below
pub returns-clause-rest : goal.returns-clause-rest
returns-clause-rest c =
    dropped_at _ _ _ c.partition_point.ensures.bound
    (IsPartitionPoint-from_clause (λ vote. nat_lt vote.place c.args.from) _ _ c.partition_point.ensures.partitioned
    (IsPartitionedBy-ltb (λ vote. vote.place) _ _ (places_rise _ c.requires)) (λ a r f k. search rules))
