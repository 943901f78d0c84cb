use Rattle.std.proofs.Common.{◌≡◌, ◌+◌, ◌++◌, length, drop}
use Rattle.std.specs.Prelude.{vec_len, vec_capacity}
use Rattle.paxos_msg.specs.Spelling.{votes_bytes}
use Rattle.paxos_msg.proofs.spelling.put_votes.Given as goal

abbrev pub invariant-loop-vote : goal.invariant-loop-vote
invariant-loop-vote l = record {
  items : l.out.items ++ votes_bytes (drop l.vote-index l.votes) ≡ l.initial.out.items ++ votes_bytes l.votes;
  len : vec_len l.out + length (votes_bytes (drop l.vote-index l.votes)) ≡ vec_len l.initial.out + length (votes_bytes l.votes);
  capacity : vec_capacity l.out ≡ vec_capacity l.initial.out;
}
