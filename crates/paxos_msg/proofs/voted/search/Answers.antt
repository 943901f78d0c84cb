use Rattle.std.proofs.Common.{rules}
use Rattle.std.proofs.lemmas.List.Sorted.{answers_always}
use Rattle.paxos_msg.proofs.VotesByPlace.{searched}
use Rattle.paxos_msg.proofs.voted.search.Goals as goal

-- the closure gives a vote's place
pub returns : goal.returns
returns c =
    let by_place = c.binary_search_by_key.ensures.position (λ vote. vote.place) (answers_always _ _ _ (λ f a r g called. search rules)) in
    let at = searched _ _ c.requires _ c.binary_search_by_key.ensures.bound by_place in
    assumption
