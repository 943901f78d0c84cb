-- The role of a node in its group, and what changes from one role to the next.
use Rattle.std.specs.Prelude.{Bool, true, false, ◌||◌, if◌then◌else◌, Option, Some, None}
use Rattle.paxos_msg.specs.declared.ballot.Ballot.{Ballot}
use Rattle.paxos_msg.specs.Tests.{same_ballot}
use Rattle.group_log.specs.declared.role.Role.{Role}
use Rattle.group_log.specs.declared.role.Role.TheVariants.{Follower, Candidate, Leader}

-- The ballot of a node in this role.
abbrev pub role_ballot : Role → Option Ballot
role_ballot Follower = None
role_ballot (Candidate b) = Some b
role_ballot (Leader b) = Some b

-- True if a node in this role leads under the ballot `b`.
abbrev pub leads : Role → Ballot → Bool
leads Follower b = false
leads (Candidate own) b = false
leads (Leader own) b = same_ballot own b

-- The role after this one of a node with this ballot. A leader is one until its ballot is lost.
-- Forbids: a leader without a ballot.
abbrev pub role_after : Role → Option Ballot → Bool → Role
role_after before None is_leading = Follower
role_after before (Some b) is_leading =
    if is_leading || leads before b then Leader b else Candidate b

-- True if two nodes' ballots, if any, are the same.
abbrev pub are_same : Option Ballot → Option Ballot → Bool
are_same None None = true
are_same None (Some c) = false
are_same (Some b) None = false
are_same (Some b) (Some c) = same_ballot b c

-- The ballot of the earlier role that the later one has no more.
abbrev pub lost_ballot : Role → Role → Option Ballot
lost_ballot before after =
    if are_same (role_ballot before) (role_ballot after) then None else role_ballot before

-- The ballot of the later role that the earlier one did not have.
abbrev pub new_ballot : Role → Role → Option Ballot
new_ballot before after = lost_ballot after before
