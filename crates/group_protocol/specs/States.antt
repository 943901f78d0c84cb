-- What contracts see of a node's part in the protocol, and which nodes there are.
use Rattle.std.specs.Prelude.{◌≡◌, ℕ, ◌%◌, ◌≤◌, Bool, false, List, Option, option_map}
use Rattle.paxos_msg.specs.Fits.{IsNode}
use Rattle.paxos_acceptor.specs.declared.me.Me.{Me}
use Rattle.paxos_acceptor.specs.Stores.{IsStoreOf, MayLoadOnly, StoreKind}
use Rattle.paxos_msg.specs.declared.ballot.Ballot.{Ballot}
use Rattle.paxos_acceptor.specs.Follows.{AcceptorState}
use Rattle.paxos_proposer.specs.States.{ProposerState}
use Rattle.paxos_learner.specs.Entered.{Keys}
use Rattle.paxos_learner.specs.Learner.{Learner}
use Rattle.group_protocol.specs.Known.{Known}
use Rattle.group_protocol.specs.Ranges.{IsInRange}
use Rattle.paxos_msg.specs.declared.limits.TheConstants.{MOST_NODES}

-- The characters that wait. The first is the key with the serial `first`.
pub record Waiting : Type 0 where
  pub first : ℕ
  pub bytes : List ℕ

-- A node's part in the protocol: what it knows, whether a save has failed, and the store.
pub record Protocol (S : Type 0) : Type 0 where
  pub known : Known
  pub is_stopped : Bool
  pub store : S

-- The state of a node in the protocol, by its parts.
abbrev pub protocol_of : {S : Type 0} → Me → AcceptorState S → Learner → Option ProposerState
    → Option Ballot → Keys → Waiting → Protocol S
protocol_of me acceptor learner proposer remembered offered waiting = record {
  known = record {
    me = me;
    kept = acceptor.kept;
    learner = learner;
    proposer = option_map (λ q. q.known) proposer;
    remembered = remembered;
    offered = offered.keys;
    waiting = waiting.bytes;
    first = waiting.first;
  };
  is_stopped = acceptor.is_closed;
  store = acceptor.store;
}

-- The sizes of a group: 1, 3, 5, 7 and 9 nodes.
-- Forbids: 2 nodes.
pub record IsSize (size : ℕ) : Type 0 where
  pub odd : size % 2 ≡ 1
  pub few : size ≤ MOST_NODES

-- The nodes of a group of such a size.
-- Forbids: node 0.
pub record IsConfig (me : Me) : Type 0 where
  pub size : IsSize me.group.size
  pub node : IsNode me.group.size me.node

-- The invariant of a node's part in the protocol.
-- Its size is one of a group's, all that it knows is in its ranges, and its store is its own.
-- Unless a save has failed, an honest store has its record, and a restart may load that alone.
pub record IsInStep {S : Type 0} (kind : StoreKind S) (p : Protocol S) : Type 0 where
  pub size : IsSize p.known.me.group.size
  pub ranges : IsInRange p.known
  pub owned : IsStoreOf kind p.known.me p.store
  pub in_step : kind.honest → p.is_stopped ≡ false → (kind.state p.store).stored ≡ p.known.kept
  pub loads : kind.honest → p.is_stopped ≡ false → MayLoadOnly kind p.store p.known.kept
