-- The first key that waits at a node is one that the node has not read. Each deed keeps it so.
use Rattle.std.proofs.Common.{◌≡◌, ℕ, Contains, List, [], ◌∷◌, ◌++◌, Option, Some, None, Bool, refl, ap}
use Rattle.paxos_msg.specs.Batches.{Record}
use Rattle.paxos_msg.specs.Keys.{Key, keys_of}
use Rattle.paxos_acceptor.specs.declared.me.Me.{Me}
use Rattle.paxos_learner.specs.Input.{front_values, keys_in_order}
use Rattle.paxos_proposer.specs.Proposer.{Proposer}
use Rattle.group_protocol.specs.Known.{Known, new_key, next_serial, on_typed}
use Rattle.group_protocol.specs.Protocol.{response_to}
use Rattle.group_protocol.specs.Tick.{ticked}
use Rattle.group_protocol.specs.WaitingKeys.{waiting_keys, without_read}
use Rattle.group_node.specs.Deeds as deed
use Rattle.group_node.specs.Deeds.{Deed}
use Rattle.group_node.specs.NodeCalls.{Running}
use Rattle.group_rules.specs.Invariants.{HoldsByRules, IsNextKey}
use Rattle.group_rules.specs.Rules.{Up, WorldState}
use Rattle.group_world.specs.declared.event.Done.{Done}
use Rattle.group_world.specs.Event.{DoesAt}
use Rattle.group_world.specs.Group.{IsUp, me_of, up_of, World, world_state}
use Rattle.group_world.specs.Member.{Member}
use Rattle.group_world.specs.Sound.{Holds}
use Rattle.group_world.proofs.WorldAsGroup.{running}
use Rattle.group_progress.specs.Below.{UnreadLaws}
use Rattle.group_progress.proofs.NodesStay.{OfCall, OfWorld, deed_keeps}

-- the first of the waiting keys, if one waits, is not read
abbrev pub IsFirstUnread : List Key → List Key → Type 0
IsFirstUnread read [] = Unit {0}
IsFirstUnread read (k ∷ ks) = ¬ Contains read k

-- the keys that a node has read
abbrev read_of : Known → List Key
read_of n = keys_in_order (front_values n.learner.learned)

abbrev pub IsUnreadAt : Known → Type 0
IsUnreadAt n = IsFirstUnread (read_of n) (waiting_keys n)

-- the same of each node that is up
abbrev pub AreUnread : World → Type 0
AreUnread = OfWorld IsUnreadAt

first_by : (read keys : List Key) → ((k : Key) (ks : List Key) → keys ≡ k ∷ ks → ¬ Contains read k) → IsFirstUnread read keys
first_by read [] h = tt
first_by read (k ∷ ks) h = h k ks refl

-- one key more, at the end
one_more : (read keys : List Key) (key : Key) → IsFirstUnread read keys → ¬ Contains read key → IsFirstUnread read (keys ++ key ∷ [])
one_more read [] key first new = new
one_more read (k ∷ ks) key first new = first

tick_unread : (n : Known) (o : Option Proposer) → IsUnreadAt n → IsUnreadAt (ticked n o).node
tick_unread n None h = h
tick_unread n (Some p) h = h

module _ (laws : UnreadLaws) (w : World) (holds : Holds w) (i : ℕ) (m : Member) (q : Running) (is_up : IsUp w i m q) where
  -- the key that is typed next is not read
  next_unread : (byte : ℕ) → ¬ Contains (read_of q.known)
      (record { node = q.known.me.node; start = q.known.kept.starts; serial = next_serial q.known; byte = byte })
  next_unread byte =
      let sound = running holds.sound is_up in
      laws.new (world_state w) i (up_of q) _ holds.rules (rw (is_up.there, is_up.up) refl)
      (record {
        node = ap (λ (me : Me). me.node) sound.me_is;
        start = rw is_up.there (ap (λ (r : Record). r.starts) sound.kept_is);
        serial = refl;
      })

  call_unread : (d : Deed) → IsUnreadAt q.known → OfCall IsUnreadAt (me_of w i) q.known d
  call_unread deed.Idle h = tt
  call_unread (deed.Start r) h = tt
  call_unread (deed.Hear x) h =
      first_by _ _ (laws.first (response_to q.known x.sender x.body).node)
  call_unread (deed.Press byte) h = rw (laws.typed q.known byte) (one_more _ (waiting_keys q.known) _ h (next_unread byte))
  call_unread deed.Campaign h = h
  call_unread deed.Tick h = tick_unread q.known q.known.proposer h
  call_unread (deed.Run steps) h = tt
  call_unread deed.Release h = tt
  call_unread deed.Crash h = tt

pub unread_stays : UnreadLaws → (w v : World) (i : ℕ) (plan : Option Bool) (deed : Deed) (d : Done) → Holds w → AreUnread w
    → DoesAt w i plan deed d v → AreUnread v
unread_stays laws w v i plan deed d holds h does =
    deed_keeps IsUnreadAt (λ me r. tt) w v i plan deed d h does
    (λ m q up. call_unread laws w holds i m q up deed (rw up.up at (h i m up.there)))
