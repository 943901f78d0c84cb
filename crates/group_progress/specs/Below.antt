-- What laws of the crates below say, as the proofs of this crate take it: one record for each group
-- of lemmas, and `Below` for all of them. The law `what_lies_below` has them from those laws.
use Rattle.std.specs.Prelude.{◌≡◌, ◌↔◌, ℕ, ◌+◌, ◌<◌, ◌≤◌, Bool, true, false, IsTrue, All, Contains, List, [], ◌∷◌, ◌++◌, length, slice_get, take, Option, Some, None, Ok}
use Rattle.std.specs.FinMap.{FinMap, get}
use Rattle.std.specs.Ordering.{nat_cmp}
use Rattle.pcode_file.specs.Parts.{Parts}
use Rattle.pcode_machine.specs.Runs.{AreComparable, IsPrefix, out}
use Rattle.paxos_msg.specs.declared.ballot.Ballot.{Ballot}
use Rattle.paxos_msg.specs.declared.limits.TheConstants.{LAST_ROUND, LAST_START, MOST_CHARACTERS, PLACES}
use Rattle.paxos_msg.specs.declared.message.Group.{Group}
use Rattle.paxos_msg.specs.declared.value.Value.{Value}
use Rattle.paxos_msg.specs.Ballots.{IsAtMost, IsBelow, IsMajority}
use Rattle.paxos_msg.specs.Batches.{Body, Msg, Record}
use Rattle.paxos_msg.specs.Datagrams.{Msgs, message_at}
use Rattle.paxos_msg.specs.Fits.{IsGroup}
use Rattle.paxos_msg.specs.Keys.{Key, keys_of}
use Rattle.paxos_msg.specs.Tests.{ballot_lt, is_majority, same_ballot, same_value}
use Rattle.paxos_acceptor.specs.declared.me.Me.{Me}
use Rattle.paxos_acceptor.specs.Records.{IsRecord}
use Rattle.paxos_learner.specs.Input.{StandsIn, front_values, has_key, is_learned, keys_in_order, learned_input, same_key, values_below}
use Rattle.paxos_learner.specs.Learner.{AreInWindow, HasLearnedMore, IsFront, Learner, front_of, heard_accepted}
use Rattle.group_protocol.specs.Known.{Known, front, new_key, on_start, on_typed}
use Rattle.group_protocol.specs.ProposerResponses.{next_ballot, on_campaign}
use Rattle.group_protocol.specs.Protocol.{on_message}
use Rattle.group_protocol.specs.Ranges.{IsFit, IsHeardFit, IsInRange, IsMember}
use Rattle.group_protocol.specs.States.{IsSize}
use Rattle.group_protocol.specs.Tick.{on_tick}
use Rattle.group_protocol.specs.WaitingKeys.{batch_of, waiting_keys, without_read}
use Rattle.group_node.specs.Deeds.{Deed}
use Rattle.group_rules.specs.Claims.{LearnedAgree}
use Rattle.group_rules.specs.Invariants.{HoldsByRules, IsNextKey}
use Rattle.group_rules.specs.Rules.{Up, WorldState}
use Rattle.group_world.specs.declared.event.Done.{Done}
use Rattle.group_world.specs.Event.{DoesAt, HearsOf}
use Rattle.group_world.specs.Group.{World, new_world}
use Rattle.group_world.specs.Sound.{Holds}

-- ---- one event

-- Without the keys that it has read, a node's first waiting key is unread. A typed key comes last
-- of the waiting keys, and is unread too.
pub record UnreadLaws : Type 0 where
  pub first : (n : Known) (k : Key) (ks : List Key) → waiting_keys (without_read n) ≡ k ∷ ks
      → ¬ Contains (keys_in_order (front_values n.learner.learned)) k
  pub typed : (n : Known) (byte : ℕ)
      → waiting_keys (on_typed n byte).node ≡ waiting_keys n ++ keys_of (new_key n byte)
  pub new : (w : WorldState) (i : ℕ) (u : Up) (key : Key) → HoldsByRules w
      → (w.seats i).up ≡ Some u → IsNextKey i (w.seats i).kept u key
      → ¬ Contains (keys_in_order (front_values u.learned)) key

-- The invariant of a world holds at first, and each deed keeps it. What a node sends fits, and each
-- spelling is read.
pub record EventLaws : Type 0 where
  pub begins : (p : Parts) (group : Group) → IsSize group.size → IsGroup group
      → Holds (new_world p group)
  pub holds : (w v : World) (i : ℕ) (plan : Option Bool) (deed : Deed) (d : Done) → Holds w
      → HearsOf w.group w.sent deed → DoesAt w i plan deed d v → Holds v
  pub unread : UnreadLaws
  pub read : (group : Group) (bytes : List ℕ) (m : Msg) → IsGroup group → Msgs group bytes m
      → message_at group bytes ≡ Ok m
  pub fits_start : (me : Me) (r : Record) → IsMember me → IsRecord me.group.size r
      → r.starts < LAST_START → IsFit me (on_start me r)
  pub fits_campaign : (n : Known) → IsInRange n → (next_ballot n).round < LAST_ROUND + 1
      → front n < PLACES → IsFit n.me (on_campaign n)
  pub fits_tick : (n : Known) → IsInRange n → IsFit n.me (on_tick n)
  pub fits_message : (n : Known) (j : ℕ) (body : Body) → IsInRange n → IsHeardFit n.me j body
      → IsFit n.me (on_message n j body)

-- The tests of ballots, values and majorities are true exactly if their propositions hold.
pub record TestLaws : Type 0 where
  pub below : (a b : Ballot) → (ballot_lt a b ≡ true) ↔ IsBelow a b
  pub not_below : (a b : Ballot) → (ballot_lt a b ≡ false) ↔ IsAtMost b a
  pub same : (a b : Ballot) → (same_ballot a b ≡ true) ↔ (a ≡ b)
  pub same_values : (v w : Value) → (same_value v w ≡ true) ↔ (v ≡ w)
  pub majority : (size : ℕ) (members : ℕ → Bool)
      → (is_majority size members ≡ true) ↔ IsMajority size members

-- ---- keys and what is learned

-- Keys that wait leave from the front, once they are read. A message makes no node forget what it
-- has learned.
pub record KeyLaws : Type 0 where
  pub gone : (n : Known) → (gone : List Key)
      × (waiting_keys n ≡ gone ++ waiting_keys (without_read n))
      × All (λ k. Contains (keys_in_order (front_values n.learner.learned)) k) gone
  pub learned_message : (n : Known) (j : ℕ) (body : Body)
      → HasLearnedMore n.learner.learned (on_message n j body).node.learner.learned
  pub more_fronts : (l m : Learner) → HasLearnedMore l.learned m.learned
      → (more : List Value) × (front_values m.learned ≡ front_values l.learned ++ more)
  pub more_keys : (values more : List Value)
      → (rest : List Key) × (keys_in_order (values ++ more) ≡ keys_in_order values ++ rest)

-- Keys that wait, with the one that is typed.
pub record WaitLaws : Type 0 where
  pub keys : KeyLaws
  pub typed : (n : Known) (byte : ℕ)
      → waiting_keys (on_typed n byte).node ≡ waiting_keys n ++ keys_of (new_key n byte)

-- A node forgets nothing that it has learned when it hears a message, campaigns or ticks.
pub record LearnLaws : Type 0 where
  pub message : (n : Known) (j : ℕ) (body : Body)
      → HasLearnedMore n.learner.learned (on_message n j body).node.learner.learned
  pub campaign : (n : Known)
      → HasLearnedMore n.learner.learned (on_campaign n).node.learner.learned
  pub tick : (n : Known) → HasLearnedMore n.learner.learned (on_tick n).node.learner.learned

-- A front is the first place that is not learned, and only rises.
pub record TellLaws : Type 0 where
  pub front : (l : Learner) → IsFront l.learned (front_of l.learned)
  pub rises : (old new : Learner) → HasLearnedMore old.learned new.learned
      → front_of old.learned ≤ front_of new.learned
  pub message : (n : Known) (j : ℕ) (body : Body)
      → HasLearnedMore n.learner.learned (on_message n j body).node.learner.learned

-- What reading rests on: the test of keys is exact; below a place that is not above the front there
-- are as many values as places, each at its index; the front is the first place that is not
-- learned; and nodes have not learned different values.
pub record ReadLaws : Type 0 where
  pub same : (k other : Key) → (same_key k other ≡ true) ↔ (k ≡ other)
  pub many : (learned : FinMap nat_cmp Value) (n : ℕ) → n ≤ front_of learned
      → length (values_below learned n) ≡ n
  pub at_place : (learned : FinMap nat_cmp Value) (n s : ℕ) → n ≤ front_of learned → s < n
      → slice_get (values_below learned n) s ≡ get learned s
  pub agree : (w : WorldState) → HoldsByRules w → LearnedAgree w
  pub front : (learned : FinMap nat_cmp Value) → IsFront learned (front_of learned)

-- ---- one leading node

-- What the lemmas of one leading node rest on.
pub record LeadLaws : Type 0 where
  pub events : EventLaws
  pub tests : TestLaws
  pub keys : KeyLaws
  pub front : (l : Learner) → IsFront l.learned (front_of l.learned)
  pub front_rises : (old new : Learner) → HasLearnedMore old.learned new.learned
      → front_of old.learned ≤ front_of new.learned
  pub learned_accepted : (l : Learner) (i s : ℕ) (b : Ballot) (v : Value)
      → HasLearnedMore l.learned (heard_accepted l i b s v).learner.learned

-- The same, with what the batches rest on that the other nodes submit.
pub record BatchLaws : Type 0 where
  pub laws : LeadLaws
  pub reads : ReadLaws
  pub has : (keys : List Key) (k : Key) → IsTrue (has_key keys k) → Contains keys k
  pub stands : (n : Known) (k : Key) → IsTrue (is_learned n.learner.learned k)
      → StandsIn n.learner.learned k
  pub batch : (n : Known) (v : Value) → batch_of n n.waiting ≡ Some v
      → keys_of v ≡ take MOST_CHARACTERS (waiting_keys n)
  pub no_batch : (n : Known) → batch_of n n.waiting ≡ None → waiting_keys n ≡ []

-- The same, with what endless runs need.
pub record FairLaws : Type 0 where
  pub more : BatchLaws
  pub few : (learned : FinMap nat_cmp Value) → AreInWindow learned → front_of learned ≤ PLACES
  pub wait : WaitLaws

-- ---- consoles

-- A console is comparable with what the machine has written.
pub record PlayLaws : Type 0 where
  pub compares : (w : WorldState) (i : ℕ) (u : Up) → HoldsByRules w → (w.seats i).up ≡ Some u
      → AreComparable (w.seats i).console u.configuration.output
  pub itself : (a : List ℕ) → IsPrefix a a
  pub shorter : (a b : List ℕ) → AreComparable a b → length a ≤ length b → IsPrefix a b

-- What a program writes in more steps begins with what it writes in fewer.
pub record ShowLaws : Type 0 where
  pub events : EventLaws
  pub play : PlayLaws
  pub grows : (p : Parts) (x : List ℕ) (m n : ℕ) → m ≤ n → IsPrefix (out p x m) (out p x n)
  pub through : (a b c : List ℕ) → IsPrefix a b → IsPrefix b c → IsPrefix a c

-- What a program writes on a longer input begins with what it writes on a shorter one.
pub record PlayedLaws : Type 0 where
  pub show : ShowLaws
  pub learn : LearnLaws
  pub input : (p : Parts) (x y : List ℕ) (n : ℕ) → IsPrefix x y
      → IsPrefix (out p x n) (out p y n)
  pub below : (a b c d : List ℕ) → IsPrefix a c → IsPrefix b d → AreComparable c d
      → AreComparable a b
  pub learned : (old new : FinMap nat_cmp Value) → HasLearnedMore old new
      → (rest : List ℕ) × (learned_input new ≡ learned_input old ++ rest)

-- ---- all of them

-- All of them, as `what_lies_below` gives them.
pub record Below : Type 0 where
  pub fair : FairLaws
  pub tell : TellLaws
  pub played : PlayedLaws
