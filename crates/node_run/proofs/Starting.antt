-- A node from its start on, as a process.
use Rattle.std.proofs.Common.{◌≡◌, ◌≢◌, ◌∙◌, inl, inr, false, List, Option, Some, None, Result, Ok, Err, refl, ap, subst, append-nil, arith}
use Rattle.pcode_file.specs.Parts.{Parts}
use Rattle.paxos_msg.specs.Batches.{Record}
use Rattle.paxos_acceptor.specs.declared.me.Me.{Me}
use Rattle.paxos_acceptor.specs.Stores.{IsStoreOf, MayLoadOnly, StoreKind}
use Rattle.paxos_acceptor.specs.declared.store.StoreFault.{StoreFault}
use Rattle.group_protocol.specs.declared.start.StartRefused.{StartRefused}
use Rattle.group_node.specs.States.{NodeState}
use Rattle.group_node.specs.Deeds.{Deed}
use Rattle.group_node.specs.NodeCalls.{Running, running}
use Rattle.group_wire.specs.Doings.{DoesAll, Doing, Fails, HasActed, HasDone}
use Rattle.group_node.specs.Starting.{StartsAfter}
use Rattle.group_wire.specs.Starts.{HasStarted, LacksOutbox}
use Rattle.group_wire.specs.Traffic.{Traffic}
use Rattle.group_wire.specs.Process.{RunsAsProcess, started}

-- a start that gave a node over this record
record Starts {S : Type 0} (kind : StoreKind S) (me : Me) (program : Parts) (store : S) (first : NodeState S) : Type 0 where
  kept : Record
  left : S
  loaded : kind.loads store (Ok kept) left
  may : kind.honest → kind.may_load store kept
  spare : kept.starts ≢ 4294967295
  begins : running first ≡ started program me kept

starts_so : {S : Type 0} (kind : StoreKind S) (me : Me) (program : Parts) (store : S) (first : NodeState S)
    → HasStarted kind me program store (Ok first) → Starts kind me program store first
starts_so kind me program store first h = grind arith

same_store : {S : Type 0} {store : S} {e : StartRefused S} → LacksOutbox store (Err e) → store ≡ e.store
same_store lacks = cc

refused_owner : {S : Type 0} (kind : StoreKind S) (me : Me) (left : S) (e : StartRefused S) (answer : Result Record StoreFault)
    → StartsAfter kind me answer left (Err e) → kind.owner e.store ≡ kind.owner left
refused_owner kind me left e (Ok kept) h = h.owner
refused_owner kind me left e (Err f) h = let is : e.store ≡ left = cc in ap kind.owner is

-- a refusal gives back a store of the same node
pub refused_owned : {S : Type 0} (kind : StoreKind S) (me : Me) (program : Parts) (store : S) (e : StartRefused S)
    → HasStarted kind me program store (Err e) → IsStoreOf kind me store → IsStoreOf kind me e.store
refused_owned kind me program store e h owned = elim h.loaded [
  | inl lacks ↦ subst (IsStoreOf kind me) (same_store lacks) owned
  | inr by ↦ rw (refused_owner kind me by.left e by.answer by.starts ∙ by.may.owner) owned
]

-- whose node it is
pub me_is : {S : Type 0} (kind : StoreKind S) (me : Me) (program : Parts) (store : S) (first : NodeState S)
    → HasStarted kind me program store (Ok first) → first.protocol.known.me ≡ me
me_is kind me program store first h = ap (λ (w : Running). w.known.me) (starts_so kind me program store first h).begins

-- what a run did from its start on, where no save failed
module _ {S : Type 0} (kind : StoreKind S) (me : Me) (program : Parts)
    (store : S) (first new : NodeState S) (from to : Option Traffic) (h : HasStarted kind me program store (Ok first))
    (prompts : List Deed) where
  s : Starts kind me program store first
  s = starts_so kind me program store first h

  -- it had not stopped then, so that of its store its record alone is loaded
  only_its_record : {doings : List Doing} → HasDone first new from to doings
      → (kind.honest → new.protocol.is_stopped ≡ false → MayLoadOnly kind new.protocol.store new.protocol.known.kept)
      → kind.honest → MayLoadOnly kind new.protocol.store new.protocol.known.kept
  only_its_record done loads honest = loads honest (done.stays ∙ h.fresh.works)

  pub ran_on : {fails : Type 0} → ¬ fails
      → (kind.honest → new.protocol.is_stopped ≡ false → MayLoadOnly kind new.protocol.store new.protocol.known.kept)
      → HasActed first new from to prompts
      → RunsAsProcess kind me program store (running new) new.protocol.store from to prompts fails
  ran_on none loads (doings, done, are) = record {
    process = record { loaded = s.kept; doings = doings; failed = None };
    left = s.left;
    loaded = s.loaded;
    may = s.may;
    runs = record {
      spare = s.spare;
      does = subst (λ (w : Running). DoesAll w.known.me w doings (running new)) s.begins done.does;
      fails = tt;
    };
    traffic = rw (append-nil doings) (rw (me_is kind me program store first h) at done.traffic);
    leaves = λ honest r may. inl (only_its_record done loads honest r may);
    failed = ((λ f. absurd (none f)), (λ wrong. absurd cc));
    prompted = rw (append-nil doings) are;
  }

  -- where one did
  pub ran_out : {fails : Type 0} → fails → Fails kind first new from to prompts
      → RunsAsProcess kind me program store (running new) new.protocol.store from to prompts fails
  ran_out f (doings, last, failed, are) = record {
    process = record { loaded = s.kept; doings = doings; failed = Some last };
    left = s.left;
    loaded = s.loaded;
    may = s.may;
    runs = record {
      spare = s.spare;
      does = subst (λ (w : Running). DoesAll w.known.me w doings (running new)) s.begins failed.does;
      fails = rw (me_is kind me program store first h) at failed.fails;
    };
    traffic = rw (me_is kind me program store first h) at failed.traffic;
    leaves = failed.leaves;
    failed = ((λ _. refl), (λ _. f));
    prompted = are;
  }
