-- A start over the answer of a load: what a restart may load of the store after it.
use Rattle.std.proofs.Common.{◌≡◌, ◌≢◌, ◌⊎◌, ◌∙◌, ℕ, false, Result, Ok, Err, sym, ap, subst, arith}
use Rattle.std.proofs.lemmas.Bool.Decides.{nat_tests}
use Rattle.paxos_msg.specs.Batches.{Record}
use Rattle.paxos_msg.specs.Records.{changed}
use Rattle.paxos_msg.specs.declared.limits.TheConstants.{LAST_START}
use Rattle.paxos_msg.specs.declared.record.Change.TheVariants.{Start}
use Rattle.paxos_acceptor.specs.Follows.{AcceptorState, CountsStart}
use Rattle.paxos_acceptor.specs.Opening.{Opens, OpensOnce}
use Rattle.paxos_acceptor.specs.Records.{IsRecord}
use Rattle.paxos_acceptor.specs.Stores.{MayLoadNoMore, MayLoadOnly, StoreKind}
use Rattle.paxos_acceptor.specs.declared.fault.AcceptorFault.{AcceptorFault}
use Rattle.paxos_acceptor.specs.declared.fault.AcceptorFault.TheVariants as acceptor
use Rattle.paxos_acceptor.specs.declared.me.Me.{Me}
use Rattle.paxos_acceptor.specs.declared.store.StoreFault.{StoreFault}
use Rattle.group_protocol.specs.Known.{on_start}
use Rattle.group_protocol.specs.Starting.{BeginsOver, StartsOver}
use Rattle.group_protocol.specs.States.{Protocol}
use Rattle.group_protocol.specs.declared.fault.NodeFault.TheVariants as fault
use Rattle.group_protocol.specs.declared.start.StartRefused.{StartRefused}
use Rattle.group_node.specs.Starting.{StartsAfter, StartsByLoad, StartsOnRecord}
use Rattle.group_node.specs.States.{NodeState}

module _ {S : Type 0} (kind : StoreKind S) (me : Me) where
  -- ---- a node

  -- of its store its record alone may be loaded
  only_counted : (a left : AcceptorState S) (p : Protocol S) (answer : Result ℕ AcceptorFault) → CountsStart kind a left answer
      → BeginsOver me left answer (Ok p) → kind.honest → MayLoadOnly kind p.store (changed a.kept Start)
  only_counted a left p (Ok starts) counts begins honest =
      subst (λ (s : S). MayLoadOnly kind s (changed a.kept Start)) (sym (ap (λ (q : Protocol S). q.store) begins))
      (counts.follows.only honest (λ none. absurd cc))
  only_counted a left p (Err f) counts begins honest = absurd begins

  begins_after : (a : AcceptorState S) (n : NodeState S) (answer : Result Record StoreFault) (left : S)
      → Opens me answer left (Ok a) → StartsOver kind me a (Ok n.protocol)
      → n.protocol.known ≡ (on_start me a.kept).node → a.kept.starts ≢ LAST_START → StartsAfter kind me answer left (Ok n)
  begins_after a n (Ok kept) left (fits, is) over known spare =
      let same : a.kept ≡ kept = ap (λ (b : AcceptorState S). b.kept) is in record {
        known = subst (λ (r : Record). n.protocol.known ≡ (on_start me r).node) same known;
        bad = ((λ f. absurd f), (λ not. absurd (not fits)));
        spent = ((λ f. absurd f), (λ h. absurd (spare (ap (λ (r : Record). r.starts) same ∙ h.1))));
        unsaved = tt;
        owner = tt;
        used_up = tt;
        only = λ honest. subst (λ (r : Record). MayLoadOnly kind n.protocol.store (changed r Start)) same
            (only_counted a over.left n.protocol over.answer over.counts over.begins honest);
        same = λ honest. tt;
        failed = λ honest. tt;
      }
  begins_after a n (Err f) left opens over known spare = absurd opens

  pub node_begins : (store : S) (a : AcceptorState S) (n : NodeState S) → OpensOnce kind me store (Ok a)
      → StartsOver kind me a (Ok n.protocol) → n.protocol.known ≡ (on_start me a.kept).node → a.kept.starts ≢ LAST_START
      → StartsByLoad kind me store (Ok n)
  node_begins store a n once over known spare = record {
    answer = once.answer;
    left = once.left;
    loads = once.loads;
    may = once.may;
    starts = begins_after a n once.answer once.left once.opens over known spare;
  }

  -- ---- a refusal

  -- what it leaves, over a record in its ranges that the acceptor has
  refused_over : (a left : AcceptorState S) (kept : Record) (loaded : S) (e : StartRefused S) (answer : Result ℕ AcceptorFault)
      → IsRecord me.group.size kept → a ≡ record { me = me; kept = kept; is_closed = false; store = loaded }
      → CountsStart kind a left answer → BeginsOver me left answer (Err e) → e.fault ≢ fault.BadRecord → kept.starts ≢ LAST_START
      → StartsOnRecord kind me kept loaded (Err e)
  refused_over a left kept loaded e (Ok starts) fits is counts begins good spare = absurd begins
  refused_over a left kept loaded e (Err f) fits is counts begins good spare =
      let follows = counts.follows in
      let left_is : e.store ≡ left.store = ap (λ (x : StartRefused S). x.store) begins in
      let loaded_is : a.store ≡ loaded = ap (λ (b : AcceptorState S). b.store) is in
      let kept_is : a.kept ≡ kept = ap (λ (b : AcceptorState S). b.kept) is in record {
        known = tt;
        bad = ((λ bad. absurd (good bad)), (λ not. absurd (not fits)));
        spent = ((λ spent. absurd (grind (arith, counts.spent, nat_tests))), (λ h. absurd (spare h.1)));
        unsaved = grind (arith, follows.refused);
        owner = cc (follows.owner, left_is, loaded_is);
        used_up = grind (arith, follows.used_up);
        only = λ honest. tt;
        same = λ honest other.
            subst (λ (s : S). MayLoadNoMore kind loaded s) (sym left_is)
            (subst (λ (s : S). MayLoadNoMore kind s left.store) loaded_is (follows.left honest (grind arith)));
        failed = λ honest r may.
            subst (λ (s : S). kind.may_load s r ⊎ (r ≡ changed kept Start)) loaded_is
            (subst (λ (k : Record). kind.may_load a.store r ⊎ (r ≡ changed k Start)) kept_is
            (follows.no_more honest r (subst (λ (s : S). kind.may_load s r) left_is may)));
      }

  refused_after : (a : AcceptorState S) (e : StartRefused S) (answer : Result Record StoreFault) (left : S)
      → Opens me answer left (Ok a) → StartsOver kind me a (Err e) → e.fault ≢ fault.BadRecord → a.kept.starts ≢ LAST_START
      → StartsAfter kind me answer left (Err e)
  refused_after a e (Ok kept) left (fits, is) over good spare =
      refused_over a over.left kept left e over.answer fits is over.counts over.begins good
      (subst (λ (r : Record). r.starts ≢ LAST_START) (ap (λ (b : AcceptorState S). b.kept) is) spare)
  refused_after a e (Err f) left opens over good spare = absurd opens

  pub start_refused : (store : S) (a : AcceptorState S) (e : StartRefused S) → OpensOnce kind me store (Ok a)
      → StartsOver kind me a (Err e) → e.fault ≢ fault.BadRecord → a.kept.starts ≢ LAST_START
      → StartsByLoad kind me store (Err e)
  start_refused store a e once over good spare = record {
    answer = once.answer;
    left = once.left;
    loads = once.loads;
    may = once.may;
    starts = refused_after a e once.answer once.left once.opens over good spare;
  }
