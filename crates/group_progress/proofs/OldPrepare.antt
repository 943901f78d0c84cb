-- The campaign of a node that has just started, and what an old Prepare above the ballot leaves of the leading node.
use Rattle.std.proofs.Common.{not, ◌&&◌, ◌≡◌, ◌≢◌, ◌∙◌, inl, inr, ℕ, zero, suc, ◌+◌, ◌==◌, Bool, IsTrue, Contains, List, [], ◌∷◌, ◌++◌, Some, None, is_some, refl, sym, ap, subst, arith, true, false}
use Rattle.std.proofs.lemmas.Bool.Decides.{nat_tests}
use Rattle.std.specs.FinMap.{FinMap, get}
use Rattle.std.specs.Ordering.{nat_cmp}
use Rattle.paxos_msg.specs.declared.ballot.Ballot.{Ballot}
use Rattle.paxos_msg.specs.declared.limits.TheConstants.{LAST_ROUND, PLACES}
use Rattle.paxos_msg.specs.declared.message.Body.TheVariants.{Prepare}
use Rattle.paxos_msg.specs.declared.message.Group.{Group}
use Rattle.paxos_msg.specs.declared.value.Value.{Value}
use Rattle.paxos_msg.specs.Ballots.{count_of}
use Rattle.paxos_msg.specs.Batches.{Msg}
use Rattle.paxos_msg.specs.Fits.{IsNode}
use Rattle.paxos_acceptor.specs.declared.me.Me.{Me}
use Rattle.paxos_learner.specs.Learner.{IsFront, front_of}
use Rattle.paxos_proposer.specs.Proposer.{Proposer, greatest_round}
use Rattle.group_protocol.proofs.Elements.{first_in, in_cases, none_in}
use Rattle.group_protocol.specs.AcceptorResponses.{unless_passed}
use Rattle.group_protocol.specs.Known.{Known, Response, front}
use Rattle.group_protocol.specs.Packets.{Packet}
use Rattle.group_protocol.specs.Protocol.{on_message}
use Rattle.group_protocol.specs.ProposerResponses.{last_round, next_ballot, on_campaign}
use Rattle.group_protocol.specs.Steps.{messages_handed_out}
use Rattle.group_node.specs.Deeds as deed
use Rattle.group_node.specs.NodeCalls.{Makes, Running, call_of_campaign}
use Rattle.group_world.specs.declared.event.Act.TheVariants as act
use Rattle.group_world.specs.Group.{IsUp, me_of, member_at, World, world_state}
use Rattle.group_world.specs.Member.{Member, member_after_call}
use Rattle.paxos_msg.specs.Tests.{ballot_lt}
use Rattle.group_world.proofs.WorldAsGroup.{running}
use Rattle.group_progress.specs.Below.{EventLaws, TestLaws}
use Rattle.group_progress.proofs.Acceptors.{promises}
use Rattle.group_progress.proofs.FirstWorld.{IsFresh}
use Rattle.group_progress.proofs.Going.{Good, ends, fits_me, lt_apart, lt_true}
use Rattle.group_progress.proofs.Headless.{IsHeadless, IsHeadlessBody, one_packet}
use Rattle.group_progress.proofs.Quiet.{Next, calls_with}
use Rattle.group_progress.proofs.Runs.{AtWith}

-- all nodes but the second, and of these all but the first
abbrev pub others_than : ℕ → ℕ → Bool
others_than k i = not (i == k)

-- they are one less than all
pub count_others : (n : ℕ) → count_of (others_than 2) (suc (suc n)) ≡ suc n
count_others zero = refl
count_others (suc n) = grind (arith, nat_tests, count_others n)

-- a node that has just started is headless
pub fresh_headless : (n : Known) → IsFresh (Unit {0}) n → IsHeadless n
fresh_headless n h = record { votes = h.votes; learned = h.learned; proposer = h.proposer }

-- a list without elements
pub empty_by : {X : Type 0} (xs : List X) → ((x : X) → Contains xs x → ⊥) → xs ≡ []
empty_by [] none = refl
empty_by (x ∷ xs) none = absurd (none x (first_in x xs))

-- a campaign of a node that has just started
module _ (laws : EventLaws) (fronts : (learned : FinMap nat_cmp Value) → IsFront learned (front_of learned)) {w : World} (good : Good w)
    (i : ℕ)
    {m : Member} {q : Running} (is_up : IsUp w i m q) (h : IsFresh (Unit {0}) q.known) where
  -- it has learned nothing
  fresh_front : front q.known ≡ 0
  fresh_front = by (front q.known) refl where
    by : (k : ℕ) → front q.known ≡ k → front q.known ≡ 0
    by zero e = e
    by (suc k) e =
        let there = (fronts q.known.learner.learned).below 0 (omega (arith, e)) in
        let no : false ≡ true = ap is_some (sym (h.learned 0)) ∙ there in absurd cc

  -- nor heard of a round
  fresh_round : last_round q.known ≡ 0
  fresh_round = ap (λ o. greatest_round o q.known.remembered) h.promised ∙ ap (greatest_round None) h.remembered

  -- so this is its ballot
  pub fresh_ballot : next_ballot q.known ≡ record { round = 1; node = i }
  fresh_ballot =
      let node : q.known.me.node ≡ i = ap (λ (me : Me). me.node) (running good.holds.sound is_up).me_is in
      ap (λ (k : ℕ). record { round = k + 1; node = q.known.me.node }) fresh_round ∙ ap (λ (k : ℕ). record { round = 1; node = k }) node

  -- the sends of the campaign
  only_prepare : (x : Packet) → Contains (on_campaign q.known).sends x → IsHeadlessBody x.body
  only_prepare x among = elim (in_cases _ [] x among) [
    | inl same ↦ subst (λ (y : Packet). IsHeadlessBody y.body) same tt
    | inr none ↦ absurd (none_in x none)
  ]

  -- what it leaves
  pub record Campaigned (K : Known → Type 0) (M : ℕ → Bool) (g : Group) : Type 0 where
    pub next : Next K IsHeadlessBody M g w (act.Campaign i)
    pub there : member_at next.world.members i ≡ Some (member_after_call (on_campaign q.known) m.console q.progress)
    pub sent : (world_state next.world).sent ≡ (world_state w).sent ++ messages_handed_out i (on_campaign q.known).sends

  -- the campaign happens
  pub fresh_campaign : (K : Known → Type 0) (M : ℕ → Bool) (g : Group) → w.group ≡ g
      → ((x : Msg) → Contains (world_state w).sent x → IsHeadlessBody x.body) → IsNode g.size i
      → ((j : ℕ) → IsNode g.size j → IsTrue (M j) → j ≢ i → AtWith K w j) → (IsTrue (M i) → K (on_campaign q.known).node) → Campaigned K M g
  fresh_campaign K M g group said node others keeps =
      let spare = lt_true (last_round q.known) LAST_ROUND (omega (arith, fresh_round)) in
      let left = lt_apart (front q.known) PLACES (omega (arith, fresh_front)) in
      let call : call_of_campaign q.known ≡ Makes (on_campaign q.known) [] = rw (spare, left) refl in
      let fits = fits_me good.holds.sound is_up (laws.fits_campaign q.known (running good.holds.sound is_up).ranges
      (omega (arith, fresh_round)) (omega (arith, fresh_front))) in
      let made = calls_with K IsHeadlessBody M laws g good group said i node is_up others (on_campaign q.known)
      (act.Campaign i) deed.Campaign refl refl
      (q, is_up.up, rw call (ends (me_of w i) m q.progress (on_campaign q.known))) fits keeps only_prepare in
      record { next = made.0; there = made.1; sent = made.2 }

-- ---- the old Prepare is heard by the leading node

-- a test of two nodes
pub apart_true : (i k : ℕ) → i ≢ k → others_than k i ≡ true
apart_true i k other = grind (arith, nat_tests)

-- and the other way
pub true_apart : (i k : ℕ) → others_than k i ≡ true → (i == k) ≡ false
true_apart i k e = grind (arith, nat_tests)

-- all nodes but the second take part; these are all of them but the leading one
abbrev pub ours : ℕ → Bool
ours i = others_than 2 i

-- all of them but the leading one
abbrev pub rest : ℕ → Bool
rest i = others_than 2 i && others_than 1 i

-- which are some of them
pub of_rest : (i : ℕ) → IsTrue (rest i) → IsTrue (ours i)
of_rest i e = by (others_than 2 i) e where
  by : (x : Bool) → (x && others_than 1 i) ≡ true → x ≡ true
  by true e = refl
  by false e = absurd cc

-- the leading node's proposer goes
passed : (tests : TestLaws) (p : Proposer) → p.ballot ≡ record { round = 1; node = 1 }
    → unless_passed (Some (record { round = 1; node = 2 })) (Some p) ≡ None
passed tests p e =
    let below : ballot_lt (record { round = 1; node = 1 }) (record { round = 1; node = 2 }) ≡ true =
    (tests.below (record { round = 1; node = 1 }) (record { round = 1; node = 2 })).1 (inr (refl, omega arith)) in
    let test : ballot_lt p.ballot (record { round = 1; node = 2 }) ≡ true = rw e below in
    rw test refl

-- so it is headless
module _ (tests : TestLaws) (n : Known) (h : IsFresh (Unit {0}) n) (ballot : next_ballot n ≡ record { round = 1; node = 1 })
    (from : ℕ) where
  -- what it answers to the old Prepare
  abbrev heard : Response
  heard = on_message (on_campaign n).node 2 (Prepare (record { round = 1; node = 2 }) from)

  -- it has no proposer any more
  pub beheads : IsHeadless (on_message (on_campaign n).node 2 (Prepare (record { round = 1; node = 2 }) from)).node
      × ((x : Packet) → Contains (on_message (on_campaign n).node 2 (Prepare (record { round = 1; node = 2 }) from)).sends x
      → IsHeadlessBody x.body)
  beheads =
      let round : (next_ballot n).round ≡ 1 = ap (λ (c : Ballot). c.round) ballot in
      let node : (next_ballot n).node ≡ 1 = ap (λ (c : Ballot). c.node) ballot in
      let made = promises tests (on_campaign n).node 2 (record { round = 1; node = 2 }) from (inr (round, omega (arith, node))) in (
        record {
          votes = made.votes ∙ h.votes;
          learned = λ s. ap (λ l. get l.learned s) made.rest.learner ∙ h.learned s;
          proposer = made.proposer ∙ passed tests _ ballot;
        },
        subst (λ (xs : List Packet). (x : Packet) → Contains xs x → IsHeadlessBody x.body) (sym made.sends)
            (one_packet _ (rw h.votes refl)),
      )
