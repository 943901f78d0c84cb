-- What holds while one node leads under a ballot that a majority has promised.
use Rattle.std.proofs.Common.{◌≡◌, ◌≢◌, ◌∙◌, ◌⊎◌, inl, inr, ℕ, zero, suc, ◌+◌, ◌<◌, ◌≤◌, Bool, IsTrue, Contains, List, [], ◌∷◌, ◌++◌, length, slice_get, option_map, Some, IsSomeAnd, sym, ap, subst, arith, length-append}
use Rattle.std.proofs.lemmas.Bool.{cases_eq}
use Rattle.paxos_msg.specs.declared.ballot.Ballot.{Ballot}
use Rattle.paxos_msg.specs.declared.message.Group.{Group}
use Rattle.paxos_msg.specs.declared.message.Body.TheVariants.{Accept}
use Rattle.paxos_msg.specs.declared.value.Value.{Value}
use Rattle.paxos_msg.specs.Ballots.{IsBelow, IsMajority}
use Rattle.paxos_msg.specs.Batches.{Body, Msg, Record, Sent}
use Rattle.paxos_msg.specs.Keys.{Key}
use Rattle.paxos_msg.specs.Messages.{IsSaid, messages_of}
use Rattle.group_protocol.proofs.Elements.{first_in, in_cases, none_in, rest_in}
use Rattle.paxos_msg.proofs.Agreement.{invariant_of}
use Rattle.paxos_msg.proofs.CountingNodes.{majorities_meet}
use Rattle.paxos_msg.proofs.Invariant.{Invariant}
use Rattle.group_protocol.specs.Known.{Known, Response}
use Rattle.group_protocol.specs.Packets.{bodies_of}
use Rattle.group_protocol.specs.Steps.{messages_handed_out}
use Rattle.group_node.specs.NodeCalls.{Running}
use Rattle.group_world.specs.Group.{seat_of_member, World, world_state}
use Rattle.group_world.specs.Member.{Member}
use Rattle.group_world.proofs.WorldAsGroup.{running}
use Rattle.group_progress.proofs.Going.{Good}
use Rattle.group_progress.proofs.KeysKept.{Shrinks}
use Rattle.group_progress.proofs.Steps.{Has, New, Step, new_in, new_stays, still}

-- the nodes that act, how many messages were sent before, the group, the ballot, its node, and the
-- keys that waited at each node
pub record Setting : Type 0 where
  pub members : ℕ → Bool
  pub count : ℕ
  pub group : Group
  pub ballot : Ballot
  pub leader : ℕ
  pub keys : ℕ → List Key

-- a node that acts
pub record IsOf (x : Setting) (i : ℕ) : Type 0 where
  pub some : 0 < i
  pub below : i ≤ x.group.size
  pub own : IsTrue (x.members i)

-- the node has promised the ballot, and has its keys
pub record Follows (x : Setting) (w : World) (i : ℕ) : Type 0 where
  pub known : Known
  pub has : Has w i known
  pub promised : known.kept.promised ≡ Some x.ballot
  pub keys : Shrinks (x.keys i) known

-- what always holds then
pub record Common (x : Setting) (w : World) : Type 0 where
  pub good : Good w
  pub group : w.group ≡ x.group
  pub late : x.count ≤ length (world_state w).sent
  pub fresh : (k i s : ℕ) (v : Value) → slice_get (world_state w).sent k ≡ Some (record { sender = i; body = Accept x.ballot s v }) →
      x.count ≤ k
  pub follow : (i : ℕ) → IsOf x i → Follows x w i

-- ---- after an event of one of the nodes

pub old_or_new : (sent more : Sent) (k : ℕ) (m : Msg) → slice_get (sent ++ more) k ≡ Some m → (slice_get sent k ≡ Some m) ⊎
    (length sent ≤ k)
old_or_new [] more k m e = inr (omega arith)
old_or_new (y ∷ sent) more zero m e = inl e
old_or_new (y ∷ sent) more (suc k) m e =
    elim (old_or_new sent more k m e) [ inl old ↦ inl old | inr new ↦ inr (omega (arith, new)) ]

pub in_messages : (i : ℕ) (bodies : List Body) (body : Body) → Contains bodies body
    → Contains (messages_of i bodies) (record { sender = i; body = body })
in_messages i [] body among = absurd (none_in body among)
in_messages i (b ∷ bodies) body among =
    elim (in_cases b bodies body among) [
      | inl same ↦ subst (λ y. Contains (messages_of i (b ∷ bodies)) (record { sender = i; body = y })) same
          (first_in (record { sender = i; body = b }) (messages_of i bodies))
      | inr rest ↦ rest_in _ _ _ (in_messages i bodies body rest)
    ]

module _ (x : Setting) {w v : World} {i : ℕ} {done : Response} (c : Common x w) (step : Step w i done v) where
  fresh_after : (k j s : ℕ) (u : Value) → slice_get (world_state v).sent k ≡ Some (record { sender = j; body = Accept x.ballot s u }) →
      x.count ≤ k
  fresh_after k j s u e =
      elim (old_or_new (world_state w).sent (messages_handed_out i done.sends) k _ (rw step.sent at e)) [
        | inl old ↦ c.fresh k j s u old
        | inr new ↦ omega (arith, c.late, new)
      ]

  longer : length (world_state v).sent ≡ length (world_state w).sent + length (messages_handed_out i done.sends)
  longer = ap (λ (sent : Sent). length sent) step.sent ∙ length-append (world_state w).sent (messages_handed_out i done.sends)

  pub common_after : done.node.kept.promised ≡ Some x.ballot → Shrinks (x.keys i) done.node → Common x v
  common_after promised keys = record {
    good = step.good;
    group = step.group ∙ c.group;
    late = omega (arith, c.late, longer);
    fresh = fresh_after;
    follow = λ j of. by j of (cases_eq j i);
  } where
    by : (j : ℕ) → IsOf x j → (j ≡ i) ⊎ (j ≢ i) → Follows x v j
    by j of (inl same) = rw same (record { known = done.node; has = step.now; promised = promised; keys = keys })
    by j of (inr other) =
        let f = c.follow j of in
        record { known = f.known; has = still step j other f.has; promised = f.promised; keys = f.keys }

  -- what was new is still new
  pub still_new : {m : Msg} → New x.count (world_state w).sent m → New x.count (world_state v).sent m
  still_new new = rw step.sent (new_stays (messages_handed_out i done.sends) new)

  -- and what it sends is new
  pub sends_new : (body : Body) → Contains (bodies_of done.sends) body → New x.count (world_state v).sent
      (record { sender = i; body = body })
  sends_new body among = rw step.sent (new_in (world_state w).sent _ _ c.late (in_messages i (bodies_of done.sends) body among))

-- ---- a node is one

pub one_known : {w : World} {i : ℕ} {a b : Known} → Has w i a → Has w i b → a ≡ b
one_known {a = a} {b} h g =
    let same : h.node ≡ g.node = cc (sym h.there ∙ g.there) in
    let up : Some (record { known = a; progress = h.progress }) ≡ Some (record { known = b; progress = g.progress }) =
    sym h.up ∙ ap (λ (m : Member). m.node) same ∙ g.up in
    cc (ap (option_map (λ (q : Running). q.known)) up)

-- ---- no greater ballot

not_itself : (b : Ballot) → ¬ IsBelow b b
not_itself b (inl less) = omega (arith, less)
not_itself b (inr (same, less)) = omega (arith, less)

module _ (x : Setting) {w : World} (c : Common x w) (most : IsMajority x.group.size x.members) where
  pub grown : Invariant w.group.size (world_state w).sent (λ i. ((world_state w).seats i).kept)
  grown = invariant_of c.good.holds.rules.sound.grew

  -- the record of a node is what it knows
  pub kept_is : (i : ℕ) (k : Known) → Has w i k → ((world_state w).seats i).kept.promised ≡ k.kept.promised
  kept_is i k h =
      let sound = running c.good.holds.sound (record { there = h.there; up = h.up }) in
      ap (λ o. (seat_of_member o).kept.promised) h.there ∙ ap (λ (r : Record). r.promised) (sym sound.kept_is)

  promised_at : (i : ℕ) → IsOf x i → ((world_state w).seats i).kept.promised ≡ Some x.ballot
  promised_at i of = let f = c.follow i of in kept_is i f.known f.has ∙ f.promised

  pub none_greater : (b : Ballot) (s : ℕ) (v : Value) → IsSaid (world_state w).sent (Accept b s v) → ¬ IsBelow x.ballot b
  none_greater b s v said below =
      let d = grown.decided b s v said x.ballot below in
      let (i, some, high, here, there) = majorities_meet x.group.size x.members d.members most
      (subst (λ (g : Group). IsMajority g.size d.members) c.group d.majority) in
      let passed = (d.past i there).passed in
      not_itself x.ballot (subst (λ o. IsSomeAnd o (λ p. IsBelow x.ballot p))
      (promised_at i (record { some = some; below = high; own = here })) passed)
