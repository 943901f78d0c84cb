-- What a node of the majority sends in a fair run is heard.
use Rattle.std.proofs.Common.{◌≡◌, ◌∙◌, ℕ, zero, suc, ◌+◌, ◌≤◌, Bool, IsTrue, Contains, List, [], ◌∷◌, ◌++◌, All, length, length-append, map, slice_get, Some, None, refl, sym, ap, subst, arith}
use Rattle.std.proofs.lemmas.List.Elements.{All-contains, All-head, All-tail}
use Rattle.std.proofs.lemmas.Option.{slice_get-get_or}
use Rattle.std.specs.FinMap.{FinMap}
use Rattle.std.specs.Ordering.{nat_cmp}
use Rattle.paxos_msg.specs.declared.ballot.Ballot.{Ballot}
use Rattle.paxos_msg.specs.declared.message.Group.{Group}
use Rattle.paxos_msg.specs.declared.value.Value.{Value}
use Rattle.paxos_msg.specs.declared.limits.TheConstants.{PLACES}
use Rattle.paxos_msg.specs.Ballots.{IsMajority}
use Rattle.paxos_msg.specs.Batches.{Msg}
use Rattle.paxos_msg.specs.Bodies.{IsBody}
use Rattle.paxos_msg.specs.Fits.{IsNode}
use Rattle.paxos_learner.specs.Learner.{AreInWindow, front_of}
use Rattle.paxos_acceptor.specs.declared.me.Me.{Me}
use Rattle.group_protocol.specs.Known.{Response}
use Rattle.group_protocol.specs.Packets.{Datagram, Packet, datagram_of, datagrams_of}
use Rattle.group_protocol.specs.Ranges.{AllFit}
use Rattle.group_node.specs.Deeds as deed
use Rattle.group_node.specs.NodeCalls.{Makes}
use Rattle.group_node.specs.Output.{Progress}
use Rattle.group_world.specs.declared.event.Act.TheVariants as act
use Rattle.group_world.specs.Deeds.{EndsCall, Left}
use Rattle.group_world.specs.Event.{DoesAt, world_after}
use Rattle.group_world.specs.Group.{me_of, member_at, message_of, messages_in, World, world_state}
use Rattle.group_world.specs.Member.{Member}
use Rattle.group_world.specs.Sound.{IsSpelling}
use Rattle.group_progress.specs.Fair.{Endless, IsFair, IsAddressedTo, IsLed, IsSentAt, Later}
use Rattle.group_world.proofs.WorldAsGroup.{is_node, packet_read}
use Rattle.group_progress.specs.Below.{EventLaws, TestLaws}
use Rattle.group_progress.proofs.Going.{Good, saved}
use Rattle.group_progress.proofs.Promising.{hears_at, messages_grow}
use Rattle.group_progress.proofs.Runs.{good_at, group_at}
use Rattle.group_progress.proofs.Stages.{from_then}

pub made_sends : {me : Me} (m : Member) (progress : Progress) (done : Response) (left : Left)
    → EndsCall me m progress None (Makes done []) left → left.sent ≡ datagrams_of me done.sends
made_sends m progress done left ends = let e = saved done.saves in ends.sends ∙ rw e refl

-- the datagrams at their places
after_place : {X : Type 0} (xs ys : List X) (s : ℕ) (x : X) → slice_get ys s ≡ Some x → slice_get (xs ++ ys) (length xs + s) ≡ Some x
after_place [] ys s x e = let same : s ≡ 0 + s = omega arith in subst (λ k. slice_get ys k ≡ Some x) same e
after_place (y ∷ xs) ys s x e =
    let same : suc (length xs + s) ≡ suc (length xs) + s = omega arith in
    subst (λ k. slice_get (y ∷ (xs ++ ys)) k ≡ Some x) same (after_place xs ys s x e)

image_place : {X Y : Type 0} (f : X → Y) (xs : List X) (k : ℕ) (x : X) → slice_get xs k ≡ Some x → slice_get (map f xs) k ≡ Some (f x)
image_place f [] k x e = absurd cc
image_place f (y ∷ xs) zero x e = cc
image_place f (y ∷ xs) (suc k) x e = image_place f xs k x e

-- a message has the number of its datagram
pub same_place : (group : Group) (sent : List Datagram) → All (IsSpelling group) sent → (k : ℕ) (d : Datagram) (m : Msg) → slice_get
    sent k ≡ Some d
    → message_of group d ≡ Some m → slice_get (messages_in group sent) k ≡ Some m
same_place group [] all k d m at e = absurd cc
same_place group (x ∷ xs) all zero d m at e =
    let first = All-head (IsSpelling group) x xs all in
    let is : d ≡ x = cc at in
    let here : message_of group x ≡ Some m = subst (λ y. message_of group y ≡ Some m) is e in rw here refl
same_place group (x ∷ xs) all (suc k) d m at e =
    let first = All-head (IsSpelling group) x xs all in
    let rest = same_place group xs (All-tail (IsSpelling group) x xs all) k d m at e in rw first.read rest

module _ (laws : EventLaws) (tests : TestLaws) (few : (learned : FinMap nat_cmp Value) → AreInWindow learned → front_of learned ≤ PLACES)
    {members : ℕ → Bool} {leader : ℕ} {b : Ballot} {w : World} (run : Endless w) (good : Good w) (most : IsMajority w.group.size members)
    (led : IsLed members leader b run) where
  sent_longer : (n : ℕ) → length w.sent ≤ length (run.world n).sent
  sent_longer zero = let same : length (run.world 0).sent ≡ length w.sent = ap (λ (v : World). length v.sent) run.begins in omega
      (arith, same)
  sent_longer (suc n) =
      let does = (run.goes n).does in
      let more : length (run.world (suc n)).sent ≡ length (run.world n).sent + length does.left.sent =
      ap (λ (v : World). length v.sent) does.leads ∙ length-append (run.world n).sent does.left.sent in
      omega (arith, more, sent_longer n)

  -- a packet of a call of a node of the majority
  pub sends_it : (n i j : ℕ) → IsTrue (members i) → {m : Member} → member_at (run.world n).members i ≡ Some m → (done : Response)
      (packet : Packet)
      → AllFit (me_of (run.world n) i) done.sends → Contains done.sends packet → IsAddressedTo j packet.to → (left : Left)
      → left.sent ≡ datagrams_of (me_of (run.world n) i) done.sends → run.world (suc n) ≡ world_after (run.world n) i left
      → (k : ℕ) × IsSentAt members run n k j (record { sender = i; body = packet.body })
  sends_it n i j own there done packet fits among addressed left sends leads =
      let v = run.world n in
      let sound = (good_at laws run good n).holds.sound in
      let me = me_of v i in
      let fit = All-contains (λ (x : Packet). IsBody me.group.size me.node x.body) done.sends packet fits among in
      let spelled = packet_read laws.read me sound.session (is_node i sound there) packet fit in
      let at = image_place (datagram_of me) done.sends among.0 packet
      (slice_get-get_or done.sends among.0 packet among.1 ∙ ap Some among.2) in
      let whole : (run.world (suc n)).sent ≡ v.sent ++ datagrams_of me done.sends = ap (λ (v : World). v.sent) leads ∙ ap
      (λ more. v.sent ++ more) sends in (
        length v.sent + among.0,
        record {
          sent = record {
            datagram = datagram_of me packet;
            there = rw whole (after_place v.sent (datagrams_of me done.sends) among.0 (datagram_of me packet) at);
            addressed = addressed;
            spells = subst (λ (g : Group). message_of g (datagram_of me packet) ≡ Some (record { sender = i; body = packet.body }))
                (group_at run n)
                (spelled.0.read ∙ ap Some spelled.1);
            sender = own;
            late = omega (arith, sent_longer n);
          };
          new = omega arith;
        },
      )

  -- and it is heard
  pub hears_it : IsFair members run → (n k j : ℕ) (m : Msg) → IsNode w.group.size j → IsTrue (members j) → IsSentAt members run
      n k j m
      → Later n (λ t. DoesAt (run.world (suc t)) j None (deed.Hear m) (run.done (suc t)) (run.world (suc (suc t)))
      × (slice_get (world_state (run.world (suc t))).sent k ≡ Some m))
  hears_it fair n k j m node own way = by (fair.hears n k j m node own way) where
    at : slice_get (world_state (run.world (suc n))).sent k ≡ Some m
    at = same_place (run.world (suc n)).group (run.world (suc n)).sent (good_at laws run good (suc n)).holds.sound.spelled k
        way.sent.datagram m way.sent.there
        (subst (λ (g : Group). message_of g way.sent.datagram ≡ Some m) (sym (group_at run (suc n))) way.sent.spells)

    by : Later (suc n) (λ t. (run.event t).act ≡ act.Deliver k j)
        → Later n (λ t. DoesAt (run.world (suc t)) j None (deed.Hear m) (run.done (suc t)) (run.world (suc (suc t)))
        × (slice_get (world_state (run.world (suc t))).sent k ≡ Some m))
    by (zero, less, acts) = absurd (omega (arith, less))
    by (suc t, less, acts) =
        let low : n ≤ t = omega (arith, less) in
        let still = from_then (λ t. slice_get (world_state (run.world (suc t))).sent k ≡ Some m)
        (λ t e. messages_grow laws tests few run good most led (suc t) k m e) n t low at in
        (t, low, (hears_at laws tests few run good most led t k j m own still acts, still))
