-- All that was sent, and the records, after a lawful call.
use Rattle.std.proofs.Common.{◌≡◌, ℕ, List, [], ◌∷◌, ◌++◌, Option, Contains, inl, inr, refl, arith}
use Rattle.std.specs.FinMap.{get}
use Rattle.std.proofs.lemmas.List.Elements.{Contains-append_cases}
use Rattle.std.proofs.lemmas.Bool.Decides.{nat_tests}
use Rattle.paxos_msg.specs.declared.value.Value.{Value}
use Rattle.paxos_msg.specs.declared.message.Body.TheVariants.{Submit, Tell}
use Rattle.paxos_msg.specs.Batches.{Body, MaySend, MaySendAll, Msg, Record, Sent}
use Rattle.paxos_msg.specs.Keys.{Key}
use Rattle.paxos_msg.specs.Messages.{messages_of}
use Rattle.group_protocol.specs.Packets.{bodies_of}
use Rattle.group_protocol.specs.Steps.{messages_handed_out}
use Rattle.group_protocol.proofs.Elements.{in_cases, none_in}
use Rattle.group_protocol.proofs.Saving.{record_saved, RecordLaws}
use Rattle.group_protocol.proofs.laws.lawful.lawful_calls_go_on.Goals as goal

module _ (size i : ℕ) (typed : List Key) (learned : ℕ → Option Value) (r : Record) where
  -- the message is of this node, which might send it after some messages
  record IsAllowed (m : Msg) : Type 0 where
    sender : m.sender ≡ i
    before : Sent
    may : MaySend size typed learned before i r m.body

  -- each message of a call is
  allowed : (sent : Sent) (bodies : List Body) → MaySendAll size typed learned sent i r bodies → (m : Msg)
      → Contains (messages_of i bodies) m → IsAllowed m
  allowed sent [] may m h = absurd (none_in m h)
  allowed sent (body ∷ more) (may, rest) m h =
      let first : Msg = record { sender = i; body = body } in
      elim (in_cases first (messages_of i more) m h) [
        | inl e ↦ rw (← e) (record { sender = refl; before = sent; may = may })
        | inr later ↦ allowed (sent ++ first ∷ []) more rest m later
      ]

pub returns-clause-told : goal.returns-clause-told
returns-clause-told c sent typed old before done told ranges lawful s v (i, h) =
    let n = done.node in
    let more = messages_handed_out n.me.node done.sends in
    let m : Msg = record { sender = i; body = Tell s v } in
    let mine = allowed n.me.group.size n.me.node typed (get n.learner.learned) n.kept sent (bodies_of done.sends) lawful.sends m in
    c.sent_only_grows.ensures.chosen n.me.group.size s sent more v (elim (Contains-append_cases sent more m h) [
      | inl earlier ↦ told s v (i, earlier)
      | inr new ↦ let own = mine new in grind (arith, nat_tests, own.may)
    ])

pub returns-clause-submitted : goal.returns-clause-submitted
returns-clause-submitted c sent typed old before done all lawful i v h =
    let n = done.node in
    let m : Msg = record { sender = i; body = Submit v } in
    let mine = allowed n.me.group.size n.me.node typed (get n.learner.learned) n.kept sent (bodies_of done.sends) lawful.sends m in
    elim (Contains-append_cases sent (messages_handed_out n.me.node done.sends) m h) [
      | inl earlier ↦ all i v earlier
      | inr new ↦ rw (mine new).sender (mine new).may
    ]

pub returns-clause-saved : goal.returns-clause-saved
returns-clause-saved c sent typed old left before done h lawful =
    let laws : RecordLaws = record { raises = c.saves_only_raise.ensures.promise; saved = c.backing.ensures.saved } in
    grind (arith, nat_tests, record_saved laws sent done.node.me.node old done.saves h, lawful.saves)
