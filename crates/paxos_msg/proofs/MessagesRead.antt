-- The law: a datagram is read as a message just where it is the message's spelling.
use Rattle.std.proofs.Common.{◌≡◌, ℕ, ◌<◌, ◌≤◌, List, Ok, IfOk, arith, [], refl}
use Rattle.std.proofs.lemmas.Bool.Decides.{nat_tests}
use Rattle.paxos_msg.specs.declared.bodies.TheConstants.{LAST_KIND}
use Rattle.paxos_msg.specs.declared.message.Group.{Group}
use Rattle.paxos_msg.specs.Fits.{IsNode, AreBytes, IsGroup}
use Rattle.paxos_msg.specs.Datagrams.{header_bytes, Msgs, header_at, message_at}
use Rattle.paxos_msg.specs.Bodies.{kind_of, body_bytes}
use Rattle.paxos_msg.proofs.Fields.{Exact, bytes_after, step, four_again}
use Rattle.std.proofs.lemmas.List.{append-nil, nil_from_length}
use Rattle.paxos_msg.specs.Batches.{Msg}
use Rattle.paxos_msg.proofs.BodiesRead.{bodies}

-- ---- the header

module _ (group : Group) where
  -- a kind of message, and a sender of the group
  abbrev IsHeader : ℕ × ℕ → Type 0
  IsHeader h = (0 < h.0) × (h.0 ≤ LAST_KIND) × IsNode group.size h.1

  -- a header is read as it is spelled
  headers : IsGroup group → Exact (header_at group) IsHeader (λ h. header_bytes group h.0 h.1)
  unfolding header_at
  headers small = record {
    found = λ bytes are. grind (arith, nat_tests, four_again, bytes_after 10 bytes are, are 6, are 7, are 8, are 9);
    again = λ h rest good. grind (arith, nat_tests);
  }

-- ---- the message

-- what is read as a message is its spelling
pub message_found : (group : Group) (bytes : List ℕ) → IsGroup group → AreBytes bytes → IfOk (message_at group bytes) (Msgs group bytes)
unfolding message_at
message_found group bytes small are =
    step (headers group small) bytes _ _ are (λ header later node parts are.
    step (bodies group.size header.1 header.0 node.0 node.1) later _ _ are (λ body rest good parts' are.
    grind (arith, nat_tests, nil_from_length, append-nil)))

-- a message's spelling is read as the message
pub message_again : (group : Group) (bytes : List ℕ) (m : Msg) → IsGroup group → Msgs group bytes m → message_at group bytes ≡ Ok m
unfolding message_at
message_again group bytes m small h =
    let (above, most) : (0 < kind_of m.body) × (kind_of m.body ≤ LAST_KIND) = grind (arith, nat_tests) in
    let body = rw append-nil at ((bodies group.size m.sender (kind_of m.body) above most).again m.body [] (h.fits.1, refl)) in
    rw (h.spelled, (headers group small).again (kind_of m.body, m.sender) (body_bytes m.body) (above, most, h.fits.0), body) refl

pub one_message : (group : Group) (bytes : List ℕ) (m n : Msg) → IsGroup group → Msgs group bytes m → Msgs group bytes n → m ≡ n
one_message group bytes m n small h k = cc (message_again group bytes m small h, message_again group bytes n small k)
