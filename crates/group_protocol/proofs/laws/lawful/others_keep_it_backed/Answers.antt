-- What other nodes send, and keys that are typed.
use Rattle.std.proofs.Common.{◌≢◌, ℕ, List, [], ◌∷◌, Option, arith}
use Rattle.std.proofs.lemmas.List.Elements.{Contains-append_left}
use Rattle.std.proofs.lemmas.Bool.Decides.{nat_tests}
use Rattle.paxos_msg.specs.declared.value.Value.{Value}
use Rattle.paxos_msg.specs.declared.message.Body.TheVariants.{Accept, Prepare}
use Rattle.paxos_msg.specs.Batches.{Body, MaySend, Record, Sent}
use Rattle.paxos_msg.specs.Keys.{Key}
use Rattle.group_protocol.proofs.NodeBackedAsMoreIsSent.{IsQuiet, said_push, backs_later, BackingLaws, record_later}
use Rattle.group_protocol.proofs.laws.lawful.others_keep_it_backed.Goals as goal

-- what another node may send proposes nothing under a ballot of this one
other_quiet : (size : ℕ) (known : List Key) (learned : ℕ → Option Value) (sent : Sent) (me j : ℕ) (r : Record)
    (body : Body) → j ≢ me → MaySend size known learned sent j r body → (own : Record)
    → IsQuiet me own sent (record { sender = j; body = body } ∷ [])
other_quiet size known learned sent me j r body ne may own = record {
  asked = λ b from mine said. grind (arith, nat_tests, said_push sent j body (Prepare b from) said);
  old = λ b s v mine said. grind (arith, nat_tests, said_push sent j body (Accept b s v) said);
}

laws : goal.After-stays_backed-2 → BackingLaws
laws c = grind (arith, nat_tests)

pub returns-clause-sends : goal.returns-clause-sends
returns-clause-sends c sent typed known n size j learned r body ne may h =
    backs_later (laws c) sent _ typed n (other_quiet size known learned sent n.me.node j r body ne may n.kept) h

pub returns-clause-sends_record : goal.returns-clause-sends_record
returns-clause-sends_record c sent known me size j learned own r body ne may h =
    record_later (laws c) me sent _ own (other_quiet size known learned sent me j r body ne may own) h

pub returns-clause-types : goal.returns-clause-types
returns-clause-types c sent typed more n h = grind (arith, nat_tests, Contains-append_left)
