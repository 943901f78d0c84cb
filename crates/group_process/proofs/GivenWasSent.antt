-- A letter has the bytes of its datagram, and a datagram's bytes spell one message.
use Rattle.std.proofs.Common.{◌≡◌, ℕ, List, [], ◌∷◌, map, Option, Some, None, Ok, inl, inr, refl, sym, ap, arith}
use Rattle.std.proofs.lemmas.List.Elements.{All-contains, All-map, Contains-append_cases}
use Rattle.std.specs.List.{Contains, cons_option, range_with_len}
use Rattle.paxos_msg.specs.declared.message.Group.{Group}
use Rattle.paxos_msg.specs.Batches.{Msg}
use Rattle.paxos_msg.specs.Fits.{IsGroup}
use Rattle.paxos_msg.specs.Datagrams.{message_at, Msgs}
use Rattle.group_protocol.specs.declared.packet.To.{To}
use Rattle.group_protocol.specs.declared.packet.To.TheVariants as whom
use Rattle.group_protocol.specs.Packets.{Datagram}
use Rattle.group_wire.specs.Traffic.{Letter, letters_of, letters_to}
use Rattle.group_world.specs.Group.{message_of, messages_in}
use Rattle.group_protocol.proofs.Elements.{first_in, in_cases, none_in, only_in, rest_in}

-- the letters of a datagram have its bytes
one_letter : (size : ℕ) (to : To) (bytes : List ℕ) (l : Letter) → Contains (letters_to size to bytes) l → bytes ≡ l.bytes
one_letter size (whom.One i) bytes l h = ap (λ (x : Letter). x.bytes) (only_in _ l h)
one_letter size whom.All bytes l h =
    let Same : Letter → Type 0 = λ x. bytes ≡ x.bytes in
    All-contains Same _ l (All-map Same (λ i. record { to = i; bytes = bytes }) (range_with_len 1 size) (λ k d below. refl)) h

pub letter_sent : (size : ℕ) (sent : List Datagram) (l : Letter) → Contains (letters_of size sent) l
    → Contains (map (λ x. x.bytes) sent) l.bytes
letter_sent size [] l h = absurd (none_in l h)
letter_sent size (d ∷ sent) l h = elim (Contains-append_cases (letters_to size d.to d.bytes) (letters_of size sent) l h) [
  | inl here ↦ rw (sym (one_letter size d.to d.bytes l here)) (first_in d.bytes _)
  | inr later ↦ rest_in d.bytes _ l.bytes (letter_sent size sent l later)
]

-- the spelling of a message is read as the message
abbrev pub ReadLaw : Type 0
ReadLaw = (group : Group) (bytes : List ℕ) (m : Msg) → IsGroup group → Msgs group bytes m → message_at group bytes ≡ Ok m

-- one more datagram, whatever it spells
more_messages : (o : Option Msg) (ms : List Msg) (m : Msg) → Contains ms m → Contains (cons_option o ms) m
more_messages None ms m h = h
more_messages (Some x) ms m h = rest_in x ms m h

pub message_sent : ReadLaw → (group : Group) (sent : List Datagram) (bytes : List ℕ) (m : Msg) → IsGroup group → Msgs group bytes m
    → Contains (map (λ x. x.bytes) sent) bytes → Contains (messages_in group sent) m
message_sent read group [] bytes m session spelled h = absurd (none_in bytes h)
message_sent read group (d ∷ sent) bytes m session spelled h = elim (in_cases d.bytes _ bytes h) [
  | inl e ↦ grind arith
  | inr later ↦ more_messages (message_of group d) _ m (message_sent read group sent bytes m session spelled later)
]
