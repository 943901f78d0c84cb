-- The sender that a datagram names.
use Rattle.std.proofs.Common.{◌≡◌, ◌↔◌, ◌<◌, ℕ, List, Some, length, slice_get, slice_index_or, refl, arith}
use Rattle.std.proofs.lemmas.Option.{slice_get_read}
use Rattle.std.specs.declared.net.socket_addr.SocketAddr.{SocketAddr}
use Rattle.group_udp.specs.Sources.{IsFromSender, address_at, sender_index}

-- a datagram that names a node came from its sender exactly if it came from that node's address
pub from_named : (at : List SocketAddr) (source : SocketAddr) (bytes : List ℕ) (i : ℕ) → slice_get bytes sender_index ≡ Some i
    → IsFromSender at source bytes ↔ (address_at at i ≡ Some source)
from_named at source bytes i named = grind arith

-- what a lookup found is there
pub found : {X : Type 0} (xs : List X) (i : ℕ) (x : X) → (i < length xs) × ((d : X) → x ≡ slice_index_or xs i d) → slice_get xs i ≡ Some x
found xs i x h = slice_get_read xs (length xs) i x refl h.0 (h.1 x)
