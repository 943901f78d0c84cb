-- What a queue of typed bytes takes in of a datagram.
use Rattle.std.specs.Prelude.{◌-◌, ℕ, nat_le, Bool, List, [], ◌∷◌, length, min, if◌then◌else◌}
use Rattle.group_udp.specs.declared.limits.TheConstants.{LONGEST_TYPED, MOST_KEPT}
use Rattle.node_io.specs.Prompts.{Remaining, no_keys, with_more}

-- A datagram that has room in the queue: it has at most 64 bytes, and at most 65,536 are kept.
abbrev pub has_room : Remaining → List ℕ → Bool
has_room left bytes =
    nat_le (length bytes) (min LONGEST_TYPED (MOST_KEPT - length left.bytes))

-- What comes of a datagram to a queue that has this left. An empty one asks for a campaign; it is
-- dropped if a request is there, or if it comes too soon after the last one that was given. Any
-- other is typed as a whole, or dropped as a whole where it has no room.
-- Forbids: a part of a datagram.
abbrev pub came_of : Bool → Remaining → List ℕ → Remaining
came_of is_apart left [] =
    record { bytes = []; requests = if is_apart then 1 - left.requests else 0 }
came_of is_apart left (byte ∷ bytes) =
    if has_room left (byte ∷ bytes) then record { bytes = byte ∷ bytes; requests = 0 } else no_keys

-- What the queue has left then.
abbrev pub taken_in : Bool → Remaining → List ℕ → Remaining
taken_in is_apart left datagram = with_more (came_of is_apart left datagram) left
