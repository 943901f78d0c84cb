-- Traffic that grows step by step, and the datagrams of several packets.
use Rattle.std.proofs.Common.{◌≡◌, ◌+◌, ◌-◌, ◌≤◌, ℕ, suc, List, [], ◌∷◌, ◌++◌, map, Option, arith}
use Rattle.std.specs.List.{range_with_len}
use Rattle.std.proofs.lemmas.Grind.{common_steps}
use Rattle.std.proofs.lemmas.Grind.{flat_map-append}
use Rattle.paxos_acceptor.specs.declared.me.Me.{Me}
use Rattle.group_wire.specs.Doings.{Doing, transfers_in, transfers_of}
use Rattle.group_wire.specs.Traffic.{Hands, Letter, Traffic, grown, handed}

-- traffic that grows twice, as at once
pub grown_twice : (from via to : Option Traffic) (xs ys all : Traffic)
    → via ≡ grown from xs → to ≡ grown via ys → all ≡ xs ++ ys → to ≡ grown from all
grown_twice from via to xs ys all first second whole = grind (arith, common_steps)

-- what passed in some deeds, and then in others
pub passed_then : (me : Me) (xs ys : List Doing) → transfers_of me (xs ++ ys) ≡ transfers_of me xs ++ transfers_of me ys
passed_then me xs ys = flat_map-append (transfers_in me) xs ys

-- a datagram for node i
abbrev pub letter : List ℕ → ℕ → Letter
letter bytes i = record { to = i; bytes = bytes }

-- one more node: with the datagrams for those after it, it is all
pub next_letter : (known new all : Option Traffic) (bytes : List ℕ) (size node : ℕ) → node ≤ size
    → new ≡ grown known (Hands (letter bytes node) ∷ [])
    → grown known (handed (map (letter bytes) (range_with_len node (size + 1 - node)))) ≡ all
    → grown new (handed (map (letter bytes) (range_with_len (node + 1) (size + 1 - (node + 1))))) ≡ all
next_letter known new all bytes size node within sent whole =
    let count : size + 1 - node ≡ suc (size + 1 - (node + 1)) = omega arith in grind (arith, common_steps)
