-- Blocks: consecutive words of memory.
use Rattle.std.specs.Prelude.{ℕ, ◌+◌, ◌-◌, ◌==◌, ◌&&◌, ◌||◌, nat_lt, nat_le, Bool, List, ◌++◌, length, take, drop}

-- The test that the n words from word address `word` on are live.
-- Allows: no words, at any address.
-- Forbids: word 0, unless n is 0.
-- Source: Manual, p-machine memory.
abbrev pub is_live : List ℕ → ℕ → ℕ → Bool
is_live live word n = (n == 0) || (nat_lt 0 word && nat_le (word - 1 + n) (length live))

-- The n words from word address `word` on.
-- Source: Manual, p-machine memory.
abbrev pub block_of : List ℕ → ℕ → ℕ → List ℕ
block_of live word n = take n (drop (word - 1) live)

-- The live words with `block` in the place of those from word address `word` on.
-- Source: Manual, p-machine memory.
abbrev pub with_block : List ℕ → ℕ → List ℕ → List ℕ
with_block live word block = take (word - 1) live ++ (block ++ drop (word - 1 + length block) live)
