-- The characters of a value as they lie in memory.
use Rattle.std.specs.Prelude.{◌≡◌, ℕ, ◌<◌, ◌≤◌, ◌-◌, ◌++◌, List, take, length, replicate}
use Rattle.std.proofs.Common.{sym}
use Rattle.std.proofs.lemmas.List.{length-take-le}
use Rattle.paxos_msg.specs.declared.limits.TheConstants.{MOST_CHARACTERS}

-- The first `len` of 32 bytes are characters, at least one, and the others are zeros.
pub record IsFilled (len : ℕ) (bytes : List ℕ) : Type 0 where
  pub some : 0 < len
  pub few : len ≤ length bytes
  pub whole : length bytes ≡ MOST_CHARACTERS
  pub rest : bytes ≡ take len bytes ++ replicate (MOST_CHARACTERS - len) 0

-- The characters alone determine their number.
pub len_back : (len : ℕ) (bytes : List ℕ) → IsFilled len bytes → length (take len bytes) ≡ len
len_back len bytes h = length-take-le len bytes h.few

-- The characters alone determine all 32 bytes.
pub bytes_back : (len : ℕ) (bytes : List ℕ) → IsFilled len bytes
    → take len bytes ++ replicate (MOST_CHARACTERS - length (take len bytes)) 0 ≡ bytes
bytes_back len bytes h = rw (len_back len bytes h) (sym h.rest)
