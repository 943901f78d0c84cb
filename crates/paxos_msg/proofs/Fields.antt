-- Readings that give just what is spelled at the front of the bytes, and steps of readings; those
-- of numbers, ballots and places.
use Rattle.std.proofs.Common.{◌≡◌, ◌↔◌, ℕ, suc, Bool, false, List, [], ◌∷◌, ◌++◌, Result, drop, Ok, IfOk, ◌+◌, ◌^◌, ◌<◌, refl, arith, ◌≤◌}
use Rattle.base.specs.Steps.{◌>>=◌}
use Rattle.std.proofs.lemmas.List.{get_or-drop}
use Rattle.paxos_msg.specs.declared.fault.WireFault.{WireFault}
use Rattle.std.proofs.lemmas.Bool.Decides.{nat_tests}
use Rattle.byteorder.specs.Endian.{big_number}
use Rattle.paxos_msg.specs.Spelling.{number_bytes, ballot_bytes}
use Rattle.paxos_msg.specs.Reading.{first_byte, number_at, ballot_at, own_ballot_at, place_at, refuse}
use Rattle.paxos_msg.specs.Fits.{IsBallot, AreBytes}

-- a reading gives just the value whose spelling is at the front of the bytes, and leaves bytes
pub record Exact {A : Type 0} (read : List ℕ → Result (A × List ℕ) WireFault) (fits : A → Type 0) (spells : A → List ℕ) : Type 0 where
  pub found : (bytes : List ℕ) → AreBytes bytes → IfOk (read bytes) (λ p. fits p.0 × (bytes ≡ spells p.0 ++ p.1) × AreBytes p.1)
  pub again : (x : A) (rest : List ℕ) → fits x → read (spells x ++ rest) ≡ Ok (x, rest)

module _ {A : Type 0} {read : List ℕ → Result (A × List ℕ) WireFault} {fits : A → Type 0} {spells : A → List ℕ}
    (E : Exact read fits spells) where
  -- what follows where the first step is such a reading
  pub step : {B : Type 0} (bytes : List ℕ) (next : A × List ℕ → Result B WireFault) (G : B → Type 0) → AreBytes bytes
      → ((x : A) (rest : List ℕ) → fits x → bytes ≡ spells x ++ rest → AreBytes rest → IfOk (next (x, rest)) G)
      → IfOk (read bytes >>= next) G
  step bytes next G are goal = grind (arith, E.found bytes are)

  -- the same where a test of what was read comes next
  pub step_if : {B : Type 0} (bytes : List ℕ) (fault : WireFault) (test : A → Bool) (next : A × List ℕ → Result B WireFault)
      (G : B → Type 0) → AreBytes bytes
      → ((x : A) (rest : List ℕ) → fits x → bytes ≡ spells x ++ rest → AreBytes rest → test x ≡ false → IfOk (next (x, rest)) G)
      → IfOk (read bytes >>= λ p. refuse fault (test p.0) >>= λ _. next p) G
  step_if bytes fault test next G are goal = step bytes _ G are (grind arith)

  -- a value is read just where the bytes begin with its spelling
  pub law : (bytes : List ℕ) (x : A) (rest : List ℕ) → AreBytes bytes → (read bytes ≡ Ok (x, rest)) ↔ (fits x × (bytes ≡ spells x ++ rest))
  law bytes x rest are =
      (λ e. (let (good, same, later) = rw e at (E.found bytes are) in (good, same)), λ h. rw h.1 (E.again x rest h.0))

-- the same of a reading whose values have two ranges
pub law_of_two : {A : Type 0} {P Q : A → Type 0} {read : List ℕ → Result (A × List ℕ) WireFault} {spells : A → List ℕ}
    → Exact read (λ x. P x × Q x) spells → (bytes : List ℕ) (x : A) (rest : List ℕ) → AreBytes bytes
    → (read bytes ≡ Ok (x, rest)) ↔ (P x × Q x × (bytes ≡ spells x ++ rest))
law_of_two E bytes x rest are = grind (arith, nat_tests, law E bytes x rest are)

-- ---- numbers, ballots and places

-- the bytes after the first ones are bytes
pub bytes_after : (n : ℕ) (bytes : List ℕ) → AreBytes bytes → AreBytes (drop n bytes)
bytes_after n bytes are i = rw get_or-drop (are (n + i))

-- a byte is read as it is spelled
pub one_byte : Exact first_byte (λ b. b < 256) (λ b. b ∷ [])
one_byte = record { found = after; again = λ b rest small. refl }
  where
    after : (bytes : List ℕ) → AreBytes bytes → IfOk (first_byte bytes) (λ p. (p.0 < 256) × (bytes ≡ p.0 ∷ p.1) × AreBytes p.1)
    after [] are = tt
    after (b ∷ bytes) are = (are 0, refl, λ i. are (suc i))

-- four bytes are those of the number in them
pub four_again : (a b c d : ℕ) → a < 256 → b < 256 → c < 256 → d < 256
    → number_bytes (big_number 4 (a ∷ b ∷ c ∷ d ∷ [])) ≡ a ∷ b ∷ c ∷ d ∷ []
four_again a b c d ha hb hc hd = grind (arith, nat_tests)

-- a number is read as it is spelled
pub numbers : Exact number_at (λ n. n < 2 ^ 32) number_bytes
numbers = record {
  found = λ bytes are. grind (arith, nat_tests, bytes_after 4 bytes are);
  again = λ n rest small. grind (arith, nat_tests);
}

-- a ballot is read as it is spelled
pub ballots : (size : ℕ) → Exact (ballot_at size) (IsBallot size) ballot_bytes
unfolding ballot_at
ballots size = grind (arith, nat_tests, numbers, one_byte)

-- so is a ballot of the sender
pub own_ballots : (size sender : ℕ) → Exact (own_ballot_at size sender) (λ b. IsBallot size b × (b.node ≡ sender)) ballot_bytes
unfolding own_ballot_at
own_ballots size sender = grind (arith, nat_tests, ballots size)

-- and a place
pub places : (most : ℕ) → most < 2 ^ 32 → Exact (place_at most) (λ n. n ≤ most) number_bytes
unfolding place_at
places most small = grind (arith, nat_tests, numbers)
