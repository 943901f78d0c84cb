-- Entries of a log: what is read was written, and what is written is read.
use Rattle.std.proofs.Common.{◌≡◌, ◌↔◌, ℕ, suc, List, [], ◌∷◌, ◌++◌, Ok, inl, inr, refl, arith}
use Rattle.std.proofs.lemmas.Bool.Decides.{nat_tests}
use Rattle.std.proofs.lemmas.Bool.{cases_eq, ne_eqb}
use Rattle.base.proofs.Steps.{ok_is}
use Rattle.paxos_msg.specs.declared.ballot.Ballot.{Ballot}
use Rattle.paxos_msg.specs.Batches.{Change}
use Rattle.paxos_msg.specs.declared.record.Change.TheVariants.{Start, Promise, Ballotted}
use Rattle.paxos_msg.specs.Fits.{IsPlace, IsValue, AreBytes}
use Rattle.paxos_msg.specs.Reading.{place_at, value_at}
use Rattle.paxos_msg.specs.Spelling.{ballot_bytes, number_bytes, value_bytes}
use Rattle.paxos_disk.specs.declared.record.version.Version.{Version}
use Rattle.paxos_disk.specs.declared.record.version.Version.TheVariants.{One, Two}
use Rattle.paxos_disk.specs.Entries.{BeginsEntry, IsFor, IsInRanges, entry_bytes, value_spelling}
use Rattle.paxos_disk.specs.LogReading.{entry_at, log_vote_at, value_in}
use Rattle.paxos_disk.proofs.Fields.{Exact, Fields, by_law, by_law_of_two, others, step}
use Rattle.paxos_disk.proofs.log.reading.entry_is_spelling.Goals as goal

module _ (F : Fields) (V : (size : ℕ) → Exact (value_at size) (IsValue size) value_bytes) (version : Version) (size : ℕ) where
  -- a place is read as it is spelled
  place_law : Exact (place_at 65535) IsPlace number_bytes
  unfolding place_at
  place_law = grind arith

  -- the value of a vote that the version can spell
  value_law : (version : Version) (s : ℕ) (b : Ballot)
      → Exact (value_in version size) (λ v. IsValue size v × IsFor version (Ballotted s b v)) (value_spelling version)
  value_law One s b = F.values_v1 size
  value_law Two s b = record {
    found = λ bytes p are e. (let h = (V size).found bytes p are e in ((h.0, tt), h.1));
    again = λ v rest are h. (V size).again v rest are h.0;
  }

  vote_found : (bytes : List ℕ) (p : Change × List ℕ) → AreBytes bytes → log_vote_at version size bytes ≡ Ok p
      → BeginsEntry version size (3 ∷ bytes) p.0 p.1
  unfolding log_vote_at
  vote_found bytes p are e =
      step place_law bytes _ p are e (λ place _ there from_place are e.
      step (F.ballots size) _ _ p are e (λ ballot _ good from_ballot are e.
      step (value_law version place ballot) _ _ p are e (λ value rest fits from_value are e.
      rw (← ok_is _ p e)
      (record { in_ranges = (there, good, fits.0); is_for = fits.1; spelled = rw (from_place, from_ballot, from_value) refl }))))

  entry_found : (bytes : List ℕ) (p : Change × List ℕ) → AreBytes bytes → entry_at version size bytes ≡ Ok p
      → BeginsEntry version size bytes p.0 p.1
  unfolding entry_at
  entry_found [] p are e = absurd cc
  entry_found (tag ∷ bytes) p are e = elim (cases_eq tag 1) [
    | inl start ↦
        rw (start, ← ok_is (Start, bytes) p (rw start at e)) (record { in_ranges = tt; is_for = grind (arith, nat_tests); spelled = refl })
    | inr not_start ↦ elim (cases_eq tag 2) [
      | inl promise ↦ step (F.ballots size) bytes _ p (λ i. are (suc i)) (rw promise at e) (λ b rest good parts are e.
          rw (promise, ← ok_is _ p e) (record { in_ranges = good; is_for = grind (arith, nat_tests); spelled = rw parts refl }))
      | inr not_promise ↦ elim (cases_eq tag 3) [
        | inl vote ↦ rw vote (vote_found bytes p (λ i. are (suc i)) (rw vote at e))
        | inr not_vote ↦ absurd (cc (rw (ne_eqb tag 1 not_start, ne_eqb tag 2 not_promise, ne_eqb tag 3 not_vote) at e))
      ]
    ]
  ]

  entry_again : (c : Change) (rest : List ℕ) → AreBytes (entry_bytes version c ++ rest) → IsInRanges size c → IsFor version c
      → entry_at version size (entry_bytes version c ++ rest) ≡ Ok (c, rest)
  unfolding entry_at log_vote_at
  entry_again Start rest are fits is_for = refl
  entry_again (Promise b) rest are fits is_for = rw ((F.ballots size).again b rest (λ i. are (suc i)) fits) refl
  entry_again (Ballotted s b v) rest are fits is_for =
      let after_place = ballot_bytes b ++ (value_spelling version v ++ rest) in
      let are_ballot = others (number_bytes s) after_place (λ i. are (suc i)) in
      let value = (value_law version s b).again v rest (others (ballot_bytes b) _ are_ballot) (fits.2, is_for) in
      rw (place_law.again s after_place (λ i. are (suc i)) fits.0, (F.ballots size).again b _ are_ballot fits.1, value) refl

  entry_law : (bytes : List ℕ) (c : Change) (rest : List ℕ) → AreBytes bytes
      → (entry_at version size bytes ≡ Ok (c, rest)) ↔ BeginsEntry version size bytes c rest
  entry_law bytes c rest are = (
    entry_found bytes (c, rest) are,
    λ h. rw h.spelled (entry_again c rest (rw h.spelled at are) h.in_ranges h.is_for),
  )

pub returns : goal.returns
returns c = λ version size. entry_law (record {
  numbers = by_law c.number_is_spelling.ensures.read;
  ballots = λ size. by_law (c.ballot_is_spelling.ensures.read size);
  values_v1 = λ size. by_law_of_two (c.value_v1_is_spelling.ensures.read size);
  votes = λ size n b. by_law_of_two (c.votes_are_spelling.ensures.read size n b);
}) (λ size. by_law (c.value_is_spelling.ensures.read size)) version size
