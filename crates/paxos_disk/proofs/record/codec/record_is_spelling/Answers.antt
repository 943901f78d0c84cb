-- The law: bytes are read as a record in a version just where they are its spelling in it.
use Rattle.std.proofs.Common.{◌≡◌, ℕ, ◌<◌, ◌^◌, eqb, not, List, [], ◌∷◌, ◌++◌, length, Option, Some, None, IfSome, Result, Ok, inl, inr, refl, ◌∙◌, append_assoc, arith}
use Rattle.std.proofs.lemmas.Bool.Decides.{nat_tests}
use Rattle.std.proofs.lemmas.Bool.{cases_eq, eqb-true, ne_eqb, not-false}
use Rattle.std.proofs.lemmas.List.{append-nil, nil_from_length}
use Rattle.base.specs.Steps.{◌>>=◌}
use Rattle.base.proofs.Steps.{last_ok, ok_is}
use Rattle.paxos_msg.specs.declared.ballot.Ballot.{Ballot}
use Rattle.paxos_msg.specs.Batches.{Record, Vote}
use Rattle.paxos_msg.specs.declared.fault.WireFault.{WireFault}
use Rattle.paxos_msg.specs.declared.fault.WireFault.TheVariants as fault
use Rattle.paxos_msg.specs.Fits.{IsBallot, AreVotes, AreBytes}
use Rattle.paxos_msg.specs.Spelling.{number_bytes, votes_bytes}
use Rattle.paxos_acceptor.specs.declared.me.Me.{Me}
use Rattle.paxos_disk.specs.declared.record.version.Version.{Version}
use Rattle.paxos_disk.specs.declared.record.version.Version.TheVariants.{One, Two}
use Rattle.paxos_acceptor.specs.Records.{AreKept, IsRecord}
use Rattle.paxos_disk.specs.Records.{record_header, record_spelling, promised_bytes}
use Rattle.paxos_disk.specs.RecordReading.{after_byte, version_byte, record_header_at, promised_at, votes_in, votes_of, head_at, record_at}
use Rattle.paxos_disk.specs.Version1.{AreSingle, votes_bytes_v1}
use Rattle.paxos_disk.proofs.Fields.{Exact, Fields, both_ok, by_law, by_law_of_two, others, others_of, step}
use Rattle.paxos_disk.proofs.Votes.{few_votes}
use Rattle.paxos_disk.proofs.VotesV1.{votes_v1}
use Rattle.paxos_disk.proofs.record.codec.record_is_spelling.Goals as goal

-- ---- what a version spells

-- which votes it can spell
abbrev AreFor : Version → List Vote → Type 0
AreFor One votes = AreSingle votes
AreFor Two votes = Unit {0}

-- their spelling
abbrev votes_text : Version → List Vote → List ℕ
votes_text One votes = votes_bytes_v1 votes
votes_text Two votes = votes_bytes votes

-- the bytes are the spelling of the record in the version
record IsText (version : Version) (me : Me) (bytes : List ℕ) (r : Record) : Type 0 where
  ranges : IsRecord me.group.size r
  are_for : AreFor version r.votes
  spelled : bytes ≡ record_spelling (version_byte version) (votes_text version) me r

-- ---- the parts

-- what follows where the first step takes a byte
byte_step : {B G : Type 0} (byte : ℕ) (bytes : List ℕ) (next : List ℕ → Result B WireFault) (y : B) → AreBytes bytes
    → (after_byte byte bytes >>= next) ≡ Ok y → ((rest : List ℕ) → bytes ≡ byte ∷ rest → AreBytes rest → next rest ≡ Ok y → G) → G
byte_step byte bytes next y are e goal =
    both_ok (after_byte byte bytes) next y e (λ rest h k.
    let parts : bytes ≡ byte ∷ rest = grind (arith, nat_tests, h) in
    goal rest parts (others_of bytes (byte ∷ []) rest are parts) k)

module _ (F : Fields) where
  -- votes are read as they are spelled
  votes_law : (version : Version) (size n : ℕ) (b : Ballot)
      → Exact (votes_in version size b n) (λ votes. AreVotes size b 0 65536 votes × AreFor version votes × (length votes ≡ n))
      (votes_text version)
  votes_law One size n b = votes_v1 F size b n
  votes_law Two size n b = record {
    found = λ bytes p are e. (let v = (F.votes size n b).found bytes p are e in ((v.0.0, tt, v.0.1), v.1));
    again = λ votes rest are h. (F.votes size n b).again votes rest are (h.0, h.2);
  }

  promised_again : (size : ℕ) (p : Option Ballot) (rest : List ℕ) → AreBytes (promised_bytes p ++ rest) → IfSome p (IsBallot size)
      → promised_at size (promised_bytes p ++ rest) ≡ Ok (p, rest)
  unfolding promised_at
  promised_again size None rest are h = rw (F.numbers.again 0 (0 ∷ rest) are (omega arith)) refl
  promised_again size (Some b) rest are h =
      grind arith

  -- a promised ballot, or none, is read as it is spelled
  promised_law : (size : ℕ) → Exact (promised_at size) (λ p. IfSome p (IsBallot size)) promised_bytes
  unfolding promised_at
  promised_law size = record {
    found = λ bytes p are e. step F.numbers bytes _ p are e (λ round later small parts later_are e.
        elim (cases_eq round 0) [
          | inl none ↦ byte_step 0 later _ p later_are (rw none at e) (λ rest zero _ e.
              rw (← ok_is (None, rest) p e) (tt, rw (parts, none, zero) refl))
          | inr some ↦ step (F.ballots size) bytes _ p are (rw (ne_eqb round 0 some) at e) (λ b rest good parts are e.
              rw (← ok_is _ p e) (good, parts))
        ]);
    again = promised_again size;
  }

module _ (F : Fields) (version : Version) (me : Me) where
  header_found : (bytes rest : List ℕ) → AreBytes bytes → record_header_at version me bytes ≡ Ok rest
      → bytes ≡ record_header (version_byte version) me ++ rest
  unfolding record_header_at
  header_found bytes rest are e =
      byte_step 80 bytes _ rest are e (λ xs p are e.
      byte_step 82 xs _ rest are e (λ xs r are e.
      byte_step (version_byte version) xs _ rest are e (λ xs mark are e.
      byte_step me.node xs _ rest are e (λ xs node are e.
      byte_step me.group.size xs _ rest are e (λ xs size are e.
      step F.numbers xs _ rest are e (λ session _ small parts are e.
      let t = last_ok fault.Group (not (eqb session me.group.session)) _ rest e in
      rw (p, r, mark, node, size, parts, eqb-true session me.group.session (not-false _ t.0), t.1) refl))))))

  votes_found : (n : ℕ) (p : Option Ballot) (bytes : List ℕ) (votes : List Vote) → AreBytes bytes
      → IfSome p (IsBallot me.group.size) → votes_of version me.group.size p n bytes ≡ Ok votes
      → AreKept me.group.size p votes × AreFor version votes × (length votes ≡ n) × (bytes ≡ votes_text version votes)
  votes_found n None bytes votes are h e =
      grind (arith, nat_tests, last_ok _ _ _ _ e, nil_from_length bytes)
  votes_found n (Some b) bytes votes are h e =
      step (votes_law F version me.group.size n b) bytes _ votes are e (λ read rest fits parts are e.
      grind (arith, nat_tests, last_ok _ _ _ _ e, nil_from_length rest, append-nil (votes_text version read), h, fits, parts))

  votes_again : (p : Option Ballot) (votes : List Vote) → AreBytes (votes_text version votes) → AreKept me.group.size p votes
      → AreFor version votes → votes_of version me.group.size p (length votes) (votes_text version votes) ≡ Ok votes
  votes_again None votes are h is_for = grind (arith, nat_tests, h)
  votes_again (Some b) votes are h is_for =
      grind (arith, append-nil (votes_text version votes), votes_law F version me.group.size (length votes) b)

  record_found : (bytes : List ℕ) (r : Record) → AreBytes bytes → record_at version me bytes ≡ Ok r → IsText version me bytes r
  unfolding record_at head_at
  record_found bytes r are e =
      both_ok (head_at version me bytes) _ r e (λ head in_head in_votes.
      both_ok (record_header_at version me bytes) _ head in_head (λ later e k.
      let header = header_found bytes later are e in
      let are_later = others_of bytes (record_header (version_byte version) me) later are header in
      step F.numbers later _ head are_later k (λ starts _ few from_starts are e.
      step (promised_law F me.group.size) _ _ head are e (λ promised _ good from_promised are e.
      step F.numbers _ _ head are e (λ count rest _ from_count are e.
      both_ok (votes_of version me.group.size promised count rest) _ r (rw (← ok_is _ head e) at in_votes) (λ votes e k.
      let kept = votes_found count promised rest votes are good e in
      let same = append_assoc (promised_bytes promised) (number_bytes count) (votes_text version votes) in
      rw (← ok_is _ r k) (record {
        ranges = record { starts = few; kept = kept.0 };
        are_for = kept.1;
        spelled = rw (header, from_starts, from_promised, from_count, kept.2, kept.3, same) refl;
      })))))))

  record_again : (bytes : List ℕ) (r : Record) → me.group.session < 2 ^ 32 → AreBytes bytes → IsText version me bytes r
      → record_at version me bytes ≡ Ok r
  unfolding record_at head_at record_header_at
  record_again bytes r small are h =
      let counted = number_bytes (length r.votes) ++ votes_text version r.votes in
      let started = number_bytes r.starts ++ (promised_bytes r.promised ++ counted) in
      let e : bytes ≡ record_header (version_byte version) me ++ started = h.spelled ∙ simp append_assoc in
      let starts = others_of bytes (record_header (version_byte version) me) started are e in
      let promised = others (number_bytes r.starts) (promised_bytes r.promised ++ counted) starts in
      let count = others (promised_bytes r.promised) counted promised in
      let good : IfSome r.promised (IsBallot me.group.size) = grind (arith, nat_tests, h.ranges.kept) in
      let front = record_header (version_byte version) me ++ started in
      let now : AreBytes front = rw e at are in
      let header : record_header_at version me front ≡ Ok started = grind (arith, now) in
      let first = F.numbers.again r.starts _ starts h.ranges.starts in
      let ballot = promised_again F me.group.size r.promised counted promised good in
      let number = F.numbers.again (length r.votes) _ count (omega (arith, few_votes me.group.size r h.ranges)) in
      let votes = votes_again r.promised r.votes (others (number_bytes (length r.votes)) _ count) h.ranges.kept h.are_for in
      rw (e, header, first, ballot, number, votes) refl

pub returns : goal.returns
returns c =
    let fields : Fields = record {
      numbers = by_law c.number_is_spelling.ensures.read;
      ballots = λ size. by_law (c.ballot_is_spelling.ensures.read size);
      values_v1 = λ size. by_law_of_two (c.value_v1_is_spelling.ensures.read size);
      votes = λ size n b. by_law_of_two (c.votes_are_spelling.ensures.read size n b);
    } in
    record {
      two = λ me bytes r small are. (
        λ e. (let h = record_found fields Two me bytes r are e in record { ranges = h.ranges; spelled = h.spelled }),
        λ h. record_again fields Two me bytes r small are (record { ranges = h.ranges; are_for = tt; spelled = h.spelled }),
      );
      one = λ me bytes r small are. (
        λ e. (let h = record_found fields One me bytes r are e in record { ranges = h.ranges; single = h.are_for; spelled = h.spelled }),
        λ h. record_again fields One me bytes r small are (record { ranges = h.ranges; are_for = h.single; spelled = h.spelled }),
      );
    }
