-- The header of a file names its node, so that no two nodes read one file.
use Rattle.std.proofs.Common.{◌≡◌, ℕ, ◌<◌, ◌^◌, List, ◌∷◌, ◌++◌, drop, Some, Ok, inl, inr, sym, ap, ◌∙◌, arith}
use Rattle.std.proofs.lemmas.Bool.Decides.{nat_tests}
use Rattle.paxos_msg.specs.Batches.{Record}
use Rattle.paxos_msg.specs.Fits.{IsGroup}
use Rattle.paxos_msg.specs.Reading.{number_at}
use Rattle.paxos_msg.specs.Spelling.{number_bytes}
use Rattle.paxos_acceptor.specs.declared.me.Me.{Me}
use Rattle.paxos_disk.specs.Files.{IsWritten}
use Rattle.paxos_disk.specs.Reads.{Reads}

-- bytes that begin with a header
abbrev IsHeaded : Me → List ℕ → Type 0
IsHeaded me bytes =
    (tag : ℕ) × (version : ℕ) × (rest : List ℕ)
    × (bytes ≡ 80 ∷ tag ∷ version ∷ me.node ∷ me.group.size ∷ (number_bytes me.group.session ++ rest))

headed : (me : Me) (bytes : List ℕ) (r : Record) → IsWritten me bytes r → IsHeaded me bytes
headed me bytes r (inl (inl whole)) = (82, 2, _, whole.spelled)
headed me bytes r (inl (inr (inl whole))) = (82, 1, _, whole.spelled)
headed me bytes r (inl (inr (inr (n, log)))) = (76, _, log.0, log.2)
headed me bytes r (inr (n, log)) = (76, _, log.0, log.2)

-- a number in its range is read as it is spelled
number_read : (n : ℕ) (rest : List ℕ) → n < 2 ^ 32 → number_at (number_bytes n ++ rest) ≡ Ok (n, rest)
number_read n rest small = grind (arith, nat_tests)

-- a header with a session in its range
same_session : (s t : ℕ) (xs ys : List ℕ) → s < 2 ^ 32 → t < 2 ^ 32 → number_bytes s ++ xs ≡ number_bytes t ++ ys → s ≡ t
same_session s t xs ys small less e =
    let first : number_at (number_bytes s ++ xs) ≡ Ok (s, xs) = number_read s xs small in
    let second : number_at (number_bytes t ++ ys) ≡ Ok (t, ys) = number_read t ys less in
    let same : number_at (number_bytes s ++ xs) ≡ number_at (number_bytes t ++ ys) = ap number_at e in
    grind arith

same_header : (me other : Me) (bytes : List ℕ) → IsGroup me.group → IsGroup other.group → IsHeaded me bytes → IsHeaded other bytes
    → other ≡ me
same_header me other bytes small less (tag, version, rest, e) (tag_too, version_too, rest_too, f) =
    let both = sym e ∙ f in
    let session = same_session me.group.session other.group.session rest rest_too small less (ap (drop 5) both) in
    grind (arith, session)

-- so two nodes that read one file are one
pub one_reader : (me other : Me) (bytes : List ℕ) (r s : Record) → IsGroup me.group → IsGroup other.group
    → Reads me (Some bytes) r → Reads other (Some bytes) s → other ≡ me
one_reader me other bytes r s small less reads reads_too =
    same_header me other bytes small less (headed me bytes r reads.1) (headed other bytes s reads_too.1)
