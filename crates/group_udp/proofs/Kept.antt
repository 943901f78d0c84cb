-- Datagrams that are kept one after the other in one list of bytes.
use Rattle.std.proofs.Common.{◌≡◌, ℕ, ◌+◌, ◌-◌, ◌<◌, ◌≤◌, List, [], ◌∷◌, ◌++◌, drop, length, min, take, refl, arith}
use Rattle.std.proofs.lemmas.Grind.{common_steps}
use Rattle.std.proofs.lemmas.List.{drop-append-le, take-append-le, take_all}
use Rattle.std.proofs.lemmas.List.Sums.{sum_by-append, sum_by-cons}
use Rattle.std.proofs.Math.Seq.{take-length}
use Rattle.std.specs.Prelude.{sum, sum_by}
use Rattle.circular_buffer.specs.Buffer.{Buffer, buffer, keep_last}
use Rattle.group_udp.specs.OwnDatagrams.{IsBuffered, cut}

-- one datagram more comes last
cut_more : (bytes ns d : List ℕ) → sum ns ≡ length bytes → cut (bytes ++ d) (ns ++ length d ∷ []) ≡ cut bytes ns ++ d ∷ []
cut_more bytes [] d h = grind (arith, common_steps, take-length)
cut_more bytes (n ∷ ns) d h = grind (arith, common_steps, take-append-le, drop-append-le, cut_more (drop n bytes) ns d)

-- there are as many datagrams as lengths, and they have all bytes
pub cut_counts : (bytes ns : List ℕ) → sum ns ≡ length bytes
    → (length (cut bytes ns) ≡ length ns) × (sum_by (λ (d : List ℕ). length d) (cut bytes ns) ≡ length bytes)
cut_counts bytes [] h = (refl, h)
cut_counts bytes (n ∷ ns) h = grind (arith, common_steps, sum_by-cons, cut_counts (drop n bytes) ns)

-- a datagram that has room leaves both rings as they are to be, and comes last
pub kept_more : {bytes lengths : Buffer ℕ} (all last : Buffer ℕ) (d : List ℕ) (n : ℕ) → IsBuffered bytes lengths
    → length lengths.items < 256 → length bytes.items + length d ≤ 65536
    → n ≡ min (length d) (bytes.capacity - length bytes.items) → all ≡ buffer (bytes.items ++ take n d) bytes.capacity
    → last ≡ buffer (keep_last lengths.capacity (lengths.items ++ length d ∷ [])) lengths.capacity
    → IsBuffered all last × (cut all.items last.items ≡ cut bytes.items lengths.items ++ d ∷ [])
kept_more all last d n kept few small count is is_last =
    grind (arith, common_steps, take_all, sum_by-append, sum_by-cons, cut_more)
