-- Runs that are none, and terminals at which no runs wrote.
use Rattle.std.proofs.Common.{◌≡◌, ◌≢◌, ℕ, false, List, [], ◌∷◌, None, refl, sym, ap, arith}
use Rattle.pcode_file.specs.Parts.{Parts}
use Rattle.pcode_machine.specs.Runs.{IsPrefix}
use Rattle.paxos_msg.specs.Batches.{Record}
use Rattle.paxos_msg.specs.Records.{empty_record}
use Rattle.paxos_msg.specs.declared.limits.TheConstants.{LAST_START}
use Rattle.paxos_acceptor.specs.declared.me.Me.{Me}
use Rattle.group_wire.specs.Process.{IsProcess}
use Rattle.group_process.specs.Runs.{AreStarts, IsOver, Stand}
use Rattle.group_process.specs.Terminals.{WriteInTurn}
use Rattle.group_process.specs.Wrong.{beside_a_run, byte_then, left_first, only_starts, then_over, writes_from}

module _ (p : Parts) (me : Me) where
  is_process : (loaded : Record) (stand : Stand) → loaded.starts ≢ LAST_START
      → IsProcess p me (only_starts p me loaded stand).process (only_starts p me loaded stand).last
  is_process loaded stand spare = record { spare = spare; does = refl; fails = tt }

  pub right : AreStarts p me empty_record (then_over p me (IsOver false) (left_first p me))
  right = (
    (refl, is_process empty_record (IsOver false) (λ e. absurd (omega (arith, e))), tt),
    ((refl, is_process (left_first p me) (IsOver false) (λ e. absurd (omega (arith, e))), tt), tt),
  )

  pub older_record : ¬ AreStarts p me empty_record (then_over p me (IsOver false) empty_record)
  older_record (first, (second, rest)) = absurd (omega (arith, ap (λ (r : Record). r.starts) second.0))

  pub beside_one : ¬ AreStarts p me empty_record (beside_a_run p me)
  beside_one (first, rest) = absurd (cc (first.2))

pub right_bytes : (byte : ℕ) → WriteInTurn [] (byte_then byte 1 [])
right_bytes byte = (
  record { told = refl; wrote = record { rest = []; whole = refl } },
  (record { told = refl; wrote = record { rest = []; whole = refl } }, tt),
)

pub twice : (byte : ℕ) → ¬ WriteInTurn [] (byte_then byte 0 (byte ∷ []))
twice byte (first, (second, rest)) = absurd (omega (arith, second.told))

pub other : (byte next : ℕ) → byte ≢ next → ¬ WriteInTurn [] (writes_from (byte ∷ []) 0 0 (next ∷ []) ∷ [])
other byte next differ (first, rest) =
    let is : byte ∷ [] ≡ next ∷ first.wrote.rest = first.wrote.whole in
    differ cc

pub left_out : (byte next : ℕ) → ¬ WriteInTurn [] (writes_from (byte ∷ next ∷ []) 0 1 (next ∷ []) ∷ [])
left_out byte next (first, rest) = absurd (omega (arith, first.told))
