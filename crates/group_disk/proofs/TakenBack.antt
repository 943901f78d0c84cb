-- A promise that a start loads, and the next one does not.
use Rattle.std.proofs.Common.{◌≡◌, ◌≢◌, Bool, true, false, [], ◌∷◌, refl, sym, ap, arith}
use Rattle.std.proofs.lemmas.Bool.Decides.{nat_tests}
use Rattle.pcode_file.specs.Parts.{Parts}
use Rattle.paxos_msg.specs.Batches.{Record}
use Rattle.paxos_msg.specs.Records.{empty_record}
use Rattle.paxos_acceptor.specs.declared.me.Me.{Me}
use Rattle.group_protocol.proofs.Elements.{entries_none, first_in, rest_in}
use Rattle.group_protocol.specs.Known.{front}
use Rattle.group_wire.specs.Process.{IsProcess, started}
use Rattle.group_process.specs.Runs.{AreStarts, FailsToStart, IsOver, record_by, record_left}
use Rattle.group_disk.specs.Restarts.{AreRestarts}
use Rattle.group_disk.specs.Wrong.{MayCampaign, campaigns, taken_back}

module _ (p : Parts) (me : Me) where
  front_is : front (started p me empty_record).known ≡ 0
  front_is = rw entries_none refl

  pub may_campaign : MayCampaign p me empty_record
  may_campaign = record { spare = omega arith; made = rw front_is tt }

module _ (p : Parts) (me : Me) (loaded : Record) where
  pub is_run : (a : Bool) → MayCampaign p me loaded → IsProcess p me (campaigns p me loaded a).process (campaigns p me loaded a).last
  is_run a may = record { spare = λ e. absurd (omega (arith, e, may.spare)); does = refl; fails = (may.made, refl, (refl, refl)) }

  -- the records at the end of it
  abbrev old : Record
  old = record_by (campaigns p me loaded true) (IsOver false)

  abbrev new : Record
  new = record_by (campaigns p me loaded true) (IsOver true)

  pub may_take_back : (a b c : Bool) → MayCampaign p me loaded → AreRestarts p me (loaded ∷ []) (taken_back p me loaded a b c)
  may_take_back a b c may = (
    (first_in loaded [], is_run a may, tt),
    (
      (rest_in old (new ∷ []) new (first_in new []), λ e. absurd (omega (arith, e, may.spare))),
      ((rest_in _ (old ∷ new ∷ []) old (first_in old (new ∷ [])), λ e. absurd (omega (arith, e, may.spare))), tt),
    ),
  )

  promised : new.promised ≢ old.promised
  promised e = grind (arith, nat_tests)

  left_starts : (b : Bool) → old ≢ record_left (FailsToStart new b)
  left_starts true e = absurd (omega (arith, ap (λ (r : Record). r.starts) e))
  left_starts false e = promised (sym (ap (λ (r : Record). r.promised) e))

  pub not_runs : (a b c : Bool) → ¬ AreStarts p me loaded (taken_back p me loaded a b c)
  not_runs a b c (first, (second, (third, rest))) = left_starts b third.0
