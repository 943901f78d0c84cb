-- Nodes that have read all show it, one after the other.
use Rattle.std.proofs.Common.{◌≡◌, ◌≢◌, ◌∙◌, ℕ, suc, ◌<◌, ◌≤◌, Bool, IsTrue, List, refl, sym, subst, arith}
use Rattle.pcode_file.specs.Parts.{Parts}
use Rattle.pcode_machine.specs.Runs.{IsPrefix, out}
use Rattle.paxos_msg.specs.Keys.{Key}
use Rattle.group_node.specs.States.{input}
use Rattle.group_protocol.specs.Known.{Known}
use Rattle.group_world.specs.Group.{IsUp, World, member_at}
use Rattle.group_progress.specs.GoingOn.{AllHaveFinishedReading, AllHaveReadAndShown, HasReadAndShown, Reaches}
use Rattle.group_progress.specs.Below.{ShowLaws}
use Rattle.group_progress.proofs.Going.{Good, stay, then}
use Rattle.group_progress.proofs.Showing.{MOST_STEPS, may_show}
use Rattle.group_progress.proofs.Steps.{each_in_turn}

module _ (laws : ShowLaws) (members : ℕ → Bool) (n steps : ℕ) (low : steps ≤ MOST_STEPS) (size : ℕ) (keys : List Key) (w : World)
    (fine : Good w)
    (read : AllHaveFinishedReading members size keys w) where
  -- the nodes from this one on are as they were
  record Rest (k : ℕ) (v : World) : Type 0 where
    pub good : Good v
    pub program : v.program ≡ w.program
    pub ahead : (j : ℕ) → k < j → member_at v.members j ≡ member_at w.members j

  abbrev Done : ℕ → World → Type 0
  Done i v = HasReadAndShown keys steps v i

  show_one : (k : ℕ) (v : World) → suc k ≤ size → IsTrue (members (suc k)) → Rest k v
      → Reaches members n v (λ u. Rest (suc k) u × Done (suc k) u × ((j : ℕ) → j ≢ suc k → Done j v → Done j u))
  show_one k v below own r =
      let h = read (suc k) (omega arith, below) own in
      let k1 : Known = h.has.running.known in
      let up : IsUp v (suc k) h.has.node h.has.running = record
      { there = r.ahead (suc k) (omega arith) ∙ h.has.up.there; up = h.has.up.up } in
      then (may_show laws members n v r.good (suc k) h.has.node h.has.running steps own up low) (λ u s.
      stay (
        record {
          good = s.good;
          program = s.program ∙ r.program;
          ahead = λ j above. s.others j (λ is. absurd (omega (arith, above, is))) ∙ r.ahead j (omega (arith, above));
        },
        record {
          finished = record {
            has = record {
              node = s.node;
              running = record { known = k1; progress = s.progress };
              up = record { there = s.there; up = s.up };
              read = h.has.read;
            };
            none = h.none;
          };
          shown = subst (λ (p : Parts). IsPrefix (out p (input k1) steps) s.node.console) (sym s.program) s.shown;
        },
        λ j other d.
            let was = d.finished.has in
            record {
              finished = record {
                has = record {
                  node = was.node;
                  running = was.running;
                  up = record { there = s.others j other ∙ was.up.there; up = was.up.up };
                  read = was.read;
                };
                none = d.finished.none;
              };
              shown = subst (λ (p : Parts). IsPrefix (out p (input was.running.known) steps) was.node.console) (sym s.program) d.shown;
            },
      ))

  skip_one : (k : ℕ) (v : World) → ¬ IsTrue (members (suc k)) → Rest k v → Rest (suc k) v
  skip_one k v none r = record { good = r.good; program = r.program; ahead = λ j above. r.ahead j (omega (arith, above)) }

  pub show_all : Reaches members n w (AllHaveReadAndShown members size keys steps)
  show_all =
      let start : Rest 0 w = record { good = fine; program = refl; ahead = λ j above. refl } in
      then (each_in_turn size Rest Done skip_one show_one size (omega arith) w start) (λ v all.
      stay (λ i node own. all.1 i node.0 node.1 own))
