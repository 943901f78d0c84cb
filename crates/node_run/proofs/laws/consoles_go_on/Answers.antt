-- A console over the starts of its node.
use Rattle.std.proofs.Common.{◌⊎◌, inl, inr, ℕ, List, ◌++◌, length, max, drop, refl, arith}
use Rattle.std.proofs.Math.Seq.{take-append_seam, drop-append_seam}
use Rattle.std.proofs.lemmas.Grind.{common_steps}
use Rattle.std.proofs.lemmas.List.{drop_all, take-append-drop}
use Rattle.pcode_file.specs.Parts.{Parts}
use Rattle.pcode_machine.specs.Runs.{AreComparable, IsOutput, out}
use Rattle.group_node.specs.Output.{IsReplay, Progress}
use Rattle.group_wire.specs.Turns.{released_of}
use Rattle.node_run.specs.Output.{AreFirst, released_from}
use Rattle.node_run.proofs.laws.consoles_go_on.Goals as goal

-- the first bytes of an output are output
first_is_output : (p : Parts) (z : List ℕ) (k : ℕ) (bytes : List ℕ) → AreFirst p z k bytes → IsOutput p z bytes
first_is_output p z k bytes h =
    (h.steps, record { rest = drop k (out p z h.steps); whole = grind (arith, common_steps, take-append-drop) })

-- what a first start shows
first_start : (x : List ℕ) (q : Progress) → IsReplay x q → AreFirst q.program x q.released (released_from 0 x q)
first_start x q h = record { steps = q.steps; first = refl; many = grind (arith, common_steps) }

-- outputs on comparable inputs are comparable
abbrev Compared : Type 0
Compared = (p : Parts) (x y a b : List ℕ) → AreComparable x y → IsOutput p x a → IsOutput p y b → AreComparable a b

-- what a console shows after a later start
later_start : Compared → (x y console : List ℕ) (q : Progress) → AreComparable x y → IsOutput q.program x console → IsReplay y q
    → AreFirst q.program x (max (length console) q.released) (console ++ released_from (length console) y q)
    ⊎ AreFirst q.program y (max (length console) q.released) (console ++ released_from (length console) y q)
later_start compared x y console q same (n, shows) h =
    elim (compared q.program x y console (released_of y q) same (n, shows) (first_is_output _ _ _ _ (first_start y q h))) [
      | inl less ↦ inr (record {
        steps = q.steps;
        first = grind (arith, common_steps, drop-append_seam);
        many = grind (arith, common_steps, drop-append_seam);
      })
      | inr more ↦ inl (record {
        steps = n;
        first = grind (arith, common_steps, drop_all, take-append_seam);
        many = grind (arith, common_steps, drop_all);
      })
    ]

pub returns : goal.returns
returns c = record {
  first = first_start;
  output = λ x q h. first_is_output _ _ _ _ (first_start x q h);
  goes_on = later_start c.output_only_grows.ensures.compared;
  output_again = λ x y console q same shows h. elim (later_start c.output_only_grows.ensures.compared x y console q same shows h) [
    | inl first ↦ inl (first_is_output _ _ _ _ first)
    | inr first ↦ inr (first_is_output _ _ _ _ first)
  ];
}
