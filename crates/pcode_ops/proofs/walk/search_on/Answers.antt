use Rattle.std.proofs.Common.{rules, sym, arith}
use Rattle.pcode_ops.proofs.Searching.{fine_goes_on, marked_fine, search_goes_on, search_passes, reach_marked}
use Rattle.pcode_ops.proofs.walk.search_on.Goals as goal
use Rattle.pcode_ops.proofs.walk.search_on.Goals.{in-Ok, in-Err}

pub loop-done-preserved : goal.loop-done-preserved
loop-done-preserved c =
    let s = c.loop-done.invariant.search in
    let l = c.len.ensures.listing in
    let g = c.get-at.ensures in
    elim c.match-look.branch [
      | in-Ok w ↦ record {
        search = rw w.walk-is (search_goes_on _ _ _ _ _ w.in-Ok.onward s l g (search rules) w.mark_onward.ensures);
        fine = λ none. rw w.walk-is
            (fine_goes_on _ _ _ _ _ w.in-Ok.onward (c.loop-done.invariant.fine (search rules)) g (search rules) w.mark_onward.ensures);
      }
      | in-Err w ↦ record {
        search = rw w.walk-is (search_passes _ _ _ _ _ s g (sym w.in-Err.ensures.value));
        fine = λ none. absurd (search rules);
      }
    ]

pub returns-clause-exact : goal.returns-clause-exact
returns-clause-exact c =
    let s = c.loop-done.invariant.search in
    λ i. (s.started.sound i, reach_marked _ c.loop-done.done _ s c.len.ensures.listing (omega arith) i)

pub returns-clause-fine : goal.returns-clause-fine
returns-clause-fine c none = marked_fine _ c.loop-done.done _ (c.loop-done.invariant.fine none) c.len.ensures.listing (omega arith)
