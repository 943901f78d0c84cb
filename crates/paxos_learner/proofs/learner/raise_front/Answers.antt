-- A value that is learned at the next place is entered there.
use Rattle.std.proofs.Common.{◌∙◌, ap, arith, sym}
use Rattle.std.proofs.lemmas.List.{length_push}
use Rattle.std.specs.FinMap.{get}
use Rattle.paxos_learner.proofs.Keeping.{input_of_risen}
use Rattle.paxos_learner.proofs.learner.raise_front.Goals as goal

pub loop-value-preserved : goal.loop-value-preserved
loop-value-preserved c =
    let here = ap (get c.args.learned.now.map) (sym c.places.ensures.places) ∙ sym c.get.ensures ∙ c.in-Some.is in
    let next = c.enter.ensures in
    record {
      input = input_of_risen _ _ c.in-Some.value _ c.loop-value.invariant.input here next.keys next.ends next.room next.key_room;
      longer = grind (arith, next.ends, length_push, c.loop-value.invariant.longer);
    }
