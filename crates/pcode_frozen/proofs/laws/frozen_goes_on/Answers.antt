use Rattle.pcode_frozen.proofs.MachineLaws.{RunLaws}
use Rattle.pcode_frozen.proofs.Goes.{outputs_go_on, no_other_output, ends_go_on, no_other_end, errors_go_on, waits_go_on}
use Rattle.pcode_frozen.proofs.laws.frozen_goes_on.Goals as goal

pub returns : goal.returns
returns c =
    let laws : RunLaws = record {
      longer = c.same_run_on_longer_input.ensures;
      reached = c.run_is_after.ensures;
      grows = c.output_only_grows.ensures.steps;
      compared = c.output_only_grows.ensures.compared;
      itself = c.prefixes_are_ordered.ensures.itself;
      through = c.prefixes_are_ordered.ensures.through;
    } in
    record {
      outputs = λ p q pairs x y z a b h. outputs_go_on laws p q pairs x a b h y z;
      whole = λ p q pairs x y w a b h. no_other_output laws p q pairs x a b h y w;
      ends = λ p q pairs x y a b e h. ends_go_on laws p q pairs x a b h y e;
      ends_only = λ p q pairs x y a b f h. no_other_end laws p q pairs x a b h y f;
      errors = λ p q pairs x y a b n i m k number h once here.
          errors_go_on laws p q pairs x a b h y once n i m k number here;
      waits = λ p q pairs x y a b h. waits_go_on laws p q pairs x a b h y;
    }
