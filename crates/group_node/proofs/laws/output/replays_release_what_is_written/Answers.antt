use Rattle.group_node.proofs.laws.output.replays_release_what_is_written.Goals as goal

pub returns : goal.returns
returns c = record { written = λ x q h. h.released }
