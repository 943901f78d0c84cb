use Rattle.group_process.proofs.RunHistories.{runs_history}
use Rattle.group_process.proofs.laws.runs_are_histories.Goals as goal

pub returns : goal.returns
returns c = λ p me m runs down h. let (last, history, stands, shows) = runs_history p me runs m down h in (last, history, stands)
