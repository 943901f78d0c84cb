use Rattle.net_run.proofs.shown.ShownNode.turn.Goals as goal

pub returns-clause-acts : goal.returns-clause-acts
returns-clause-acts g c =
    c.deeds_go_on.ensures.more _ _ _ _ _ _ _ _ c.in_ok-turned.ensures.acts (c.in_ok-show_output.ensures.acts _)
