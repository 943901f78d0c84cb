use Rattle.std.proofs.Common.{inl, inr, ap}
use Rattle.std.proofs.lemmas.Result.{err_from_is_err_and}
use Rattle.node_io.specs.declared.fault.GroupFault.TheVariants as group
use Rattle.net_run.proofs.net.nodes.Goals as goal

pub returns-in_err-config : goal.returns-in_err-config
returns-in_err-config g c =
    let p = err_from_is_err_and c.from_residual.result c.from_residual.ensures.1 in
    record {
      others = rw (p.1, p.2)
          (elim c.in_err-config.ensures.others [
            | inl size ↦ inr (inl (ap group.Node size))
            | inr id ↦ inr (inr (inl (ap group.Node id)))
          ]);
    }

pub returns-in_err-start : goal.returns-in_err-start
returns-in_err-start g c =
    let p = err_from_is_err_and c.from_residual-in_err-start.result c.from_residual-in_err-start.ensures.1 in
    record { others = rw (p.1, p.2) (inr (inr (inr (inr (inr (inr c.in_err-start.ensures.others)))))) }
