use Rattle.std.proofs.Common.{◌≡◌, ◌∙◌, ℕ, ◌<◌, ◌≤◌, ◌⊎◌, inl, inr, Some, length, map, slice_get, sym, ap, arith}
use Rattle.std.proofs.lemmas.Bool.{cases_lt}
use Rattle.std.proofs.lemmas.List.{length-map}
use Rattle.std.proofs.lemmas.Option.{slice_get_within}
use Rattle.group_log.proofs.recent.Recent.index_of.Goals as goal

pub loop-index-preserved : goal.loop-index-preserved
loop-index-preserved c = λ k below h.
    elim (cases_lt k c.loop-index.index) [
      | inl less ↦ c.loop-index.invariant k less h
      | inr more ↦
          let same : k ≡ c.loop-index.index = omega (arith, below, more) in
          let found = c.is_at.ensures.1 (rw same at h) in
          absurd cc
    ]

pub returns-clause-missing : goal.returns-clause-missing
returns-clause-missing c = λ _ n h.
    let within = slice_get_within c.args.self.now n c.args.datagram.now h in
    let size : length c.args.self.now ≡ length c.self.inside.kept.items =
    ap length (sym c.self.view_is) ∙ length-map c.self.inside.kept.items (λ v. v.items)
    in
    c.loop-index.invariant n (omega (arith, within, size, c.len-index-end.ensures.len, c.loop-index-test.false)) h
