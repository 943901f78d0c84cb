use Rattle.std.proofs.Common.{rules, ◌≡◌, inr, Err}
use Rattle.machine_frozen.proofs.answer.original_text.Goals as goal

pub returns-in_err-text-clause-err : goal.returns-in_err-text-clause-err
returns-in_err-text-clause-err c =
    let failed : c.from_residual-in_err-text.result ≡ Err c.in_err-text.field-0.0 = search rules in
    let it = c.in_ok-opened.opened in
    rw failed
    (inr
    (it.original, it.frozen, it.trailer.read, it.trailer.wrote, c.in_ok-opened.ensures.ok, c.in_err-text.ensures.err))

pub returns-clause-ok : goal.returns-clause-ok
returns-clause-ok c = record {
  p = c.in_ok-opened.opened.original;
  q = c.in_ok-opened.opened.frozen;
  read = c.in_ok-opened.opened.trailer.read;
  wrote = c.in_ok-opened.opened.trailer.wrote;
  file = c.in_ok-opened.ensures.ok;
  answer = c.in_ok-text.ensures.ok;
}
