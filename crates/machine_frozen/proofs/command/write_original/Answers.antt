use Rattle.std.proofs.Common.{rules, ◌≡◌, inl, inr, Some, Err, refl}
use Rattle.machine_state.specs.Command.{text_bytes}
use Rattle.machine_frozen.specs.Text.{IsOriginalText}
use Rattle.machine_frozen.proofs.Told.{some_text}
use Rattle.machine_frozen.proofs.command.write_original.Goals as goal

pub returns-in_err-text-clause-err : goal.returns-in_err-text-clause-err
returns-in_err-text-clause-err g c =
    let failed : c.from_residual-in_err-text.result ≡ Err c.in_err-text.field-0.0 = search rules in
    let it = c.in_ok-opened.opened in
    let refused = rw c.as_slice.ensures.value at c.in_err-text.ensures.err in
    let of_file = inr (it.original, it.frozen, it.trailer.read, it.trailer.wrote, c.in_ok-opened.ensures.ok, refused) in
    rw failed (inr (inr (c.in_ok-input.input.items, c.in_ok-input.ensures.ok, inl (of_file, refl))))

pub returns-in_err-stated-clause-err : goal.returns-in_err-stated-clause-err
returns-in_err-stated-clause-err g c =
    let failed : c.from_residual-in_err-stated.result ≡ Err c.in_err-stated.field-0.0 = search rules in
    let it = c.in_ok-opened.opened in
    let there = some_text c.in_ok-text.text c.in_err-stated.ensures.err.1 in
    let exact : IsOriginalText c.args.bytes.now c.in_ok-input.input.items c.args.steps (Some there.0) = record {
      p = it.original;
      q = it.frozen;
      read = it.trailer.read;
      wrote = it.trailer.wrote;
      file = c.in_ok-opened.ensures.ok;
      answer = rw (c.as_slice.ensures.value, there.1) at c.in_ok-text.ensures.ok;
    } in
    rw failed
    (inr
    (inr (c.in_ok-input.input.items, c.in_ok-input.ensures.ok, inr (c.in_err-stated.ensures.err.0, there.0, exact))))

pub returns-clause-ok : goal.returns-clause-ok
returns-clause-ok g c = record {
  input = c.in_ok-input.input.items;
  read = c.in_ok-input.ensures.ok;
  text = text_bytes c.in_ok-text.text;
  exact = record {
    p = c.in_ok-opened.opened.original;
    q = c.in_ok-opened.opened.frozen;
    read = c.in_ok-opened.opened.trailer.read;
    wrote = c.in_ok-opened.opened.trailer.wrote;
    file = c.in_ok-opened.ensures.ok;
    answer = rw c.as_slice.ensures.value at c.in_ok-text.ensures.ok;
  };
  told = c.in_ok-stated.ensures.ok;
}
