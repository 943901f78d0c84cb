use Rattle.std.proofs.Common.{length, sym, arith}
use Rattle.std.proofs.lemmas.List.{take_all}
use Rattle.group_disk.proofs.CallsInTurn.{find_records, have_starts, loads_no_more, new_folder, write_at}
use Rattle.group_disk.proofs.laws.calls_are_starts.Goals as goal

pub returns : goal.returns
returns g c = record {
  starts = λ p me folder calls is_honest are. have_starts g.D.Disk.honest g.D.Disk.folder is_honest p me folder calls are;
  new = new_folder;
  finds = λ p me folder calls is_honest small good are hand.
      find_records g.D.Disk.honest g.D.Disk.folder is_honest p me folder calls small good are hand;
  between = loads_no_more;
  terminal = λ p me folder calls shown now are at. write_at g.D.Disk.honest g.D.Disk.folder p me now folder shown shown (length shown) calls
      (sym (take_all (length shown) shown (omega arith))) are at;
}
