use Rattle.std.proofs.Common.{refl, sym}
use Rattle.wk_list.proofs.TakenLemmas.{all_left, puts_last, puts_on, refused, stopped}
use Rattle.wk_list.proofs.code.list_long_line.Goals as goal

pub returns-in_err-put_buf : goal.returns-in_err-put_buf
returns-in_err-put_buf g c = stopped (puts_on _ (all_left refl) refl c.in_err-put_buf.ensures) c.from_residual.ensures

pub returns-in_err-put_line : goal.returns-in_err-put_line
returns-in_err-put_line g c = refused (puts_on _ (all_left refl) refl c.in_ok-put_buf.ensures) c.from_residual-in_err-put_line.ensures

pub returns : goal.returns
returns g c = puts_last (puts_on _ (all_left refl) refl c.in_ok-put_buf.ensures) (sym c.in_ok-put_line.ensures) c.spill.ensures
