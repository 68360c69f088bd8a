use Rattle.std.proofs.Common.{sym, ◌∙◌}
use Rattle.std.proofs.lemmas.Result.{err_from_is_err_and}
use Rattle.ds_script.proofs.bad_line.pass_over.Goals as goal

pub returns-in_err-send : goal.returns-in_err-send
returns-in_err-send g c =
    let exit = err_from_is_err_and c.from_residual-in_err-send.result c.from_residual-in_err-send.ensures.1 in
    let e = (c.in_err-send.ensures).err in
    rw (exit.1, exit.2) ((c.in_err-send.ensures).cause, (e.0, e.1, sym (c.in_ok-append_badline.ensures).written ∙ e.2, e.3))
