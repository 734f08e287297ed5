use Rattle.fx_walk.proofs.Faults.{exit, refuses_more}
use Rattle.fx_config.proofs.ipfix.refers.Goals as goal

pub returns-in_err-items_refer : goal.returns-in_err-items_refer
returns-in_err-items_refer c =
    exit _ _ _ _ c.from_residual.ensures (refuses_more _ _ _
    (rw c.get-selecting.ensures at c.in_err-items_refer.ensures))

pub returns-in_err-items_refer-2 : goal.returns-in_err-items_refer-2
returns-in_err-items_refer-2 c =
    let points = rw c.get-selecting.ensures at c.in_ok-items_refer.ensures in
    exit _ _ _ _ c.from_residual-in_err-items_refer-2.ensures
    (rw points.0 (refuses_more _ _ _ (rw c.get-caches.ensures at c.in_err-items_refer-2.ensures)))

pub returns-in_err-items_refer-3 : goal.returns-in_err-items_refer-3
returns-in_err-items_refer-3 c =
    let points = rw c.get-selecting.ensures at c.in_ok-items_refer.ensures in
    let processes = rw c.get-caches.ensures at c.in_ok-items_refer-2.ensures in
    exit _ _ _ _ c.from_residual-in_err-items_refer-3.ensures
    (rw (points.0, processes.0) (refuses_more _ _ _ (rw c.get-exporting.ensures at c.in_err-items_refer-3.ensures)))

pub returns : goal.returns
returns c =
    let points = rw c.get-selecting.ensures at c.in_ok-items_refer.ensures in
    let processes = rw c.get-caches.ensures at c.in_ok-items_refer-2.ensures in
    let caches = rw c.get-exporting.ensures at c.in_ok-items_refer-3.ensures in
    rw (points.0, processes.0, caches.0) (rw c.get-exporting.ensures at c.items_refer-4.ensures)
