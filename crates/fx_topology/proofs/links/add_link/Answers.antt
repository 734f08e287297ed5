use Rattle.std.proofs.Common.{refl, ◌∙◌, drop}
use Rattle.serde_json.specs.View.{view}
use Rattle.fx_walk.specs.Pointer.{pointer}
use Rattle.fx_walk.proofs.Faults.{exit, refuses_more}
use Rattle.fx_topology.specs.Links.{link_rows, name_rows}
use Rattle.fx_walk.proofs.RowFaults.{from_rows, reads_behind, reads_last, reads_rows, rows_before, skip}
use Rattle.fx_topology.proofs.links.add_link.Goals as goal

pub returns-in_err-object_of-clause-reads : goal.returns-in_err-object_of-clause-reads
returns-in_err-object_of-clause-reads c =
    exit _ _ _ _ c.from_residual.ensures (c.in_err-object_of.ensures (link_rows c.args.devices.now c.args.earlier.now)
    refl)

pub returns-in_err-link-clause-reads : goal.returns-in_err-link-clause-reads
returns-in_err-link-clause-reads c =
    let up = pointer c.args.path.now in
    let d = view c.args.value.now in
    let rows = link_rows c.args.devices.now c.args.earlier.now in
    exit _ _ _ _ c.from_residual-in_err-link.ensures
    (from_rows _ _ _ (c.in_ok-object_of.ensures rows refl ∙ rows_before name_rows (drop 5 rows) up d)
    (refuses_more _ _ _ c.in_err-link.ensures))

pub returns-in_err-ends_are_there-clause-reads : goal.returns-in_err-ends_are_there-clause-reads
returns-in_err-ends_are_there-clause-reads c =
    let up = pointer c.args.path.now in
    let d = view c.args.value.now in
    let rows = link_rows c.args.devices.now c.args.earlier.now in
    exit _ _ _ _ c.from_residual-in_err-ends_are_there.ensures
    (from_rows _ _ _ (c.in_ok-object_of.ensures rows refl ∙ rows_before name_rows (drop 5 rows) up d)
    (skip _ _ _ c.in_ok-link.ensures.0 (refuses_more _ _ _
    (rw (c.in_ok-link.ensures.1) at c.in_err-ends_are_there.ensures))))

pub returns-clause-reads : goal.returns-clause-reads
returns-clause-reads c =
    let up = pointer c.args.path.now in
    let d = view c.args.value.now in
    let rows = link_rows c.args.devices.now c.args.earlier.now in
    let there = rw (c.in_ok-link.ensures.1) at c.in_ok-ends_are_there.ensures in
    let alone = rw (c.in_ok-link.ensures.1) at c.add_alone.ensures.reads in
    reads_rows _ _ _ _ (c.in_ok-object_of.ensures rows refl ∙ rows_before name_rows (drop 5 rows) up d)
    (reads_behind _ _ _ _ c.in_ok-link.ensures.0 (reads_behind _ _ _ _ there.0 (reads_last _ _ _ alone)))

pub returns-clause-links : goal.returns-clause-links
returns-clause-links c = rw (c.in_ok-link.ensures.1) at c.add_alone.ensures.links
