use Rattle.std.proofs.Common.{◌≡◌, List, Bool, false, Vec, Global, Some, None, length, map, slice_get, sym, ap, ◌∙◌, refl, subst, get_or}
use Rattle.std.proofs.lemmas.Option.{slice_get_read, slice_get_past}
use Rattle.fx_tables.specs.Network.{Net}
use Rattle.fx_ranks.specs.Feeding.{linked_processes}
use Rattle.fx_ranks.proofs.LinkedProcesses.{leads_in_row}
use Rattle.fx_ranks.proofs.linked_processes.LinkedProcesses.leads_at.Goals as goal

pub returns-in-Some : goal.returns-in-Some
returns-in-Some c =
    let all = c.self.inside.rows.items in
    let rows : map (λ (row : Vec Bool Global). row.items) all
    ≡ map (linked_processes c.args.self.now) c.args.self.now.exporters =
    subst (λ (n : Net). map (λ (row : Vec Bool Global). row.items) c.self.inside.rows.items
    ≡ map (linked_processes n) n.exporters) c.self.view_is c.self.invariant in
    let found = rw c.as_slice.ensures.value at c.in-Some.ensures.lookup in
    let here : slice_get all c.args.index ≡ Some c.in-Some.row.now =
    slice_get_read all (length all) c.args.index c.in-Some.row.now refl found.3.0 found.1 in
    c.flag_at.ensures
    ∙ (ap (λ (r : List Bool). get_or r c.args.process false) c.as_slice-in-Some.ensures.value
    ∙ leads_in_row c.args.self.now (λ (row : Vec Bool Global). row.items) all c.args.process c.args.index
    (Some c.in-Some.row.now) (sym here) rows c.requires)

pub returns-in-None : goal.returns-in-None
returns-in-None c =
    let all = c.self.inside.rows.items in
    let rows : map (λ (row : Vec Bool Global). row.items) all
    ≡ map (linked_processes c.args.self.now) c.args.self.now.exporters =
    subst (λ (n : Net). map (λ (row : Vec Bool Global). row.items) c.self.inside.rows.items
    ≡ map (linked_processes n) n.exporters) c.self.view_is c.self.invariant in
    let past = rw c.as_slice.ensures.value at c.in-None.ensures.lookup in
    leads_in_row c.args.self.now (λ (row : Vec Bool Global). row.items) all c.args.process c.args.index None
    (sym (slice_get_past all c.args.index past.3)) rows c.requires
