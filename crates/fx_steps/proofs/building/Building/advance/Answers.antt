use Rattle.std.proofs.Common.{◌≡◌, ◌∙◌, ◌++◌, ◌∷◌, [], ℕ, List, length, length-append, drop, sym, subst, ap, ap₂, arith}
use Rattle.std.proofs.Math.Seq.{drop-append_seam}
use Rattle.std.specs.List.{AllByRecursion}
use Rattle.fx_tables.specs.Network.{Net}
use Rattle.fx_steps.specs.declared.pending.Pending.{Pending}
use Rattle.fx_steps.specs.Planning.{step_pending, total_cost, IsThere}
use Rattle.fx_steps.specs.Waiting.{Wait, HasPlace}
use Rattle.fx_steps.proofs.RecordsBehind.{top, places_of, planned_places, few_pending}
use Rattle.fx_steps.proofs.building.Building.advance.Goals as goal

pub count_behind-requires-clause-there : goal.count_behind-requires-clause-there
count_behind-requires-clause-there c =
    let t = c.args.costs.now.tables in
    let rows = c.args.costs.now.table in
    let fields = c.args.costs.now.packet.fields in
    let xs = c.args.self.now.plan.pending.items in
    let x = c.args.top in
    let ps = step_pending rows t.net t.numbering fields x in
    let so = top t c.requires.prepared.tables c.requires.prepared.runnable fields rows c.requires.prepared.filled
    (length c.args.self.now.steps.items) xs x c.args.self.now.waiting c.requires.leaves in
    let e : drop (length c.as_slice-from.result.now) c.step_of.new.self.plan.pending.items ≡ ps =
    ap₂ (λ (k : ℕ) (ys : List Pending). drop k ys) (ap length c.as_slice-from.ensures.value)
    c.in_ok-step.ensures.leaves.pending ∙ drop-append_seam xs ps in
    let base = places_of rows t.net t.numbering ps
    (planned_places t c.requires.prepared.tables c.requires.prepared.runnable fields rows c.requires.prepared.filled
    x so.is) in
    subst (λ (ys : List Pending). AllByRecursion
    (HasPlace (length c.net.result.now.holders) (length c.net.result.now.links)) ys) (sym e)
    (subst (λ (m : Net). AllByRecursion (HasPlace (length m.holders) (length m.links)) ps) (sym c.net.ensures) base)

pub count_behind-requires-clause-few : goal.count_behind-requires-clause-few
count_behind-requires-clause-few c =
    let t = c.args.costs.now.tables in
    let rows = c.args.costs.now.table in
    let fields = c.args.costs.now.packet.fields in
    let xs = c.args.self.now.plan.pending.items in
    let x = c.args.top in
    let ps = step_pending rows t.net t.numbering fields x in
    let so = top t c.requires.prepared.tables c.requires.prepared.runnable fields rows c.requires.prepared.filled
    (length c.args.self.now.steps.items) xs x c.args.self.now.waiting c.requires.leaves in
    omega (
      arith,
      ap length c.in_ok-step.ensures.leaves.pending,
      few_pending rows t.net t.numbering (xs ++ ps),
      so.same,
      c.requires.leaves.few,
    )

pub returns-clause-leaves : goal.returns-clause-leaves
returns-clause-leaves c =
    let t = c.args.costs.now.tables in
    let rows = c.args.costs.now.table in
    let fields = c.args.costs.now.packet.fields in
    let xs = c.args.self.now.plan.pending.items in
    let x = c.args.top in
    let ps = step_pending rows t.net t.numbering fields x in
    let so = top t c.requires.prepared.tables c.requires.prepared.runnable fields rows c.requires.prepared.filled
    (length c.args.self.now.steps.items) xs x c.args.self.now.waiting c.requires.leaves in
    let new = c.count_behind.new.self in
    let pending : new.plan.pending.items ≡ xs ++ ps = c.count_behind.ensures.pending
    ∙ c.in_ok-step.ensures.leaves.pending in
    let old : new.steps.items ≡ c.args.self.now.steps.items = c.count_behind.ensures.steps ∙ c.step_of.ensures.steps in
    record {
      there = subst (λ (ys : List Pending). AllByRecursion (IsThere t.net t.numbering) ys) (sym pending) so.there;
      waiting = subst (λ (m : Net). Wait m new.plan.pending.items new.waiting) c.net.ensures
          c.count_behind.ensures.waiting;
      few = omega (
        arith,
        ap length c.in_ok-push.ensures.items,
        length-append new.steps.items (c.in_ok-step.step ∷ []),
        ap length old,
        ap (total_cost rows t.net t.numbering) pending,
        so.same,
        c.requires.leaves.few,
      );
    }
