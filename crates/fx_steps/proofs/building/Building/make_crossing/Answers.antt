use Rattle.std.proofs.Common.{◌≡◌, ◌∙◌, ◌++◌, ◌∷◌, [], List, length, length-append, sym, subst, ap, ap₂, arith}
use Rattle.std.specs.List.{AllByRecursion}
use Rattle.fx_elements.specs.Axes.{Fields}
use Rattle.fx_tables.specs.Network.{Net}
use Rattle.fx_tables.specs.Occurrences.{occurrences}
use Rattle.fx_tables.specs.declared.observation.Occurrence.{Occurrence}
use Rattle.fx_run_text.specs.declared.step.Step.TheVariants.{Cross}
use Rattle.fx_leaf.specs.Fates.{both}
use Rattle.fx_leaf.proofs.Verdicts.{both_assoc}
use Rattle.fx_steps.specs.declared.costs.Costs.{Costs}
use Rattle.fx_steps.specs.declared.pending.Pending.{Pending}
use Rattle.fx_steps.specs.Costs.{one_step_more}
use Rattle.fx_steps.specs.Planning.{occurrence_pending, occurrence_choices, total_cost, IsThere}
use Rattle.fx_steps.specs.Spread.{shares}
use Rattle.fx_steps.specs.UnderWay.{UnderWay}
use Rattle.fx_steps.proofs.Crossings.{shared, crossed}
use Rattle.fx_steps.proofs.building.Building.make_crossing.Goals as goal

pub cross-requires-clause-there : goal.cross-requires-clause-there
cross-requires-clause-there c =
    let t = c.args.costs.now.tables in
    let net = t.net in
    let n = t.numbering in
    let p = c.args.costs.now.packet in
    let rows = c.args.costs.now.table in
    let crossing = c.args.crossing.now in
    let os = c.as_slice-occurrences.result.now in
    let met = c.as_slice-occurrences.ensures.value ∙ c.in_ok-occurrences.ensures
    ∙ ap₂ (λ (m : Net) (fields : Fields). occurrences m crossing fields) c.net.ensures c.fields.ensures in
    let is = c.shares-now.ensures ∙ ap₂ (λ (a b : Costs). shares a b c.args.left)
    (c.one_step_more-here.ensures ∙ ap one_step_more c.occurrence_costs.ensures) c.path_costs-others.ensures in
    let share = shared t c.requires.prepared.tables c.requires.prepared.runnable p.fields rows
    c.requires.prepared.filled (length c.args.self.now.steps.items) crossing c.args.rest.now c.args.left os
    c.shares-now.result c.requires.cheap met is in
    share.holders

pub cross-requires-clause-cheap : goal.cross-requires-clause-cheap
cross-requires-clause-cheap c =
    let t = c.args.costs.now.tables in
    let net = t.net in
    let n = t.numbering in
    let p = c.args.costs.now.packet in
    let rows = c.args.costs.now.table in
    let crossing = c.args.crossing.now in
    let os = c.as_slice-occurrences.result.now in
    let met = c.as_slice-occurrences.ensures.value ∙ c.in_ok-occurrences.ensures
    ∙ ap₂ (λ (m : Net) (fields : Fields). occurrences m crossing fields) c.net.ensures c.fields.ensures in
    let is = c.shares-now.ensures ∙ ap₂ (λ (a b : Costs). shares a b c.args.left)
    (c.one_step_more-here.ensures ∙ ap one_step_more c.occurrence_costs.ensures) c.path_costs-others.ensures in
    let share = shared t c.requires.prepared.tables c.requires.prepared.runnable p.fields rows
    c.requires.prepared.filled (length c.args.self.now.steps.items) crossing c.args.rest.now c.args.left os
    c.shares-now.result c.requires.cheap met is in
    share.cheap

pub finish-requires-clause-leaves : goal.finish-requires-clause-leaves
finish-requires-clause-leaves c =
    let t = c.args.costs.now.tables in
    let net = t.net in
    let n = t.numbering in
    let p = c.args.costs.now.packet in
    let rows = c.args.costs.now.table in
    let crossing = c.args.crossing.now in
    let os = c.as_slice-occurrences.result.now in
    let met = c.as_slice-occurrences.ensures.value ∙ c.in_ok-occurrences.ensures
    ∙ ap₂ (λ (m : Net) (fields : Fields). occurrences m crossing fields) c.net.ensures c.fields.ensures in
    let is = c.shares-now.ensures ∙ ap₂ (λ (a b : Costs). shares a b c.args.left)
    (c.one_step_more-here.ensures ∙ ap one_step_more c.occurrence_costs.ensures) c.path_costs-others.ensures in
    let share = shared t c.requires.prepared.tables c.requires.prepared.runnable p.fields rows
    c.requires.prepared.filled (length c.args.self.now.steps.items) crossing c.args.rest.now c.args.left os
    c.shares-now.result c.requires.cheap met is in
    let e = c.in_ok-cross.ensures in
    record {
      there = subst (λ (ys : List Pending). AllByRecursion (IsThere net n) ys) (sym e.pending) share.there;
      waiting = e.waiting;
      few = omega (
        arith,
        ap length e.steps,
        length-append c.args.self.now.steps.items
            (Cross 1 c.args.number (occurrence_choices os) ∷ []),
        ap (total_cost rows net n) e.pending,
        share.same,
        c.requires.cheap,
      );
    }

pub returns-clause-number : goal.returns-clause-number
returns-clause-number c =
    let t = c.args.costs.now.tables in
    let net = t.net in
    let n = t.numbering in
    let p = c.args.costs.now.packet in
    let rows = c.args.costs.now.table in
    let crossing = c.args.crossing.now in
    let os = c.as_slice-occurrences.result.now in
    let met = c.as_slice-occurrences.ensures.value ∙ c.in_ok-occurrences.ensures
    ∙ ap₂ (λ (m : Net) (fields : Fields). occurrences m crossing fields) c.net.ensures c.fields.ensures in
    let is = c.shares-now.ensures ∙ ap₂ (λ (a b : Costs). shares a b c.args.left)
    (c.one_step_more-here.ensures ∙ ap one_step_more c.occurrence_costs.ensures) c.path_costs-others.ensures in
    let share = shared t c.requires.prepared.tables c.requires.prepared.runnable p.fields rows
    c.requires.prepared.filled (length c.args.self.now.steps.items) crossing c.args.rest.now c.args.left os
    c.shares-now.result c.requires.cheap met is in
    let e = c.in_ok-cross.ensures in
    omega (
      arith,
      c.in_ok-finish.ensures.number,
      ap length e.steps,
      length-append c.args.self.now.steps.items
          (Cross 1 c.args.number (occurrence_choices os) ∷ []),
      ap (total_cost rows net n) e.pending,
      share.same,
    )

pub returns-clause-way : goal.returns-clause-way
returns-clause-way c classes coming f at way =
    let t = c.args.costs.now.tables in
    let net = t.net in
    let n = t.numbering in
    let p = c.args.costs.now.packet in
    let rows = c.args.costs.now.table in
    let crossing = c.args.crossing.now in
    let os = c.as_slice-occurrences.result.now in
    let met = c.as_slice-occurrences.ensures.value ∙ c.in_ok-occurrences.ensures
    ∙ ap₂ (λ (m : Net) (fields : Fields). occurrences m crossing fields) c.net.ensures c.fields.ensures in
    let is = c.shares-now.ensures ∙ ap₂ (λ (a b : Costs). shares a b c.args.left)
    (c.one_step_more-here.ensures ∙ ap one_step_more c.occurrence_costs.ensures) c.path_costs-others.ensures in
    let share = shared t c.requires.prepared.tables c.requires.prepared.runnable p.fields rows
    c.requires.prepared.filled (length c.args.self.now.steps.items) crossing c.args.rest.now c.args.left os
    c.shares-now.result c.requires.cheap met is in
    let e = c.in_ok-cross.ensures in
    let now = c.shares-now.result.0 in
    let later = c.shares-now.result.1 in
    let new = c.cross.new.self in
    let last : new.steps.items ≡ c.args.self.now.steps.items
    ++ Cross 1 c.args.number (occurrence_choices (occurrences net crossing p.fields)) ∷ [] = e.steps
    ∙ ap (λ (os : List Occurrence). c.args.self.now.steps.items ++ Cross 1 c.args.number (occurrence_choices os)
    ∷ []) share.met in
    let pending : new.plan.pending.items ≡ occurrence_pending rows net n (occurrences net crossing p.fields) now =
    e.pending ∙ ap (λ (os : List Occurrence). occurrence_pending rows net n os now) share.met in
    let made = crossed net n rows classes p c.requires.prepared.tables.network crossing c.args.number coming f now
    c.args.self.now.steps.items new.steps.items at share.crosses last way in (
      both f now,
      both_assoc f now later ∙ ap (both f) share.fate,
      c.in_ok-finish.ensures.way classes coming (both f now)
          (subst (λ (ys : List Pending). UnderWay net n classes p coming (both f now) new.steps.items ys) (sym pending)
          made),
    )
