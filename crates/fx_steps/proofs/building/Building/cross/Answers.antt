use Rattle.std.proofs.Common.{rules}
use Rattle.std.proofs.Common.{◌≡◌, ◌∙◌, ◌++◌, [], List, length, sym, subst, ap, arith}
use Rattle.std.specs.List.{AllByRecursion}
use Rattle.fx_tables.specs.Network.{Net}
use Rattle.fx_tables.specs.Runnable.{IsHolder}
use Rattle.fx_tables.specs.declared.observation.Occurrence.{Occurrence}
use Rattle.fx_steps.specs.declared.pending.Pending.{Pending}
use Rattle.fx_steps.specs.Planning.{occurrence_pending, IsThere}
use Rattle.fx_steps.specs.Waiting.{HasPlace}
use Rattle.fx_steps.proofs.RecordsBehind.{places_of, few_pending, every_along}
use Rattle.fx_steps.proofs.PlansMeetFates.{meets_meet}
use Rattle.fx_steps.proofs.PlannedPlaces.{meets_there, all_of_every}
use Rattle.fx_steps.proofs.building.Building.cross.Goals as goal

pub count_behind-requires-clause-there : goal.count_behind-requires-clause-there
count_behind-requires-clause-there c =
    let t = c.args.costs.now.tables in
    let rows = c.args.costs.now.table in
    let os = c.args.occurrences.now in
    let ps = occurrence_pending rows t.net t.numbering os c.args.fate in
    let e : c.take_choices.new.self.pending.items ≡ ps = c.take_choices.ensures.pending
    ∙ c.in_ok-add_meetings.ensures.pending ∙ ap (λ (ys : List Pending). ys ++ ps)
    (c.begin.ensures.pending ∙ c.requires.nothing) in
    let all = all_of_every (IsThere t.net t.numbering) ps
    (meets_there rows t.net t.numbering os c.args.fate
    (every_along (λ (o : Occurrence). IsHolder t.net o.holder) os c.requires.there)) in
    subst (λ (ys : List Pending). AllByRecursion
    (HasPlace (length c.net.result.now.holders) (length c.net.result.now.links)) ys) (sym e)
    (subst (λ (m : Net). AllByRecursion (HasPlace (length m.holders) (length m.links)) ps) (sym c.net.ensures)
    (places_of rows t.net t.numbering ps all))

pub count_behind-requires-clause-few : goal.count_behind-requires-clause-few
count_behind-requires-clause-few c =
    let t = c.args.costs.now.tables in
    let rows = c.args.costs.now.table in
    let os = c.args.occurrences.now in
    let ps = occurrence_pending rows t.net t.numbering os c.args.fate in
    let e : c.take_choices.new.self.pending.items ≡ ps = c.take_choices.ensures.pending
    ∙ c.in_ok-add_meetings.ensures.pending ∙ ap (λ (ys : List Pending). ys ++ ps)
    (c.begin.ensures.pending ∙ c.requires.nothing) in
    omega (
      arith,
      ap length e,
      few_pending rows t.net t.numbering ps,
      (meets_meet rows t.net t.numbering [] os c.args.fate c.requires.cheap).cost,
      c.requires.cheap,
    )

pub returns-clause-steps : goal.returns-clause-steps
returns-clause-steps c = first_of (grind arith, search rules)
