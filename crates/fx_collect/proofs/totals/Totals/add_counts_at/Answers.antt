use Rattle.std.proofs.Common.{◌≡◌, ℕ, List, ap, sym, ◌∙◌, subst}
use Rattle.std.specs.Map.{lookup}
use Rattle.std.specs.Prelude.{bytes_eq}
use Rattle.indexmap.specs.IndexMap.{insert_entry}
use Rattle.fx_base.specs.declared.counts.Counts.{Counts}
use Rattle.fx_layout.specs.Keys.{Layout, HasBits}
use Rattle.fx_tables.specs.declared.record.Record.{Record}
use Rattle.fx_machine.specs.States.{add_at}
use Rattle.fx_collect.specs.Totals.{Totals, counts_with, records_of, AllHaveBits}
use Rattle.fx_collect.proofs.MapsOfCounts.{insert_adds, insert_has_bits, put_at, put_new}
use Rattle.fx_collect.proofs.totals.Totals.add_counts_at.Goals.{in-Some, in-None+in_ok-insert-in-None}
use Rattle.fx_collect.proofs.totals.Totals.add_counts_at.Goals as goal

-- the values have their bits, and keep them
kept : (t : Totals) (layout : Layout) (es after : List (List ℕ × Counts)) (k : List ℕ) (n : Counts) → layout ≡ t.layout
    → HasBits t.layout k → AllHaveBits layout es → after ≡ insert_entry bytes_eq es k n → AllHaveBits layout after
kept t layout es after k n own h inv is =
    subst (λ (xs : List (List ℕ × Counts)). AllHaveBits layout xs) (sym is)
    (insert_has_bits layout es k n (subst (λ (l : Layout). HasBits l k) (sym own) h) inv)

pub invariant_of-self : goal.invariant_of-self
invariant_of-self c =
    let values = c.args.values.now in
    kept c.args.self.now c.self.inside.layout c.self.inside.counts.entries _ values _
    (ap (λ (t : Totals). t.layout) c.self.view_is) c.requires c.self.invariant
    (put_at c.self.inside.counts.entries values c.in-Some.index c.index_mut-total.result.now c.args.counts.now
    c.add.result (sym c.in-Some.ensures.index) (sym c.in-Some.ensures.value ∙ c.index_mut-total.ensures.value)
    c.add.ensures)

pub invariant_of-self-in_ok-insert-in-None : goal.invariant_of-self-in_ok-insert-in-None
invariant_of-self-in_ok-insert-in-None c =
    let es = c.self.inside.counts.entries in
    let copied : insert_entry bytes_eq es c.copy.result c.args.counts.now
    ≡ insert_entry bytes_eq es c.args.values.now c.args.counts.now =
    ap (λ (k : List ℕ). insert_entry bytes_eq es k c.args.counts.now) c.copy.ensures in
    kept c.args.self.now c.self.inside.layout es c.insert.new.self.entries c.args.values.now c.args.counts.now
    (ap (λ (t : Totals). t.layout) c.self.view_is) c.requires c.self.invariant
    (c.in_ok-insert-in-None.ensures.entries ∙ copied)

-- what was put is what was counted before with these counts
counted : (t : Totals) (layout : Layout) (es after : List (List ℕ × Counts)) (unassigned : ℕ) (k : List ℕ) (n : Counts)
    → record { layout = layout; entries = records_of layout es; unassigned = unassigned } ≡ t
    → after ≡ insert_entry bytes_eq es k (counts_with (lookup (bytes_eq k) es) n)
    → record { layout = layout; entries = records_of layout after; unassigned = unassigned }
    ≡ record t { entries = add_at t.entries (record { layout = t.layout; values = k }) n }
counted t layout es after unassigned k n view is =
    ap with_entries (ap (records_of layout) is ∙ insert_adds layout es k n)
    ∙ ap (λ (u : Totals). record u { entries = add_at u.entries (record { layout = u.layout; values = k }) n }) view
  where
    with_entries : List Record → Totals
    with_entries rs = record { layout = layout; entries = rs; unassigned = unassigned }

pub returns-clause-ok : goal.returns-clause-ok
returns-clause-ok c =
    let values = c.args.values.now in
    let es = c.self.inside.counts.entries in
    elim c.match-get_index_of.branch [
      | in-Some w ↦ w.self-is ∙ counted c.args.self.now c.self.inside.layout es _ c.self.inside.unassigned values
          c.args.counts.now c.self.view_is
          (put_at es values w.in-Some.index w.index_mut-total.result.now c.args.counts.now w.add.result
          (sym w.in-Some.ensures.index) (sym w.in-Some.ensures.value ∙ w.index_mut-total.ensures.value)
          w.add.ensures)
      | in-None+in_ok-insert-in-None w ↦ w.self-is
          ∙ counted c.args.self.now c.self.inside.layout es w.insert.new.self.entries c.self.inside.unassigned values
          c.args.counts.now c.self.view_is
          (w.in_ok-insert-in-None.ensures.entries
          ∙ ap (λ (k : List ℕ). insert_entry bytes_eq es k c.args.counts.now) w.copy.ensures
          ∙ put_new es values c.args.counts.now (sym w.in-None.ensures.found))
    ]
