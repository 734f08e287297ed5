use Rattle.std.proofs.Common.{ℕ, List, ap, sym, subst, IsPermutation}
use Rattle.std.specs.Ordering.{nat_cmp}
use Rattle.std.specs.Cmp.Lexicographic.{slice_cmp}
use Rattle.std.specs.List.Sorted.{IsSorted}
use Rattle.std.proofs.lemmas.List.Sorted.{IsPermutation-map, All-permutation}
use Rattle.fx_base.specs.declared.counts.Counts.{Counts}
use Rattle.fx_layout.specs.Keys.{HasBits}
use Rattle.fx_tables.specs.declared.record.Record.{Record}
use Rattle.fx_collect.specs.Totals.{Totals, record_of, records_of}
use Rattle.fx_collect.proofs.MapsOfCounts.{values_are}
use Rattle.fx_collect.proofs.totals.Totals.sort.Goals as goal

pub invariant_of-self-2 : goal.invariant_of-self-2
invariant_of-self-2 c =
    All-permutation (λ (p : List ℕ × Counts). HasBits c.self.inside.layout p.0) c.self.inside.counts.entries
    c.sort_keys.new.self.entries c.in_ok-sort_keys.ensures.reordered.0 c.self.invariant

pub returns-clause-sorted : goal.returns-clause-sorted
returns-clause-sorted c =
    subst (λ (vs : List (List ℕ)). IsSorted (slice_cmp nat_cmp) vs)
    (sym (values_are c.self.inside.layout c.sort_keys.new.self.entries)) c.in_ok-sort_keys.ensures.sorted

pub returns-clause-same : goal.returns-clause-same
returns-clause-same c =
    let moved : IsPermutation (records_of c.self.inside.layout c.self.inside.counts.entries)
    (records_of c.self.inside.layout c.sort_keys.new.self.entries) =
    IsPermutation-map (record_of c.self.inside.layout) _ _ c.in_ok-sort_keys.ensures.reordered.0 in (
      subst (λ (rs : List Record). IsPermutation rs (records_of c.self.inside.layout c.sort_keys.new.self.entries))
          (ap (λ (t : Totals). t.entries) c.self.view_is) moved,
      ap (λ (t : Totals). t.layout) c.self.view_is,
      ap (λ (t : Totals). t.unassigned) c.self.view_is,
    )
