use Rattle.std.proofs.Common.{Bool, ◌&&◌, ◌==◌, ap, sym, ◌∙◌}
use Rattle.std.proofs.lemmas.Bool.{and_from}
use Rattle.std.proofs.lemmas.List.{take_all}
use Rattle.std.proofs.lemmas.List.Folds.{list_all_at, list_all_more}
use Rattle.std.specs.List.{list_all}
use Rattle.fx_layout.specs.Keys.{bits_on, reads}
use Rattle.fx_tables.specs.declared.aggregation.MatchEntry.{MatchEntry}
use Rattle.fx_tables.proofs.takers.matches.Goals as goal

pub returns-then-not-matches_entry : goal.returns-then-not-matches_entry
returns-then-not-matches_entry c =
    let key = c.args.key.now in
    let has : MatchEntry → Bool = λ e. reads key.layout e.axis e.bits && bits_on key e.axis e.bits == e.value in
    sym (list_all_at has c.args.entries.now c.loop-entry.entry-index _ c.loop-entry-test.true
    (sym c.matches_entry.ensures ∙ c.if-not-matches_entry.true))

pub loop-entry-preserved : goal.loop-entry-preserved
loop-entry-preserved c =
    let key = c.args.key.now in
    let has : MatchEntry → Bool = λ e. reads key.layout e.axis e.bits && bits_on key e.axis e.bits == e.value in
    list_all_more has c.args.entries.now c.loop-entry.entry-index _ c.loop-entry-test.true
    ∙ and_from _ _ c.loop-entry.invariant (sym c.matches_entry.ensures ∙ c.if-not-matches_entry.false)

pub returns : goal.returns
returns c =
    let key = c.args.key.now in
    let has : MatchEntry → Bool = λ e. reads key.layout e.axis e.bits && bits_on key e.axis e.bits == e.value in
    sym c.loop-entry.invariant ∙ ap (list_all has)
    (take_all c.loop-entry.entry-index c.args.entries.now c.loop-entry-test.false)
