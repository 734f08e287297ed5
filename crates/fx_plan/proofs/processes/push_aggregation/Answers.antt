use Rattle.std.proofs.Common.{◌≡◌, ℕ, List, [], ◌∷◌, ◌++◌, length, map, refl, ap, ◌∙◌}
use Rattle.fx_tables.specs.declared.aggregation.MatchEntry.{MatchEntry}
use Rattle.fx_tables.specs.Network.{AggregationEntry, Holder}
use Rattle.fx_plan.specs.Tables.{holder_with, match_entry}
use Rattle.fx_plan.proofs.processes.push_aggregation.Goals as goal

abbrev entry_of : ℕ → List MatchEntry → AggregationEntry
entry_of holder matches = record { holder = holder; matches = matches }

same_entry : (h k : ℕ) (ms ns : List MatchEntry) → h ≡ k → ms ≡ ns → entry_of h ms ≡ entry_of k ns
same_entry h k ms ns holder matches = rw (holder, matches) refl

pub returns-clause-held : goal.returns-clause-held
returns-clause-held c =
    let holder = c.in_ok-holder_with.ensures
    ∙ ap (holder_with c.args.exporting.now c.args.device.now c.args.aggregation.now.key) c.as_slice-names.ensures in
    c.in_ok-push-2.ensures.items ∙ ap (λ (h : Holder). c.args.holders.now.items ++ h ∷ []) holder

pub returns-clause-tables : goal.returns-clause-tables
returns-clause-tables c =
    let entry : c.new.result ≡ entry_of (length c.args.holders.now.items)
    (map match_entry c.args.aggregation.now.matches) = c.new.ensures
    ∙ same_entry _ _ _ _ (c.len.ensures ∙ c.args.holders.now.ok.0)
    (c.in_ok-matches.ensures ∙ ap (map match_entry) c.as_slice.ensures) in
    ◌∙◌ {A = List AggregationEntry} c.in_ok-push.ensures.items
    (ap (λ (e : AggregationEntry). c.args.taken.now.items ++ e ∷ []) entry)
