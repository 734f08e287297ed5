use Rattle.std.proofs.Common.{◌∙◌, ap, inr}
use Rattle.fx_tables.specs.Network.{Net}
use Rattle.fx_leaf.specs.declared.cause.Cause.TheVariants.{Split}
use Rattle.fx_leaf.proofs.CausesAt.{there_too}
use Rattle.fx_leaf.proofs.PathSelectionVerdicts.{ok_more}
use Rattle.fx_leaf.proofs.PathSplits.{some_more}
use Rattle.fx_leaf.proofs.RemainingMatches.{cause_among_all}
use Rattle.fx_leaf.proofs.table.Verdicts.halving_at.Goals as goal

pub returns-in-Some-get : goal.returns-in-Some-get
returns-in-Some-get c =
    let t = c.args.self.now.tables.now in
    let region = c.args.self.now.region.now in
    let rows = c.args.self.now.rows.now in
    let same = c.processes.ensures ∙ ap (λ (n : Net). n.processes) c.net.ensures in
    let layout = c.in-Some.layout.now in
    let process = c.in-Some-get.found.now in
    let layout_at = c.in-Some.ensures.lookup.3 in
    let process_at = c.in-Some-get.ensures.lookup.3 in
    ok_more _ _ c.halving_among.result (λ o h. some_more _ _ o (λ s among. record {
      layout = layout;
      at = process;
      layout_is = there_too c.layouts.result.now t.numbering.layouts c.args.number layout c.layouts.ensures layout_at.0
          (layout_at.1 layout);
      process_is = there_too c.processes.result.now t.net.processes c.args.process process same process_at.0
          (process_at.1 process);
      is_cause = inr (cause_among_all t region rows layout process.aggregations c.remaining-remaining.result
          (Split s.0 s.1) c.remaining-remaining.ensures.remain among);
    }) h) c.halving_among.ensures
