use Rattle.std.proofs.Common.{◌≡◌, ℕ, ◌+◌, [], ◌∷◌, ◌++◌, length, map, refl, ap, ◌∙◌}
use Rattle.std.proofs.lemmas.List.{length-append, length-map}
use Rattle.fx_config.specs.declared.collecting_process.CollectingProcess.{CollectingProcess}
use Rattle.fx_plan.specs.Tables.{aggregation_holder, process_from, processes_from}
use Rattle.fx_plan.proofs.Loops.{more_made, all_more_made, one_left, none_left}
use Rattle.fx_plan.proofs.processes.push_processes.Goals as goal

pub loop-process-preserved : goal.loop-process-preserved
loop-process-preserved c =
    let i = c.loop-process.invariant in
    let exporting = c.args.exporting.now in
    let device = c.args.device.now in
    let holders = c.loop-process.holders.items in
    let process = c.process-item.result in
    let held = aggregation_holder exporting device in
    let more : length c.process_from.new.holders.items ≡ length holders + length process.aggregations =
    ap length c.in_ok-process.ensures.held ∙ (length-append holders (map held process.aggregations)
    ∙ ap (λ n. length holders + n) (length-map process.aggregations held)) in (
      more_made (λ (p : CollectingProcess). map held p.aggregations) c.args.holders.now.items c.args.collecting.now
          c.loop-process.process-index process holders _ c.loop-process-test.true c.process-item.is i.0
          c.in_ok-process.ensures.held,
      one_left (processes_from exporting device)
          (λ (k : ℕ) (p : CollectingProcess). process_from exporting device k p ∷ [])
          (λ (p : CollectingProcess). length p.aggregations) (λ _ _ _. refl) c.args.collecting.now
          c.loop-process.process-index (length holders) _ process c.loop-process.processes.items _ _
          c.loop-process-test.true c.process-item.is more i.1
          (c.in_ok-push.ensures.items ∙ ap (λ p. c.loop-process.processes.items ++ p ∷ [])
          c.in_ok-process.ensures.table),
    )

pub returns-clause-held : goal.returns-clause-held
returns-clause-held c =
    all_more_made (λ (p : CollectingProcess). map (aggregation_holder c.args.exporting.now c.args.device.now)
    p.aggregations) c.args.holders.now.items c.args.collecting.now c.loop-process.process-index
    c.loop-process.holders.items c.loop-process-test.false c.loop-process.invariant.0

pub returns-clause-tables : goal.returns-clause-tables
returns-clause-tables c =
    none_left (processes_from c.args.exporting.now c.args.device.now) (λ _. refl) c.args.collecting.now
    c.loop-process.process-index (length c.loop-process.holders.items) c.loop-process.processes.items _
    c.loop-process-test.false c.loop-process.invariant.1
