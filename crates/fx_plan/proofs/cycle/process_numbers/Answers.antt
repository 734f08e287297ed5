use Rattle.std.proofs.Common.{ℕ, ◌+◌, List, ◌++◌, length, refl, ap, ◌∙◌}
use Rattle.fx_config.specs.declared.collecting_process.CollectingProcess.{CollectingProcess}
use Rattle.fx_topology.specs.declared.network_device.NetworkDevice.{NetworkDevice}
use Rattle.fx_plan.specs.Cycles.{numbers_from, numbers_on}
use Rattle.fx_plan.proofs.Loops.{one_left, none_left}
use Rattle.fx_plan.proofs.cycle.process_numbers.Goals as goal

pub loop-index-preserved : goal.loop-index-preserved
loop-index-preserved c =
    let device = c.index-devices-index.result in
    let n = c.loop-index.index in
    one_left numbers_from (λ (k : ℕ) (x : NetworkDevice). numbers_on k (length x.config.collecting_processes)) (λ _. 1)
    (λ _ _ _. refl) c.args.devices.now n (n + 1) (n + 1 + 1) device c.loop-index.numbers.items _ _
    c.loop-index-test.true c.index-devices-index.is refl c.loop-index.invariant
    (c.in_ok-push_numbers.ensures ∙ ap (λ (ps : List CollectingProcess). c.loop-index.numbers.items
    ++ numbers_on (n + 1) (length ps)) c.as_slice-count.ensures)

pub returns : goal.returns
returns c = none_left numbers_from (λ _. refl) c.args.devices.now c.loop-index.index (c.loop-index.index + 1)
    c.loop-index.numbers.items _ c.loop-index-test.false c.loop-index.invariant
