use Rattle.std.proofs.Common.{◌≡◌, ◌+◌, None, ◌∙◌, ap, arith, drop, get_or, length, refl, take}
use Rattle.std.proofs.Math.Seq.{take-append_seam}
use Rattle.std.proofs.lemmas.List.{take_more}
use Rattle.fx_ranks.specs.Feeding.{end_of, with_flag}
use Rattle.fx_ranks.proofs.Ranges.{flags_none}
use Rattle.fx_ranks.proofs.LinkedProcesses.{one_destination_more}
use Rattle.fx_ranks.proofs.linked_processes.linked_processes_of.Goals as goal

pub loop-destination-init : goal.loop-destination-init
loop-destination-init c =
    let count : length c.processes.result.now ≡ length c.args.net.now.processes = ap length c.processes.ensures in
    rw (c.in_ok-flags.ensures.items_if_clones_equal (λ y e. e), count) (flags_none 0 (length c.args.net.now.processes))

pub loop-destination-preserved : goal.loop-destination-preserved
loop-destination-preserved c =
    let i = c.loop-destination.invariant in
    let n = c.loop-destination.destination-index in
    let xs = c.destinations-destination-items.result.now in
    let flags = c.set_flag.new.flags in
    let long : c.loop-destination.flags.len ≡ length flags =
    omega (arith, c.as_mut_slice.ensures.len, c.set_flag.auto.flags) in
    let set : flags ≡ with_flag c.loop-destination.flags.items (end_of c.args.net.now (get_or xs n None)) =
    c.set_flag.ensures ∙ rw (c.as_mut_slice.ensures.value, c.end_of.ensures) refl in
    rw (long, take-append_seam flags (drop (length flags) c.loop-destination.flags.items))
    (set ∙ one_destination_more c.args.net.now (take n xs) (take (n + 1) xs) (get_or xs n None)
    (length c.args.net.now.processes) c.loop-destination.flags.items
    (take_more xs n None c.loop-destination-test.true) i)
