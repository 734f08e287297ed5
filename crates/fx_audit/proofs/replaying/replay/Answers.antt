use Rattle.std.proofs.Common.{refl, subst}
use Rattle.fx_tables.specs.Network.{Net}
use Rattle.fx_machine.specs.States.{State}
use Rattle.fx_checker.specs.Outputs.{Prints}
use Rattle.fx_audit.specs.Replay.{IsTextOf}
use Rattle.fx_audit.proofs.Replays.{tells_its_own}
use Rattle.fx_audit.proofs.replaying.replay.Goals as goal

pub put_state-requires : goal.put_state-requires
put_state-requires g c = record {
  own =
      tells_its_own c.args.net.now _ c.args.classes.now c.args.lines.now c.in_ok-state.ensures.ok.1.0 _
      c.report_layout-layout.ensures.layout c.in_ok-state.ensures.ok.1.1 c.in_ok-state.ensures.ok.1.2
      c.in_ok-state.ensures.ok.0;
}

pub returns-clause-ok : goal.returns-clause-ok
returns-clause-ok g c =
    let before = g.S.Sink.taken c.args.sink.now in
    let after = g.S.Sink.taken c.put_state.new.sink in
    let state = c.in_ok-state.state in
    let last = c.in_ok-state.ensures.ok.1 in
    let printed = subst (λ (n : Net). Prints (IsTextOf n.report_layout state.state) before after)
    c.in_ok-state.ensures.ok.0 c.in_ok-put_state.ensures.ok in (
      refl,
      (
        last.0,
        last.1,
        subst (λ (s : State). Prints (IsTextOf c.args.net.now.report_layout s) before after) last.2
            printed,
      ),
    )
