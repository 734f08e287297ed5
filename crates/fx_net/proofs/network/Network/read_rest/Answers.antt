use Rattle.std.proofs.Common.{◌⊎◌, inr, ◌∙◌, ap}
use Rattle.fx_base.specs.declared.fault.Fault.{Fault}
use Rattle.fx_net.specs.declared.stop.Stop.{Stop}
use Rattle.fx_net.specs.Running.{RunningNetwork, FailsOutside, RefusesClose, capture_cut, fault_of}
use Rattle.fx_net.proofs.Exits.{reported_exit, exit_with, close_refused}
use Rattle.fx_net.proofs.Frames.{at_end_of, at_frame_of}
use Rattle.fx_net.proofs.FramesRead.{reads_more, goes_more}
use Rattle.fx_net.proofs.network.Network.read_rest.Goals as goal

pub returns-in_err-advance-clause-err : goal.returns-in_err-advance-clause-err
returns-in_err-advance-clause-err g c =
    reported_exit c.from_residual.result c.in_err-advance.field-0.0
    (λ (e : Fault). FailsOutside (g.L.Links.failed c.loop-met.links) e
    ⊎ RefusesClose c.args.self.now c.args.capture.now c.advance.new.self e)
    c.from_residual.ensures c.in_err-advance.ensures.reported
    (inr (capture_cut c.loop-met.capture c.loop-met.invariant.gone c.in_err-advance.ensures.advances))

pub loop-met-preserved : goal.loop-met-preserved
loop-met-preserved g c =
    let at = at_frame_of c.loop-met.capture c.advance.new.self c.in_ok-advance.field-0 c.in_ok-advance.ensures.advances
    c.if-branch.true in
    let one = c.in_ok-read_one.ensures.ok in
    record {
      read = reads_more c.args.self.now c.loop-met.self c.read_one.new.self c.args.capture.now c.loop-met.capture
          c.advance.new.self (g.L.Links.put_on c.args.links.now) (g.L.Links.put_on c.loop-met.links)
          (g.L.Links.put_on c.read_one.new.links) c.loop-met.invariant.read at one;
      gone = goes_more c.args.capture.now c.loop-met.capture c.advance.new.self c.loop-met.invariant.gone at;
      rest = one.rest ∙ ap (λ (r : RunningNetwork). record r { contents = c.read_one.new.self.contents })
          c.loop-met.invariant.rest;
      going = λ h. c.in_ok-read_one.ensures.going (c.loop-met.invariant.going h);
    }

pub returns-in_err-read_one-clause-err : goal.returns-in_err-read_one-clause-err
returns-in_err-read_one-clause-err g c =
    let at = at_frame_of c.loop-met.capture c.advance.new.self c.in_ok-advance.field-0 c.in_ok-advance.ensures.advances
    c.if-branch.true in
    exit_with c.from_residual-in_err-read_one.result c.in_err-read_one.field-0.0
    (λ (s : Stop). FailsOutside (g.L.Links.failed c.read_one.new.links) (fault_of s)
    ⊎ RefusesClose c.args.self.now c.args.capture.now c.advance.new.self (fault_of s))
    c.from_residual-in_err-read_one.ensures
    (close_refused c.args.self.now c.loop-met.self c.args.capture.now c.loop-met.capture c.advance.new.self
    (g.L.Links.failed c.read_one.new.links) c.in_err-read_one.field-0.0 c.in_err-read_one.ensures.err
    c.loop-met.invariant.gone at c.loop-met.invariant.rest)

pub returns-clause-ok : goal.returns-clause-ok
returns-clause-ok g c = record {
  last = c.loop-met.capture;
  read = c.loop-met.invariant.read;
  end = at_end_of c.loop-met.capture c.advance.new.self c.in_ok-advance.field-0 c.in_ok-advance.ensures.advances
      c.if-branch.false;
}
