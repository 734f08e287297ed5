use Rattle.std.proofs.Common.{◌⊎◌, inr, ◌∙◌, ap}
use Rattle.fx_base.specs.declared.fault.Fault.{Fault}
use Rattle.fx_net.specs.Running.{RunningNetwork, FailsOutside, RefusesRun, not_read}
use Rattle.fx_net.proofs.Exits.{exit_with}
use Rattle.fx_net.proofs.FramesRead.{at_line_of, at_text_end_of, obeys_lent, line_fault}
use Rattle.fx_net.proofs.network.Network.obey_all.Goals as goal

pub returns-in_err-advance-clause-err : goal.returns-in_err-advance-clause-err
returns-in_err-advance-clause-err g c =
    exit_with c.from_residual.result c.in_err-advance.field-0.0
    (λ (e : Fault). FailsOutside (g.L.Links.failed c.loop-self.links) e
    ⊎ RefusesRun c.args.self.now c.args.capture.now c.loop-self.capture c.args.schedule.now c.advance.new.self
    (g.L.Links.put_on c.args.links.now) e)
    c.from_residual.ensures
    (inr (not_read c.loop-self.self c.loop-self.schedule (g.L.Links.put_on c.loop-self.links)
    c.loop-self.invariant.obeyed c.in_err-advance.ensures))

pub loop-self-preserved : goal.loop-self-preserved
loop-self-preserved g c =
    let at = at_line_of c.loop-self.schedule c.advance.new.self c.in_ok-advance.field-0 c.in_ok-advance.ensures
    c.if-branch.true in
    let one = c.in_ok-obey.ensures.ok in
    record {
      obeyed = obeys_lent c.args.self.now c.loop-self.self c.obey.new.self c.args.capture.now c.loop-self.capture
          c.obey.new.capture c.args.schedule.now c.loop-self.schedule c.advance.new.self
          (g.L.Links.put_on c.args.links.now) (g.L.Links.put_on c.loop-self.links) (g.L.Links.put_on c.obey.new.links)
          c.line.result.bytes.now c.loop-self.invariant.obeyed at c.line.ensures.bytes one;
      faultless = ap (λ (r : RunningNetwork). r.fault) one.rest ∙ c.loop-self.invariant.faultless;
      going = λ h. c.in_ok-obey.ensures.going (c.loop-self.invariant.going h);
    }

pub returns-in_err-obey-clause-err : goal.returns-in_err-obey-clause-err
returns-in_err-obey-clause-err g c =
    let at = at_line_of c.loop-self.schedule c.advance.new.self c.in_ok-advance.field-0 c.in_ok-advance.ensures
    c.if-branch.true in
    exit_with c.from_residual-in_err-obey.result c.in_err-obey.field-0.0
    (λ (e : Fault). FailsOutside (g.L.Links.failed c.obey.new.links) e
    ⊎ RefusesRun c.args.self.now c.args.capture.now c.obey.new.capture c.args.schedule.now c.advance.new.self
    (g.L.Links.put_on c.args.links.now) e)
    c.from_residual-in_err-obey.ensures
    (line_fault c.args.self.now c.loop-self.self c.args.capture.now c.loop-self.capture c.obey.new.capture
    c.args.schedule.now c.loop-self.schedule c.advance.new.self (g.L.Links.put_on c.args.links.now)
    (g.L.Links.put_on c.loop-self.links) (g.L.Links.failed c.obey.new.links) c.line.result.bytes.now
    c.line.result.number c.in_err-obey.field-0.0
    c.loop-self.invariant.obeyed at c.line.ensures.bytes c.line.ensures.number
    (c.in_err-obey.ensures.err c.loop-self.invariant.faultless))

pub returns-clause-ok : goal.returns-clause-ok
returns-clause-ok g c = record {
  behind = c.loop-self.schedule;
  obeyed = c.loop-self.invariant.obeyed;
  end = at_text_end_of c.loop-self.schedule c.advance.new.self c.in_ok-advance.field-0 c.in_ok-advance.ensures
      c.if-branch.false;
}
