use Rattle.std.proofs.Common.{◌≡◌, ◌∙◌, inr, refl, sym, ap, List}
use Rattle.std.proofs.lemmas.Result.{on_ok_weaker}
use Rattle.fx_tables.specs.Classes.{Class}
use Rattle.fx_pcap.specs.Captures.{seen_of}
use Rattle.fx_plan.specs.Tables.{net_of}
use Rattle.fx_base.specs.declared.fault.Fault.{Fault}
use Rattle.fx_elements.specs.Axes.{Fields}
use Rattle.fx_net.specs.declared.action.Action.TheVariants as action
use Rattle.fx_net.specs.Running.{RunningNetwork, RefusesAction, capture_refused, is_in, not_in}
use Rattle.fx_net.proofs.Exits.{refused_exit}
use Rattle.fx_net.proofs.LinesAreDone.{not_there, reads_given}
use Rattle.fx_net.proofs.Frames.{at_frame_of}
use Rattle.fx_net.proofs.network.Network.read_of.Goals as goal

pub returns-clause-ok : goal.returns-clause-ok
returns-clause-ok g c =
    let frame = seen_of c.frame-frame.result in
    let old = c.args.self.now in
    let class = c.args.class in
    let path = c.args.path in
    let classes : c.as_slice.result.now ≡ old.classes = c.as_slice.ensures ∙ c.classes.ensures
    ∙ ap (λ (r : RunningNetwork). r.classes) c.self.view_is in
    on_ok_weaker c.meter.result
    (λ made. (
      at_frame_of c.args.capture.now c.advance.new.self c.in_ok-advance.field-0 c.in_ok-advance.ensures.advances
          c.if-not-branch.false,
      reads_given (net_of old.network) old.classes frame c.advance.new.self.seen class path old.contents
          c.meter.new.self.contents
          c.frame-frame.ensures.fields c.frame-frame.ensures.octets c.frame-frame.ensures.second c.meter.ensures.frame
          c.meter.ensures.soon
          (ap (λ (cs : List Class). is_in cs frame.fields class path) (sym classes) ∙ sym c.is_in.ensures
          ∙ c.if-not-is_in.false)
          (ap (λ (r : RunningNetwork). r.contents) made),
    ))
    c.meter.ensures.ok

pub returns-in_err-advance-clause-err : goal.returns-in_err-advance-clause-err
returns-in_err-advance-clause-err g c =
    refused_exit c.from_residual.result c.in_err-advance.field-0.0
    (λ (e : Fault). RefusesAction c.args.self.now c.args.capture.now c.advance.new.self c.args.line
    (action.NextOf c.args.class c.args.path) e)
    c.from_residual.ensures c.in_err-advance.ensures.reported (capture_refused refl c.in_err-advance.ensures.advances)

pub returns-then-not-is_in-clause-err : goal.returns-then-not-is_in-clause-err
returns-then-not-is_in-clause-err g c =
    let old = c.args.self.now in
    let class = c.args.class in
    let path = c.args.path in
    let seen = c.advance.new.self.seen in
    let classes : c.as_slice.result.now ≡ old.classes = c.as_slice.ensures ∙ c.classes.ensures
    ∙ ap (λ (r : RunningNetwork). r.classes) c.self.view_is in
    inr (not_in refl (at_frame_of c.args.capture.now c.advance.new.self c.in_ok-advance.field-0
    c.in_ok-advance.ensures.advances c.if-not-branch.false)
    (not_there old.classes class seen.fields path
    (sym (c.is_in.ensures ∙ ap (λ (cs : List Class). is_in cs c.frame-frame.result.fields class path) classes
    ∙ ap (λ (fields : Fields). is_in old.classes fields class path) c.frame-frame.ensures.fields)
    ∙ c.if-not-is_in.true)))
