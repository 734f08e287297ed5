use Rattle.std.proofs.Common.{◌≡◌, ◌∙◌, ap, List}
use Rattle.std.specs.Prelude.{position}
use Rattle.fx_boxes.specs.Boxes.{holds}
use Rattle.fx_tables.specs.Classes.{Class}
use Rattle.fx_pcap.specs.Captures.{seen_of}
use Rattle.fx_plan.specs.Tables.{net_of}
use Rattle.fx_net.specs.Running.{RunningNetwork}
use Rattle.fx_net.proofs.Frames.{reads_first}
use Rattle.fx_net.proofs.network.Network.meter_first.Goals as goal

pub returns-clause-read : goal.returns-clause-read
returns-clause-read g c = λ _.
    let frame = seen_of c.frame-frame.result in
    let old = c.args.self.now in
    let classes : c.as_slice-classes.result.now ≡ old.classes = c.as_slice-classes.ensures ∙ c.classes.ensures
    ∙ ap (λ (r : RunningNetwork). r.classes) c.self.view_is in
    reads_first (net_of old.network) old.classes frame c.args.capture.now.seen c.class_place.result c.in-Some.index
    old.contents c.meter.new.self.contents
    c.frame-frame.ensures.fields c.frame-frame.ensures.octets c.frame-frame.ensures.second c.meter.ensures.frame
    c.meter.ensures.soon
    (c.class_place.ensures ∙ ap (λ (cs : List Class). position (λ (k : Class). holds k.region frame.fields) cs) classes)
    c.in-Some.is (ap (λ (r : RunningNetwork). r.contents) c.in_ok-meter.ensures.ok)
