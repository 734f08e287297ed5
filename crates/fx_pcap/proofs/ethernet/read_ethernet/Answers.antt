use Rattle.std.proofs.Common.{ap, ◌∙◌}
use Rattle.std.proofs.lemmas.List.{take_rest}
use Rattle.fx_pcap.specs.Frames.{content_by_type}
use Rattle.fx_pcap.proofs.ethernet.read_ethernet.Goals as goal

pub returns : goal.returns
returns c =
    c.read_typed.ensures ∙ ap content_by_type
    (take_rest c.args.octets.now c.place_after_tags.result ∙ c.place_after_tags.ensures.place)
