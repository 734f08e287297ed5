use Rattle.std.proofs.Common.{◌≡◌, ◌≤◌, true, false, length, drop, sym, ap, ◌∙◌, arith}
use Rattle.std.proofs.lemmas.List.{length-drop, drop-drop}
use Rattle.fx_pcap.specs.Numbers.{network}
use Rattle.fx_pcap.specs.Frames.{is_tag, after_tags}
use Rattle.fx_pcap.proofs.Tags.{tag_passed, no_tag, short_of_tag}
use Rattle.fx_pcap.proofs.ethernet.place_after_tags.Goals as goal

pub loop-at-preserved : goal.loop-at-preserved
loop-at-preserved c =
    let octets = c.args.octets.now in
    let at = c.loop-at.at in
    let long : 4 ≤ length (drop at octets) = omega (arith, c.loop-at-test.true, length-drop at octets) in
    let tag : is_tag (network 2 0 (drop at octets)) ≡ true = ap is_tag (sym c.network16.ensures) ∙ sym c.is_tag.ensures
    ∙ c.if-is_tag.true in
    record {
      within = omega (arith, c.loop-at-test.true);
      same = ap after_tags (sym (drop-drop 4 at octets)) ∙ sym (tag_passed (drop at octets) long tag)
          ∙ c.loop-at.invariant.same;
    }

pub returns-else-is_tag-clause-place : goal.returns-else-is_tag-clause-place
returns-else-is_tag-clause-place c =
    let octets = c.args.octets.now in
    let at = c.loop-at.at in
    let none : is_tag (network 2 0 (drop at octets)) ≡ false = ap is_tag (sym c.network16.ensures)
    ∙ sym c.is_tag.ensures ∙ c.if-is_tag.false in
    sym (no_tag (drop at octets) none) ∙ c.loop-at.invariant.same

pub returns-after-loop-at-clause-place : goal.returns-after-loop-at-clause-place
returns-after-loop-at-clause-place c =
    let octets = c.args.octets.now in
    let at = c.loop-at.at in
    sym (short_of_tag (drop at octets) (omega (arith, c.loop-at-test.false, length-drop at octets)))
    ∙ c.loop-at.invariant.same
