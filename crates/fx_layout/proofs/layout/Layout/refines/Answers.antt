use Rattle.std.proofs.Common.{ap, sym, ◌∙◌}
use Rattle.std.proofs.lemmas.List.{take_all}
use Rattle.fx_layout.specs.Keys.{refines}
use Rattle.fx_layout.proofs.PartByPart.{reads_more, unread}
use Rattle.fx_layout.proofs.layout.Layout.refines.Goals as goal

pub returns-then-not-parts_read : goal.returns-then-not-parts_read
returns-then-not-parts_read c =
    unread c.args.self.now c.as_slice-parts.result.now c.args.other.now c.as_slice-part-items.result.now
    c.loop-part.part-index _ c.parts_read.result (c.as_slice-parts.ensures.value ∙ c.self.view_is)
    (c.as_slice-part-items.ensures.value ∙ c.other.view_is) c.loop-part-test.true c.parts_read.ensures
    c.if-not-parts_read.true

pub loop-part-preserved : goal.loop-part-preserved
loop-part-preserved c =
    reads_more c.args.self.now c.as_slice-parts.result.now c.as_slice-part-items.result.now c.loop-part.part-index _
    c.parts_read.result (c.as_slice-parts.ensures.value ∙ c.self.view_is) c.loop-part-test.true
    c.loop-part.invariant c.parts_read.ensures c.if-not-parts_read.false

pub returns : goal.returns
returns c =
    sym c.loop-part.invariant
    ∙ ap (refines c.args.self.now) (take_all c.loop-part.part-index c.as_slice-part-items.result.now
    c.loop-part-test.false ∙ c.as_slice-part-items.ensures.value ∙ c.other.view_is)
