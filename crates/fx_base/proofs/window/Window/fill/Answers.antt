use Rattle.std.proofs.Common.{List, ℕ, ap, ◌∙◌, subst, sym, length, slice_range, arith}
use Rattle.std.proofs.lemmas.List.{with_items_is}
use Rattle.fx_base.proofs.Filled.{seen, held_count, nothing_to_fill, filled, Fills}
use Rattle.fx_base.specs.Window.{Held, IsWindow}
use Rattle.fx_base.proofs.window.Window.fill.Goals as goal

pub returns : goal.returns
returns g c =
    let s = c.self.inside in
    let left = g.R.Source.left in
    let failed = g.R.Source.failed in
    let asked = g.R.Source.calls in
    let new = c.gather.new in
    let whole = c.as_mut_slice-bytes.ensures.value in
    let moved = c.to_front.ensures ∙ ap (λ bytes. slice_range bytes s.start s.end) whole in
    let size = c.to_front.auto.bytes ∙ ap length whole in
    let items = with_items_is s.bytes new.bytes
    (c.gather.auto.bytes ∙ c.to_front.auto.bytes ∙ c.as_mut_slice-bytes.ensures.len) in
    rw (← c.self.view_is) (subst (λ bytes. Fills
    (seen s.bytes.items s.start s.end (left s.source) (failed s.source) s.calls (asked s.source))
    (seen bytes 0 new.end (left new.source) (failed new.source) new.calls (asked new.source)) c.args.want
    c.gather.result) (sym items) (filled s.bytes.items c.to_front.new.bytes new.bytes s.start s.end new.end
    c.args.want (left s.source) (left new.source) (failed s.source) (failed new.source) s.calls new.calls
    (asked s.source) (asked new.source) c.gather.result c.self.invariant c.if-held-want.false moved size
    c.gather.auto.bytes c.gather.ensures))

pub returns-then-held-want : goal.returns-then-held-want
returns-then-held-want g c =
    let s = c.self.inside in
    let count = held_count s.bytes.items s.start s.end c.self.invariant.end in
    rw (← c.self.view_is) (nothing_to_fill (seen s.bytes.items s.start s.end (g.R.Source.left s.source)
    (g.R.Source.failed s.source) s.calls (g.R.Source.calls s.source)) c.args.want
    (omega (arith, count, c.if-held-want.true)) (omega (arith, count, c.self.invariant.end)) c.self.invariant.calls)

pub to_front-requires : goal.to_front-requires
to_front-requires g c =
    let size = ap length c.as_mut_slice-bytes.ensures.value in
    (c.self.invariant.start, omega (arith, size, c.self.invariant.end))

pub gather-requires : goal.gather-requires
gather-requires g c =
    let size = c.to_front.auto.bytes ∙ ap length c.as_mut_slice-bytes.ensures.value in
    let room = ap (λ (w : Held). w.room) c.self.view_is in
    record {
      end = omega (arith, size, c.self.invariant.end);
      want = omega (arith, size, room, c.requires);
      calls = c.self.invariant.calls;
    }

pub invariant_of-self : goal.invariant_of-self
invariant_of-self g c =
    let new = c.gather.new in
    let items = with_items_is c.self.inside.bytes new.bytes
    (c.gather.auto.bytes ∙ c.to_front.auto.bytes ∙ c.as_mut_slice-bytes.ensures.len) in
    subst (λ (bytes : List ℕ). IsWindow (length bytes) 0 new.end new.calls) (sym items) (record {
      start = omega arith;
      end = omega (arith, c.gather.auto.bytes, c.gather.ensures.fits);
      calls = c.gather.ensures.calls.1;
    })
