use Rattle.std.proofs.Common.{◌≤◌, ◌+◌, ◌-◌, List, ℕ, length, drop, ap, slice_range, arith, subst, sym}
use Rattle.std.proofs.lemmas.List.{length-take}
use Rattle.fx_base.proofs.Held.{part_tail}
use Rattle.fx_base.specs.Window.{Held}
use Rattle.fx_base.proofs.window.Window.pass.Goals as goal

pub returns : goal.returns
returns g c =
    let s = c.self.inside in
    let n = c.args.n in
    let some : n ≤ length (slice_range s.bytes.items s.start s.end) =
    subst (λ (w : Held). n ≤ length w.held) (sym c.self.view_is) c.requires in
    let within : s.start + n ≤ s.end = omega (
      arith,
      some,
      c.self.invariant.start,
      length-take (s.end - s.start)
          (drop s.start s.bytes.items),
    ) in
    rw (← c.self.view_is) (ap (λ (l : List ℕ).
    record {
      room = length s.bytes.items;
      held = l;
      left = g.R.Source.left s.source;
      failed =
          g.R.Source.failed s.source;
      calls = s.calls;
      asked = g.R.Source.calls s.source;
    })
    (part_tail s.bytes.items s.start s.end n (s.start + n) (omega arith) within))
