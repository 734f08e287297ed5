use Rattle.std.proofs.Common.{◌≡◌, ◌<◌, ◌≤◌, ◌+◌, [], ◌∷◌, ◌++◌, length, take, drop, refl, sym, ap, ◌∙◌, subst, arith, inl, inr, slice_get, Option, Some, below_more}
use Rattle.std.proofs.lemmas.List.{take_more}
use Rattle.std.proofs.lemmas.Option.{slice_get_read, slice_get_past}
use Rattle.std.proofs.lemmas.Bool.{cases_lt}
use Rattle.fx_layout.specs.Keys.{Layout, Fits}
use Rattle.fx_tables.specs.Network.{Holder, layout_of}
use Rattle.fx_plan.specs.Layouts.{held_layouts, with_layout, with_layouts}
use Rattle.fx_tables.specs.Limits.{layout_limit}
use Rattle.fx_topology.proofs.LinkByLink.{drop_item}
use Rattle.fx_plan.proofs.Numberings.{all_longer, exit_with, numbers_grow, numbers_push}
use Rattle.fx_plan.proofs.layouts.numbers_of.Goals as goal

pub returns-in_err-number-clause-err : goal.returns-in_err-number-clause-err
returns-in_err-number-clause-err c =
    let i = c.loop-holder.invariant in
    let xs = c.args.holders.now in
    let n = c.loop-holder.holder-index in
    let item = c.holder-item.result in
    let left : drop n xs ≡ item ∷ drop (n + 1) xs = drop_item xs n n item refl c.loop-holder-test.true c.holder-item.is
    in
    let known = c.loop-holder.known.items in
    let same : with_layouts (with_layout known c.layout-layout.result.now) (held_layouts (drop (n + 1) xs))
    ≡ with_layouts c.args.known.now.items (held_layouts xs) = rw c.layout-layout.ensures (rw left at i.known) in
    exit_with _ _ _ c.from_residual.ensures (elim c.in_err-number.ensures.err [
      | inl m ↦ inl m
      | inr f ↦
          (let more : layout_limit < length (with_layout known c.layout-layout.result.now) = f.1 in
          let longer : length (with_layout known c.layout-layout.result.now)
          ≤ length (with_layouts (with_layout known c.layout-layout.result.now) (held_layouts (drop (n + 1) xs))) =
          all_longer (with_layout known c.layout-layout.result.now) (held_layouts (drop (n + 1) xs)) in
          let all : length (with_layouts (with_layout known c.layout-layout.result.now)
          (held_layouts (drop (n + 1) xs))) ≡ length (with_layouts c.args.known.now.items (held_layouts xs)) =
          ap length same in
          inr (f.0, omega (arith, more, longer, all)))
    ])

pub loop-holder-preserved : goal.loop-holder-preserved
loop-holder-preserved c =
    let i = c.loop-holder.invariant in
    let xs = c.args.holders.now in
    let n = c.loop-holder.holder-index in
    let item = c.holder-item.result in
    let left : drop n xs ≡ item ∷ drop (n + 1) xs = drop_item xs n n item refl c.loop-holder-test.true c.holder-item.is
    in
    let known = c.loop-holder.known.items in
    let new : c.number_in.new.known.items ≡ with_layout known item.layout = c.in_ok-number.ensures.known.0
    ∙ ap (with_layout known) c.layout-layout.ensures in
    let number : slice_get (with_layout known item.layout) c.in_ok-number.number ≡ Some item.layout =
    rw (new, c.layout-layout.ensures) at c.in_ok-number.ensures.known.1 in
    let there : slice_get xs n ≡ Some item =
    slice_get_read xs (length xs) n item refl c.loop-holder-test.true c.holder-item.is in
    let front : take (n + 1) xs ≡ take n xs ++ item ∷ [] = take_more xs n item c.loop-holder-test.true
    ∙ ap (λ (h : Holder). take n xs ++ h ∷ []) (sym c.holder-item.is) in
    let here : Fits item.layout = subst (λ (l : Layout). Fits l) c.layout-layout.ensures c.fits.ensures in
    record {
      known = rw new (rw left at i.known);
      numbers = rw (new, front, c.in_ok-push.ensures.items)
          (numbers_push (with_layout known item.layout) (take n xs) c.loop-holder.numbers.items item
          c.in_ok-number.number (numbers_grow known item.layout (take n xs) c.loop-holder.numbers.items i.numbers)
          number);
      fits = below_more (λ k. Fits (layout_of (slice_get xs k))) n i.fits
          (subst (λ (o : Option Holder). Fits (layout_of o)) (sym there) here);
      few = c.in_ok-number.ensures.few;
    }

pub returns-clause-fits : goal.returns-clause-fits
returns-clause-fits c = λ k.
    (elim (cases_lt k c.loop-holder.holder-index) [
      | inl lt ↦ c.loop-holder.invariant.fits k lt
      | inr le ↦
          (let past : length c.args.holders.now ≤ k = omega (arith, le) in
          subst (λ (o : Option Holder). Fits (layout_of o)) (sym (slice_get_past c.args.holders.now k past)) tt)
    ])
