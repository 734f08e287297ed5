use Rattle.std.proofs.Common.{◌≡◌, ℕ, ◌∙◌, ap, refl, arith, get_or, None, Option}
use Rattle.std.proofs.lemmas.List.{length-set}
use Rattle.fx_elements.specs.declared.axis.Axis.TheVariants.{Source}
use Rattle.fx_elements.specs.Axes.{axes}
use Rattle.fx_elements.proofs.EveryAxis.{axis_at, index_below, set_more}
use Rattle.fx_session.specs.declared.places.ValuePlace.{ValuePlace}
use Rattle.fx_session.specs.Flows.{is_value}
use Rattle.fx_session.specs.Places.{place_where}
use Rattle.fx_session.proofs.places.places_of.Goals as goal

pub loop-k-preserved : goal.loop-k-preserved
loop-k-preserved c = record {
  count = length-set c.loop-k.places c.loop-k.k c.place_of.result ∙ c.loop-k.invariant.count;
  placed = set_more (λ (n : ℕ) (p : Option ValuePlace). p
      ≡ place_where (is_value (get_or axes n Source)) 0 c.args.fields.now) c.loop-k.places c.loop-k.k c.loop-k.k
      c.place_of.result None (omega (arith, c.loop-k.invariant.count)) refl c.place_of.ensures
      c.loop-k.invariant.placed;
}

pub returns : goal.returns
returns c = λ axis.
    c.loop-k.invariant.placed _ (omega (arith, index_below axis))
    ∙ ap (λ a. place_where (is_value a) 0 c.args.fields.now) (axis_at axis)
