use Rattle.std.proofs.Common.{◌≡◌, ℕ, List, ap, ◌∙◌, refl, arith, rules, get_or, None}
use Rattle.std.proofs.lemmas.List.{length-set}
use Rattle.fx_elements.specs.Axes.{axes, axis_index}
use Rattle.fx_elements.specs.declared.axis.Axis.TheVariants.{Source}
use Rattle.fx_elements.proofs.EveryAxis.{axis_at, index_below, set_more}
use Rattle.fx_session.specs.Parts.{bits_of}
use Rattle.fx_session.specs.Places.{found_at}
use Rattle.fx_session.proofs.places.bits_of_places.Goals.{in-Some, in-None}
use Rattle.fx_session.proofs.places.bits_of_places.Goals as goal

pub returns : goal.returns
returns c = λ axis octets.
    c.loop-k.invariant.reported _ (omega (arith, index_below axis)) octets
    ∙ ap (λ a. bits_of (found_at octets a (get_or c.args.places.now (axis_index axis) None))) (axis_at axis)

pub loop-k-preserved : goal.loop-k-preserved
loop-k-preserved c =
    let bits = c.match-places-k.bits in
    let here : (octets : List ℕ) → bits ≡ bits_of
    (found_at octets (get_or axes c.loop-k.k Source) (get_or c.args.places.now c.loop-k.k None)) =
    elim c.match-places-k.branch [
      | in-Some w ↦ λ octets. search rules
      | in-None w ↦ λ octets. search rules
    ] in
    record {
      count = length-set c.loop-k.bits c.loop-k.k bits ∙ c.loop-k.invariant.count;
      reported = set_more (λ (n b : ℕ). (octets : List ℕ) → b
          ≡ bits_of (found_at octets (get_or axes n Source) (get_or c.args.places.now n None))) c.loop-k.bits c.loop-k.k
          c.loop-k.k bits 0 (omega (arith, c.loop-k.invariant.count)) refl here c.loop-k.invariant.reported;
    }
