use Rattle.std.proofs.Common.{◌≡◌, ◌+◌, ◌<◌, ℕ, slice_get, Option, Some, None, refl, ap, sym, ◌∙◌, subst, arith, ◌⊎◌, inl, inr}
use Rattle.std.proofs.lemmas.Bool.{cases_eq}
use Rattle.std.proofs.lemmas.Option.{slice_get-get_or, slice_get_within}
use Rattle.fx_layout.specs.Keys.{Layout, IsLayout}
use Rattle.fx_tables.specs.Network.{Holder, layout_of}
use Rattle.fx_conform.proofs.networks.have_layouts.Goals as goal

pub loop-holder-init : goal.loop-holder-init
loop-holder-init c = λ n lt. absurd (omega (arith, lt))

pub loop-holder-preserved : goal.loop-holder-preserved
loop-holder-preserved c = λ n lt. by n lt (cases_eq n c.loop-holder.holder-index) where
  own : IsLayout c.holder-item.result.layout
  own = subst (λ (l : Layout). IsLayout l) (c.parts-parts.ensures.value ∙ c.layout.ensures) c.parts-parts.ensures.kept

  there : slice_get c.args.holders.now c.loop-holder.holder-index ≡ Some c.holder-item.result
  there = slice_get-get_or c.args.holders.now c.loop-holder.holder-index c.holder-item.result c.loop-holder-test.true
      ∙ ap (λ (h : Holder). Some h) (sym c.holder-item.is)

  by : (n : ℕ) → n < c.loop-holder.holder-index + 1 → (n ≡ c.loop-holder.holder-index)
      ⊎ (n ≡ c.loop-holder.holder-index → ⊥) → IsLayout (layout_of (slice_get c.args.holders.now n))
  by n lt (inl e) = subst (λ (m : ℕ). IsLayout (layout_of (slice_get c.args.holders.now m))) (sym e)
      (subst (λ (o : Option Holder). IsLayout (layout_of o)) (sym there) own)
  by n lt (inr ne) = c.loop-holder.invariant n (omega (arith, lt, ne))

pub returns : goal.returns
returns c = λ n. by n (slice_get c.args.holders.now n) refl where
  by : (n : ℕ) (o : Option Holder) → slice_get c.args.holders.now n ≡ o
      → IsLayout (layout_of (slice_get c.args.holders.now n))
  by n (Some h) is = c.loop-holder.invariant n
      (let lt = slice_get_within c.args.holders.now n h is in omega (arith, lt, c.loop-holder-test.false))
  by n None is = subst (λ (o : Option Holder). IsLayout (layout_of o)) (sym is) (record { stands = refl; ascends = tt })
