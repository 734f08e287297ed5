use Rattle.std.proofs.Common.{◌≡◌, ℕ, suc, ◌+◌, ◌-◌, Some, None, sym, ap, ◌∙◌, arith}
use Rattle.fx_elements.proofs.InTurn.{groups_left, groups_begin, group_more, group_uncut, group_unread, group_last}
use Rattle.fx_elements.proofs.Sizes.{more_fits, seven_fit}
use Rattle.fx_elements.proofs.groups.read_groups.Goals as goal

pub loop-index-init : goal.loop-index-init
loop-index-init c = record { fits = omega arith; same = groups_begin c.args.text.now }

pub returns-in_err-group : goal.returns-in_err-group
returns-in_err-group c =
    let n : ℕ = 7 - (c.loop-index._index + 1) in
    let more : 7 - c.loop-index._index ≡ suc n = omega arith in
    record {
      value = c.from_residual.ensures ∙ sym (c.loop-index.invariant.same
          ∙ ap (λ k. groups_left k c.loop-index.rest.now c.loop-index.address) more
          ∙ group_uncut n c.loop-index.rest.now c.loop-index.address (sym c.in_err-group.ensures));
      bound = rw c.from_residual.ensures tt;
    }

pub overflow_mul-address : goal.overflow_mul-address
overflow_mul-address c = let fits = seven_fit c.loop-index.address c.loop-index._index c.loop-index.invariant.fits
    (omega arith) in omega (arith, fits)

pub overflow_add-address : goal.overflow_add-address
overflow_add-address c = let fits = seven_fit c.loop-index.address c.loop-index._index c.loop-index.invariant.fits
    (omega arith) in omega (arith, fits, c.in_ok-address.ensures.bound)

pub returns-in_err-address : goal.returns-in_err-address
returns-in_err-address c =
    let n : ℕ = 7 - (c.loop-index._index + 1) in
    let more : 7 - c.loop-index._index ≡ suc n = omega arith in
    record {
      value = c.from_residual-in_err-address.ensures
          ∙ sym (c.loop-index.invariant.same ∙ ap (λ k. groups_left k c.loop-index.rest.now c.loop-index.address) more
          ∙ group_unread n c.loop-index.rest.now c.loop-index.address
          (c.in_ok-group.group.now, c.in_ok-group.behind.now) (sym c.in_ok-group.ensures)
          (sym c.in_err-address.ensures.value));
      bound = rw c.from_residual-in_err-address.ensures tt;
    }

pub loop-index-preserved : goal.loop-index-preserved
loop-index-preserved c =
    let n : ℕ = 7 - (c.loop-index._index + 1) in
    let more : 7 - c.loop-index._index ≡ suc n = omega arith in
    record {
      fits = more_fits c.loop-index.address c.in_ok-address.field-0 c.loop-index._index c.loop-index.invariant.fits
          c.in_ok-address.ensures.bound;
      same = c.loop-index.invariant.same ∙ ap (λ k. groups_left k c.loop-index.rest.now c.loop-index.address) more
          ∙ group_more n c.loop-index.rest.now c.loop-index.address (c.in_ok-group.group.now, c.in_ok-group.behind.now)
          c.in_ok-address.field-0 (sym c.in_ok-group.ensures) (sym c.in_ok-address.ensures.value);
    }

pub overflow_mul-result : goal.overflow_mul-result
overflow_mul-result c = let fits = seven_fit c.loop-index.address c.loop-index._index c.loop-index.invariant.fits
    (omega arith) in omega (arith, fits)

pub overflow_add-result : goal.overflow_add-result
overflow_add-result c = let fits = seven_fit c.loop-index.address c.loop-index._index c.loop-index.invariant.fits
    (omega arith) in omega (arith, fits, c.in_ok-read_group.ensures.bound)

pub returns-in_err-read_group : goal.returns-in_err-read_group
returns-in_err-read_group c =
    let last : 7 - c.loop-index._index ≡ 0 = omega arith in
    record {
      value = c.from_residual-in_err-read_group.ensures
          ∙ sym (c.loop-index.invariant.same ∙ ap (λ k. groups_left k c.loop-index.rest.now c.loop-index.address) last
          ∙ group_last c.loop-index.rest.now c.loop-index.address None (sym c.in_err-read_group.ensures.value));
      bound = rw c.from_residual-in_err-read_group.ensures tt;
    }

pub returns : goal.returns
returns c =
    let last : 7 - c.loop-index._index ≡ 0 = omega arith in
    let fits = seven_fit c.loop-index.address c.loop-index._index c.loop-index.invariant.fits (omega arith) in
    record {
      value = sym (c.loop-index.invariant.same ∙ ap (λ k. groups_left k c.loop-index.rest.now c.loop-index.address) last
          ∙ group_last c.loop-index.rest.now c.loop-index.address (Some c.in_ok-read_group.field-0)
          (sym c.in_ok-read_group.ensures.value));
      bound = omega (arith, fits, c.in_ok-read_group.ensures.bound);
    }
