use Rattle.std.proofs.Common.{ℕ, ◌+◌, ◌*◌, Some, None, sym, ◌∙◌, arith}
use Rattle.fx_elements.proofs.InTurn.{first_step, next_step, last_step}
use Rattle.fx_elements.proofs.spelling.read_quad.Goals as goal

pub returns-in_err-a : goal.returns-in_err-a
returns-in_err-a c = record {
  value = c.from_residual.ensures ∙ sym (first_step c.args.text.now None (sym c.in_err-a.ensures.value));
  bound = rw c.from_residual.ensures tt;
}

pub returns-in_err-b : goal.returns-in_err-b
returns-in_err-b c =
    let first = first_step c.args.text.now (Some (c.in_ok-a.a, c.in_ok-a.rest.now)) (sym c.in_ok-a.ensures.value) in
    record {
      value = c.from_residual-in_err-b.ensures
          ∙ sym (first ∙ next_step 1 c.in_ok-a.rest.now c.in_ok-a.a None (sym c.in_err-b.ensures.value));
      bound = rw c.from_residual-in_err-b.ensures tt;
    }

pub returns-in_err-c : goal.returns-in_err-c
returns-in_err-c c =
    let first = first_step c.args.text.now (Some (c.in_ok-a.a, c.in_ok-a.rest.now)) (sym c.in_ok-a.ensures.value) in
    let second = next_step 1 c.in_ok-a.rest.now c.in_ok-a.a (Some (c.in_ok-b.b, c.in_ok-b.rest.now))
    (sym c.in_ok-b.ensures.value) in
    record {
      value = c.from_residual-in_err-c.ensures
          ∙ sym (first ∙ second ∙ next_step 0 c.in_ok-b.rest.now (c.in_ok-a.a * 256 + c.in_ok-b.b) None
          (sym c.in_err-c.ensures.value));
      bound = rw c.from_residual-in_err-c.ensures tt;
    }

pub returns-in_err-d : goal.returns-in_err-d
returns-in_err-d c =
    let first = first_step c.args.text.now (Some (c.in_ok-a.a, c.in_ok-a.rest.now)) (sym c.in_ok-a.ensures.value) in
    let second = next_step 1 c.in_ok-a.rest.now c.in_ok-a.a (Some (c.in_ok-b.b, c.in_ok-b.rest.now))
    (sym c.in_ok-b.ensures.value) in
    let v : ℕ = c.in_ok-a.a * 256 + c.in_ok-b.b in
    let third = next_step 0 c.in_ok-b.rest.now v (Some (c.in_ok-c.c, c.in_ok-c.rest.now)) (sym c.in_ok-c.ensures.value)
    in
    record {
      value = c.from_residual-in_err-d.ensures
          ∙ sym (first ∙ second ∙ third ∙ last_step c.in_ok-c.rest.now (v * 256 + c.in_ok-c.c) None
          (sym c.in_err-d.ensures.value));
      bound = rw c.from_residual-in_err-d.ensures tt;
    }

pub returns : goal.returns
returns c =
    let first = first_step c.args.text.now (Some (c.in_ok-a.a, c.in_ok-a.rest.now)) (sym c.in_ok-a.ensures.value) in
    let second = next_step 1 c.in_ok-a.rest.now c.in_ok-a.a (Some (c.in_ok-b.b, c.in_ok-b.rest.now))
    (sym c.in_ok-b.ensures.value) in
    let v : ℕ = c.in_ok-a.a * 256 + c.in_ok-b.b in
    let third = next_step 0 c.in_ok-b.rest.now v (Some (c.in_ok-c.c, c.in_ok-c.rest.now)) (sym c.in_ok-c.ensures.value)
    in
    record {
      value = sym (first ∙ second ∙ third ∙ last_step c.in_ok-c.rest.now (v * 256 + c.in_ok-c.c) (Some c.in_ok-d.d)
          (sym c.in_ok-d.ensures.value));
      bound = omega (
        arith,
        c.in_ok-a.ensures.bound,
        c.in_ok-b.ensures.bound,
        c.in_ok-c.ensures.bound,
        c.in_ok-d.ensures.bound,
      );
    }
