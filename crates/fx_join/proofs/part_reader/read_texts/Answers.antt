use Rattle.std.proofs.Common.{inl, inr}
use Rattle.std.proofs.lemmas.Result.{err_from_is_err_and}
use Rattle.fx_join.proofs.TextsOfParts.{second_missing, third_missing, three_taken}
use Rattle.fx_join.proofs.part_reader.read_texts.Goals as goal

pub returns-in_err-traffic-clause-err : goal.returns-in_err-traffic-clause-err
returns-in_err-traffic-clause-err g c =
    let p = err_from_is_err_and c.from_residual-in_err-traffic.result c.from_residual-in_err-traffic.ensures.1 in
    let first = rw c.in-Some.is at c.in_ok-network.ensures.on in
    rw (p.1, p.2) (elim c.in_err-traffic.ensures.err [
      | inl m ↦ inl m
      | inr s ↦ inr (λ left asked from. s left asked (first left asked from))
    ])

pub returns-in_default-2-clause-none : goal.returns-in_default-2-clause-none
returns-in_default-2-clause-none g c =
    second_missing _ _ c.in-Some.network.items (rw c.in-Some.is at c.in_ok-network.ensures.some)
    (rw c.in_default-2.is at c.in_ok-traffic.ensures.none)

pub returns-in_err-certificate-clause-err : goal.returns-in_err-certificate-clause-err
returns-in_err-certificate-clause-err g c =
    let p = err_from_is_err_and c.from_residual-in_err-certificate.result c.from_residual-in_err-certificate.ensures.1
    in
    let first = rw c.in-Some.is at c.in_ok-network.ensures.on in
    let second = rw c.in-Some-2.is at c.in_ok-traffic.ensures.on in
    rw (p.1, p.2) (elim c.in_err-certificate.ensures.err [
      | inl m ↦ inl m
      | inr s ↦ inr (λ left asked from. s left asked (second left asked (first left asked from)))
    ])

pub returns-in_default-3-clause-none : goal.returns-in_default-3-clause-none
returns-in_default-3-clause-none g c =
    third_missing _ _ _ c.in-Some.network.items c.in-Some-2.traffic.items
    (rw c.in-Some.is at c.in_ok-network.ensures.some) (rw c.in-Some-2.is at c.in_ok-traffic.ensures.some)
    (rw c.in_default-3.is at c.in_ok-certificate.ensures.none)

pub returns-clause-some : goal.returns-clause-some
returns-clause-some g c =
    three_taken _ _ _ _ c.in-Some.network.items c.in-Some-2.traffic.items c.in-Some-3.certificate.items
    (rw c.in-Some.is at c.in_ok-network.ensures.some) (rw c.in-Some-2.is at c.in_ok-traffic.ensures.some)
    (rw c.in-Some-3.is at c.in_ok-certificate.ensures.some)

pub returns-clause-on : goal.returns-clause-on
returns-clause-on g c =
    let first = rw c.in-Some.is at c.in_ok-network.ensures.on in
    let second = rw c.in-Some-2.is at c.in_ok-traffic.ensures.on in
    let third = rw c.in-Some-3.is at c.in_ok-certificate.ensures.on in
    λ left asked from. third left asked (second left asked (first left asked from))
