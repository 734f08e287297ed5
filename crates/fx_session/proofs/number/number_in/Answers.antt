use Rattle.std.proofs.Common.{◌∙◌, sym, arith}
use Rattle.fx_session.proofs.Numbers.{eight, four, one, sixteen, two}
use Rattle.fx_session.proofs.number.number_in.Goals as goal

pub returns-in-len1 : goal.returns-in-len1
returns-in-len1 c = c.from.ensures ∙ sym (one c.args.octets.now (λ i. omega (arith, c.type_inv.octets i))
    (omega (arith, c.in-len1.len_at_least, c.in-len1.len_below)))

pub returns-in-len2 : goal.returns-in-len2
returns-in-len2 c = c.from-in-len2.ensures ∙ c.from_be_bytes.ensures
    ∙ sym (two c.args.octets.now (λ i. omega (arith, c.type_inv.octets i))
    (omega (arith, c.in-len2.len_at_least, c.in-len2.len_below)))

pub returns-in-len4 : goal.returns-in-len4
returns-in-len4 c = c.from-in-len4.ensures ∙ c.from_be_bytes-in-len4.ensures
    ∙ sym (four c.args.octets.now (λ i. omega (arith, c.type_inv.octets i))
    (omega (arith, c.in-len4.len_at_least, c.in-len4.len_below)))

pub returns-in-len8 : goal.returns-in-len8
returns-in-len8 c = c.from-in-len8.ensures ∙ c.from_be_bytes-in-len8.ensures
    ∙ sym (eight c.args.octets.now (λ i. omega (arith, c.type_inv.octets i))
    (omega (arith, c.in-len8.len_at_least, c.in-len8.len_below)))

pub returns-in-len16 : goal.returns-in-len16
returns-in-len16 c = c.from_be_bytes-in-len16.ensures
    ∙ sym (sixteen c.args.octets.now (λ i. omega (arith, c.type_inv.octets i))
    (omega (arith, c.in-len16.len_at_least, c.in-len16.len_below)))
