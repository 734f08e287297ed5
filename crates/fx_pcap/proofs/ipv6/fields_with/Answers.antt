use Rattle.std.proofs.Common.{arith, ℕ, ◌∷◌, [], ◌∙◌, ◌/◌, ◌%◌, ap}
use Rattle.fx_pcap.proofs.ValuesFit.{values_fit}
use Rattle.fx_pcap.proofs.ipv6.fields_with.Goals as goal

pub of-requires : goal.of-requires
of-requires c =
    values_fit c.from.result c.from-2.result c.from-3.result c.from-4.result c.network128.result c.network128-2.result
    (omega arith) (omega arith) (omega arith) (omega arith) (omega arith) (omega arith)

pub returns : goal.returns
returns c =
    c.of.ensures
    ∙ (λ i. 0 ∷ 0 ∷ c.from.ensures i ∷ c.from-2.ensures i ∷ c.from-3.ensures i
    ∷ (c.from-4.ensures ∙ ap (λ (n : ℕ). n / 16 % 256) c.network16.ensures) i ∷ 6 ∷ c.network128.ensures i
    ∷ c.network128-2.ensures i ∷ [])
