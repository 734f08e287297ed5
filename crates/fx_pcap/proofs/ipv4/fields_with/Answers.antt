use Rattle.std.proofs.Common.{◌∷◌, [], ◌∙◌}
use Rattle.fx_pcap.proofs.ipv4.fields_with.Goals as goal

pub returns : goal.returns
returns c =
    c.of.ensures
    ∙ (λ i. (c.from.ensures ∙ c.network32.ensures) i ∷ (c.from-2.ensures ∙ c.network32-2.ensures) i ∷ c.from-3.ensures i
    ∷ c.from-4.ensures i ∷ c.from-5.ensures i ∷ c.from-6.ensures i ∷ 4 ∷ 0 ∷ 0 ∷ [])
