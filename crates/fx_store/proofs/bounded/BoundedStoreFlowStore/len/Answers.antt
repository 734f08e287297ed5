use Rattle.std.proofs.Common.{Bool, sym, ◌∙◌, subst}
use Rattle.std.specs.List.{IsDistinct}
use Rattle.std.specs.Map.{keys_of}
use Rattle.fx_layout.specs.Keys.{Key}
use Rattle.fx_store.proofs.FlowMaps.{len_is}
use Rattle.fx_store.proofs.Recency.{same_tests}
use Rattle.fx_store.proofs.bounded.BoundedStoreFlowStore.len.Goals as goal

pub returns-clause-len : goal.returns-clause-len
returns-clause-len c =
    let es = c.self.inside.recent.entries in
    rw (← c.self.view_is) (c.len.ensures.len
    ∙ sym (len_is es (subst (λ (e : Key → Key → Bool). IsDistinct e (keys_of es)) same_tests
    c.len.ensures.valid.0)))
