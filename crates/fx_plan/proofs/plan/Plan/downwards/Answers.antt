use Rattle.std.proofs.Common.{ℕ, List, ap, reverse, sym, ◌∙◌, subst}
use Rattle.fx_tables.specs.Network.{Net}
use Rattle.fx_plan.specs.declared.plan.Parts.{Parts}
use Rattle.fx_ranks.specs.Ranks.{IsDescending}
use Rattle.fx_plan.specs.Tables.{net_of}
use Rattle.fx_ranks.proofs.RankedNetworks.{turned}
use Rattle.fx_plan.proofs.plan.Plan.downwards.Goals as goal

pub returns : goal.returns
returns c =
    let i = c.self.invariant in
    let v = c.self.view_is in
    let ranked = c.self.inside.parts.value.ranks.ranked.items in
    let down : IsDescending c.self.inside.parts.value.net (reverse ranked) =
    turned c.self.inside.parts.value.net ranked i.whole in
    let there : IsDescending (net_of c.self.inside.parts.value.network) (reverse ranked) =
    subst (λ (n : Net). IsDescending n (reverse ranked)) i.net_is down in
    let here : IsDescending (net_of c.self.inside.parts.value.network) c.as_slice.result.now =
    subst (λ (l : List ℕ). IsDescending (net_of c.self.inside.parts.value.network) l)
    (sym (c.as_slice.ensures.value ∙ (ap (λ (p : Parts). p.ranks.order.items) c.deref.ensures ∙ i.order_is))) there
    in
    rw (← v) here
