use Rattle.std.proofs.Common.{List, is_some, sym, ap, ◌∙◌}
use Rattle.std.specs.List.{list_any}
use Rattle.std.specs.Ordering.{eq_by_cmp}
use Rattle.std.specs.FinMap.{contains_key, get-empty}
use Rattle.fx_base.specs.declared.counts.Counts.{Counts}
use Rattle.fx_layout.specs.Keys.{Key}
use Rattle.fx_store.specs.Order.{key_cmp}
use Rattle.fx_store.specs.Flows.{Entry, flows_of}
use Rattle.fx_store.proofs.list.ListStore.new.Goals as goal

pub invariant_of-result : goal.invariant_of-result
invariant_of-result c q =
    ap (λ (ks : List Key). list_any (eq_by_cmp key_cmp q) ks) c.new.ensures.empty
    ∙ sym (ap (λ (es : List Entry). contains_key (flows_of es) q) c.with_hasher.ensures.empty
    ∙ ap is_some (get-empty {X = Counts} key_cmp q))
