use Rattle.std.proofs.Common.{ℕ, List, take, is_some, sym, ap, ◌∙◌}
use Rattle.std.proofs.Math.Seq.{take-nil}
use Rattle.std.specs.List.{list_any}
use Rattle.std.specs.NonZero.{non_zero_usize_get}
use Rattle.std.specs.Ordering.{eq_by_cmp}
use Rattle.std.specs.FinMap.{contains_key, get-empty}
use Rattle.lru.specs.LruCache.{LruCache}
use Rattle.fx_base.specs.declared.counts.Counts.{Counts}
use Rattle.fx_layout.specs.Keys.{Key}
use Rattle.fx_store.specs.Order.{key_cmp}
use Rattle.fx_store.specs.Flows.{Entry, flows_of}
use Rattle.fx_store.proofs.bounded.BoundedStore.new.Goals as goal

pub invariant_of-result : goal.invariant_of-result
invariant_of-result c q =
    let most : ℕ = non_zero_usize_get c.unwrap-capacity.result in
    ap (λ (ks : List Key). list_any (eq_by_cmp key_cmp q) ks) c.new-2.ensures.empty
    ∙ sym (ap (λ (r : LruCache Key Counts). contains_key (flows_of r.entries) q) c.resize.ensures
    ∙ ap (λ (r : LruCache Key Counts). contains_key (flows_of (take most r.entries)) q) c.in_ok-recent.ensures
    ∙ ap (λ (es : List Entry). contains_key (flows_of es) q) (take-nil most)
    ∙ ap is_some (get-empty {X = Counts} key_cmp q))
