use Rattle.std.proofs.Common.{◌≡◌, List, [], drop, map, ◌∙◌, ap, refl, arith}
use Rattle.std.proofs.lemmas.List.{drop_all, append-nil}
use Rattle.serde_json.specs.View.{view}
use Rattle.serde_json.specs.declared.value.Value.{Value}
use Rattle.fx_walk.specs.Pointer.{pointer}
use Rattle.fx_walk.proofs.Faults.{exit, pointer-Item}
use Rattle.fx_topology.specs.Links.{link_of}
use Rattle.fx_topology.proofs.LinkByLink.{drop_item, next_faults, next_values, refused_here}
use Rattle.fx_topology.proofs.links.links_of.Goals as goal

pub loop-item-preserved : goal.loop-item-preserved
loop-item-preserved c =
    let i = c.loop-item.invariant in
    let item = c.item-item.result in
    let xs = c.args.items.now in
    let n = c.loop-item.index in
    let link = link_of (view item) in
    let before = c.loop-item.links in
    let left = ap (λ (vs : List Value). map view vs)
    (drop_item xs n c.loop-item.item-index item i.index c.loop-item-test.true c.item-item.is) in
    let read = rw pointer-Item at c.in_ok-add_link.ensures.reads in
    record {
      index = omega (arith, i.index);
      faults = i.faults ∙ next_faults c.args.devices.now before c.add_link.new.earlier (pointer c.args.path.now) n
          (view item) _ _ link left c.in_ok-add_link.ensures.links read.0 refl;
      links = next_values before c.add_link.new.earlier (view item) _ _ link left c.in_ok-add_link.ensures.links refl
          ∙ i.links;
    }

pub returns-in_err-add_link : goal.returns-in_err-add_link
returns-in_err-add_link c =
    let i = c.loop-item.invariant in
    let item = c.item-item.result in
    let left = ap (λ (vs : List Value). map view vs)
    (drop_item c.args.items.now c.loop-item.index c.loop-item.item-index item i.index c.loop-item-test.true
    c.item-item.is) in
    exit _ _ _ _ c.from_residual.ensures (rw i.faults
    (refused_here c.args.devices.now c.loop-item.links (pointer c.args.path.now) c.loop-item.index (view item) _ _ _
    left (rw pointer-Item at c.in_err-add_link.ensures.reads)))

pub returns : goal.returns
returns c =
    let i = c.loop-item.invariant in
    let none : drop c.loop-item.index c.args.items.now ≡ [] =
    drop_all c.loop-item.index c.args.items.now (omega (arith, i.index)) in
    (i.faults ∙ rw none refl, rw (none, append-nil) at i.links)
