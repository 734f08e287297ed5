use Rattle.std.proofs.Common.{◌≡◌, sym, refl, subst, arith, List, [], ◌∷◌}
use Rattle.fx_layout.specs.Keys.{Layout, Fits}
use Rattle.fx_leaf.specs.Tables.{Tables}
use Rattle.fx_tests_network.proofs.Chain.{three_chained}
use Rattle.fx_tests_network.proofs.leaf_chain.answers.Goals as goal

pub asked-requires : goal.asked-requires
asked-requires g c =
    let own = c.by_source-own.result in
    let middle = c.by_source-middle.result in
    let last = c.by_source-last.result in
    let t : Tables = record {
      net = c.network-net.result;
      order = 2 ∷ 1 ∷ 0 ∷ [];
      numbering =
          record { layouts = own ∷ middle ∷ last ∷ []; numbers = 0 ∷ 1 ∷ 2 ∷ [] };
    } in
    let fits_own : Fits own = subst Fits (sym c.by_source-own.ensures) (omega arith, tt) in
    let fits_middle : Fits middle = subst Fits (sym c.by_source-middle.ensures) (c.requires, tt) in
    let fits_last : Fits last = subst Fits (sym c.by_source-last.ensures) (omega arith, tt) in
    let e = c.network-net.ensures in
    three_chained t own middle last fits_own fits_middle fits_last e.exporters e.holders e.processes e.links e.report
    refl refl
