use Rattle.std.proofs.Common.{◌∙◌, ℕ, List, ap, slice_get, subst}
use Rattle.fx_tables.specs.Network.{Net, at_places, named_by}
use Rattle.fx_leaf.specs.declared.cause.Cause.TheVariants.{Behind}
use Rattle.fx_leaf.specs.Causes.{IsCauseByHolder, SendsOn}
use Rattle.fx_leaf.proofs.PathSplits.{some_more, starts_at, marked_there}
use Rattle.fx_leaf.proofs.path.PathReader.middle_cut_behind_holder.Goals as goal

pub returns-in-Some : goal.returns-in-Some
returns-in-Some c =
    let reader = c.args.self.now in
    let t = reader.verdicts.tables.now in
    let process = c.in-Some.process in
    let number = c.number_of_layout-number.result in
    let named = c.named_by-places.ensures ∙ ap (λ (n : Net). named_by (slice_get n.holders c.args.holder)) c.net.ensures
    in
    let s : IsCauseByHolder t reader.verdicts.rows.now c.args.holder (Behind process number) = (
      c.number_of_layout-number.ensures,
      subst (λ (places : List ℕ). SendsOn reader.verdicts.rows.now t.net number
          (at_places t.net.exporters places) process) named c.in-Some.ensures,
    ) in
    some_more _ _ c.cut_behind.result (λ x. λ h. λ path. λ held. h path
    (starts_at t c.requires.tables reader.verdicts.region.now reader.bounded reader.verdicts.rows.now path
    c.args.holder process number s held)) c.cut_behind.ensures.some

pub cut_behind-requires-clause-marked : goal.cut_behind-requires-clause-marked
cut_behind-requires-clause-marked c =
    let reader = c.args.self.now in
    let t = reader.verdicts.tables.now in
    let process = c.in-Some.process in
    let number = c.number_of_layout-number.result in
    let named = c.named_by-places.ensures ∙ ap (λ (n : Net). named_by (slice_get n.holders c.args.holder)) c.net.ensures
    in
    let s : IsCauseByHolder t reader.verdicts.rows.now c.args.holder (Behind process number) = (
      c.number_of_layout-number.ensures,
      subst (λ (places : List ℕ). SendsOn reader.verdicts.rows.now t.net number
          (at_places t.net.exporters places) process) named c.in-Some.ensures,
    ) in
    marked_there t c.requires.tables reader.verdicts.region.now reader.bounded reader.verdicts.rows.now reader.marks.now
    reader.filled c.args.holder process number c.requires.along s
