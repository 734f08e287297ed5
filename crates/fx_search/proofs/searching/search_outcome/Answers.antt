use Rattle.std.proofs.Common.{◌≡◌, ap, sym, subst, ◌∙◌, List, map, ℕ, []}
use Rattle.fx_cert.specs.declared.item.Version.{Version}
use Rattle.fx_tables.specs.Classes.{Class}
use Rattle.fx_traffic.specs.Targets.{targets_of}
use Rattle.fx_search.specs.Growing.{IsGrowing, IsGrown, IsStoppedAt}
use Rattle.fx_search.specs.Fronts.{most_lines, root}
use Rattle.fx_search.specs.Found.{version_for}
use Rattle.fx_search.proofs.SearchEnds.{started}
use Rattle.fx_search.proofs.searching.search_outcome.Goals as goal

pub returns-in-Some-clause-right : goal.returns-in-Some-clause-right
returns-in-Some-clause-right g c =
    let net = c.tables_of-tables.result.net in
    let classes = c.args.traffic.now in
    let ts = targets_of classes in
    let version = c.version_for-version.result in
    let all : map root c.as_slice-lent.result.now ≡ map root ts =
    ap (map root) (c.as_slice-lent.ensures.value ∙ c.in_ok-targets.ensures.items) in
    let s = started net ts version c.min-most.result c.in_ok-growth.growth.items.items c.in_ok-growth.growth.lines
    (map root c.as_slice-lent.result.now) c.in_ok-growth.ensures.items c.in_ok-growth.ensures.lines all in
    let grown = subst (IsGrown net ts version c.min-most.result c.grow_all.new.growth.items.items
    c.grow_all.new.growth.lines []) c.in-Some.is (c.in_ok-stop.ensures.grown ts version s) in
    let most : c.min-most.result ≡ most_lines c.args.limit = c.min-most.ensures in
    let same : c.classes-classes.result.now ≡ classes = c.classes-classes.ensures in
    let there = subst (λ (m : ℕ). IsStoppedAt net ts m c.in-Some.stop.ahead c.in-Some.stop.why) most grown in
    let here = subst (λ (ks : List Class). IsStoppedAt net (targets_of ks) (most_lines c.args.limit)
    c.in-Some.stop.ahead c.in-Some.stop.why) (sym same) there in
    rw (← c.tables_of-tables.ensures.net, ← same) (c.stopped.ensures.right c.args.limit here)

pub returns-in-Some-clause-settles : goal.returns-in-Some-clause-settles
returns-in-Some-clause-settles g c =
    let net = c.tables_of-tables.result.net in
    let classes = c.args.traffic.now in
    let ts = targets_of classes in
    let version = c.version_for-version.result in
    let all : map root c.as_slice-lent.result.now ≡ map root ts =
    ap (map root) (c.as_slice-lent.ensures.value ∙ c.in_ok-targets.ensures.items) in
    let s = started net ts version c.min-most.result c.in_ok-growth.growth.items.items c.in_ok-growth.growth.lines
    (map root c.as_slice-lent.result.now) c.in_ok-growth.ensures.items c.in_ok-growth.ensures.lines all in
    let grown = subst (IsGrown net ts version c.min-most.result c.grow_all.new.growth.items.items
    c.grow_all.new.growth.lines []) c.in-Some.is (c.in_ok-stop.ensures.grown ts version s) in
    let most : c.min-most.result ≡ most_lines c.args.limit = c.min-most.ensures in
    let same : c.classes-classes.result.now ≡ classes = c.classes-classes.ensures in
    let there = subst (λ (m : ℕ). IsStoppedAt net ts m c.in-Some.stop.ahead c.in-Some.stop.why) most grown in
    let here = subst (λ (ks : List Class). IsStoppedAt net (targets_of ks) (most_lines c.args.limit)
    c.in-Some.stop.ahead c.in-Some.stop.why) (sym same) there in
    rw (← c.tables_of-tables.ensures.net, ← same) (c.stopped.ensures.settles c.args.limit here)

pub returns-clause-right : goal.returns-clause-right
returns-clause-right g c =
    let net = c.tables_of-tables.result.net in
    let ts = targets_of c.args.traffic.now in
    let version = c.version_for-version.result in
    let all : map root c.as_slice-lent.result.now ≡ map root ts =
    ap (map root) (c.as_slice-lent.ensures.value ∙ c.in_ok-targets.ensures.items) in
    let s = started net ts version c.min-most.result c.in_ok-growth.growth.items.items c.in_ok-growth.growth.lines
    (map root c.as_slice-lent.result.now) c.in_ok-growth.ensures.items c.in_ok-growth.ensures.lines all in
    let grown = subst (IsGrown net ts version c.min-most.result c.grow_all.new.growth.items.items
    c.grow_all.new.growth.lines []) c.in-None.is (c.in_ok-stop.ensures.grown ts version s) in
    let most : c.min-most.result ≡ most_lines c.args.limit = c.min-most.ensures in
    let named : version ≡ version_for c.args.traffic.now = c.version_for-version.ensures
    ∙ ap version_for (c.as_slice.ensures ∙ c.classes-classes.ensures) in
    let end = subst (λ (v : Version). IsGrowing net ts v (most_lines c.args.limit) c.grow_all.new.growth.items.items
    c.grow_all.new.growth.lines []) named (subst
    (λ (m : ℕ). IsGrowing net ts version m c.grow_all.new.growth.items.items c.grow_all.new.growth.lines []) most
    grown) in
    rw (← c.tables_of-tables.ensures.net) (c.certificate.ensures.right net c.args.traffic.now c.args.limit end)

pub returns-clause-settles : goal.returns-clause-settles
returns-clause-settles g c =
    let net = c.tables_of-tables.result.net in
    let ts = targets_of c.args.traffic.now in
    let version = c.version_for-version.result in
    let all : map root c.as_slice-lent.result.now ≡ map root ts =
    ap (map root) (c.as_slice-lent.ensures.value ∙ c.in_ok-targets.ensures.items) in
    let s = started net ts version c.min-most.result c.in_ok-growth.growth.items.items c.in_ok-growth.growth.lines
    (map root c.as_slice-lent.result.now) c.in_ok-growth.ensures.items c.in_ok-growth.ensures.lines all in
    let grown = subst (IsGrown net ts version c.min-most.result c.grow_all.new.growth.items.items
    c.grow_all.new.growth.lines []) c.in-None.is (c.in_ok-stop.ensures.grown ts version s) in
    let most : c.min-most.result ≡ most_lines c.args.limit = c.min-most.ensures in
    let named : version ≡ version_for c.args.traffic.now = c.version_for-version.ensures
    ∙ ap version_for (c.as_slice.ensures ∙ c.classes-classes.ensures) in
    let end = subst (λ (v : Version). IsGrowing net ts v (most_lines c.args.limit) c.grow_all.new.growth.items.items
    c.grow_all.new.growth.lines []) named (subst
    (λ (m : ℕ). IsGrowing net ts version m c.grow_all.new.growth.items.items c.grow_all.new.growth.lines []) most
    grown) in
    rw (← c.tables_of-tables.ensures.net) (c.certificate.ensures.settles net c.args.traffic.now c.args.limit
    c.tables_of-tables.ensures.tables.network end)
