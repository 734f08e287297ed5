use Rattle.std.proofs.Common.{Bool, List, ℕ, ap, sym, ◌∙◌}
use Rattle.std.proofs.lemmas.Bool.{or_from}
use Rattle.std.proofs.lemmas.List.{take_all}
use Rattle.std.proofs.lemmas.List.Folds.{list_any_at, list_any_more}
use Rattle.std.specs.List.{list_any}
use Rattle.std.specs.Str.{bytes_eq}
use Rattle.fx_tables.proofs.metering.has_name.Goals as goal

pub returns-then-eq : goal.returns-then-eq
returns-then-eq c =
    let is : List ℕ → Bool = λ own. bytes_eq own c.args.name.now in
    let own = c.own-item.result in
    sym (list_any_at is c.args.names.now c.loop-own.own-index own c.loop-own-test.true
    (ap is (sym (c.as_str.ensures.text ∙ c.own-item.is)) ∙ sym c.if-eq.ensures))

pub loop-own-preserved : goal.loop-own-preserved
loop-own-preserved c =
    let is : List ℕ → Bool = λ own. bytes_eq own c.args.name.now in
    let own = c.own-item.result in
    list_any_more is c.args.names.now c.loop-own.own-index own c.loop-own-test.true
    ∙ or_from _ _ c.loop-own.invariant (ap is (sym (c.as_str.ensures.text ∙ c.own-item.is)) ∙ sym c.if-eq.ensures)

pub returns : goal.returns
returns c =
    let is : List ℕ → Bool = λ own. bytes_eq own c.args.name.now in
    sym c.loop-own.invariant ∙ ap (list_any is) (take_all c.loop-own.own-index c.args.names.now c.loop-own-test.false)
