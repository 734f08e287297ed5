use Rattle.std.proofs.Common.{◌∙◌, ◌++◌, ap, List, Some, None}
use Rattle.fx_base.specs.Entries.{entry_numbered}
use Rattle.fx_tables.specs.declared.record.Record.{Record}
use Rattle.fx_machine.specs.Effects.{keys_in, new_keys}
use Rattle.fx_machine.proofs.KeysHeld.{left_key, right_key}
use Rattle.fx_machine.proofs.effects.key_behind.Goals as goal

pub returns-then-position-count : goal.returns-then-position-count
returns-then-position-count c =
    let keys = new_keys c.args.holder c.args.holdings.now c.args.choices.now in
    c.new_key.ensures ∙ right_key c.records_at-records.result.now keys c.args.position c.if-position-count.true
    ∙ ap (λ (rs : List Record). entry_numbered (keys_in rs ++ keys) c.args.position) c.records_at-records.ensures

pub returns-in-None : goal.returns-in-None
returns-in-None c =
    let keys = new_keys c.args.holder c.args.holdings.now c.args.choices.now in
    left_key c.records_at-records.result.now keys c.args.position None c.if-position-count.false c.in-None.ensures
    ∙ ap (λ (rs : List Record). entry_numbered (keys_in rs ++ keys) c.args.position) c.records_at-records.ensures

pub returns-in-Some : goal.returns-in-Some
returns-in-Some c =
    let keys = new_keys c.args.holder c.args.holdings.now c.args.choices.now in
    left_key c.records_at-records.result.now keys c.args.position (Some c.in-Some.found.now) c.if-position-count.false
    c.in-Some.ensures ∙ ap (λ (rs : List Record). entry_numbered (keys_in rs ++ keys) c.args.position)
    c.records_at-records.ensures
