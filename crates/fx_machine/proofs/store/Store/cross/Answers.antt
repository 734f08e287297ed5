use Rattle.std.proofs.Common.{◌≡◌, ◌∙◌, inl, inr, true, false, sym, ap, List, Bool, Some, Err}
use Rattle.std.proofs.lemmas.Result.{err_from_is_err_and}
use Rattle.fx_base.specs.declared.fault.Fault.{Fault}
use Rattle.fx_tables.specs.declared.observation.Occurrence.{Occurrence}
use Rattle.fx_tables.specs.Holdings.{met_holdings}
use Rattle.fx_machine.specs.Holds.{hold_all}
use Rattle.fx_machine.specs.Comings.{coming_of, has_mark_at, without_mark}
use Rattle.fx_machine.specs.Steps.{one_packet}
use Rattle.fx_machine.proofs.StepOutcomes.{cross_made, cross_is, crossed, held_out}
use Rattle.fx_machine.proofs.store.Store.cross.Goals as goal

pub returns-then-not-is_to_come-clause-err : goal.returns-then-not-is_to_come-clause-err
returns-then-not-is_to_come-clause-err c =
    let in' = c.self.inside in
    let i = c.args.packet in
    let j = c.args.crossing in
    let gone : has_mark_at in'.to_come.items i j ≡ false =
    ap (λ (fs : List (List Bool)). has_mark_at fs i j) (sym c.as_slice.ensures.value) ∙ sym c.is_to_come.ensures
    ∙ c.if-not-is_to_come.true in (
      ap (λ (f : Fault). f.place) c.bare.ensures,
      inr (λ s e. cross_made c.args.net.now c.args.classes.now c.args.packets.now i j c.args.choices.now
          in'.to_come.items in'.held.items in'.carried.items in'.totals.items in'.unassigned s (c.self.view_is ∙ e) gone
          ∙ ap (λ (f : Fault). Err f.number) (sym c.bare.ensures)),
    )

pub returns-in_err-hold_met-clause-err : goal.returns-in_err-hold_met-clause-err
returns-in_err-hold_met-clause-err c =
    let in' = c.self.inside in
    let net = c.args.net.now in
    let i = c.args.packet in
    let j = c.args.crossing in
    let packet = c.in-Some.found.now in
    let hs = met_holdings net.holders packet.fields c.meet.new.met.items in
    let there : has_mark_at in'.to_come.items i j ≡ true =
    ap (λ (fs : List (List Bool)). has_mark_at fs i j) (sym c.as_slice.ensures.value) ∙ sym c.is_to_come.ensures
    ∙ c.if-not-is_to_come.false in
    let p = err_from_is_err_and c.from_residual-in_err-hold_met.result c.from_residual-in_err-hold_met.ensures.1 in
    rw (p.1, p.2) (elim c.in_err-hold_met.ensures.err [
      | inl a ↦ (ap (λ (f : Fault). f.place) a, inl (ap (λ (f : Fault). f.number) a))
      | inr b ↦ (
        ap (λ (f : Fault). f.place) b.0,
        inr (λ s e. cross_is net c.args.classes.now c.args.packets.now i j c.args.choices.now in'.to_come.items
            in'.held.items in'.carried.items in'.totals.items in'.unassigned s (c.self.view_is ∙ e) packet hs there
            c.in-Some.ensures c.in_ok-meet.ensures ∙ ap (held_out
            (record s { coming = coming_of 1 (without_mark in'.to_come.items i j) }))
            (ap (λ (os : List Occurrence). hold_all (one_packet packet) (met_holdings net.holders packet.fields os)
            in'.held.items c.args.choices.now) (sym c.as_slice-2.ensures.value) ∙ b.1)
            ∙ ap (λ (f : Fault). Err f.number) (sym b.0)),
      )
    ])

pub returns-clause-ok : goal.returns-clause-ok
returns-clause-ok c s e =
    let in' = c.self.inside in
    let net = c.args.net.now in
    let i = c.args.packet in
    let j = c.args.crossing in
    let p = c.in-Some.found.now in
    let hs = met_holdings net.holders p.fields c.meet.new.met.items in
    let there : has_mark_at in'.to_come.items i j ≡ true =
    ap (λ (fs : List (List Bool)). has_mark_at fs i j) (sym c.as_slice.ensures.value) ∙ sym c.is_to_come.ensures
    ∙ c.if-not-is_to_come.false in
    let taken : hold_all (one_packet p) hs in'.held.items c.args.choices.now ≡ Some c.hold_met.new.held.items =
    ap (λ (os : List Occurrence). hold_all (one_packet p) (met_holdings net.holders p.fields os) in'.held.items
    c.args.choices.now) (sym c.as_slice-2.ensures.value) ∙ c.in_ok-hold_met.ensures.ok in
    crossed net c.args.classes.now c.args.packets.now i j c.args.choices.now in'.to_come.items in'.held.items
    in'.carried.items in'.totals.items in'.unassigned s (c.self.view_is ∙ e) p hs c.clear.new.to_come.items
    c.hold_met.new.held.items there c.in-Some.ensures c.in_ok-meet.ensures taken c.clear.ensures
