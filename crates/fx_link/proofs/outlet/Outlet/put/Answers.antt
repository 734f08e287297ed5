use Rattle.std.proofs.Common.{ℕ, List, refl, sym, ◌∙◌, subst, arith}
use Rattle.fx_layout.specs.Keys.{Layout, HasBits, IsLayout}
use Rattle.fx_tables.specs.declared.record.Record.{Record}
use Rattle.fx_link.specs.Outgoing.{Waiting, IsWaiting}
use Rattle.fx_link.specs.Sending.{IsSent}
use Rattle.fx_link.proofs.FlushedMessages.{waits_on, Takes, takes_flushed, takes_same}
use Rattle.fx_link.proofs.outlet.Outlet.put.Goals as goal
use Rattle.fx_link.proofs.outlet.Outlet.put.Goals.{then-not-joins+in_ok-flush, else-not-joins}

pub invariant_of-self-2 : goal.invariant_of-self-2
invariant_of-self-2 c =
    let layout : IsLayout c.args.flow.key.layout =
    subst (λ (l : Layout). IsLayout l) (c.parts-parts.ensures.value ∙ c.layout.ensures) c.parts-parts.ensures.kept
    in
    let bits : HasBits c.args.flow.key.layout c.args.flow.key.values =
    subst (λ (vs : List ℕ). HasBits c.args.flow.key.layout vs) c.values-values.ensures.value
    c.values-values.ensures.bits in
    let sent : IsSent c.args.flow = (
      layout,
      record { layout_is = refl; bits = bits; packets = omega arith; octets = omega arith },
    ) in
    let waiting : Waiting = record { sender = c.self-2.inside.sender; batch = c.self-2.inside.batch.items } in
    let takes : Takes waiting c.args.flow =
    elim c.if-not-joins.branch [
      | then-not-joins+in_ok-flush w ↦ subst (λ (x : Waiting). Takes x c.args.flow) (sym (c.self-2.view_is ∙ w.self-is))
          (takes_flushed c.args.time w.flush.new.self c.args.stream.now.octets.items w.flush.new.stream.octets.items
          c.args.self.now c.args.flow c.requires w.in_ok-flush.ensures.ok)
      | else-not-joins w ↦ takes_same waiting c.args.self.now c.args.flow c.joins.result c.requires
          (c.self-2.view_is ∙ w.self-is) c.joins.ensures w.if-not-joins.false
    ] in
    subst (λ (b : List Record). IsWaiting (record { sender = c.self-2.inside.sender; batch = b }))
    (sym c.in_ok-push.ensures.items)
    (waits_on waiting c.args.flow takes.room c.self-2.invariant.batch sent takes.joined)
