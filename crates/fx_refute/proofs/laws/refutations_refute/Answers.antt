use Rattle.std.proofs.Common.{◌<◌, ◌^◌, true, false, cond, List, [], ◌∷◌, Some, None, IfSome, arith, inl, inr}
use Rattle.std.proofs.lemmas.List.Elements.{All-nil, All-cons}
use Rattle.fx_layout.specs.Keys.{key_of, same_key}
use Rattle.fx_tables.specs.declared.packet.Packet.{Packet}
use Rattle.fx_tables.specs.Network.{Net}
use Rattle.fx_base.specs.Entries.{entry_numbered}
use Rattle.fx_tables.specs.Classes.{IsOf}
use Rattle.fx_machine.specs.States.{opening}
use Rattle.fx_machine.specs.Steps.{one_packet}
use Rattle.fx_machine.specs.Sums.{IsBelow, SumsFit}
use Rattle.fx_refute.specs.Refutations.{packets_to_count}
use Rattle.fx_refute.proofs.TotalsAgree.{IsOneOrNone, one_or_none}
use Rattle.fx_refute.proofs.laws.refutations_refute.Goals as goal

one_fits : (net : Net) (p : Packet) → p.octets < 2 ^ 64 → SumsFit net.report_layout (p ∷ [])
one_fits net p small key =
    elim (same_key (key_of net.report_layout p.fields) key)
    as (λ b. IfSome (cond b (Some (one_packet p)) None) IsBelow) [
      | true ↦ let one : 1 < 2 ^ 64 = omega arith in (one, small)
      | false ↦ tt
    ]

fit : (net : Net) (p : Packet) (ps : List Packet) → IsOneOrNone p ps → p.octets < 2 ^ 64 → SumsFit net.report_layout ps
fit net p ps (inl one) small = rw one (one_fits net p small)
fit net p ps (inr none) small = rw none (λ key. tt)

pub returns : goal.returns
returns c net classes r small h once =
    let P : Packet → Type 0 = λ p. IsOf p (entry_numbered classes p.class) in
    let moves = c.choices_are_free.ensures.steps_are_moves net classes (r.packet ∷ []) r.steps
    (opening net classes (r.packet ∷ [])) h.last h.runs_to.runs in
    h.wrong (once (r.packet ∷ []) (All-cons P r.packet [] h.runs_to.of_class (All-nil P))
    (fit net r.packet (packets_to_count classes r) (one_or_none classes r.packet) small) h.last moves h.complete)
