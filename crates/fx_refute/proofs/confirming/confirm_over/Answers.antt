use Rattle.std.proofs.Common.{arith, rules}
use Rattle.std.proofs.Common.{◌≡◌, ◌⊎◌, inl, inr, List, [], ◌∷◌, sym, ap, ◌∙◌, subst}
use Rattle.fx_base.specs.declared.fault.Fault.{Fault}
use Rattle.fx_base.specs.declared.fault.Place.TheVariants as places
use Rattle.fx_base.specs.Entries.{entry_numbered}
use Rattle.fx_base.specs.Fault.{fault_at}
use Rattle.fx_plan.proofs.Numberings.{exit_with}
use Rattle.fx_tables.specs.Classes.{Class, IsOf}
use Rattle.fx_tables.specs.Network.{Net}
use Rattle.fx_tables.specs.declared.packet.Packet.{Packet}
use Rattle.fx_machine.specs.States.{opening}
use Rattle.fx_refute.specs.Refutations.{Refutation, IsNoRefutation}
use Rattle.fx_refute.specs.Refutations.IsNoRefutation.{no_member}
use Rattle.fx_refute.proofs.confirming.confirm_over.Goals as goal

abbrev Refuses : Net → List Class → Refutation → Fault → Type 0
Refuses net classes r e = (e ≡ fault_at 900 places.None) ⊎ IsNoRefutation net classes r e

no_packet : (net : Net) (classes : List Class) (r : Refutation) (p : Packet) (e : Fault) → p ≡ r.packet
    → ((e ≡ fault_at 502 (places.Line 2)) × (IsOf p (entry_numbered classes p.class) → ⊥))
    ⊎ (e ≡ fault_at 900 places.None) → Refuses net classes r e
no_packet net classes r p e ps (inl h) =
    inr (subst (IsNoRefutation net classes r) (sym h.0)
    (no_member (subst (λ (x : Packet). IsOf x (entry_numbered classes x.class) → ⊥) ps h.1)))
no_packet net classes r p e ps (inr h) = inl h

pub returns-in_err-state-clause-err : goal.returns-in_err-state-clause-err
returns-in_err-state-clause-err g c =
    exit_with _ _ (Refuses c.args.net.now c.args.classes.now c.args.refutation.now) c.from_residual.ensures
    (no_packet c.args.net.now c.args.classes.now c.args.refutation.now c.packet.result.now _ c.packet.ensures
    c.in_err-state.ensures.err)

pub confirm_run-requires : goal.confirm_run-requires
confirm_run-requires g c =
    let net = c.args.net.now in
    let classes = c.args.classes.now in
    let same = c.packet.ensures in
    record {
      opening = c.in_ok-state.ensures.ok.0 ∙ ap (λ (p : Packet).
          record { net = net; classes = classes; packets = p ∷ []; state = opening net classes (p ∷ []) }) same;
      of_class = subst (λ (p : Packet). IsOf p (entry_numbered classes p.class)) same c.in_ok-state.ensures.ok.1;
    }

pub returns-clause-err : goal.returns-clause-err
returns-clause-err g c = first_of (grind arith, search rules)
