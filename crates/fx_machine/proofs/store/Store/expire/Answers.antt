use Rattle.std.proofs.Common.{◌≡◌, refl, ◌<◌, ◌≤◌, ◌∙◌, inl, inr, sym, ap, ap₂, ℕ, List, [], length, slice_get, Option, Some, None, Err, drop}
use Rattle.std.proofs.lemmas.Result.{err_from_is_err_and}
use Rattle.fx_base.specs.declared.fault.Fault.{Fault}
use Rattle.fx_tables.specs.declared.record.Record.{Record}
use Rattle.fx_tables.specs.Network.{Net, Exporter, at_places, named_by}
use Rattle.fx_machine.specs.Sends.{put_all, Chosen, chosen_from}
use Rattle.fx_machine.specs.States.{State}
use Rattle.fx_machine.specs.Steps.{after_expire, expire_at, expire_from}
use Rattle.fx_machine.specs.Stores.{taken_out}
use Rattle.fx_machine.specs.Comings.{coming_of}
use Rattle.fx_machine.proofs.StepOutcomes.{expire_is, expired, choices_left, choices_used}
use Rattle.fx_machine.proofs.store.Store.expire.Goals as goal

-- the links that are chosen, reported of the network's tables
chosen : (net : Net) (index : ℕ) (xs : List Exporter) (ps : List ℕ) (choices : List (Option ℕ)) (o : Option Chosen) → xs
    ≡ net.exporters → ps ≡ named_by (slice_get net.holders index) → chosen_from [] (at_places xs ps) choices ≡ o
    → chosen_from [] (at_places net.exporters (named_by (slice_get net.holders index))) choices ≡ o
chosen net index xs ps choices o ex ep h =
    ap₂ (λ (a : List Exporter) (b : List ℕ). chosen_from [] (at_places a b) choices) (sym ex) (sym ep) ∙ h

pub returns-in_err-links-clause-err : goal.returns-in_err-links-clause-err
returns-in_err-links-clause-err c =
    let in' = c.self.inside in
    let net = c.args.net.now in
    let index = c.in-Some.index in
    let rs = c.in-Some-entry_at.records.now in
    let r = c.in-Some-record_numbered.found.now in
    let cs = c.args.choices.now in
    let k : Some rs ≡ slice_get in'.held.items index = c.in-Some-entry_at.ensures
    ∙ ap (λ (x : List (List Record)). slice_get x index) c.as_slice.ensures.value in
    let p = err_from_is_err_and c.from_residual.result c.from_residual.ensures.1 in
    rw (p.1, p.2) (elim c.in_err-links.ensures.err [
      | inl a ↦ (ap (λ (f : Fault). f.place) a, inl (ap (λ (f : Fault). f.number) a))
      | inr b ↦ (
        ap (λ (f : Fault). f.place) b.0,
        inr (λ s e. expire_is net c.args.holder c.args.number cs (coming_of 1 in'.to_come.items) in'.held.items
            in'.carried.items in'.totals.items in'.unassigned s (c.self.view_is ∙ e) index rs r None c.in-Some.ensures k
            c.in-Some-record_numbered.ensures (chosen net index c.exporters.result.now c.named_by-exporters.result.now
            cs None c.exporters.ensures c.named_by-exporters.ensures b.1) ∙ ap (λ (f : Fault). Err f.number) (sym b.0)),
      )
    ])

pub returns-then-used-choices-clause-err : goal.returns-then-used-choices-clause-err
returns-then-used-choices-clause-err c =
    let in' = c.self.inside in
    let net = c.args.net.now in
    let index = c.in-Some.index in
    let rs = c.in-Some-entry_at.records.now in
    let r = c.in-Some-record_numbered.found.now in
    let cs = c.args.choices.now in
    let used = c.in_ok-links.used in
    let k : Some rs ≡ slice_get in'.held.items index = c.in-Some-entry_at.ensures
    ∙ ap (λ (x : List (List Record)). slice_get x index) c.as_slice.ensures.value in
    let o : Option Chosen = Some (record { links = c.in_ok-links.links.items; rest = drop used cs }) in
    let lt : used < length cs = c.if-used-choices.true in
    let picked = chosen net index c.exporters.result.now c.named_by-exporters.result.now cs o c.exporters.ensures
    c.named_by-exporters.ensures c.in_ok-links.ensures.ok.1 in (
      ap (λ (f : Fault). f.place) c.bare-then-used-choices.ensures,
      inr (λ s e. expire_is net c.args.holder c.args.number cs (coming_of 1 in'.to_come.items) in'.held.items
          in'.carried.items in'.totals.items in'.unassigned s (c.self.view_is ∙ e) index rs r o c.in-Some.ensures k
          c.in-Some-record_numbered.ensures picked
          ∙ choices_left cs used (record s {
            held = taken_out s.held index c.args.number;
            carried =
                put_all c.in_ok-links.links.items r s.carried;
          }) lt
          ∙ ap (λ (f : Fault). Err f.number) (sym c.bare-then-used-choices.ensures)),
    )

pub returns-clause-ok : goal.returns-clause-ok
returns-clause-ok c s e =
    let in' = c.self.inside in
    let net = c.args.net.now in
    let index = c.in-Some.index in
    let rs = c.in-Some-entry_at.records.now in
    let r = c.in-Some-record_numbered.found.now in
    let cs = c.args.choices.now in
    let used = c.in_ok-links.used in
    let links = c.in_ok-links.links.items in
    let k : Some rs ≡ slice_get in'.held.items index = c.in-Some-entry_at.ensures
    ∙ ap (λ (x : List (List Record)). slice_get x index) c.as_slice.ensures.value in
    let o : Option Chosen = Some (record { links = links; rest = drop used cs }) in
    let all : length cs ≤ used = c.if-used-choices.false in
    let picked = chosen net index c.exporters.result.now c.named_by-exporters.result.now cs o c.exporters.ensures
    c.named_by-exporters.ensures c.in_ok-links.ensures.ok.1 in
    let carried : c.put_all.new.carried.items ≡ put_all links r in'.carried.items = c.in_default-put_all.ensures.ok
    ∙ ap₂ (λ (ls : List ℕ) (x : Record). put_all ls x in'.carried.items) c.as_slice-2.ensures.value
    c.copy-entry.ensures in
    expired net c.args.holder c.args.number cs (coming_of 1 in'.to_come.items) in'.held.items in'.carried.items
    in'.totals.items in'.unassigned s (c.self.view_is ∙ e) index rs r links (drop used cs)
    c.take_out_at.new.lists.items c.put_all.new.carried.items c.in-Some.ensures k c.in-Some-record_numbered.ensures
    picked (choices_used cs used all) c.take_out_at.ensures carried

pub returns-in_default : goal.returns-in_default
returns-in_default c = record {
  ok = tt;
  same = refl;
  err = (
    ap (λ (f : Fault). f.place) c.bare.ensures,
    inr (λ s e. ap (λ (index : Option ℕ). expire_at c.args.net.now index c.args.number s c.args.choices.now)
        (sym c.in_default.ensures) ∙ ap (λ (f : Fault). Err f.number) (sym c.bare.ensures)),
  );
}

pub returns-in_default-entry_at : goal.returns-in_default-entry_at
returns-in_default-entry_at c =
    let in' = c.self.inside in
    let net = c.args.net.now in
    let index = c.in-Some.index in
    let cs = c.args.choices.now in
    let none : None ≡ slice_get in'.held.items index = c.in_default-entry_at.ensures
    ∙ ap (λ (x : List (List Record)). slice_get x index) c.as_slice.ensures.value in
    record {
      ok = tt;
      same = refl;
      err = (
        ap (λ (f : Fault). f.place) c.bare-in_default-entry_at.ensures,
        inr (λ s e.
            ap (λ (index : Option ℕ). expire_at net index c.args.number s cs) (sym c.in-Some.ensures)
            ∙ ap (λ (x : State). expire_from net index (slice_get x.held index) c.args.number s cs)
            (sym (c.self.view_is ∙ e))
            ∙ ap (λ (o : Option (List Record)). expire_from net index o c.args.number s cs) (sym none)
            ∙ ap (λ (f : Fault). Err f.number) (sym c.bare-in_default-entry_at.ensures)),
      );
    }

pub returns-in_default-record_numbered : goal.returns-in_default-record_numbered
returns-in_default-record_numbered c =
    let in' = c.self.inside in
    let net = c.args.net.now in
    let index = c.in-Some.index in
    let rs = c.in-Some-entry_at.records.now in
    let cs = c.args.choices.now in
    let k : Some rs ≡ slice_get in'.held.items index = c.in-Some-entry_at.ensures
    ∙ ap (λ (x : List (List Record)). slice_get x index) c.as_slice.ensures.value in
    record {
      ok = tt;
      same = refl;
      err = (
        ap (λ (f : Fault). f.place) c.bare-in_default-record_numbered.ensures,
        inr (λ s e.
            ap (λ (index : Option ℕ). expire_at net index c.args.number s cs) (sym c.in-Some.ensures)
            ∙ ap (λ (x : State). expire_from net index (slice_get x.held index) c.args.number s cs)
            (sym (c.self.view_is ∙ e))
            ∙ ap (λ (o : Option (List Record)). expire_from net index o c.args.number s cs) (sym k)
            ∙ ap (λ (o : Option Record). after_expire net index rs c.args.number o s cs)
            (sym c.in_default-record_numbered.ensures)
            ∙ ap (λ (f : Fault). Err f.number) (sym c.bare-in_default-record_numbered.ensures)),
      );
    }
