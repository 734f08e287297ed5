use Rattle.std.proofs.Common.{◌≡◌, refl, ◌∙◌, ◌%◌, ◌^◌, inl, inr, sym, ap, ap₂, ℕ, List, [], slice_get, Option, Some, None, Err, drop}
use Rattle.std.proofs.lemmas.Result.{err_from_is_err_and}
use Rattle.fx_base.specs.declared.fault.Fault.{Fault}
use Rattle.fx_layout.specs.Keys.{Layout}
use Rattle.fx_tables.specs.declared.record.Record.{Record}
use Rattle.fx_tables.specs.declared.holding.Holding.{Holding}
use Rattle.fx_tables.specs.Network.{Exporter, at_places}
use Rattle.fx_base.specs.Entries.{entry_numbered}
use Rattle.fx_machine.specs.Sends.{put_all, chosen_from}
use Rattle.fx_machine.specs.Holds.{hold_all, undone}
use Rattle.fx_machine.specs.States.{State}
use Rattle.fx_machine.specs.Steps.{after_arrive, arrive_at, arrive_from}
use Rattle.fx_machine.specs.Stores.{taken_out}
use Rattle.fx_machine.specs.Tallies.{totals_when, unassigned_when}
use Rattle.fx_machine.specs.Comings.{coming_of}
use Rattle.fx_machine.proofs.StepOutcomes.{arrive_is, arrived, refused_holds, same_parts}
use Rattle.fx_machine.proofs.store.Store.arrive.Goals as goal

pub returns-in_err-links-clause-err : goal.returns-in_err-links-clause-err
returns-in_err-links-clause-err c =
    let in' = c.self.inside in
    let net = c.args.net.now in
    let index = c.in-Some.index in
    let rs = c.in-Some-entry_at.records.now in
    let r = c.copy-entry.result in
    let cs = c.args.choices.now in
    let h' = c.in_ok-handling.handling in
    let k : Some rs ≡ slice_get in'.carried.items index = c.in-Some-entry_at.ensures
    ∙ ap (λ (x : List (List Record)). slice_get x index) c.as_slice.ensures.value in
    let n : Some r ≡ entry_numbered rs c.args.number = ap Some c.copy-entry.ensures ∙ c.in-Some-record_numbered.ensures
    in
    let p = err_from_is_err_and c.from_residual-in_err-links.result c.from_residual-in_err-links.ensures.1 in
    rw (p.1, p.2) (elim c.in_err-links.ensures.err [
      | inl a ↦ (ap (λ (f : Fault). f.place) a, inl (ap (λ (f : Fault). f.number) a))
      | inr b ↦ (
        ap (λ (f : Fault). f.place) b.0,
        inr (λ s e. arrive_is net c.args.link c.args.number cs (coming_of 1 in'.to_come.items) in'.held.items
            in'.carried.items in'.totals.items in'.unassigned s (c.self.view_is ∙ e) index rs r h'.tallies
            h'.exporters.now h'.holdings.items None c.in-Some.ensures k n c.in_ok-handling.ensures
            (ap (λ (xs : List Exporter). chosen_from [] (at_places xs h'.exporters.now) cs) (sym c.exporters.ensures)
            ∙ b.1) ∙ ap (λ (f : Fault). Err f.number) (sym b.0)),
      )
    ])

pub returns-in_err-hold_all-clause-err : goal.returns-in_err-hold_all-clause-err
returns-in_err-hold_all-clause-err c =
    let in' = c.self.inside in
    let net = c.args.net.now in
    let index = c.in-Some.index in
    let rs = c.in-Some-entry_at.records.now in
    let r = c.copy-entry.result in
    let cs = c.args.choices.now in
    let h' = c.in_ok-handling.handling in
    let links = c.in_ok-links.links.items in
    let rest = drop c.in_ok-links.used cs in
    let k : Some rs ≡ slice_get in'.carried.items index = c.in-Some-entry_at.ensures
    ∙ ap (λ (x : List (List Record)). slice_get x index) c.as_slice.ensures.value in
    let n : Some r ≡ entry_numbered rs c.args.number = ap Some c.copy-entry.ensures ∙ c.in-Some-record_numbered.ensures
    in
    let picked : chosen_from [] (at_places net.exporters h'.exporters.now) cs
    ≡ Some (record { links = links; rest = rest }) =
    ap (λ (xs : List Exporter). chosen_from [] (at_places xs h'.exporters.now) cs) (sym c.exporters.ensures)
    ∙ c.in_ok-links.ensures.ok.1 in
    let p = err_from_is_err_and c.from_residual-in_err-hold_all.result c.from_residual-in_err-hold_all.ensures.1 in
    rw (p.1, p.2) (elim c.in_err-hold_all.ensures.err [
      | inl a ↦ (ap (λ (f : Fault). f.place) a, inl (ap (λ (f : Fault). f.number) a))
      | inr b ↦ (
        ap (λ (f : Fault). f.place) b.0,
        inr (λ s e. refused_holds net c.args.link c.args.number cs (coming_of 1 in'.to_come.items) in'.held.items
            in'.carried.items in'.totals.items in'.unassigned s (c.self.view_is ∙ e) index rs r h'.tallies
            h'.exporters.now h'.holdings.items links rest c.in-Some.ensures k n c.in_ok-handling.ensures picked
            (ap₂ (λ (xs : List Holding) (ys : List (Option ℕ)). hold_all r.counts xs in'.held.items ys)
            (sym c.as_slice-2.ensures.value) (sym c.choices_from-left.ensures) ∙ b.1)
            ∙ ap (λ (f : Fault). Err f.number) (sym b.0)),
      )
    ])

pub returns-clause-ok : goal.returns-clause-ok
returns-clause-ok c s e =
    let in' = c.self.inside in
    let net = c.args.net.now in
    let index = c.in-Some.index in
    let rs = c.in-Some-entry_at.records.now in
    let r = c.copy-entry.result in
    let cs = c.args.choices.now in
    let h' = c.in_ok-handling.handling in
    let links = c.in_ok-links.links.items in
    let rest = drop c.in_ok-links.used cs in
    let t = h'.tallies in
    let k : Some rs ≡ slice_get in'.carried.items index = c.in-Some-entry_at.ensures
    ∙ ap (λ (x : List (List Record)). slice_get x index) c.as_slice.ensures.value in
    let n : Some r ≡ entry_numbered rs c.args.number = ap Some c.copy-entry.ensures ∙ c.in-Some-record_numbered.ensures
    in
    let picked : chosen_from [] (at_places net.exporters h'.exporters.now) cs
    ≡ Some (record { links = links; rest = rest }) =
    ap (λ (xs : List Exporter). chosen_from [] (at_places xs h'.exporters.now) cs) (sym c.exporters.ensures)
    ∙ c.in_ok-links.ensures.ok.1 in
    let taken : hold_all r.counts h'.holdings.items in'.held.items rest ≡ Some c.hold_all.new.held.items =
    ap₂ (λ (xs : List Holding) (ys : List (Option ℕ)). hold_all r.counts xs in'.held.items ys)
    (sym c.as_slice-2.ensures.value) (sym c.choices_from-left.ensures) ∙ c.in_ok-hold_all.ensures.ok.0 in
    let done = c.in_default-send_and_tally.ensures.ok in
    let out : c.take_out_at.new.lists.items ≡ taken_out (put_all links r in'.carried.items) index c.args.number =
    c.take_out_at.ensures ∙ ap (λ (x : List (List Record)). taken_out x index c.args.number)
    (done.0 ∙ ap (λ (ls : List ℕ). put_all ls r in'.carried.items) c.as_slice-3.ensures.value) in
    let totals : c.send_and_tally.new.totals.items ≡ totals_when t net.report_layout r.key r.counts in'.totals.items =
    done.1 ∙ ap (λ (l : Layout). totals_when t l r.key r.counts in'.totals.items) c.report_layout.ensures.value in
    arrived net c.args.link c.args.number cs (coming_of 1 in'.to_come.items) in'.held.items in'.carried.items
    in'.totals.items in'.unassigned s (c.self.view_is ∙ e) index rs r t h'.exporters.now h'.holdings.items links
    rest c.hold_all.new.held.items c.take_out_at.new.lists.items c.send_and_tally.new.totals.items
    c.send_and_tally.new.unassigned c.in-Some.ensures k n c.in_ok-handling.ensures picked taken out totals
    (λ v h. done.2 v h ∙ ap (λ (l : Layout). unassigned_when t l r.key v % 2 ^ 64) c.report_layout.ensures.value)

pub returns-in_default : goal.returns-in_default
returns-in_default c = record {
  ok = tt;
  same = refl;
  err = (
    ap (λ (f : Fault). f.place) c.bare.ensures,
    inr (λ s e. ap (λ (index : Option ℕ). arrive_at c.args.net.now index c.args.number s c.args.choices.now)
        (sym c.in_default.ensures) ∙ ap (λ (f : Fault). Err f.number) (sym c.bare.ensures)),
  );
}

pub returns-in_default-entry_at : goal.returns-in_default-entry_at
returns-in_default-entry_at c =
    let in' = c.self.inside in
    let net = c.args.net.now in
    let index = c.in-Some.index in
    let cs = c.args.choices.now in
    let none : None ≡ slice_get in'.carried.items index = c.in_default-entry_at.ensures
    ∙ ap (λ (x : List (List Record)). slice_get x index) c.as_slice.ensures.value in
    record {
      ok = tt;
      same = refl;
      err = (
        ap (λ (f : Fault). f.place) c.bare-in_default-entry_at.ensures,
        inr (λ s e.
            ap (λ (index : Option ℕ). arrive_at net index c.args.number s cs) (sym c.in-Some.ensures)
            ∙ ap (λ (x : State). arrive_from net index (slice_get x.carried index) c.args.number s cs)
            (sym (c.self.view_is ∙ e))
            ∙ ap (λ (o : Option (List Record)). arrive_from net index o c.args.number s cs) (sym none)
            ∙ ap (λ (f : Fault). Err f.number) (sym c.bare-in_default-entry_at.ensures)),
      );
    }

pub returns-in_default-record_numbered : goal.returns-in_default-record_numbered
returns-in_default-record_numbered c =
    let in' = c.self.inside in
    let net = c.args.net.now in
    let index = c.in-Some.index in
    let rs = c.in-Some-entry_at.records.now in
    let cs = c.args.choices.now in
    let k : Some rs ≡ slice_get in'.carried.items index = c.in-Some-entry_at.ensures
    ∙ ap (λ (x : List (List Record)). slice_get x index) c.as_slice.ensures.value in
    record {
      ok = tt;
      same = refl;
      err = (
        ap (λ (f : Fault). f.place) c.bare-in_default-record_numbered.ensures,
        inr (λ s e.
            ap (λ (index : Option ℕ). arrive_at net index c.args.number s cs) (sym c.in-Some.ensures)
            ∙ ap (λ (x : State). arrive_from net index (slice_get x.carried index) c.args.number s cs)
            (sym (c.self.view_is ∙ e))
            ∙ ap (λ (o : Option (List Record)). arrive_from net index o c.args.number s cs) (sym k)
            ∙ ap (λ (o : Option Record). after_arrive net index rs c.args.number o s cs)
            (sym c.in_default-record_numbered.ensures)
            ∙ ap (λ (f : Fault). Err f.number) (sym c.bare-in_default-record_numbered.ensures)),
      );
    }

pub returns-in-Err : goal.returns-in-Err
returns-in-Err c =
    let in' = c.self.inside in
    let coming = coming_of 1 in'.to_come.items in
    let given : c.give_all_back.new.held.items ≡ undone c.hold_all.new.log.items c.hold_all.new.held.items = cc in
    let held = given ∙ c.in_ok-hold_all.ensures.ok.1 in
    let kept = c.in-Err.ensures.err in
    record {
      ok = tt;
      same = same_parts coming coming c.give_all_back.new.held.items in'.held.items c.send_and_tally.new.carried.items
          in'.carried.items c.send_and_tally.new.totals.items in'.totals.items c.send_and_tally.new.unassigned
          in'.unassigned refl held kept.0 kept.1 kept.2 ∙ c.self.view_is;
      err = (
        ap (λ (f : Fault). f.place) c.bare-in-Err.ensures,
        inl
            (ap (λ (f : Fault). f.number) c.bare-in-Err.ensures),
      );
    }
