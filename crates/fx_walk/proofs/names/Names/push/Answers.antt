use Rattle.std.proofs.Common.{◌≡◌, ℕ, List, [], ◌∷◌, map, length, false, true≢false, ap, sym, ◌∙◌, arith, refl, Result, Ok, Err, OnErr}
use Rattle.std.proofs.lemmas.List.{map-append, length-map}
use Rattle.std.specs.String.{string_bytes}
use Rattle.fx_walk.specs.Lists.{is_among}
use Rattle.fx_walk.proofs.Lookups.{places_behind}
use Rattle.fx_walk.proofs.names.Names.push.Goals as goal

on_err : {X E P : Type 0} (r : Result X E) → P → OnErr r P
on_err (Ok x) p = tt
on_err (Err e) p = p

pub invariant_of-self-2 : goal.invariant_of-self-2
invariant_of-self-2 c =
    let texts = c.self.inside.texts.items in
    let names : List (List ℕ) = map string_bytes texts in
    let absent : is_among names c.args.name.now ≡ false = ap (λ ns. is_among ns c.args.name.now) c.self.view_is
    ∙ c.requires in
    let count : c.len.result ≡ length names =
    omega (
      arith,
      c.len.ensures,
      c.in_ok-reserve.ensures.len,
      c.self.inside.texts.ok.0,
      length-map texts
          string_bytes,
    ) in
    let key = c.in_ok-key.ensures.ok ∙ c.as_str-2.ensures.text in
    let text = c.in_ok-text.ensures.ok ∙ c.as_str.ensures.text in
    let places = places_behind c.self.inside.places c.insert.new.self names c.args.name.now c.in_ok-key.key c.len.result
    c.self.invariant absent key count c.in_ok-insert.ensures.updates in
    rw (
      c.in_ok-push.ensures.items,
      c.in_ok-reserve.ensures.items,
      map-append string_bytes texts
          (c.in_ok-text.text ∷ []),
      text,
    ) places

pub invariant_of-self : goal.invariant_of-self
invariant_of-self c = rw (c.in_err-reserve.ensures.items) c.self.invariant

pub invariant_of-self-in_err-text : goal.invariant_of-self-in_err-text
invariant_of-self-in_err-text c = rw (c.in_ok-reserve.ensures.items) c.self.invariant

pub invariant_of-self-in_err-key : goal.invariant_of-self-in_err-key
invariant_of-self-in_err-key c = rw (c.in_ok-reserve.ensures.items) c.self.invariant

pub invariant_of-self-in_err-insert : goal.invariant_of-self-in_err-insert
invariant_of-self-in_err-insert c = rw (c.in_err-insert.ensures.err, c.in_ok-reserve.ensures.items) c.self.invariant

pub invariant_of-self-in_err-push : goal.invariant_of-self-in_err-push
invariant_of-self-in_err-push c = absurd (true≢false
    (sym (c.in_err-push.ensures.succeeds (grind (arith, c.in_ok-reserve.ensures)))))

pub returns-in_err-push-clause-same : goal.returns-in_err-push-clause-same
returns-in_err-push-clause-same c = absurd (true≢false
    (sym (c.in_err-push.ensures.succeeds (grind (arith, c.in_ok-reserve.ensures)))))

pub returns-in_err-insert-clause-same : goal.returns-in_err-insert-clause-same
returns-in_err-insert-clause-same c = on_err c.from_residual-in_err-insert.result
    (rw (c.in_ok-reserve.ensures.items) c.self.view_is)

pub returns-clause-names : goal.returns-clause-names
returns-clause-names c =
    let text = c.in_ok-text.ensures.ok ∙ c.as_str.ensures.text in
    rw (
      c.in_ok-push.ensures.items,
      c.in_ok-reserve.ensures.items,
      map-append string_bytes c.self.inside.texts.items
          (c.in_ok-text.text ∷ []),
      text,
      c.self.view_is,
    ) refl
