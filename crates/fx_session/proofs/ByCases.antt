-- What functions that count their turns come to is what the cases say.
use Rattle.std.proofs.Common.{◌≡◌, ℕ, zero, suc, ◌≤◌, ◌<◌, ◌↔◌, List, length, drop, refl, sym, ◌∙◌, subst, arith, Option, Some, None, Result, Ok, Err, inl, inr, length-drop}
use Rattle.std.proofs.lemmas.Bool.{cases_lt}
use Rattle.fx_wire.proofs.Fronts.{front_size}
use Rattle.fx_wire.specs.Messages.{Message, Front, front, needs_more, complete, refusal}
use Rattle.fx_wire.specs.Values.{after_record, shortest_record}
use Rattle.fx_wire.specs.declared.field.FieldSpecifier.{FieldSpecifier}
use Rattle.fx_wire.specs.declared.template.TemplateKind.{TemplateKind}
use Rattle.fx_session.proofs.DataSteps.{flow_set-more, flow_set-refused, flow_set-padding, option_set-more, option_set-refused, option_set-padding}
use Rattle.fx_session.proofs.StreamSteps.{all_more, all_refused, all_err, all_goes}
use Rattle.fx_session.proofs.TemplateSteps.{template_record-shorter, template_set-more, template_set-refused, template_set-padding}
use Rattle.fx_session.specs.ByCases.{AreFlowRecords, flow_padding, flow_first, flow_refused, AreOptionRecords, option_padding, option_first, option_refused, AreTemplateRecords, template_padding, template_first, template_refused, AreMessages, unfinished, message_first, malformed, message_refused, one_more}
use Rattle.fx_session.specs.DataSets.{Taken, flow_record, flow_set, option_set}
use Rattle.fx_session.specs.Messages.{Known, message_read}
use Rattle.fx_session.specs.Streams.{SessionState, place_after, read_all}
use Rattle.fx_session.specs.Templates.{Templates}
use Rattle.fx_session.specs.TemplateSets.{template_record, template_set}
use Rattle.fx_session.specs.declared.stream_fault.StreamFault.{StreamFault}

-- ---- data sets

flows_only : (fields : List FieldSpecifier) (t : Taken) (octets : List ℕ) (r : Result Taken StreamFault) → 1
    ≤ shortest_record fields → AreFlowRecords fields t octets r → r ≡ flow_set fields t octets
flows_only fields _ _ _ some (flow_padding t octets few) = sym (flow_set-padding fields t octets some few)
flows_only fields _ _ _ some (flow_first t octets p r enough e rest) = flows_only fields p.0 p.1 r some rest
    ∙ sym (flow_set-more fields t octets p some enough e).0
flows_only fields _ _ _ some (flow_refused t octets n enough e) = sym (flow_set-refused fields t octets n some enough e)

flows_all : (n : ℕ) (fields : List FieldSpecifier) (t : Taken) (octets : List ℕ) → length octets ≤ n → 1
    ≤ shortest_record fields → AreFlowRecords fields t octets (flow_set fields t octets)
flows_all zero fields t octets le some =
    let few : length octets < shortest_record fields = omega (arith, le, some) in
    subst (AreFlowRecords fields t octets) (sym (flow_set-padding fields t octets some few)) (flow_padding t octets few)
flows_all (suc n) fields t octets le some =
    elim (cases_lt (length octets) (shortest_record fields)) [
      | inl few ↦ subst (AreFlowRecords fields t octets) (sym (flow_set-padding fields t octets some few))
          (flow_padding t octets few)
      | inr enough ↦ by (λ p shorter. flows_all n fields p.0 p.1 (omega (arith, le, shorter)) some) enough
          (flow_record fields t octets) refl
    ] where
      by : ((p : Taken × List ℕ) → length p.1 < length octets → AreFlowRecords fields p.0 p.1 (flow_set fields p.0 p.1))
          → shortest_record fields ≤ length octets → (r : Result (Taken × List ℕ) StreamFault)
          → flow_record fields t octets ≡ r → AreFlowRecords fields t octets (flow_set fields t octets)
      by rest enough (Ok p) e =
          let more = flow_set-more fields t octets p some enough e in
          subst (AreFlowRecords fields t octets) (sym more.0)
          (flow_first t octets p (flow_set fields p.0 p.1) enough e (rest p more.1))
      by rest enough (Err number) e = subst (AreFlowRecords fields t octets)
          (sym (flow_set-refused fields t octets number some enough e)) (flow_refused t octets number enough e)

pub flows : (fields : List FieldSpecifier) (t : Taken) (octets : List ℕ) (r : Result Taken StreamFault) → 1
    ≤ shortest_record fields → AreFlowRecords fields t octets r ↔ (r ≡ flow_set fields t octets)
flows fields t octets r some = (
  λ are. flows_only fields t octets r some are,
  λ is. subst (AreFlowRecords fields t octets) (sym is) (flows_all (length octets) fields t octets (omega arith) some),
)

-- ---- data sets under options templates

options_only : (fields : List FieldSpecifier) (t : Taken) (octets : List ℕ) (r : Result Taken StreamFault) → 1
    ≤ shortest_record fields → AreOptionRecords fields t octets r → r ≡ option_set fields t octets
options_only fields _ _ _ some (option_padding t octets few) = sym (option_set-padding fields t octets some few)
options_only fields _ _ _ some (option_first t octets rest r enough e are) =
    options_only fields (one_more t) rest r some are ∙ sym (option_set-more fields t octets rest some enough (sym e)).0
options_only fields _ _ _ some (option_refused t octets enough e) =
    sym (option_set-refused fields t octets some enough (sym e))

options_all : (n : ℕ) (fields : List FieldSpecifier) (t : Taken) (octets : List ℕ) → length octets ≤ n → 1
    ≤ shortest_record fields → AreOptionRecords fields t octets (option_set fields t octets)
options_all zero fields t octets le some =
    let few : length octets < shortest_record fields = omega (arith, le, some) in
    subst (AreOptionRecords fields t octets) (sym (option_set-padding fields t octets some few))
    (option_padding t octets few)
options_all (suc n) fields t octets le some =
    elim (cases_lt (length octets) (shortest_record fields)) [
      | inl few ↦ subst (AreOptionRecords fields t octets) (sym (option_set-padding fields t octets some few))
          (option_padding t octets few)
      | inr enough ↦ by (λ rest shorter. options_all n fields (one_more t) rest (omega (arith, le, shorter)) some)
          enough (after_record fields octets) refl
    ] where
      by : ((rest : List ℕ) → length rest < length octets
          → AreOptionRecords fields (one_more t) rest (option_set fields (one_more t) rest)) → shortest_record fields
          ≤ length octets → (o : Option (List ℕ)) → after_record fields octets ≡ o
          → AreOptionRecords fields t octets (option_set fields t octets)
      by behind enough (Some rest) e =
          let more = option_set-more fields t octets rest some enough (sym e) in
          subst (AreOptionRecords fields t octets) (sym more.0)
          (option_first t octets rest (option_set fields (one_more t) rest) enough e (behind rest more.1))
      by behind enough None e = subst (AreOptionRecords fields t octets)
          (sym (option_set-refused fields t octets some enough (sym e))) (option_refused t octets enough e)

pub options : (fields : List FieldSpecifier) (t : Taken) (octets : List ℕ) (r : Result Taken StreamFault) → 1
    ≤ shortest_record fields → AreOptionRecords fields t octets r ↔ (r ≡ option_set fields t octets)
options fields t octets r some = (
  λ are. options_only fields t octets r some are,
  λ is. subst (AreOptionRecords fields t octets) (sym is)
      (options_all (length octets) fields t octets (omega arith) some),
)

-- ---- template sets

templates_only : (kind : TemplateKind) (ts : Templates) (octets : List ℕ) (r : Result Templates StreamFault)
    → AreTemplateRecords kind ts octets r → r ≡ template_set ts kind octets
templates_only kind _ _ _ (template_padding ts octets few) = sym (template_set-padding ts kind octets few)
templates_only kind _ _ _ (template_first ts octets p r enough e rest) = templates_only kind p.0 p.1 r rest
    ∙ sym (template_set-more ts kind octets p enough e)
templates_only kind _ _ _ (template_refused ts octets n enough e) = sym (template_set-refused ts kind octets n enough e)

templates_all : (n : ℕ) (kind : TemplateKind) (ts : Templates) (octets : List ℕ) → length octets ≤ n
    → AreTemplateRecords kind ts octets (template_set ts kind octets)
templates_all zero kind ts octets le =
    let few : length octets < 4 = omega (arith, le) in
    subst (AreTemplateRecords kind ts octets) (sym (template_set-padding ts kind octets few))
    (template_padding ts octets few)
templates_all (suc n) kind ts octets le =
    elim (cases_lt (length octets) 4) [
      | inl few ↦ subst (AreTemplateRecords kind ts octets) (sym (template_set-padding ts kind octets few))
          (template_padding ts octets few)
      | inr enough ↦ by (λ p shorter. templates_all n kind p.0 p.1 (omega (arith, le, shorter))) enough
          (template_record ts kind octets) refl
    ] where
      by : ((p : Templates × List ℕ) → length p.1 < length octets
          → AreTemplateRecords kind p.0 p.1 (template_set p.0 kind p.1)) → 4 ≤ length octets
          → (r : Result (Templates × List ℕ) StreamFault) → template_record ts kind octets ≡ r
          → AreTemplateRecords kind ts octets (template_set ts kind octets)
      by rest enough (Ok p) e = subst (AreTemplateRecords kind ts octets)
          (sym (template_set-more ts kind octets p enough e))
          (template_first ts octets p (template_set p.0 kind p.1) enough e
          (rest p (template_record-shorter ts kind octets p enough e)))
      by rest enough (Err number) e = subst (AreTemplateRecords kind ts octets)
          (sym (template_set-refused ts kind octets number enough e)) (template_refused ts octets number enough e)

pub templates : (kind : TemplateKind) (ts : Templates) (octets : List ℕ) (r : Result Templates StreamFault)
    → AreTemplateRecords kind ts octets r ↔ (r ≡ template_set ts kind octets)
templates kind ts octets r = (
  λ are. templates_only kind ts octets r are,
  λ is. subst (AreTemplateRecords kind ts octets) (sym is) (templates_all (length octets) kind ts octets (omega arith)),
)

-- ---- streams

messages_only : (k : Known) (place : ℕ) (octets : List ℕ) (st : SessionState) → AreMessages k place octets st → st
    ≡ read_all k place octets
messages_only _ _ _ _ (unfinished k place octets e) = sym (all_more k place octets e)
messages_only _ _ _ _ (message_first k next place octets m st e g rest) =
    messages_only next (place_after place m.octets) (drop m.octets octets) st rest
    ∙ sym (all_goes k next place m octets e g)
messages_only _ _ _ _ (malformed k place number octets e) = sym (all_refused k place number octets e)
messages_only _ _ _ _ (message_refused k place number octets m e g) = sym (all_err k place m octets number e g)

messages_all : (n : ℕ) (k : Known) (place : ℕ) (octets : List ℕ) → length octets < n
    → AreMessages k place octets (read_all k place octets)
messages_all zero k place octets lt = absurd (omega (arith, lt))
messages_all (suc n) k place octets lt =
    by (λ next at m is. messages_all n next at (drop m.octets octets)
    (let size = front_size octets m is in omega (arith, length-drop m.octets octets, size, lt))) (front octets) refl
  where
    read : ((next : Known) (at : ℕ) (m : Message) → front octets ≡ complete m
        → AreMessages next at (drop m.octets octets) (read_all next at (drop m.octets octets))) → (m : Message)
        → front octets ≡ complete m → (r : Result Known StreamFault) → message_read k m ≡ r
        → AreMessages k place octets (read_all k place octets)
    read rest m e (Ok next) g = subst (AreMessages k place octets) (sym (all_goes k next place m octets e g))
        (message_first k next place octets m (read_all next (place_after place m.octets) (drop m.octets octets)) e g
        (rest next (place_after place m.octets) m e))
    read rest m e (Err number) g = subst (AreMessages k place octets) (sym (all_err k place m octets number e g))
        (message_refused k place number octets m e g)

    by : ((next : Known) (at : ℕ) (m : Message) → front octets ≡ complete m
        → AreMessages next at (drop m.octets octets) (read_all next at (drop m.octets octets))) → (f : Front)
        → front octets ≡ f → AreMessages k place octets (read_all k place octets)
    by rest needs_more e = subst (AreMessages k place octets) (sym (all_more k place octets e))
        (unfinished k place octets e)
    by rest (refusal number) e = subst (AreMessages k place octets) (sym (all_refused k place number octets e))
        (malformed k place number octets e)
    by rest (complete m) e = read rest m e (message_read k m) refl

pub messages : (k : Known) (place : ℕ) (octets : List ℕ) (st : SessionState) → AreMessages k place octets st
    ↔ (st ≡ read_all k place octets)
messages k place octets st = (
  λ are. messages_only k place octets st are,
  λ is. subst (AreMessages k place octets) (sym is) (messages_all (suc (length octets)) k place octets (omega arith)),
)
