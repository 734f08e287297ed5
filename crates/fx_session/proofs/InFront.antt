-- Records that wait stand in front of those that are read, and change nothing else.
use Rattle.std.proofs.Common.{◌≡◌, ℕ, zero, suc, ◌+◌, ◌%◌, ◌^◌, Bool, true, false, ◌==◌, cond, ltb, List, [], ◌∷◌, ◌++◌, length, drop, refl, sym, ap, ◌∙◌, append_assoc, Option, Some, None, Result, Ok, Err}
use Rattle.fx_tables.specs.declared.record.Record.{Record}
use Rattle.fx_session.proofs.DataSteps.{flow_turn, option_turn}
use Rattle.fx_session.proofs.StreamSteps.{after_piece-on, after_piece-off}
use Rattle.fx_session.specs.DataSets.{Taken, with_flow, after_flow, after_values, flow_record, flow_records, flow_set, option_records, option_set}
use Rattle.fx_session.specs.Flows.{flow_in}
use Rattle.fx_session.specs.Messages.{Known, Reading, with_templates, with_taken, data_by, set_read, sets_read, domain_of, known_after, message_read}
use Rattle.fx_session.specs.Streams.{SessionState, place_after, waits, fails, known_behind, behind, read_in, read_all, after_piece}
use Rattle.fx_session.specs.TemplateSets.{template_set}
use Rattle.fx_session.specs.Templates.{Template, Templates, at_number}
use Rattle.fx_session.specs.declared.domain.Domain.{Domain}
use Rattle.fx_wire.specs.Messages.{Message, Front, front, needs_more, complete, refusal}
use Rattle.fx_wire.specs.Sets.{SetParts}
use Rattle.fx_wire.specs.Values.{Value, record_at, after_record, shortest_record}
use Rattle.fx_wire.specs.declared.field.FieldSpecifier.{FieldSpecifier}
use Rattle.fx_wire.specs.declared.template.TemplateKind.TheVariants as kinds
use Rattle.fx_session.specs.declared.stream_fault.StreamFault.{StreamFault}
use Rattle.fx_session.specs.declared.stream_fault.StreamFault.TheVariants as faults

abbrev mapped : {A B : Type 0} → (A → B) → Result A StreamFault → Result B StreamFault
mapped f (Ok x) = Ok (f x)
mapped f (Err n) = Err n

abbrev taken_behind : List Record → Taken → Taken
taken_behind rs t = record { waiting = rs ++ t.waiting; skipped = t.skipped; count = t.count }

-- ---- data sets

with_flow-behind : (rs : List Record) (t : Taken) (o : Option Record) → with_flow (taken_behind rs t) o
    ≡ taken_behind rs (with_flow t o)
with_flow-behind rs t (Some r) =
    ap (λ (w : List Record). let u : Taken = record { waiting = w; skipped = t.skipped; count = (t.count + 1) % 2 ^ 32 }
    in u) (append_assoc rs t.waiting (r ∷ []))
with_flow-behind rs t None = refl

abbrev pair_behind : List Record → Taken × List ℕ → Taken × List ℕ
pair_behind rs p = (taken_behind rs p.0, p.1)

after_flow-behind : (rs : List Record) (t : Taken) (rest : List ℕ) (r : Result (Option Record) StreamFault)
    → after_flow (taken_behind rs t) rest r ≡ mapped (pair_behind rs) (after_flow t rest r)
after_flow-behind rs t rest (Ok o) = ap (λ (u : Taken). let r : Result (Taken × List ℕ) StreamFault = Ok (u, rest) in r)
    (with_flow-behind rs t o)
after_flow-behind rs t rest (Err n) = refl

after_values-behind : (rs : List Record) (t : Taken) (o : Option (List Value × List ℕ))
    → after_values (taken_behind rs t) o ≡ mapped (pair_behind rs) (after_values t o)
after_values-behind rs t (Some p) = after_flow-behind rs t p.1 (flow_in p.0)
after_values-behind rs t None = refl

flow_records-behind : (turns : ℕ) (fields : List FieldSpecifier) (rs : List Record) (t : Taken) (octets : List ℕ)
    → flow_records turns fields (taken_behind rs t) octets
    ≡ mapped (taken_behind rs) (flow_records turns fields t octets)
unfolding flow_records
flow_records-behind zero fields rs t octets = refl
flow_records-behind (suc turns) fields rs t octets =
    by (λ u rest. flow_records-behind turns fields rs u rest) (ltb (length octets) (shortest_record fields)) where
      by_record : ((u : Taken) (rest : List ℕ) → flow_records turns fields (taken_behind rs u) rest
          ≡ mapped (taken_behind rs) (flow_records turns fields u rest)) → (r : Result (Taken × List ℕ) StreamFault)
          → flow_turn turns fields (mapped (pair_behind rs) r) ≡ mapped (taken_behind rs) (flow_turn turns fields r)
      by_record ih (Ok p) = ih p.0 p.1
      by_record ih (Err n) = refl

      by : ((u : Taken) (rest : List ℕ) → flow_records turns fields (taken_behind rs u) rest
          ≡ mapped (taken_behind rs) (flow_records turns fields u rest)) → (b : Bool)
          → cond b (Ok (taken_behind rs t)) (flow_turn turns fields (flow_record fields (taken_behind rs t) octets))
          ≡ mapped (taken_behind rs) (cond b (Ok t) (flow_turn turns fields (flow_record fields t octets)))
      by ih true = refl
      by ih false = ap (flow_turn turns fields) (after_values-behind rs t (record_at fields octets))
          ∙ by_record ih (flow_record fields t octets)

option_records-behind : (turns : ℕ) (fields : List FieldSpecifier) (rs : List Record) (t : Taken) (octets : List ℕ)
    → option_records turns fields (taken_behind rs t) octets
    ≡ mapped (taken_behind rs) (option_records turns fields t octets)
unfolding option_records
option_records-behind zero fields rs t octets = refl
option_records-behind (suc turns) fields rs t octets =
    by (λ u rest. option_records-behind turns fields rs u rest) (ltb (length octets) (shortest_record fields)) where
      by_record : ((u : Taken) (rest : List ℕ) → option_records turns fields (taken_behind rs u) rest
          ≡ mapped (taken_behind rs) (option_records turns fields u rest)) → (o : Option (List ℕ))
          → option_turn turns fields (taken_behind rs t) o ≡ mapped (taken_behind rs) (option_turn turns fields t o)
      by_record ih (Some rest) = ih (record {
        waiting = t.waiting;
        skipped = t.skipped;
        count =
            (t.count + 1) % 2 ^ 32;
      })
          rest
      by_record ih None = refl

      by : ((u : Taken) (rest : List ℕ) → option_records turns fields (taken_behind rs u) rest
          ≡ mapped (taken_behind rs) (option_records turns fields u rest)) → (b : Bool)
          → cond b (Ok (taken_behind rs t)) (option_turn turns fields (taken_behind rs t) (after_record fields octets))
          ≡ mapped (taken_behind rs) (cond b (Ok t) (option_turn turns fields t (after_record fields octets)))
      by ih true = refl
      by ih false = by_record ih (after_record fields octets)

-- ---- sets

data_by-behind : (rs : List Record) (plain options : Option Template) (t : Taken) (content : List ℕ)
    → data_by plain options (taken_behind rs t) content ≡ mapped (taken_behind rs) (data_by plain options t content)
unfolding flow_set option_set
data_by-behind rs (Some template) other t content = flow_records-behind (length content) template.fields rs t content
data_by-behind rs None (Some template) t content = option_records-behind (length content) template.fields rs t content
data_by-behind rs None None t content = refl

abbrev reading_behind : List Record → Reading → Reading
reading_behind rs r = record { templates = r.templates; taken = taken_behind rs r.taken }

with_templates-behind : (rs : List Record) (t : Taken) (ts : Result Templates StreamFault)
    → with_templates (taken_behind rs t) ts ≡ mapped (reading_behind rs) (with_templates t ts)
with_templates-behind rs t (Ok ts) = refl
with_templates-behind rs t (Err n) = refl

with_taken-behind : (rs : List Record) (ts : Templates) (t : Result Taken StreamFault)
    → with_taken ts (mapped (taken_behind rs) t) ≡ mapped (reading_behind rs) (with_taken ts t)
with_taken-behind rs ts (Ok t) = refl
with_taken-behind rs ts (Err n) = refl

set_read-behind : (rs : List Record) (r : Reading) (s : SetParts) → set_read (reading_behind rs r) s
    ≡ mapped (reading_behind rs) (set_read r s)
unfolding set_read
set_read-behind rs r s = by (s.id == 2) (s.id == 3) where
  by_data : with_taken r.templates (data_by (at_number r.templates.plain s.id) (at_number r.templates.options s.id)
      (taken_behind rs r.taken) s.content)
      ≡ mapped (reading_behind rs) (with_taken r.templates
      (data_by (at_number r.templates.plain s.id) (at_number r.templates.options s.id) r.taken s.content))
  by_data =
      let plain = at_number r.templates.plain s.id in
      let options = at_number r.templates.options s.id in
      ap (with_taken r.templates) (data_by-behind rs plain options r.taken s.content)
      ∙ with_taken-behind rs r.templates (data_by plain options r.taken s.content)

  by : (two three : Bool)
      → cond two (with_templates (taken_behind rs r.taken) (template_set r.templates kinds.Plain s.content))
      (cond three (with_templates (taken_behind rs r.taken) (template_set r.templates kinds.Options s.content))
      (with_taken r.templates (data_by (at_number r.templates.plain s.id) (at_number r.templates.options s.id)
      (taken_behind rs r.taken) s.content)))
      ≡ mapped (reading_behind rs) (cond two (with_templates r.taken (template_set r.templates kinds.Plain s.content))
      (cond three (with_templates r.taken (template_set r.templates kinds.Options s.content))
      (with_taken r.templates (data_by (at_number r.templates.plain s.id) (at_number r.templates.options s.id) r.taken
      s.content))))
  by true three = with_templates-behind rs r.taken (template_set r.templates kinds.Plain s.content)
  by false true = with_templates-behind rs r.taken (template_set r.templates kinds.Options s.content)
  by false false = by_data

abbrev sets_turn : List SetParts → Result Reading StreamFault → Result Reading StreamFault
sets_turn ss (Ok next) = sets_read next ss
sets_turn ss (Err n) = Err n

sets_read-behind : (rs : List Record) (r : Reading) (ss : List SetParts) → sets_read (reading_behind rs r) ss
    ≡ mapped (reading_behind rs) (sets_read r ss)
unfolding sets_read
sets_read-behind rs r [] = refl
sets_read-behind rs r (s ∷ ss) = ap (sets_turn ss) (set_read-behind rs r s)
    ∙ by (λ next. sets_read-behind rs next ss) (set_read r s) where
      by : ((next : Reading) → sets_read (reading_behind rs next) ss ≡ mapped (reading_behind rs) (sets_read next ss))
          → (x : Result Reading StreamFault)
          → sets_turn ss (mapped (reading_behind rs) x) ≡ mapped (reading_behind rs) (sets_turn ss x)
      by ih (Ok next) = ih next
      by ih (Err n) = refl

-- ---- messages

known_after-behind : (rs : List Record) (k : Known) (m : Message) (domain : Domain) (r : Result Reading StreamFault)
    → known_after (known_behind rs k) m domain (mapped (reading_behind rs) r)
    ≡ mapped (known_behind rs) (known_after k m domain r)
known_after-behind rs k m domain (Ok r) = refl
known_after-behind rs k m domain (Err n) = refl

message_read-behind : (rs : List Record) (k : Known) (m : Message) → message_read (known_behind rs k) m
    ≡ mapped (known_behind rs) (message_read k m)
unfolding message_read
message_read-behind rs k m =
    let domain = domain_of (at_number k.domains m.header.observation_domain) in
    let r : Reading = record {
      templates = domain.templates;
      taken =
          record { waiting = k.waiting; skipped = k.skipped; count = 0 };
    } in
    ap (known_after (known_behind rs k) m domain) (sets_read-behind rs r m.sets)
    ∙ known_after-behind rs k m domain (sets_read r m.sets)

-- ---- streams

abbrev taken_on : ℕ → Known → ℕ → List ℕ → ℕ → Result Known StreamFault → SessionState
taken_on turns k place bs n (Ok next) = read_in turns next (place_after place n) (drop n bs)
taken_on turns k place bs n (Err number) = fails k place number

abbrev turn : ℕ → Known → ℕ → List ℕ → Front → SessionState
turn turns k place bs needs_more = waits k place bs
turn turns k place bs (refusal why) = fails k place (faults.Malformed why)
turn turns k place bs (complete m) = taken_on turns k place bs m.octets (message_read k m)

read_in-behind : (turns : ℕ) (rs : List Record) (k : Known) (place : ℕ) (bs : List ℕ)
    → read_in turns (known_behind rs k) place bs ≡ behind rs (read_in turns k place bs)
unfolding read_in
read_in-behind zero rs k place bs = refl
read_in-behind (suc turns) rs k place bs =
    by (λ next later rest. read_in-behind turns rs next later rest) (front bs) where
      by_message : ((next : Known) (later : ℕ) (rest : List ℕ) → read_in turns (known_behind rs next) later rest
          ≡ behind rs (read_in turns next later rest)) → (n : ℕ) (x : Result Known StreamFault)
          → taken_on turns (known_behind rs k) place bs n (mapped (known_behind rs) x)
          ≡ behind rs (taken_on turns k place bs n x)
      by_message ih n (Ok next) = ih next (place_after place n) (drop n bs)
      by_message ih n (Err number) = refl

      by : ((next : Known) (later : ℕ) (rest : List ℕ) → read_in turns (known_behind rs next) later rest
          ≡ behind rs (read_in turns next later rest)) → (f : Front)
          → turn turns (known_behind rs k) place bs f ≡ behind rs (turn turns k place bs f)
      by ih needs_more = refl
      by ih (refusal number) = refl
      by ih (complete m) = ap (taken_on turns (known_behind rs k) place bs m.octets) (message_read-behind rs k m)
          ∙ by_message ih m.octets (message_read k m)

read_all-behind : (rs : List Record) (k : Known) (place : ℕ) (bs : List ℕ) → read_all (known_behind rs k) place bs
    ≡ behind rs (read_all k place bs)
unfolding read_all
read_all-behind rs k place bs = read_in-behind (length bs) rs k place bs

-- reading on behind records that wait
pub after_piece-behind : (rs : List Record) (st : SessionState) (piece : List ℕ) → after_piece (behind rs st) piece
    ≡ behind rs (after_piece st piece)
after_piece-behind rs st piece = by st.fault refl where
  by : (o : Option ℕ) → st.fault ≡ o → after_piece (behind rs st) piece ≡ behind rs (after_piece st piece)
  by (Some n) e = after_piece-off (behind rs st) piece n e ∙ sym (ap (behind rs) (after_piece-off st piece n e))
  by None e = after_piece-on (behind rs st) piece e ∙ read_all-behind rs st.known st.place (st.rest ++ piece)
      ∙ sym (ap (behind rs) (after_piece-on st piece e))
